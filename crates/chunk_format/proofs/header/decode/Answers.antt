use Rattle.std.proofs.Common.{◌%◌, ◌^◌, refl, arith, inl, inr}
use Rattle.chunk_format.proofs.HeaderLaws.{fixed_decoded, movable_decoded}
use Rattle.chunk_format.proofs.header.decode.Goals.{else-lock-ne0-via-then-lock-ne0+else-owner-eq0, else-lock-ne0-via-else-lock-ne0}
use Rattle.chunk_format.proofs.header.decode.Goals as goal

pub returns-then-lock-eq-FIXED_LOCK-clause-found : goal.returns-then-lock-eq-FIXED_LOCK-clause-found
returns-then-lock-eq-FIXED_LOCK-clause-found c =
    let e = c.in_ok-length.ensures in
    let len = c.len-end.ensures in
    let offset = c.if-offset-end.false in
    let size = c.if-size-end.false in
    let whole = c.if-size-ne0.false in
    let small = c.if-adjustment-gt7.false in
    fixed_decoded c.args.region.now.bytes c.args.at c.get_u32-first.result c.get_u32-second.result c.in_ok-length.length c.get_u32-first.ensures c.get_u32-second.ensures c.get_u32-second.type_inv (omega arith) e.0 e.1 (omega arith) (omega arith) c.if-lock-eq-FIXED_LOCK.true (omega arith)

pub returns-clause-found : goal.returns-clause-found
returns-clause-found c =
    let e = c.in_ok-length.ensures in
    let len = c.len-end.ensures in
    let offset = c.if-offset-end.false in
    let size = c.if-size-end.false in
    let whole = c.if-size-ne0.false in
    let small = c.if-adjustment-gt7.false in
    let fits = c.get_u32-second.type_inv in
    let apart = c.if-lock-eq-FIXED_LOCK.false in (
      c.get_u32-second.result % 2 ^ 24,
      movable_decoded c.args.region.now.bytes c.args.at c.get_u32-first.result c.get_u32-second.result c.in_ok-length.length c.get_u32-first.ensures c.get_u32-second.ensures c.get_u32-second.type_inv (omega arith) e.0 e.1 (omega arith) (omega arith) (omega arith),
      omega arith,
      elim c.else-lock-ne0.either [ inl both ↦ inr (let some = both.1 in omega arith) | inr none ↦ inl (omega arith) ],
      refl,
    )
