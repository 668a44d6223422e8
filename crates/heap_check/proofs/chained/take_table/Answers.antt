-- `take_table` returns how many slots the table at a place has, if there is one, by the laws of
-- TableLaws.
use Rattle.heap_check.proofs.Words.{◌≡◌, ℕ, ◌-◌, ◌*◌, ◌/◌, ◌%◌, List, length, refl, subst, arith, IsLive, SpelledAll, false≢true, area_start, chunks_of, IsInSet, IsManagersAt}
use Rattle.heap_check.proofs.TableLaws.{BodyFacts, body_facts, body_live, table_facts}
use Rattle.heap_check.proofs.chained.take_table.Goals.{then-place-ne0-via-then-place-ne0, then-place-ne0-via-else-place-ne0+then-place-len, then-place-ne0-via-else-place-ne0+else-place-len+then-not-has, then-length-ne0-via-then-length-ne0, then-length-ne0-via-else-length-ne0+then-length}
use Rattle.heap_check.proofs.chained.take_table.Goals as goal

-- what is marked at a multiple of 8 is the body of a fixed chunk of the manager's
marked_body : (image marks : List ℕ) (place : ℕ)
    → SpelledAll image (area_start image) (chunks_of image) (length image)
    → ((word : ℕ) → IsInSet marks word → IsManagersAt image (4 * word)) → place % 8 ≡ 0
    → IsInSet marks (place / 4) → BodyFacts image (area_start image) (chunks_of image) place
marked_body image marks place s bodies whole has =
    let e : 4 * (place / 4) ≡ place = omega arith in
    body_facts image (area_start image) (chunks_of image) (length image) place s
    (subst (λ (n : ℕ). IsManagersAt image n) e (bodies (place / 4) has))

pub returns-then-place-ne0-clause-none : goal.returns-then-place-ne0-clause-none
returns-then-place-ne0-clause-none c = λ table here is has.
    let f = table_facts c.args.region.now.bytes (area_start c.args.region.now.bytes)
    (chunks_of c.args.region.now.bytes) (length c.args.region.now.bytes) table c.requires.spelled
    (omega arith) here in
    let whole = f.whole in
    let inside = f.inside in
    elim c.then-place-ne0.branch [
      | then-place-ne0-via-then-place-ne0 w ↦ let no = w.if-place-ne0.true in absurd (omega arith)
      | then-place-ne0-via-else-place-ne0+then-place-len w ↦ let no = w.if-place-len.true in
          let len = w.len.ensures in absurd (omega arith)
      | then-place-ne0-via-else-place-ne0+else-place-len+then-not-has w ↦
          absurd (false≢true (w.if-not-has.ensures.1 has))
    ]

pub overflow_sub-place : goal.overflow_sub-place
overflow_sub-place c = (marked_body c.args.region.now.bytes c.args.marks.now c.args.place
    c.requires.spelled c.requires.bodies c.if-place-ne0.false (c.if-not-has.ensures.0 refl)).low

pub live_fields-length-requires-clause-live : goal.live_fields-length-requires-clause-live
live_fields-length-requires-clause-live c = body_live c.args.region.now.bytes
    (area_start c.args.region.now.bytes) (chunks_of c.args.region.now.bytes) c.args.place
    (marked_body c.args.region.now.bytes c.args.marks.now c.args.place c.requires.spelled
    c.requires.bodies c.if-place-ne0.false (c.if-not-has.ensures.0 refl))

pub returns-then-length-ne0-clause-none : goal.returns-then-length-ne0-clause-none
returns-then-length-ne0-clause-none c = λ table here is has.
    let f = table_facts c.args.region.now.bytes (area_start c.args.region.now.bytes)
    (chunks_of c.args.region.now.bytes) (length c.args.region.now.bytes) table c.requires.spelled
    (omega arith) here in
    let live : IsLive c.args.region.now.bytes (c.args.place - 8) f.bytes 15 0 0 =
    subst (λ (n : ℕ). IsLive c.args.region.now.bytes (n - 8) f.bytes 15 0 0) is f.live in
    let told = (c.live_fields-length.ensures f.bytes 15 0 0 live).0 in
    let long = f.long in
    let some = f.some in
    elim c.then-length-ne0.branch [
      | then-length-ne0-via-then-length-ne0 w ↦ let no = w.if-length-ne0.true in
          absurd (omega arith)
      | then-length-ne0-via-else-length-ne0+then-length w ↦ let no = w.if-length.true in
          absurd (omega arith)
    ]

pub returns-clause-some : goal.returns-clause-some
returns-clause-some c =
    let has = c.if-not-has.ensures.0 refl in
    let b = marked_body c.args.region.now.bytes c.args.marks.now c.args.place c.requires.spelled
    c.requires.bodies c.if-place-ne0.false has in
    let told = (c.live_fields-length.ensures b.bytes 15 0 0 b.live).0 in
    let whole = c.if-length-ne0.false in
    let most = c.if-length.false in
    record {
      takes = c.take.ensures.taken (c.take.ensures.was.1 has);
      table = b.table ((c.live_fields-length.result.length - 4) / 4) (omega arith) (omega arith);
    }
