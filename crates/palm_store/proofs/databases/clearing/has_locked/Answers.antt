-- A slot that a database has is that of a chunk for data, which callers may name.
use Rattle.palm_store.proofs.Words.{refl, ap, ◌∙◌, arith, ℕ, List, length, false, below_more, both_ways, database_in, data_in, callers_map, Of, IsLocked, named_under}
use Rattle.palm_store.proofs.NamedChunks.{named_at, slot_movable, slot_shown, any_at, none_of}
use Rattle.palm_store.proofs.databases.clearing.has_locked.Goals as goal

pub is_locked-requires-clause-movable : goal.is_locked-requires-clause-movable
is_locked-requires-clause-movable c some =
    let at = named_at _ _ _ _ _ _ _ c.header_in-body.ensures.is c.header_in-body.ensures.is
    c.slot_count-index-end.ensures c.loop-index-test.true c.slot_at.ensures in
    slot_movable _ _ _ _ c.requires.accepted c.requires.opened.number at some

pub returns-then-is_locked : goal.returns-then-is_locked
returns-then-is_locked c =
    let at = named_at _ _ _ _ _ _ _ c.header_in-body.ensures.is c.header_in-body.ensures.is
    c.slot_count-index-end.ensures c.loop-index-test.true c.slot_at.ensures in
    let shown = slot_shown _ _ _ _ c.requires.accepted c.requires.opened.number at in
    let locked = rw (← shown) at (c.is_locked.ensures.0 c.if-is_locked.true) in (
      λ yes. any_at (λ name. Of (callers_map c.args.heap.now.bytes name) IsLocked)
          (named_under c.args.heap.now.bytes c.args.opened.db.0) _ _ at.below at.is locked,
      λ any. refl,
    )

pub loop-index-preserved : goal.loop-index-preserved
loop-index-preserved c =
    let at = named_at _ _ _ _ _ _ _ c.header_in-body.ensures.is c.header_in-body.ensures.is
    c.slot_count-index-end.ensures c.loop-index-test.true c.slot_at.ensures in
    let shown = slot_shown _ _ _ _ c.requires.accepted c.requires.opened.number at in
    below_more _ _ c.loop-index.invariant
    (λ locked. both_ways _ c.if-is_locked.false (c.is_locked.ensures.1 (rw (← shown, at.is) locked)))

pub returns : goal.returns
returns c =
    let count = c.slot_count-index-end.ensures
    ∙ ap (λ (body : List ℕ). length (data_in (database_in body))) c.header_in-body.ensures.is in (
      λ locked. absurd (both_ways false refl locked),
      λ any. absurd (none_of (λ (name : ℕ). Of (callers_map c.args.heap.now.bytes name) IsLocked)
          (named_under c.args.heap.now.bytes c.args.opened.db.0) (λ k below. c.loop-index.invariant k (omega arith)) any),
    )
