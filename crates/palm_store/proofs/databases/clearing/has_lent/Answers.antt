-- The slots of a database are asked in turn. If nothing is lent, none is asked.
use Rattle.palm_store.proofs.Laws.{refl, sym, ap, subst, ◌∙◌, arith, ℕ, List, length, false, below_more, both_ways, database_in, data_in, IsLent, named_under, none_lent, named_at, any_at, none_of}
use Rattle.palm_store.proofs.NamedChunks.{slot_movable}
use Rattle.palm_store.proofs.databases.clearing.has_lent.Goals as goal

pub returns-then-is_whole : goal.returns-then-is_whole
returns-then-is_whole c = (λ lent. absurd (both_ways false refl lent), λ any. absurd (none_lent c.args.heap.now any.1 (c.is_whole.ensures.0 c.if-is_whole.true) any.4))

pub is_lent-requires-clause-movable : goal.is_lent-requires-clause-movable
is_lent-requires-clause-movable c some =
    let at = named_at c.args.heap.now.bytes c.header_in-body.result.now c.header_in-body.result.now c.args.opened.db.0 c.loop-index.index c.slot_count-index-end.result c.slot_at.result.0 c.header_in-body.ensures.is c.header_in-body.ensures.is c.slot_count-index-end.ensures
    c.loop-index-test.true c.slot_at.ensures in
    slot_movable c.args.heap.now.bytes c.args.opened.db.0 c.loop-index.index c.slot_at.result.0 c.requires.accepted c.requires.opened.number at some

pub returns-then-is_lent : goal.returns-then-is_lent
returns-then-is_lent c =
    let at = named_at c.args.heap.now.bytes c.header_in-body.result.now c.header_in-body.result.now c.args.opened.db.0 c.loop-index.index c.slot_count-index-end.result c.slot_at.result.0 c.header_in-body.ensures.is c.header_in-body.ensures.is c.slot_count-index-end.ensures
    c.loop-index-test.true c.slot_at.ensures in
    (λ yes. any_at (IsLent c.args.heap.now) (named_under c.args.heap.now.bytes c.args.opened.db.0) c.loop-index.index c.slot_at.result.0 at.below at.is (c.is_lent.ensures.0 c.if-is_lent.true), λ any. refl)

pub loop-index-preserved : goal.loop-index-preserved
loop-index-preserved c =
    let at = named_at c.args.heap.now.bytes c.header_in-body.result.now c.header_in-body.result.now c.args.opened.db.0 c.loop-index.index c.slot_count-index-end.result c.slot_at.result.0 c.header_in-body.ensures.is c.header_in-body.ensures.is c.slot_count-index-end.ensures
    c.loop-index-test.true c.slot_at.ensures in
    below_more _ _ c.loop-index.invariant (λ lent. both_ways _ c.if-is_lent.false (c.is_lent.ensures.1 (subst (IsLent c.args.heap.now) (sym at.is) lent)))

pub returns : goal.returns
returns c =
    let count = c.slot_count-index-end.ensures ∙ ap (λ (body : List ℕ). length (data_in (database_in body))) c.header_in-body.ensures.is in
    (λ lent. absurd (both_ways false refl lent), λ any. absurd (none_of (IsLent c.args.heap.now) (named_under c.args.heap.now.bytes c.args.opened.db.0) (λ k below. c.loop-index.invariant k (omega arith)) any))
