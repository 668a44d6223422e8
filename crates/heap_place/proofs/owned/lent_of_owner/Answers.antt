-- The walk finds a lent chunk of the owner, or has passed all chunks and found none.
use Rattle.heap_place.proofs.Laws.{◌+◌, sym, subst, ◌∙◌, arith, both_ways, Passed, NoneLentAmong, passed_chunk, passed_misses, owned_one, owned_place, lent_not_owned, lent_elsewhere, begins_other, none_of_owner, bytes_inside, found_markable}
use Rattle.heap_place.proofs.owned.lent_of_owner.Goals as goal

pub at_with_size-header-requires : goal.at_with_size-header-requires
at_with_size-header-requires c =
    let heap = c.requires.heap in let p = c.loop-at.invariant in
    record { chunk = passed_chunk heap.accepted p (omega arith); small = omega arith; misses = passed_misses heap p (omega arith) }

pub lends_at-requires : goal.lends_at-requires
lends_at-requires c =
    let one = owned_one _ _ c.requires.heap.accepted c.requires.some_owner c.loop-at.invariant c.at_with_size-header.ensures.header (sym c.if_owned.ensures ∙ c.in-Some.is) in
    let inside = bytes_inside _ _ c.requires.heap.accepted one in
    ((found_markable _ _ c.requires.heap.accepted one).0, omega arith)

pub returns-then-lends_at-clause-found : goal.returns-then-lends_at-clause-found
returns-then-lends_at-clause-found c = owned_one _ _ c.requires.heap.accepted c.requires.some_owner c.loop-at.invariant c.at_with_size-header.ensures.header (sym c.if_owned.ensures ∙ c.in-Some.is)

pub returns-then-lends_at-clause-owns : goal.returns-then-lends_at-clause-owns
returns-then-lends_at-clause-owns c = (owned_place _ c.at_with_size-header.ensures.header (sym c.if_owned.ensures ∙ c.in-Some.is)).1

pub loop-at-preserved : goal.loop-at-preserved
loop-at-preserved c =
    subst (λ n. Passed c.args.region.now.bytes (NoneLentAmong c.args.region.now c.args.owner) (c.loop-at.at + n)) (sym c.at_with_size-header.ensures.size)
    (elim c.match-if_owned.branch [
      | goal.in-Some+else-lends_at w ↦
          lent_elsewhere c.args.region.now c.args.owner w.in-Some.found c.loop-at.invariant c.at_with_size-header.ensures.header
          (owned_place c.args.owner c.at_with_size-header.ensures.header (sym c.if_owned.ensures ∙ w.in-Some.is)).0
          (begins_other c.args.region.now w.in-Some.found.place.0 (λ b. both_ways w.lends_at.result w.if-lends_at.false (w.lends_at.ensures.1 b)))
      | goal.in_default w ↦ lent_not_owned c.args.region.now c.args.owner c.loop-at.invariant c.at_with_size-header.ensures.header (sym c.if_owned.ensures ∙ w.in_default.is)
    ])

pub returns-clause-none : goal.returns-clause-none
returns-clause-none c = none_of_owner c.args.region.now c.args.owner c.requires.heap.accepted c.loop-at.invariant (omega arith)
