-- When the walk ends, all chunks of the owner are free.
use Rattle.heap_place.proofs.Laws.{refl, sym, ap, ◌∙◌, arith, Memory, same_lents, owned_one, owned_apart, freeing_start, freeing_there, freeing_kept, freeing_more, freeing_all, owned_other, passed_misses, freed_none_lent}
use Rattle.heap_place.proofs.owned.release_owned.Goals as goal

pub loop-at-init : goal.loop-at-init
loop-at-init c = (rw (← c.area_start-at.ensures) at (freeing_start c.args.owner c.requires.heap.accepted), refl, c.requires.heap, c.requires.none_lent)

pub at_with_size-header-requires : goal.at_with_size-header-requires
at_with_size-header-requires c =
    let i = c.loop-at.invariant in
    record { chunk = freeing_there i.0 (omega arith); small = omega arith; misses = passed_misses i.2 i.0.passed (omega arith) }

pub release-at-requires : goal.release-at-requires
release-at-requires c =
    let i = c.loop-at.invariant in let header = c.at_with_size-header.ensures.header in
    let is = sym c.if_owned.ensures ∙ c.in-Some.is in
    let one = owned_one _ _ i.0.frame.accepted c.requires.some_owner i.0.passed header is in
    record { heap = i.2; found = one; other = owned_other c.loop-at.region c.args.owner i.3 one header is; no_directory = owned_apart c.args.owner i.0.frame.accepted one header is c.requires.some_owner }

pub overflow_add-at-in-Some : goal.overflow_add-at-in-Some
overflow_add-at-in-Some c =
    let f = c.loop-at.invariant.0 in let e = c.release-at.ensures in
    let header = c.at_with_size-header.ensures.header in
    let is = sym c.if_owned.ensures ∙ c.in-Some.is in
    let one = owned_one _ _ f.frame.accepted c.requires.some_owner f.passed header is in
    let more = freeing_more c.release-at.result f header is e.gone (e.exact one) e.plain in
    omega arith

pub loop-at-smaller-in-Some : goal.loop-at-smaller-in-Some
loop-at-smaller-in-Some c =
    let f = c.loop-at.invariant.0 in let e = c.release-at.ensures in
    let header = c.at_with_size-header.ensures.header in
    let is = sym c.if_owned.ensures ∙ c.in-Some.is in
    let one = owned_one _ _ f.frame.accepted c.requires.some_owner f.passed header is in
    let more = freeing_more c.release-at.result f header is e.gone (e.exact one) e.plain in
    omega arith

pub loop-at-preserved-in-Some : goal.loop-at-preserved-in-Some
loop-at-preserved-in-Some c =
    let i = c.loop-at.invariant in let e = c.release-at.ensures in
    let header = c.at_with_size-header.ensures.header in
    let is = sym c.if_owned.ensures ∙ c.in-Some.is in
    let one = owned_one _ _ i.0.frame.accepted c.requires.some_owner i.0.passed header is in (
      (freeing_more c.release-at.result i.0 header is e.gone (e.exact one) e.plain).0,
      e.rest ∙ ap (λ (m : Memory). record m { bytes = c.release-at.new.region.bytes }) i.1,
      e.heap,
      freed_none_lent c.loop-at.region c.release-at.new.region c.args.owner i.0.frame.accepted i.2.lent i.3 (same_lents e.rest) one (owned_other c.loop-at.region c.args.owner i.3 one header is) e.gone,
    )

pub loop-at-preserved : goal.loop-at-preserved
loop-at-preserved c =
    let i = c.loop-at.invariant in
    (freeing_kept i.0 c.at_with_size-header.ensures.header (sym c.if_owned.ensures ∙ c.in-None.is) c.at_with_size-header.ensures.size, i.1, i.2, i.3)

pub returns : goal.returns
returns c =
    let i = c.loop-at.invariant in let all = freeing_all i.0 (omega arith) in
    record { gone = all.0; count = all.1; plain = all.2; rest = i.1; heap = i.2 }
