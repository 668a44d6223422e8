-- The header at the name's place is a caller's fixed chunk's.
use Rattle.heap_place.proofs.Words.{arith, refl, sym, subst, ◌∙◌, IsSome, found_within}
use Rattle.heap_place.proofs.LookupLaws.{header_read, fixed_has_chunk, fixed_header, fixed_is_found}
use Rattle.heap_place.proofs.lookup.fixed_at.Goals as goal

pub at-header-requires : goal.at-header-requires
at-header-requires c =
    let heap = c.requires.heap in
    record { chunk = fixed_has_chunk heap.accepted c.requires.fixed; small = omega arith; misses = (found_within c.args.region.now _ _ _ _ heap.accepted heap.lent c.requires.fixed.finds).misses }

pub unwrap-requires : goal.unwrap-requires
unwrap-requires c =
    subst IsSome (sym (c.as_fixed.ensures ∙ fixed_header c.args.name c.requires.heap.accepted c.requires.fixed (header_read c.at-header.ensures))) refl

pub returns : goal.returns
returns c =
    fixed_is_found c.args.name c.requires.fixed
    (sym (c.as_fixed.ensures ∙ fixed_header c.args.name c.requires.heap.accepted c.requires.fixed (header_read c.at-header.ensures)) ∙ c.unwrap.ensures)
