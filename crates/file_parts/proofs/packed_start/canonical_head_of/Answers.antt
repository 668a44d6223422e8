-- `canonical_head_of` returns the bytes before the blocks in the canonical form of a file, by the
-- bytes before the blocks of the file, by the laws of PackedEntries and PackedStarts.
use Rattle.file_parts.proofs.AllLaws.{◌++◌, ℕ, List, subst, IsCanonical, all_bytes, blocks_in, packed_good, form_is}
use Rattle.file_parts.proofs.packed_start.canonical_head_of.Goals as goal

pub of_bytes-requires : goal.of_bytes-requires
of_bytes-requires g c = packed_good _ c.args.parts.now c.requires.has.good c.requires.most

pub returns-in-Ok-canonical_head-clause-canonical : goal.returns-in-Ok-canonical_head-clause-canonical
returns-in-Ok-canonical_head-clause-canonical g c =
    let bytes : List ℕ = c.in-Ok-canonical_head.bytes.items in
    form_is c.args.listed.now c.args.parts.now bytes c.requires.has.good c.requires.most
    (subst (λ (file : List ℕ). IsCanonical file (bytes ++ all_bytes (blocks_in file)))
    c.in-Ok.ensures.opened c.in-Ok-canonical_head.ensures.canonical)
