-- `first_place` returns the offset of the first block, by the laws of PackedEntries.
use Rattle.file_parts.proofs.AllLaws.{◌+◌, ℕ, List, Bool, length, sym, ap, ◌∙◌, entry_offset, has_resources, ListedEntry, length-packed}
use Rattle.file_parts.proofs.packing.first_place.Goals as goal

pub returns-clause-is : goal.returns-clause-is
returns-clause-is c = λ parts.
    let items : List ListedEntry = c.args.listed.now.entries.items in
    let r : Bool = has_resources c.args.listed.now.header.attributes in
    let count = ap length c.as_slice.ensures.value ∙ sym (length-packed items parts) in
    c.first_place_after.ensures
    ∙ ap (λ (r : Bool). entry_offset r (length c.as_slice.result.now) + 2) c.has_resources.ensures
    ∙ ap (λ (n : ℕ). entry_offset r n + 2) count
