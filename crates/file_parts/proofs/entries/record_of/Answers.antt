-- `record_of` returns the record that three words spell, by the laws of GoodWords.
use Rattle.file_parts.proofs.AllWords.{◌^◌, sym, ◌∙◌, spelled_number, number_in}
use Rattle.file_parts.proofs.GoodWords.{good_value, below_small, part_missing}
use Rattle.file_parts.proofs.entries.record_of.Goals as goal

pub returns-clause-good : goal.returns-clause-good
returns-clause-good c =
    let attributes = c.in_ok-good_word.field-0 in
    let first = sym c.hex_byte_of.ensures
    ∙ good_value 2 c.hex_byte_of.result attributes c.in_ok-good_word.ensures in
    let second =
    sym c.id_of.ensures ∙ good_value 3 c.id_of.result c.in_ok-id.id c.in_ok-id.ensures in
    let third = sym c.part_unless.ensures
    ∙ good_value 4 c.part_unless.result c.in_ok-part.part c.in_ok-part.ensures in (
      below_small (2 ^ 8) attributes (number_in 16 8 c.args.attributes.now) first,
      below_small (2 ^ 24) c.in_ok-id.id (spelled_number c.args.id.now) second,
      λ none. sym c.is_deleted.ensures
          ∙ part_missing c.is_deleted.result c.args.part.now _ third none,
    )
