-- `named_header` returns the bytes of the header, with a name, by the laws of Names, NamedHeaders
-- and SoundParts.
use Rattle.std.proofs.Common.{◌∙◌, ℕ, List, length, sym, ap, subst, drop, arith}
use Rattle.std.proofs.lemmas.List.{length-take-le}
use Rattle.laws_store.proofs.Names.{length-name_field}
use Rattle.heap_model.specs.Database.{IsDatabaseName, name_in}
use Rattle.canonical_file.proofs.NamedHeaders.{named_name, named_parts}
use Rattle.canonical_file.proofs.SoundParts.{sound_named}
use Rattle.canonical_file.proofs.mended.named_header.Goals as goal

pub slice_bounds-copy_from_slice-end : goal.slice_bounds-copy_from_slice-end
slice_bounds-copy_from_slice-end c =
    let header = ap length c.copied_header-header.ensures
    ∙ length-take-le 78 c.args.file.now c.requires in
    sym (length-take-le 32 c.copied_header-header.result (omega arith))

pub copy_from_slice-requires : goal.copy_from_slice-requires
copy_from_slice-requires c =
    let header = ap length c.copied_header-header.ensures
    ∙ length-take-le 78 c.args.file.now c.requires in
    length-take-le 32 c.copied_header-header.result (omega arith)
    ∙ sym (ap length c.to_bytes.ensures.is ∙ length-name_field _ c.to_bytes.ensures.valid)

named : goal.returns-clause-is
named c =
    named_parts c.args.file.now c.name_field_of.result _ _
    (c.copy_from_slice.ensures.after ∙ c.to_bytes.ensures.is) c.name_field_of.ensures
    (ap (drop 32) c.copied_header-header.ensures)

pub returns-clause-is : goal.returns-clause-is
returns-clause-is = named

pub returns-clause-name : goal.returns-clause-name
returns-clause-name c =
    rw (← (named c)) at (subst IsDatabaseName (sym (named_name c.args.file.now)) (sound_named c.args.file.now))
