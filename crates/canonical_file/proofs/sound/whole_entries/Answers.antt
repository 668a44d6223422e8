-- `whole_entries` returns a number of entries that lie within the file, by the laws of
-- WholeEntries.
use Rattle.std.proofs.Common.{◌≡◌, ◌≤◌, ℕ, length, sym, subst}
use Rattle.heap_model.specs.Database.{entry_count_in, entry_offset, resources_in}
use Rattle.canonical_file.specs.Salvage as words
use Rattle.canonical_file.proofs.WholeEntries.{whole_inside}
use Rattle.canonical_file.proofs.sound.whole_entries.Goals as goal

pub returns-clause-inside : goal.returns-clause-inside
returns-clause-inside c =
    let file = c.args.file.now in
    let is : c.min.result ≡ words.whole_entries file =
    search (c.min.ensures, c.entry_count.ensures, c.entry_size.ensures, c.has_resources.ensures) in
    subst (λ (n : ℕ). entry_offset (resources_in file) n ≤ length file) (sym is)
    (whole_inside (resources_in file) (entry_count_in file) (length file) c.requires)
