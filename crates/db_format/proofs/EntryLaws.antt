-- Entries that are written over others.
use Rattle.std.proofs.Common.{◌≡◌, ℕ, Bool, List, sym, ap, ◌∙◌, arith}
use Rattle.std.proofs.lemmas.List.{length-set}
use Rattle.std.proofs.lemmas.List.Elements.{All-set}
use Rattle.heap_model.specs.Bytes.{overwritten}
use Rattle.heap_model.specs.Database.{Entry, Database, entry_bytes, EntryFits, DatabaseFits, entry_offset, has_resources}
use Rattle.laws_store.proofs.Edits.{spelled_set}
use Rattle.db_format.specs.Entries.{with_entry, WritesEntry}

with_fits : (resources : Bool) (database : Database ℕ) (index : ℕ) (entry : Entry ℕ) → DatabaseFits database → has_resources database.header.attributes ≡ resources → EntryFits resources entry → DatabaseFits (with_entry database index entry)
with_fits resources database index entry fits kind one = record {
  name = fits.name;
  header = fits.header;
  app_info = fits.app_info;
  sort_info = fits.sort_info;
  entries = All-set (EntryFits (has_resources database.header.attributes)) database.entries index entry (rw kind one) fits.entries;
  entry_count = let few = fits.entry_count in let same = length-set database.entries index entry in omega arith;
}

pub entry_written : (resources : Bool) (entry : Entry ℕ) (bytes : List ℕ) → EntryFits resources entry → bytes ≡ entry_bytes entry → WritesEntry resources entry bytes
entry_written resources entry bytes one are database body index spells kind below = record {
  fits = with_fits resources database index entry spells.fits kind one;
  bytes_are =
      ap (overwritten body (entry_offset resources index)) are
      ∙ ap (λ (r : Bool). overwritten body (entry_offset r index) (entry_bytes entry)) (sym kind)
      ∙ ap (λ (bs : List ℕ). overwritten bs (entry_offset (has_resources database.header.attributes) index) (entry_bytes entry)) spells.bytes_are
      ∙ sym (spelled_set database index entry spells.fits (rw kind one) below);
}
