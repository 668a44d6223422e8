-- Headers, read and written field by field.
use Rattle.std.proofs.Common.{◌≡◌, ℕ, ◌^◌, ◌<◌, List, [], ◌∷◌, ◌++◌, length, take, refl, sym, ap, ◌∙◌}
use Rattle.std.proofs.lemmas.List.{take_at}
use Rattle.std.proofs.lemmas.List.FromFn.{length-map-range_with_len}
use Rattle.std.specs.List.{concat}
use Rattle.heap_model.specs.Bytes.{u16_at, u32_at, u16_bytes, u32_bytes, overwritten}
use Rattle.heap_model.specs.Database.{DatabaseHeader, Database, name_field, header_bytes, has_resources, DatabaseFits, HeaderFits, IsDatabaseName, entry_in, entry_count_in, name_in, header_in, database_in}
use Rattle.laws_store.proofs.Names.{length-name_field}
use Rattle.laws_store.proofs.Edits.{spelled_header}
use Rattle.db_format.specs.declared.header.DbHeader.{DbHeader}
use Rattle.db_format.specs.Headers.{header_values, IsHeaderOf, with_header, WritesHeader}

-- ---- read

made : List ℕ → ℕ → ℕ → ℕ → ℕ → ℕ → ℕ → ℕ → ℕ → ℕ → DatabaseHeader
made a b c d e f g h i j = record { name = a; attributes = b; version = c; creation_date = d; modification_date = e; backup_date = f; modification_number = g; kind = h; creator = i; seed = j }

same_header : (h g : DatabaseHeader) → h.name ≡ g.name → h.attributes ≡ g.attributes → h.version ≡ g.version → h.creation_date ≡ g.creation_date → h.modification_date ≡ g.modification_date → h.backup_date ≡ g.backup_date
    → h.modification_number ≡ g.modification_number → h.kind ≡ g.kind → h.creator ≡ g.creator → h.seed ≡ g.seed → h ≡ g
unfolding made
same_header h g a b c d e f i j k l = by h g a b c d e f i j k l where
  by : (h g : DatabaseHeader) → h.name ≡ g.name → h.attributes ≡ g.attributes → h.version ≡ g.version → h.creation_date ≡ g.creation_date → h.modification_date ≡ g.modification_date → h.backup_date ≡ g.backup_date
      → h.modification_number ≡ g.modification_number → h.kind ≡ g.kind → h.creator ≡ g.creator → h.seed ≡ g.seed
      → made h.name h.attributes h.version h.creation_date h.modification_date h.backup_date h.modification_number h.kind h.creator h.seed ≡ made g.name g.attributes g.version g.creation_date g.modification_date g.backup_date g.modification_number g.kind g.creator g.seed
  by h g a b c d e f i j k l = cc

pub header_read : (h : DbHeader) (bytes : List ℕ) → h.name ≡ name_in bytes → h.attributes ≡ u16_at bytes 32 → h.version ≡ u16_at bytes 34 → h.creation_date ≡ u32_at bytes 36 → h.modification_date ≡ u32_at bytes 40
    → h.backup_date ≡ u32_at bytes 44 → h.modification_number ≡ u32_at bytes 48 → h.app_info ≡ u32_at bytes 52 → h.sort_info ≡ u32_at bytes 56 → h.kind ≡ u32_at bytes 60 → h.creator ≡ u32_at bytes 64 → h.seed ≡ u32_at bytes 68
    → h.entry_count ≡ entry_count_in bytes → IsHeaderOf (database_in bytes) h
unfolding header_in database_in
header_read h bytes a b c d e f g app sort i j k count = record {
  values = same_header (header_values h) (header_in bytes) a b c d e f g i j k;
  app_info = app;
  sort_info = sort;
  entry_count = count ∙ sym (length-map-range_with_len (entry_in bytes) 0 (entry_count_in bytes));
}

-- ---- written

pub name_put : (name front rest : List ℕ) → IsDatabaseName name → front ≡ name_field name → take 32 (front ++ rest) ≡ name_field name
name_put name front rest name_is is = take_at front rest 32 (ap length is ∙ length-name_field name name_is) ∙ is

-- the fields after the name, by the values in them
unfoldable pub fields : DatabaseHeader → ℕ → ℕ → ℕ → List (List ℕ)
fields h app sort count =
    u16_bytes h.attributes ∷ u16_bytes h.version ∷ u32_bytes h.creation_date ∷ u32_bytes h.modification_date ∷ u32_bytes h.backup_date ∷ u32_bytes h.modification_number
    ∷ u32_bytes app ∷ u32_bytes sort ∷ u32_bytes h.kind ∷ u32_bytes h.creator ∷ u32_bytes h.seed ∷ u32_bytes 0 ∷ u16_bytes count ∷ []

unfoldable pub bytes_by : DatabaseHeader → ℕ → ℕ → ℕ → List ℕ
bytes_by h app sort count = name_field h.name ++ concat (fields h app sort count)

pub bytes_same : (g h : DatabaseHeader) (a b s t m n : ℕ) → g ≡ h → a ≡ b → s ≡ t → m ≡ n → bytes_by g a s m ≡ bytes_by h b t n
bytes_same g h a b s t m n p q r u = cc

pub header_spelled : (d : Database ℕ) (h : DbHeader) (bytes : List ℕ) → bytes ≡ bytes_by (header_values h) h.app_info h.sort_info h.entry_count → IsHeaderOf d h → bytes ≡ header_bytes d
unfolding header_bytes bytes_by fields
header_spelled d h bytes is has = is ∙ bytes_same (header_values h) d.header h.app_info d.app_info h.sort_info d.sort_info h.entry_count (length d.entries) has.values has.app_info has.sort_info has.entry_count

-- the numbers of a header that is written have room in their fields
pub record NumbersFit (h : DbHeader) : Type 0 where
  pub header : HeaderFits (header_values h)
  pub app_info : h.app_info < 2 ^ 32
  pub sort_info : h.sort_info < 2 ^ 32
  pub entry_count : h.entry_count < 2 ^ 16

with_fits : (d : Database ℕ) (h : DbHeader) → DatabaseFits d → NumbersFit h → IsDatabaseName h.name → has_resources h.attributes ≡ has_resources d.header.attributes → DatabaseFits (with_header d h)
with_fits d h fits numbers name kind = record {
  name = name;
  header = numbers.header;
  app_info = numbers.app_info;
  sort_info = numbers.sort_info;
  entries = rw kind fits.entries;
  entry_count = fits.entry_count;
}

pub header_written : (h : DbHeader) (bytes : List ℕ) → NumbersFit h → IsDatabaseName h.name → ((d : Database ℕ) → IsHeaderOf d h → bytes ≡ header_bytes d) → WritesHeader h bytes
header_written h bytes numbers name is d body spells count kind =
    let fits = with_fits d h spells.fits numbers name kind in
    let has : IsHeaderOf (with_header d h) h = record { values = refl; app_info = refl; sort_info = refl; entry_count = count } in
    record {
      fits = fits;
      bytes_are = ap (overwritten body 0) (is (with_header d h) has) ∙ ap (λ (bs : List ℕ). overwritten bs 0 (header_bytes (with_header d h))) spells.bytes_are ∙ sym (spelled_header d (with_header d h) spells.fits fits refl);
    }
