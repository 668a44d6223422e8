-- The slot of an info block, written in a header.
use Rattle.database_edits.proofs.Words.{◌≡◌, ℕ, ◌+◌, ◌≤◌, ◌<◌, ◌^◌, List, length, refl, sym, ap, ◌∙◌, arith, DatabaseHeader, Database, spelled, DatabaseFits, SpellsHere, database_here, next_modification, HasModificationNumber, HasInfoBlock, info_block_at, Rebodies, PutsHeader, with_block}
use Rattle.heap_model.specs.DatabaseSteps.{with_info_block}
use Rattle.heap_model.specs.declared.names.Which.{Which}
use Rattle.heap_model.specs.declared.names.Which.TheVariants.{App, Sort}
use Rattle.database_edits.proofs.Databases.{managers, counted_fits}
use Rattle.database_edits.proofs.HeadersHere.{header_spelled, headed, then_headed, then_raised, respelled_header}

-- it stands within the header
pub block_within : (which : Which) (bytes : List ℕ) → length bytes ≡ 4
    → info_block_at which + length bytes ≤ 78
block_within App bytes len = omega arith
block_within Sort bytes len = omega arith

-- a database with it differs from the one without in nothing else
record Named (which : Which) (slot : ℕ) (d : Database ℕ) : Type 0 where
  fits : DatabaseFits (with_info_block which slot d)
  differs : HasInfoBlock which slot d (with_info_block which slot d)
  header : (with_info_block which slot d).header ≡ d.header
  entries : (with_info_block which slot d).entries ≡ d.entries

named : (which : Which) (slot : ℕ) (d : Database ℕ) → slot < 2 ^ 32 → DatabaseFits d
    → Named which slot d
named App slot d small f = record {
  fits = record { name = f.name; header = f.header; app_info = small; sort_info = f.sort_info; entries = f.entries; entry_count = f.entry_count };
  differs = record { values = refl; app_info = refl; sort_info = refl; entries = refl };
  header = refl;
  entries = refl;
}
named Sort slot d small f = record {
  fits = record { name = f.name; header = f.header; app_info = f.app_info; sort_info = small; entries = f.entries; entry_count = f.entry_count };
  differs = record { values = refl; app_info = refl; sort_info = refl; entries = refl };
  header = refl;
  entries = refl;
}

pub block_fits : (which : Which) (slot : ℕ) (d : Database ℕ) → slot < 2 ^ 32 → DatabaseFits d
    → DatabaseFits (with_block which slot d)
block_fits which slot d small fits = counted_fits _ (named which slot d small fits).fits

-- it is written, and then the number that counts the call
pub block_written : {old mid new : List ℕ} {db was : ℕ} (which : Which) (slot : ℕ)
    → SpellsHere old db → slot < 2 ^ 32 → was ≡ (database_here old db).header.modification_number
    → PutsHeader old mid db (HasInfoBlock which slot)
    → PutsHeader mid new db (HasModificationNumber (next_modification was))
    → Rebodies old new db (spelled (with_block which slot (database_here old db)))
block_written {old} {db = db} which slot s small is puts raises =
    let d : Database ℕ = database_here old db in
    let block = named which slot d small s.spelled.fits in
    let has = header_spelled s in
    let one = then_headed (with_info_block which slot d) (headed d (managers old db s) has)
    block.fits.name (puts d _ has block.differs) in
    let number = ap (λ (h : DatabaseHeader). h.modification_number) (sym block.header) in
    respelled_header s (then_raised one (is ∙ number) raises)
    (block_fits which slot d small s.spelled.fits) block.entries
