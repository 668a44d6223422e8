-- The database that a chunk spells, and the bytes of its parts.
use Rattle.database_edits.proofs.Words.{◌≡◌, ℕ, ◌≤◌, Bool, List, length, ap, ◌∙◌, arith, header_size, Database, DatabaseFits, entry_offset, resources_in, SpellsHere, database_here, bytes_under, length-spelled, resources_read, IsManagers, HasKindHere, counted}
use Rattle.laws_store.proofs.Shapes.{spelled_shape}

pub managers : (image : List ℕ) (db : ℕ) → SpellsHere image db → IsManagers image db
managers image db s = record { heap = s.heap; owner = s.owner }

pub header_inside : (image : List ℕ) (db : ℕ) → SpellsHere image db
    → header_size ≤ length (bytes_under image db)
header_inside image db s = (spelled_shape (database_here image db) _ s.spelled).header

-- the kind of its entries, and how long it is
pub kind_read : {image : List ℕ} {db : ℕ} → SpellsHere image db
    → HasKindHere image db (resources_in (bytes_under image db))
kind_read {image} {db} s =
    ap resources_in s.spelled.bytes_are ∙ resources_read (database_here image db) s.spelled.fits

pub long : {image : List ℕ} {db count : ℕ} {resources : Bool} → SpellsHere image db
    → HasKindHere image db resources → count ≡ length (database_here image db).entries
    → length (bytes_under image db) ≡ entry_offset resources count
long {image} {db} s kind count = rw (kind, count)
    (ap length s.spelled.bytes_are ∙ length-spelled (database_here image db) s.spelled.fits)

-- a database with its modification number raised can be spelled
pub counted_fits : (d : Database ℕ) → DatabaseFits d → DatabaseFits (counted d)
counted_fits d fits = record {
  name = fits.name;
  header = record {
    attributes = fits.header.attributes;
    version = fits.header.version;
    creation_date = fits.header.creation_date;
    modification_date = fits.header.modification_date;
    backup_date = fits.header.backup_date;
    modification_number = omega arith;
    kind = fits.header.kind;
    creator = fits.header.creator;
    seed = fits.header.seed;
  };
  app_info = fits.app_info;
  sort_info = fits.sort_info;
  entries = fits.entries;
  entry_count = fits.entry_count;
}
