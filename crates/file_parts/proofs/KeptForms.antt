-- A file of which nothing is kept is in canonical form.
use Rattle.file_parts.proofs.AllWords.{◌≡◌, ℕ, ◌-◌, Bool, true, false, List, [], length, map, refl, sym, ap, ◌∙◌, ◌||◌, not, IsTrue, replicate, AllZip, Database, Entry, a_record, a_resource, data_in, database_in, IsReadAs, Reads, file_of, idle, idle_entry, written_filler, idle_twice, IsCanonical, ExactFile, IsExactly, exact_bytes, order_of, keeps_nothing, kept_exact, Keep, Blob}
use Rattle.file_parts.proofs.KeptBlocks.{bytes_listed}
use Rattle.file_parts.proofs.PackedBack.{zip_idle}

-- ---- a database that is read has no busy record

read_still : (e : Entry ℕ) (f : Entry Blob) → IsReadAs e f → idle_entry f ≡ f
read_still (a_record a id at) (a_resource kind other block) is = absurd is
read_still (a_resource kind id at) (a_record a other block) is = absurd is
read_still (a_record a id at) (a_record idle_ones other block) is = cc (idle_twice a)
read_still (a_resource kind id at) (a_resource other_kind other block) is = refl

pub entries_idle : (es : List (Entry ℕ)) (fs : List (Entry Blob)) → AllZip IsReadAs es fs
    → map idle_entry fs ≡ fs
entries_idle es fs zip = zip_idle IsReadAs es fs zip read_still

with_entries : Database Blob → List (Entry Blob) → Database Blob
with_entries d entries = record d { entries = entries }

pub read_idle : (file : List ℕ) (d : Database Blob) → Reads file d → idle d ≡ d
unfolding with_entries
read_idle file d reads =
    ap (with_entries d) (entries_idle (database_in file).entries d.entries reads.entries)

-- ---- if nothing is kept

pub name_read : (file : List ℕ) (exact : ExactFile) (d : Database Blob) → IsExactly file exact
    → Reads file d → exact.database.header.name ≡ d.header.name
name_read file exact d is reads = cc (is.header, reads.header)

plain_form : (file : List ℕ) (exact : ExactFile) (d : Database Blob) → IsExactly file exact
    → Reads file d → exact_bytes (record {
      database = d;
      after_name = replicate (32 - length exact.database.header.name) 0;
      filler = written_filler;
      order = order_of (data_in exact.database) [];
    }) ≡ file_of d
unfolding file_of
plain_form file exact d is reads =
    let plain : ExactFile = record {
      database = d;
      after_name = replicate (32 - length exact.database.header.name) 0;
      filler = written_filler;
      order = order_of (data_in exact.database) [];
    } in
    let blocks : data_in exact.database ≡ data_in d = is.blocks ∙ sym reads.blocks in
    let first = bytes_listed plain (ap (λ bs. order_of bs []) blocks)
    (ap (λ name. replicate (32 - length name) 0) (name_read file exact d is reads)) in
    cc (read_idle file d reads)

-- which things are kept
none_kept : (a b c : Bool) → IsTrue (not (a || (b || c))) → (a ≡ false) × (b ≡ false) × (c ≡ false)
none_kept false false false e = (refl, refl, refl)
none_kept true b c e = absurd cc
none_kept false true c e = absurd cc
none_kept false false true e = absurd cc

pub canonical_form : (keep : Keep) (file : List ℕ) (exact : ExactFile) (d : Database Blob)
    → IsExactly file exact → Reads file d → IsTrue (keeps_nothing keep)
    → IsCanonical file (exact_bytes (kept_exact keep exact d))
canonical_form keep file exact d is reads nothing =
    let none = none_kept keep.ids keep.filler keep.order nothing in
    record {
      database = d;
      reads = reads;
      written = rw (none.0, none.1, none.2) (plain_form file exact d is reads);
    }
