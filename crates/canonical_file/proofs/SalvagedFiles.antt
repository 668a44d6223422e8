-- The mended file, written again, is the salvaged file.
use Rattle.std.proofs.Common.{◌≡◌, ℕ, ◌≤◌, Option, List, ◌∷◌, ◌++◌, length, refl, sym, ap, subst, ◌∙◌, arith, length-append}
use Rattle.std.specs.Prelude.{Result, Ok, Err, IfOk, IfErr, All, false}
use Rattle.std.proofs.lemmas.List.{get_or_at}
use Rattle.palm_text.specs.Counted.{Writing}
use Rattle.std.specs.List.{AllZip}
use Rattle.heap_model.specs.Bytes.{AreBytes}
use Rattle.heap_model.specs.UniqueIds.{seed_in, with_seed}
use Rattle.heap_model.specs.Database.{Database, DatabaseHeader, header_in, database_in}
use Rattle.heap_model.specs.Store.{unique_ids}
use Rattle.heap_model.specs.Files.{HasFault, HasNoFault, HaveIds, IsFirstFault, IsReadAs}
use Rattle.heap_model.specs.declared.file_fault.FileFault.{FileFault}
use Rattle.pdb_format.specs.ReadFiles.{database_read}
use Rattle.pdb_format.proofs.ReadFiles.{all_read, blocks_read_are, given_read}
use Rattle.canonical_file.specs.Canonical.{IsCanonicalFault, WritesOne, WroteOne}
use Rattle.canonical_file.specs.declared.canonical.CanonicalFault.{CanonicalFault}
use Rattle.canonical_file.specs.declared.canonical.CanonicalFault.TheVariants.{BadFile, OutOfMemory, Write}
use Rattle.canonical_file.specs.Mended.{mended}
use Rattle.canonical_file.specs.Salvage.{Salvages, sound_header, sound_in}
use Rattle.canonical_file.specs.Salvaged.{IsRewrittenBy, IsSalvageFault}
use Rattle.canonical_file.specs.declared.salvage.SalvagedIds.{SalvagedIds}
use Rattle.canonical_file.specs.declared.salvage.SalvagedIds.TheVariants.{Distinct, Exact}
use Rattle.canonical_file.proofs.MendedFiles.{mended_blocks, mended_heads}

header_there : (file : List ℕ) (d : Database ℕ) → database_in file ≡ d → header_in file ≡ d.header
unfolding database_in
header_there file d is = ap (λ (x : Database ℕ). x.header) is

header_sound : (file : List ℕ) → (sound_in file).header ≡ sound_header file
unfolding sound_in
header_sound file = refl

seed_sound : (file : List ℕ) → (sound_header file).seed ≡ (header_in file).seed
seed_sound file = refl

-- the header of the mended file
mended_header : (file : List ℕ) → AreBytes file → header_in (mended file) ≡ sound_header file
mended_header file b =
    header_there (mended file) (sound_in file) (mended_heads file b).is ∙ header_sound file

mended_seed : (file : List ℕ) → AreBytes file
    → (header_in (mended file)).seed ≡ (header_in file).seed
mended_seed file b = ap (λ (h : DatabaseHeader). h.seed) (mended_header file b) ∙ seed_sound file

seeded : DatabaseHeader → ℕ → ℕ → DatabaseHeader
seeded header field last = record header { seed = with_seed field last }

-- the header and the entries of a file that is read with its own IDs
own_header : (file : List ℕ) → AreBytes file → (ids : List ℕ) (seed : ℕ)
    → (database_read (mended file) ids seed).header
    ≡ seeded (sound_header file) (header_in file).seed seed
unfolding database_read seeded
own_header file b ids seed =
    ap (λ (h : DatabaseHeader). seeded h (header_in (mended file)).seed seed) (mended_header file b)
    ∙ ap (λ (field : ℕ). seeded (sound_header file) field seed) (mended_seed file b)

own_entries : (file ids : List ℕ) (seed : ℕ)
    → AllZip IsReadAs (database_in file).entries (database_read file ids seed).entries
unfolding database_read
own_entries file ids seed = all_read file ids

own_ids_read : (file : List ℕ) (seed : ℕ)
    → unique_ids (database_read file (unique_ids (database_in file)) seed)
    ≡ unique_ids (database_in file)
unfolding database_read
own_ids_read file seed = given_read file (unique_ids (database_in file)) refl

pub salvages : (rule : SalvagedIds) (file bytes : List ℕ) → AreBytes file → 78 ≤ length file
    → IsRewrittenBy rule (mended file) bytes → Salvages rule file bytes
unfolding seeded
salvages Distinct file bytes b long is =
    let same = (mended_heads file b).is in
    let read = is.reads in
    record {
      database = is.database;
      salvaged = record {
        last_seed = read.last_seed;
        ids = subst (λ (d : Database ℕ).
            HaveIds (seed_in (header_in file).seed) (unique_ids d)
            (unique_ids is.database) read.last_seed) same
            (subst (λ (field : ℕ). HaveIds (seed_in field) (unique_ids (database_in (mended file))) (unique_ids is.database) read.last_seed)
            (mended_seed file b) read.ids);
        header = read.header
            ∙ ap (λ (h : DatabaseHeader). seeded h (header_in (mended file)).seed read.last_seed)
            (mended_header file b)
            ∙ ap (λ (field : ℕ). seeded (sound_header file) field read.last_seed)
            (mended_seed file b);
        entries = subst (λ (d : Database ℕ). AllZip IsReadAs d.entries is.database.entries) same
            read.entries;
        blocks = read.blocks ∙ mended_blocks file b long;
      };
      written = is.written;
    }
salvages Exact file bytes b long is =
    let m : List ℕ = mended file in
    let same = (mended_heads file b).is in
    let ids : List ℕ = unique_ids (database_in m) in
    let seed : ℕ = seed_in (header_in m).seed in
    record {
      database = database_read m ids seed;
      salvaged = record {
        last_seed = seed;
        ids =
            (own_ids_read m seed ∙ ap (λ (d : Database ℕ). unique_ids d) same, ap seed_in (mended_seed file b));
        header = own_header file b ids seed;
        entries = subst (λ (d : Database ℕ).
            AllZip IsReadAs d.entries (database_read m ids seed).entries) same
            (own_entries m ids seed);
        blocks = blocks_read_are m ids seed ∙ mended_blocks file b long;
      };
      written = is;
    }

-- ---- what is written

pub wrote_salvaged : {W : Type 0} (rule : SalvagedIds) (file m : List ℕ)
    (contents : W → Option (List ℕ)) (old new : Writing W) (result : Result ℕ CanonicalFault)
    → AreBytes file → 78 ≤ length file → m ≡ mended file
    → IfOk result (WroteOne (IsRewrittenBy rule m) contents old new)
    → IfOk result (WroteOne (Salvages rule file) contents old new)
wrote_salvaged rule file m contents old new (Ok count) b long is wrote =
    (wrote.0, salvages rule file wrote.0 b long (rw is at wrote.1), wrote.2, wrote.3)
wrote_salvaged rule file m contents old new (Err fault) b long is wrote = wrote

pub cut_salvaged : {W : Type 0} (rule : SalvagedIds) (file m : List ℕ)
    (contents : W → Option (List ℕ)) (old new : Writing W)
    → AreBytes file → 78 ≤ length file → m ≡ mended file
    → WritesOne (IsRewrittenBy rule m) contents old new false
    → WritesOne (Salvages rule file) contents old new false
cut_salvaged rule file m contents old new b long is wrote =
    (wrote.0, salvages rule file wrote.0 b long (rw is at wrote.1), wrote.2)

-- and the file has a header
pub wrote_long : (file : List ℕ) (result : Result ℕ CanonicalFault) → 78 ≤ length file
    → IfOk result (λ _. 78 ≤ length file)
wrote_long file (Ok count) long = long
wrote_long file (Err fault) long = tt

-- ---- why nothing is written

-- a file without fault has no first fault
no_first : (file : List ℕ) (fault : FileFault) → HasNoFault file → IsFirstFault file fault → ⊥
no_first file fault good first =
    let all : All (λ other. HasFault file other → ⊥) (first.before ++ fault ∷ first.after) =
    subst (All (λ other. HasFault file other → ⊥)) first.order good in
    let at = get_or_at first.before fault first.after fault (length first.before) refl in
    let long = length-append first.before (fault ∷ first.after) in
    all (length first.before) fault (omega arith) (subst (HasFault file) (sym at) first.here)

pub salvage_faults : (file m : List ℕ) (result : Result ℕ CanonicalFault) → 78 ≤ length file
    → HasNoFault m → IfErr result (IsCanonicalFault m) → IfErr result (IsSalvageFault file)
salvage_faults file m (Ok count) long good why = why
salvage_faults file m (Err (BadFile fault)) long good why = absurd (no_first m fault good why)
salvage_faults file m (Err OutOfMemory) long good why = long
salvage_faults file m (Err Write) long good why = long
