-- The bytes of a file stay the same exactly if no change is left.
use Rattle.file_parts.proofs.AllWords.{◌≡◌, ℕ, suc, ◌+◌, ◌-◌, ◌*◌, ◌^◌, ◌<◌, ◌≤◌, ◌++◌, Bool, true, false, None, List, [], ◌∷◌, length, get_or, map, refl, sym, ap, subst, ◌∙◌, arith, inl, inr, ◌↔◌, ◌&&◌, not, if◌then◌else◌, ⊤, All, IsTrue, IsFalse, replicate, AllZip, filter_map, cases_lt, append_cancel_left, length-map, All-cons, All-head, All-nil, All-tail, AreBytes, seed_in, with_seed, Database, DatabaseHeader, Entry, a_record, a_resource, data_in, database_in, entry_data, entry_offset, has_resources, header_in, name_field, name_in, unique_id, unique_ids, HaveIds, IsReadAs, Reads, block_size, blocks_in, entries_with_offsets, idle, idle_attributes, idle_entry, offsets_in, with_offsets, filler_in, written_filler, order, start_of, read_once, none, idle_twice, header_stays, running, Known, all_idle, none_busy, seed_stays, rising_running, ExactFile, HasValuesOf, IsExactly, exact_bytes, exact_start, after_name_of, is_rising, order_of, unless_rising, AreChangesLeft, changes_left, kept_exact, Keep, Blob}
use Rattle.canonical_file.specs.Changes.{AreChanges, AreRising, HasPlainFiller, HasPlainName, IsIdle, IsInOrder, KeepsIds, NoneIsBusy, is_none}
use Rattle.canonical_file.specs.declared.changes.Changes.{Changes}
use Rattle.canonical_file.proofs.Canonicals.{none_said, said_none}
use Rattle.canonical_file.proofs.Rising.{rising_pair}
use Rattle.file_parts.proofs.ExactBlocks.{place_of, start_at, AreSortedIn}
use Rattle.file_parts.proofs.ExactRanks.{order_back}
use Rattle.file_parts.proofs.ExactRising.{rising_all}
use Rattle.file_parts.proofs.ExactFolders.{exact_whole, same_exact}
use Rattle.file_parts.proofs.ExactSpelled.{bytes_are, order_sorted, placed_is}
use Rattle.file_parts.proofs.KeptBlocks.{placed_listed}
use Rattle.file_parts.proofs.KeptForms.{entries_idle, read_idle}
use Rattle.file_parts.proofs.ReplacedSound.{there_as}

-- an entry that the busy bit wouldn't change
abbrev IsStill : Entry Blob → Type 0
IsStill (a_record a id block) = idle_attributes a ≡ a
IsStill (a_resource kind id block) = ⊤

-- ---- words that are left

said_plain : (word : Bool) → IsFalse (word && not false) → IsFalse word
said_plain true e = e
said_plain false e = refl

plain_said : (word : Bool) → IsFalse word → IsFalse (word && not false)
plain_said true e = e
plain_said false e = refl

kept_said : (word : Bool) → IsFalse (word && not true)
kept_said true = refl
kept_said false = refl

-- ---- the filler

filler_there : (keeps word : Bool) (file : List ℕ) (exact : ExactFile) → IsExactly file exact
    → (IsFalse word ↔ HasPlainFiller file) → IsFalse (word && not keeps)
    → (if keeps then exact.filler else written_filler) ≡ exact.filler
filler_there true word file exact is says left = refl
filler_there false word file exact is says left = sym (is.filler ∙ says.0 (said_plain word left))

filler_said : (keeps word : Bool) (file filler : List ℕ) → (IsFalse word ↔ HasPlainFiller file)
    → (if keeps then filler else written_filler) ≡ filler_in file → IsFalse (word && not keeps)
filler_said true word file filler says is = kept_said word
filler_said false word file filler says is = plain_said word (says.1 (sym is))

-- ---- the name

name_is : (file : List ℕ) → (header_in file).name ≡ name_in file
unfolding header_in
name_is file = refl

pub plain_field : (name : List ℕ) → name_field name ≡ name ++ replicate (32 - length name) 0
unfolding name_field
plain_field name = refl

name_there : (file : List ℕ) (exact : ExactFile) → IsExactly file exact → HasPlainName file
    → after_name_of exact.database.header.name None ≡ exact.after_name
name_there file exact is plain =
    let name : List ℕ = exact.database.header.name in
    let same : name ≡ name_in file = ap (λ h. h.name) is.header ∙ name_is file in
    append_cancel_left name (replicate (32 - length name) 0) exact.after_name
    (sym (plain_field name) ∙ ap name_field same ∙ sym plain ∙ sym is.name_field)

name_said : (file : List ℕ) (name : List ℕ) (exact : ExactFile) → IsExactly file exact
    → name ≡ exact.database.header.name → exact.after_name ≡ after_name_of name None
    → HasPlainName file
name_said file name exact is same zeros =
    let there : exact.database.header.name ≡ name_in file =
    ap (λ h. h.name) is.header ∙ name_is file in
    cc (is.name_field, plain_field exact.database.header.name)

-- ---- the order of the blocks

sorted_pair : (file ranks : List ℕ) (i : ℕ) → AreSortedIn file ranks → suc i < length ranks
    → get_or (offsets_in file) (get_or ranks i 0) 0 * 2 ^ 32 + get_or ranks i 0
    ≤ get_or (offsets_in file) (get_or ranks (suc i) 0) 0 * 2 ^ 32 + get_or ranks (suc i) 0
sorted_pair file ranks i sorted next =
    let offsets : List ℕ = offsets_in file in
    let long = length-map ranks (start_of offsets) in
    let rising = sorted.rising i (suc i) none (omega arith) (omega arith) in
    let one = ap order (start_at offsets ranks i (omega arith)) in
    omega (arith, ap order (start_at offsets ranks (suc i) next))

ranks_rise : (file ranks : List ℕ) (i : ℕ) → AreSortedIn file ranks → IsInOrder file
    → suc i < length ranks → get_or ranks i 0 ≤ get_or ranks (suc i) 0
ranks_rise file ranks i sorted rises next =
    elim (cases_lt (get_or ranks (suc i) 0) (get_or ranks i 0)) [
      | inl less ↦ (let place = (place_of file ranks i sorted (omega arith)).some in
          let lower = rising_pair 0 (offsets_in file) (get_or ranks (suc i) 0)
          (get_or ranks i 0) rises less place in
          omega (arith, sorted_pair file ranks i sorted next))
      | inr past ↦ past
    ]

listed_ranks : (file : List ℕ) (exact : ExactFile) → AreBytes file → IsExactly file exact
    → IsInOrder file → order_of (data_in exact.database) [] ≡ exact.order
listed_ranks file exact b is rises =
    let sorted = order_sorted file exact b is in
    let rising =
    rising_all exact.order (λ i next. ranks_rise file exact.order i sorted rises next) in
    let back = order_back file exact.order (blocks_in file) sorted (there_as file) in
    cc (is.blocks, rising_none exact.order rising)
  where
    rising_none : (ranks : List ℕ) → is_rising ranks ≡ true → unless_rising ranks ≡ []
    rising_none ranks rises = rw rises refl

order_there : (keeps word : Bool) (file : List ℕ) (exact : ExactFile) → AreBytes file
    → IsExactly file exact → (IsFalse word ↔ IsInOrder file) → IsFalse (word && not keeps)
    → (if keeps then exact.order else order_of (data_in exact.database) []) ≡ exact.order
order_there true word file exact b is says left = refl
order_there false word file exact b is says left =
    listed_ranks file exact b is (says.0 (said_plain word left))

data_running : (at : ℕ) (es : List (Entry Blob))
    → map entry_data (entries_with_offsets at es) ≡ running at (map entry_data es)
data_running at [] = refl
data_running at (a_record a id block ∷ es) = cc (data_running (at + block_size block) es)
data_running at (a_resource kind id block ∷ es) = cc (data_running (at + block_size block) es)

offsets_running : (at : ℕ) (d : Database Blob)
    → data_in (with_offsets at d) ≡ running at (data_in d)
offsets_running at d =
    cc (data_running (at + block_size d.app_info + block_size d.sort_info) d.entries)

some_start : (r : Bool) (n m : ℕ) → 0 < entry_offset r n + m
some_start false n m = omega arith
some_start true n m = omega arith

-- the blocks of a file in list order
in_order : (file : List ℕ) (exact : ExactFile) → AreBytes file → IsExactly file exact
    → exact.order ≡ order_of (data_in exact.database) [] → IsInOrder file
in_order file exact b is listed =
    let at : ℕ = exact_start exact in
    let offsets : offsets_in file ≡ running at (data_in exact.database) =
    cc (placed_is file exact b is, placed_listed exact listed, offsets_running at exact.database) in
    subst (AreRising 0) (sym offsets) (rising_running 0 at (data_in exact.database)
    (some_start (has_resources exact.database.header.attributes) (length exact.database.entries)
    (length exact.filler)) (omega arith))

order_said : (keeps word : Bool) (file order : List ℕ) (blocks : List Blob) (exact : ExactFile)
    → AreBytes file → IsExactly file exact → (IsFalse word ↔ IsInOrder file)
    → data_in exact.database ≡ blocks → exact.order ≡ (if keeps then order else order_of blocks [])
    → IsFalse (word && not keeps)
order_said true word file order blocks exact b is says same listed = kept_said word
order_said false word file order blocks exact b is says same listed = plain_said word
    (says.1 (in_order file exact b is (listed ∙ ap (λ bs. order_of bs []) (sym same))))

-- ---- the entries

idle_said : (xs : List (Entry ℕ)) (es : List (Entry Blob)) → AllZip HasValuesOf xs es
    → All IsStill es → All IsIdle xs
idle_said [] [] zip all = All-nil IsIdle
idle_said [] (e ∷ es) zip all = absurd zip
idle_said (x ∷ xs) [] zip all = absurd zip
idle_said (a_record a id at ∷ xs) (a_resource kind other block ∷ es) zip all = absurd zip.0
idle_said (a_resource kind id at ∷ xs) (a_record a other block ∷ es) zip all = absurd zip.0
idle_said (a_record a id at ∷ xs) (a_record same other block ∷ es) zip all =
    let still = All-head IsStill (a_record same other block) es all in
    All-cons IsIdle (a_record a id at) xs (subst (λ n. idle_attributes n ≡ n) zip.0.0 still)
    (idle_said xs es zip.1 (All-tail IsStill (a_record same other block) es all))
idle_said (a_resource kind id at ∷ xs) (a_resource same other block ∷ es) zip all =
    All-cons IsIdle (a_resource kind id at) xs tt
    (idle_said xs es zip.1 (All-tail IsStill (a_resource same other block) es all))

still_idle : (es : List (Entry Blob)) → All IsStill (map idle_entry es)
still_idle [] = All-nil IsStill
still_idle (a_record a id block ∷ es) = All-cons IsStill (a_record (idle_attributes a) id block)
    (map idle_entry es) (sym (idle_twice a)) (still_idle es)
still_idle (a_resource kind id block ∷ es) =
    All-cons IsStill (a_resource kind id block) (map idle_entry es) tt (still_idle es)

ids_zip : (xs : List (Entry ℕ)) (es : List (Entry Blob)) → AllZip HasValuesOf xs es
    → filter_map unique_id es ≡ filter_map unique_id xs
ids_zip [] [] zip = refl
ids_zip [] (e ∷ es) zip = absurd zip
ids_zip (x ∷ xs) [] zip = absurd zip
ids_zip (a_record a id at ∷ xs) (a_resource kind other block ∷ es) zip = absurd zip.0
ids_zip (a_resource kind id at ∷ xs) (a_record a other block ∷ es) zip = absurd zip.0
ids_zip (a_record a id at ∷ xs) (a_record same other block ∷ es) zip =
    cc (zip.0.1, ids_zip xs es zip.1)
ids_zip (a_resource kind id at ∷ xs) (a_resource same other block ∷ es) zip = ids_zip xs es zip.1

-- element by element with a list whose elements have a property
zip_with : {X Y : Type 0} (R S : X → Y → Type 0) (P : X → Type 0) (xs : List X) (ys : List Y)
    → AllZip R xs ys → All P xs → ((x : X) (y : Y) → R x y → P x → S x y) → AllZip S xs ys
zip_with R S P [] [] zip all each = tt
zip_with R S P [] (y ∷ ys) zip all each = absurd zip
zip_with R S P (x ∷ xs) [] zip all each = absurd zip
zip_with R S P (x ∷ xs) (y ∷ ys) zip all each =
    (each x y zip.0 (All-head P x xs all), zip_with R S P xs ys zip.1 (All-tail P x xs all) each)

read_one : (x : Entry ℕ) (e : Entry Blob) → HasValuesOf x e → IsIdle x → IsReadAs x e
read_one (a_record a id at) (a_resource kind other block) values still = absurd values
read_one (a_resource kind id at) (a_record a other block) values still = absurd values
read_one (a_record a id at) (a_record same other block) values still = values.0 ∙ sym still
read_one (a_resource kind id at) (a_resource same other block) values still = values

read_zip : (xs : List (Entry ℕ)) (es : List (Entry Blob)) → AllZip HasValuesOf xs es → All IsIdle xs
    → AllZip IsReadAs xs es
read_zip xs es zip all = zip_with HasValuesOf IsReadAs IsIdle xs es zip all read_one

idle_there : (xs : List (Entry ℕ)) (es : List (Entry Blob)) → AllZip HasValuesOf xs es
    → All IsIdle xs → map idle_entry es ≡ es
idle_there xs es zip all = entries_idle xs es (read_zip xs es zip all)

-- ---- the database

with_entries : Database Blob → List (Entry Blob) → Database Blob
with_entries d entries = record d { entries = entries }

own_there : (file : List ℕ) (exact : ExactFile) → IsExactly file exact → NoneIsBusy file
    → idle exact.database ≡ exact.database
unfolding with_entries
own_there file exact is none = ap (with_entries exact.database)
    (idle_there (database_in file).entries exact.database.entries is.entries (all_idle file none))

header_own : (header : DatabaseHeader) (last : ℕ) → last ≡ seed_in header.seed
    → header ≡ record header { seed = with_seed header.seed last }
header_own header last is = subst (λ n. header ≡ record header { seed = with_seed header.seed n })
    (sym is) (header_stays header)

-- a file whose records keep their IDs, and none of which is busy, is read as it stands
read_there : (file : List ℕ) (exact : ExactFile) (d : Database Blob) → Known file d
    → IsExactly file exact → NoneIsBusy file → unique_ids d ≡ unique_ids (database_in file)
    → Reads file exact.database
read_there file exact d known is none same =
    let own = ids_zip (database_in file).entries exact.database.entries is.entries in
    record {
      good = is.good;
      last_seed = known.reads.last_seed;
      ids = subst (λ ids. HaveIds (seed_in (header_in file).seed) (unique_ids (database_in file))
          ids known.reads.last_seed) (same ∙ sym own) known.reads.ids;
      header = cc (
        is.header,
        header_own (header_in file) known.reads.last_seed (seed_stays file d known same),
      );
      entries = read_zip (database_in file).entries exact.database.entries is.entries
          (all_idle file none);
      blocks = is.blocks;
    }

database_there : (keeps word : Bool) (file : List ℕ) (exact : ExactFile) (d : Database Blob)
    → Known file d → IsExactly file exact → (IsFalse word ↔ KeepsIds file)
    → IsFalse (word && not keeps) → NoneIsBusy file
    → (if keeps then idle exact.database else d) ≡ exact.database
database_there true word file exact d known is says left none = own_there file exact is none
database_there false word file exact d known is says left none =
    sym (read_once file exact.database d (read_there file exact d known is none
    (says.0 (said_plain word left) d known.reads)) known.reads)

ids_said : (keeps word : Bool) (file : List ℕ) (exact other : ExactFile) (d : Database Blob)
    → Reads file d → IsExactly file exact → (IsFalse word ↔ KeepsIds file)
    → exact.database ≡ (if keeps then idle other.database else d) → IsFalse (word && not keeps)
ids_said true word file exact other d reads is says same = kept_said word
ids_said false word file exact other d reads is says same = plain_said word
    (says.1 (λ x read. ap (λ y. unique_ids y) (read_once file x d read reads ∙ sym same)
    ∙ ids_zip (database_in file).entries exact.database.entries is.entries))

busy_said : (keeps : Bool) (file : List ℕ) (exact other : ExactFile) (d : Database Blob)
    → Reads file d → IsExactly file exact
    → exact.database ≡ (if keeps then idle other.database else d) → NoneIsBusy file
busy_said true file exact other d reads is same =
    none_busy file (idle_said (database_in file).entries exact.database.entries is.entries
    (subst (λ x. All IsStill x.entries) (sym same) (still_idle other.database.entries)))
busy_said false file exact other d reads is same =
    none_busy file (idle_said (database_in file).entries exact.database.entries is.entries
    (subst (λ x. All IsStill x.entries) (read_idle file d reads ∙ sym same) (still_idle d.entries)))

-- ---- all of it

-- if no change is left, the file is the one that is written
pub kept_same : (keep : Keep) (file : List ℕ) (exact : ExactFile) (d : Database Blob)
    (changes : Changes) → Known file d → IsExactly file exact → AreChanges file changes
    → IsTrue (is_none (changes_left keep changes)) → kept_exact keep exact d ≡ exact
unfolding exact_whole
kept_same keep file exact d changes known is are none =
    let left = none_said (changes_left keep changes) none in
    let still = are.busy.0 left.busy in
    same_exact _ _ _ _ _ _ _ _ (database_there keep.ids changes.ids file exact d known is are.ids
    left.ids still) (name_there file exact is (are.name.0 left.name))
    (filler_there keep.filler changes.filler file exact is are.filler left.filler)
    (order_there keep.order changes.order file exact known.bytes is are.order left.order)

-- if the file is the one that is written, no change is left
pub same_left : (keep : Keep) (file : List ℕ) (exact : ExactFile) (d : Database Blob)
    (changes : Changes) → AreBytes file → Reads file d → IsExactly file exact
    → IsExactly file (kept_exact keep exact d) → AreChanges file changes
    → IsTrue (is_none (changes_left keep changes))
same_left keep file exact d changes b reads is kept are =
    let blocks : data_in (kept_exact keep exact d).database ≡ data_in exact.database =
    kept.blocks ∙ sym is.blocks in
    let name : exact.database.header.name ≡ (kept_exact keep exact d).database.header.name =
    ap (λ h. h.name) (is.header ∙ sym kept.header) in
    said_none (changes_left keep changes) (record {
      busy = are.busy.1 (busy_said keep.ids file (kept_exact keep exact d) exact d reads kept refl);
      filler = filler_said keep.filler changes.filler file exact.filler are.filler kept.filler;
      ids = ids_said keep.ids changes.ids file
          (kept_exact keep exact d) exact d reads kept are.ids refl;
      name = are.name.1 (name_said file exact.database.header.name
          (kept_exact keep exact d) kept name refl);
      order = order_said keep.order changes.order file exact.order (data_in exact.database)
          (kept_exact keep exact d) b kept are.order blocks refl;
    })

-- ---- the changes that are left

pub are_left : (keep : Keep) (file : List ℕ) (d : Database Blob) (changes : Changes) → Known file d
    → AreChanges file changes → AreChangesLeft keep file (changes_left keep changes)
are_left keep file d changes known are = record {
  changes = changes;
  are = are;
  is = refl;
  same = λ bytes keeps. (
    λ none. keeps.is ∙ ap exact_bytes (kept_same keep file keeps.exact keeps.database changes
        (known_for keeps.database keeps.reads) keeps.exactly are none)
        ∙ bytes_are file keeps.exact known.bytes keeps.exactly,
    λ same. same_left keep file keeps.exact keeps.database changes known.bytes keeps.reads
        keeps.exactly (subst (λ xs. IsExactly xs (kept_exact keep keeps.exact keeps.database)) same
        keeps.read) are,
  );
}
  where
    known_for : (x : Database Blob) → Reads file x → Known file x
    known_for x read = subst (Known file) (read_once file d x known.reads read) known
