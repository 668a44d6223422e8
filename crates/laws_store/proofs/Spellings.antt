-- What spells a database is read as that one.
use Rattle.laws_store.proofs.Words.{◌≡◌, ℕ, zero, suc, ◌+◌, ◌-◌, ◌*◌, ◌<◌, Bool, true, false, List, [], ◌∷◌, ◌++◌, length, get_or, take, drop, refl, sym, ap, ◌∙◌, append_assoc, arith, length-append, get_or-append_right, take_at, All-head, All-tail, fill_by_all, All, concat, flat_map, big_from, big_number-reads_back, u16_at, u24_at, u32_at, u16_bytes, u24_bytes, u32_bytes, numbered, entry_size, DatabaseHeader, Entry, a_record, a_resource, Database, has_resources, name_field, fields_behind_name, header_bytes, entry_bytes, spelled, IsDatabaseName, EntryFits, DatabaseFits, IsSpelled, header_in, resources_in, entry_count_in, entry_offset, entry_at, entry_in, database_in}
use Rattle.laws_store.proofs.Numbers.{big_from-behind}
use Rattle.laws_store.proofs.Names.{length-name_field, name_read}

-- ---- the fields of the header

pub length-fields : (d : Database ℕ) → length (concat (fields_behind_name d)) ≡ 46
unfolding u16_bytes u32_bytes
length-fields d = refl

pub length-header_bytes : (d : Database ℕ) → IsDatabaseName d.header.name
    → length (header_bytes d) ≡ 78
unfolding header_bytes
length-header_bytes d is =
    let name = length-name_field d.header.name is in
    let fields = length-fields d in
    let both = length-append (name_field d.header.name) (concat (fields_behind_name d)) in
    omega arith

-- what stands after the name
behind : Database ℕ → List ℕ
behind d = concat (fields_behind_name d) ++ flat_map entry_bytes d.entries

spelled_parts : (d : Database ℕ) → spelled d ≡ name_field d.header.name ++ behind d
unfolding spelled header_bytes behind
spelled_parts d = append_assoc (name_field d.header.name) (concat (fields_behind_name d))
    (flat_map entry_bytes d.entries)

pub spelled_name : (d : Database ℕ) → IsDatabaseName d.header.name
    → take 32 (spelled d) ≡ name_field d.header.name
spelled_name d is = ap (take 32) (spelled_parts d)
    ∙ take_at (name_field d.header.name) (behind d) 32 (length-name_field d.header.name is)

at_field : (d : Database ℕ) (i w : ℕ) → IsDatabaseName d.header.name
    → big_from (32 + i) w (spelled d) ≡ big_from i w (behind d)
at_field d i w is = ap (big_from (32 + i) w) (spelled_parts d) ∙ big_from-behind 32 w i
    (name_field d.header.name) (behind d) (length-name_field d.header.name is)

made : List ℕ → ℕ → ℕ → ℕ → ℕ → ℕ → ℕ → ℕ → ℕ → ℕ → DatabaseHeader
made a b c d e f g h i j = record {
  name = a;
  attributes = b;
  version = c;
  creation_date = d;
  modification_date = e;
  backup_date = f;
  modification_number = g;
  kind = h;
  creator = i;
  seed = j;
}

same_header : (h g : DatabaseHeader) → g.name ≡ h.name → g.attributes ≡ h.attributes
    → g.version ≡ h.version → g.creation_date ≡ h.creation_date
    → g.modification_date ≡ h.modification_date → g.backup_date ≡ h.backup_date
    → g.modification_number ≡ h.modification_number → g.kind ≡ h.kind → g.creator ≡ h.creator
    → g.seed ≡ h.seed → g ≡ h
unfolding made
same_header h g a b c d e f i j k l = by h g a b c d e f i j k l where
  by : (h g : DatabaseHeader) → g.name ≡ h.name → g.attributes ≡ h.attributes
      → g.version ≡ h.version → g.creation_date ≡ h.creation_date
      → g.modification_date ≡ h.modification_date → g.backup_date ≡ h.backup_date
      → g.modification_number ≡ h.modification_number → g.kind ≡ h.kind → g.creator ≡ h.creator
      → g.seed ≡ h.seed → made g.name g.attributes g.version g.creation_date g.modification_date
      g.backup_date g.modification_number g.kind g.creator g.seed
      ≡ made h.name h.attributes h.version h.creation_date h.modification_date h.backup_date
      h.modification_number h.kind h.creator h.seed
  by h g a b c d e f i j k l = cc

pub header_read : (d : Database ℕ) → DatabaseFits d → header_in (spelled d) ≡ d.header
unfolding header_in behind u16_at u32_at u16_bytes u32_bytes
header_read d fits =
    let h : DatabaseHeader = d.header in
    let is = fits.name in
    let rest : List ℕ = behind d in
    same_header h (header_in (spelled d)) (name_read h.name (spelled d) is (spelled_name d is))
    (at_field d 0 2 is ∙ big_number-reads_back 2 h.attributes (drop 2 rest) fits.header.attributes)
    (at_field d 2 2 is ∙ big_number-reads_back 2 h.version (drop 4 rest) fits.header.version)
    (at_field d 4 4 is
    ∙ big_number-reads_back 4 h.creation_date (drop 8 rest) fits.header.creation_date)
    (at_field d 8 4 is
    ∙ big_number-reads_back 4 h.modification_date (drop 12 rest) fits.header.modification_date)
    (at_field d 12 4 is
    ∙ big_number-reads_back 4 h.backup_date (drop 16 rest) fits.header.backup_date)
    (at_field d 16 4 is
    ∙ big_number-reads_back 4 h.modification_number (drop 20 rest) fits.header.modification_number)
    (at_field d 28 4 is ∙ big_number-reads_back 4 h.kind (drop 32 rest) fits.header.kind)
    (at_field d 32 4 is ∙ big_number-reads_back 4 h.creator (drop 36 rest) fits.header.creator)
    (at_field d 36 4 is ∙ big_number-reads_back 4 h.seed (drop 40 rest) fits.header.seed)

pub app_info_read : (d : Database ℕ) → DatabaseFits d → u32_at (spelled d) 52 ≡ d.app_info
unfolding behind u16_at u32_at u16_bytes u32_bytes
app_info_read d fits = at_field d 20 4 fits.name
    ∙ big_number-reads_back 4 d.app_info (drop 24 (behind d)) fits.app_info

pub sort_info_read : (d : Database ℕ) → DatabaseFits d → u32_at (spelled d) 56 ≡ d.sort_info
unfolding behind u16_at u32_at u16_bytes u32_bytes
sort_info_read d fits = at_field d 24 4 fits.name
    ∙ big_number-reads_back 4 d.sort_info (drop 28 (behind d)) fits.sort_info

pub next_list_read : (d : Database ℕ) → DatabaseFits d → u32_at (spelled d) 72 ≡ 0
unfolding behind u16_at u32_at u16_bytes u32_bytes
next_list_read d fits =
    at_field d 40 4 fits.name ∙ big_number-reads_back 4 0 (drop 44 (behind d)) (omega arith)

pub count_read : (d : Database ℕ) → DatabaseFits d → entry_count_in (spelled d) ≡ length d.entries
unfolding behind u16_at u32_at u16_bytes u32_bytes
count_read d fits = at_field d 44 2 fits.name
    ∙ big_number-reads_back 2 (length d.entries) (drop 46 (behind d)) fits.entry_count

-- ---- the entries

pub length-entry_bytes : (resources : Bool) (e : Entry ℕ) → EntryFits resources e
    → length (entry_bytes e) ≡ entry_size resources
unfolding entry_bytes u16_bytes u24_bytes u32_bytes
length-entry_bytes false (a_record attributes id slot) f = refl
length-entry_bytes true (a_record attributes id slot) f = absurd f
length-entry_bytes false (a_resource kind id slot) f = absurd f
length-entry_bytes true (a_resource kind id slot) f = refl

pub size-suc : (resources : Bool) (n : ℕ)
    → entry_size resources * suc n ≡ entry_size resources + entry_size resources * n
size-suc false n = omega arith
size-suc true n = omega arith

pub size-zero : (resources : Bool) → entry_size resources * 0 ≡ 0
size-zero false = refl
size-zero true = refl

pub length-entries : (resources : Bool) (es : List (Entry ℕ)) → All (EntryFits resources) es
    → length (flat_map entry_bytes es) ≡ entry_size resources * length es
length-entries r [] all = sym (size-zero r)
length-entries r (e ∷ es) all =
    let ih = length-entries r es (All-tail (EntryFits r) e es all) in
    let one = length-entry_bytes r e (All-head (EntryFits r) e es all) in
    let both = length-append (entry_bytes e) (flat_map entry_bytes es) in
    let more = size-suc r (length es) in
    omega arith

same_record : (a b c x y z : ℕ) → a ≡ x → b ≡ y → c ≡ z → a_record a b c ≡ a_record x y z
same_record a b c x y z p q r = cc

same_resource : (a b c x y z : ℕ) → a ≡ x → b ≡ y → c ≡ z → a_resource a b c ≡ a_resource x y z
same_resource a b c x y z p q r = cc

-- an entry is read where its bytes stand first
entry_first : (resources : Bool) (e : Entry ℕ) (rest : List ℕ) → EntryFits resources e
    → entry_at resources (entry_bytes e ++ rest) 0 ≡ e
unfolding entry_bytes u16_at u24_at u32_at u16_bytes u24_bytes u32_bytes
entry_first false (a_record attributes id slot) rest f =
    same_record _ _ _ _ _ _ refl (big_number-reads_back 3 id rest f.1)
    (big_number-reads_back 4 slot (attributes ∷ u24_bytes id ++ rest) f.2)
entry_first true (a_record attributes id slot) rest f = absurd f
entry_first false (a_resource kind id slot) rest f = absurd f
entry_first true (a_resource kind id slot) rest f = same_resource _ _ _ _ _ _
    (big_number-reads_back 4 kind (u16_bytes id ++ u32_bytes slot ++ rest) f.0)
    (big_number-reads_back 2 id (u32_bytes slot ++ rest) f.1)
    (big_number-reads_back 4 slot rest f.2)

-- what is read after some bytes
pub entry_behind : (resources : Bool) (k at : ℕ) (front back : List ℕ) → length front ≡ k
    → entry_at resources (front ++ back) (k + at) ≡ entry_at resources back at
unfolding u16_at u24_at u32_at
entry_behind false k at front back len =
    let e : k + at + 5 ≡ k + (at + 5) = omega arith in
    let f : k + at + 4 ≡ k + (at + 4) = omega arith in
    let g : k + (at + 4) - k ≡ at + 4 = omega arith in
    same_record _ _ _ _ _ _
    (ap (λ i. get_or (front ++ back) i 0) f ∙ get_or-append_right front back k (k + (at + 4)) 0 len
    (omega arith) ∙ ap (λ i. get_or back i 0) g)
    (ap (λ (i : ℕ). big_from i 3 (front ++ back)) e ∙ big_from-behind k 3 (at + 5) front back len)
    (big_from-behind k 4 at front back len)
entry_behind true k at front back len =
    let e : k + at + 4 ≡ k + (at + 4) = omega arith in
    let f : k + at + 6 ≡ k + (at + 6) = omega arith in
    same_resource _ _ _ _ _ _ (big_from-behind k 4 at front back len)
    (ap (λ (i : ℕ). big_from i 2 (front ++ back)) e ∙ big_from-behind k 2 (at + 4) front back len)
    (ap (λ (i : ℕ). big_from i 4 (front ++ back)) f ∙ big_from-behind k 4 (at + 6) front back len)

entry_of : (resources : Bool) (es : List (Entry ℕ)) (i : ℕ) (d : Entry ℕ)
    → All (EntryFits resources) es → i < length es
    → entry_at resources (flat_map entry_bytes es) (entry_size resources * i) ≡ get_or es i d
entry_of r [] i d all below = absurd (omega arith)
entry_of r (e ∷ es) zero d all below =
    ap (entry_at r (entry_bytes e ++ flat_map entry_bytes es)) (size-zero r)
    ∙ entry_first r e (flat_map entry_bytes es) (All-head (EntryFits r) e es all)
entry_of r (e ∷ es) (suc i) d all below =
    ap (entry_at r (entry_bytes e ++ flat_map entry_bytes es)) (size-suc r i)
    ∙ entry_behind r (entry_size r) _ _ _ (length-entry_bytes r e (All-head (EntryFits r) e es all))
    ∙ entry_of r es i d (All-tail (EntryFits r) e es all) (omega arith)

pub resources_read : (d : Database ℕ) → DatabaseFits d
    → resources_in (spelled d) ≡ has_resources d.header.attributes
unfolding header_in
resources_read d fits = ap (λ (h : DatabaseHeader). has_resources h.attributes) (header_read d fits)

-- the entry of an index is read at its offset
pub entry_read : (d : Database ℕ) (i : ℕ) (e : Entry ℕ) → DatabaseFits d → i < length d.entries
    → entry_in (spelled d) i ≡ get_or d.entries i e
unfolding spelled
entry_read d i e fits below =
    let r : Bool = has_resources d.header.attributes in
    ap (λ (k : Bool). entry_at k (spelled d) (entry_offset k i)) (resources_read d fits)
    ∙ entry_behind r 78 (entry_size r * i) (header_bytes d) _ (length-header_bytes d fits.name)
    ∙ entry_of r d.entries i e fits.entries below

pub entries_read : (d : Database ℕ) → DatabaseFits d
    → numbered (entry_in (spelled d)) (entry_count_in (spelled d)) ≡ d.entries
entries_read d fits =
    ap (numbered (entry_in (spelled d))) (count_read d fits)
    ∙ sym (fill_by_all (entry_in (spelled d)) d.entries (length d.entries) (a_record 0 0 0) refl
    (λ i below. sym (entry_read d i (a_record 0 0 0) fits below)))

whole : DatabaseHeader → ℕ → ℕ → List (Entry ℕ) → Database ℕ
whole header app sort entries =
    record { header = header; app_info = app; sort_info = sort; entries = entries }

pub database_read : (d : Database ℕ) (bytes : List ℕ) → IsSpelled d bytes → database_in bytes ≡ d
unfolding database_in whole
database_read d bytes s = ap database_in s.bytes_are
    ∙ same (header_in (spelled d)) d.header (u32_at (spelled d) 52) d.app_info (u32_at (spelled d)
    56) d.sort_info (numbered (entry_in (spelled d)) (entry_count_in (spelled d))) d.entries
    (header_read d s.fits) (app_info_read d s.fits) (sort_info_read d s.fits)
    (entries_read d s.fits) where
      same : (h g : DatabaseHeader) (a b c e : ℕ) (xs ys : List (Entry ℕ)) → h ≡ g → a ≡ b → c ≡ e
          → xs ≡ ys → whole h a c xs ≡ whole g b e ys
      same h g a b c e xs ys p q r s = cc

-- how long it is
pub length-spelled : (d : Database ℕ) → DatabaseFits d
    → length (spelled d) ≡ entry_offset (has_resources d.header.attributes) (length d.entries)
unfolding spelled
length-spelled d fits =
    let header = length-header_bytes d fits.name in
    let entries = length-entries (has_resources d.header.attributes) d.entries fits.entries in
    let both = length-append (header_bytes d) (flat_map entry_bytes d.entries) in
    omega arith
