-- A database is read from its spelling, whatever follows it.
use Rattle.std.proofs.Common.{◌≡◌, ℕ, zero, suc, ◌+◌, ◌<◌, ◌≤◌, Bool, true, false, List, ◌∷◌, ◌++◌, length, get_or, map, refl, sym, ap, ◌∙◌, arith}
use Rattle.std.specs.List.{range_with_len, take_while}
use Rattle.std.specs.Prelude.{◌==◌, not}
use Rattle.std.proofs.lemmas.List.{take_at, take-append-le, get_or_append_left}
use Rattle.byteorder.specs.Endian.{big_from}
use Rattle.byteorder.specs.Numbers.{big_from-take}
use Rattle.heap_model.specs.Bytes.{u16_at, u24_at, u32_at}
use Rattle.heap_model.specs.Lists.{numbered}
use Rattle.heap_model.specs.DatabaseFields.{entry_size}
use Rattle.heap_model.specs.Database.{DatabaseHeader, Entry, a_record, a_resource, Database, has_resources, spelled, DatabaseFits, IsSpelled, name_in, header_in, resources_in, entry_count_in, entry_offset, entry_at, entry_in, database_in}
use Rattle.laws_store.proofs.Spellings.{database_read, count_read, resources_read, next_list_read, entry_read}
use Rattle.laws_store.proofs.Shapes.{spelled_shape}

-- ---- numbers in a prefix

number_front : (i n : ℕ) (xs ys : List ℕ) → i + n ≤ length xs
    → big_from i n (xs ++ ys) ≡ big_from i n xs
number_front i n xs ys inside =
    sym (big_from-take i n (length xs) (xs ++ ys) inside)
    ∙ ap (big_from i n) (take_at xs ys (length xs) refl)

u16_front : (at : ℕ) (xs ys : List ℕ) → at + 2 ≤ length xs → u16_at (xs ++ ys) at ≡ u16_at xs at
unfolding u16_at
u16_front at xs ys inside = number_front at 2 xs ys inside

u24_front : (at : ℕ) (xs ys : List ℕ) → at + 3 ≤ length xs → u24_at (xs ++ ys) at ≡ u24_at xs at
unfolding u24_at
u24_front at xs ys inside = number_front at 3 xs ys inside

pub u32_front : (at : ℕ) (xs ys : List ℕ) → at + 4 ≤ length xs → u32_at (xs ++ ys) at ≡ u32_at xs at
unfolding u32_at
u32_front at xs ys inside = number_front at 4 xs ys inside

pub name_front : (xs ys : List ℕ) → 78 ≤ length xs → name_in (xs ++ ys) ≡ name_in xs
unfolding name_in
name_front xs ys inside =
    ap (take_while (λ byte. not (byte == 0))) (take-append-le 31 xs ys (omega arith))

-- ---- the header

made : List ℕ → ℕ → ℕ → ℕ → ℕ → ℕ → ℕ → ℕ → ℕ → ℕ → DatabaseHeader
made a b c d e f g h i j = record {
  name = a;
  attributes = b;
  version = c;
  creation_date = d;
  modification_date = e;
  backup_date = f;
  modification_number = g;
  kind = h;
  creator = i;
  seed = j;
}

same_made : (xs ys : List ℕ) (b c d e f g h i j k l m n o p q r s : ℕ) → xs ≡ ys → b ≡ k → c ≡ l
    → d ≡ m → e ≡ n → f ≡ o → g ≡ p → h ≡ q → i ≡ r → j ≡ s
    → made xs b c d e f g h i j ≡ made ys k l m n o p q r s
same_made xs ys b c d e f g h i j k l m n o p q r s e0 e1 e2 e3 e4 e5 e6 e7 e8 e9 = cc

pub header_front : (xs ys : List ℕ) → 78 ≤ length xs → header_in (xs ++ ys) ≡ header_in xs
unfolding header_in made
header_front xs ys inside =
    same_made (name_in (xs ++ ys)) (name_in xs) _ _ _ _ _ _ _ _ _ _ _ _ _ _ _ _ _ _
    (name_front xs ys inside)
    (u16_front 32 xs ys (omega arith)) (u16_front 34 xs ys (omega arith))
    (u32_front 36 xs ys (omega arith)) (u32_front 40 xs ys (omega arith))
    (u32_front 44 xs ys (omega arith))
    (u32_front 48 xs ys (omega arith)) (u32_front 60 xs ys (omega arith))
    (u32_front 64 xs ys (omega arith)) (u32_front 68 xs ys (omega arith))

pub resources_front : (xs ys : List ℕ) → 78 ≤ length xs → resources_in (xs ++ ys) ≡ resources_in xs
resources_front xs ys inside = ap has_resources (u16_front 32 xs ys (omega arith))

pub count_front : (xs ys : List ℕ) → 78 ≤ length xs → entry_count_in (xs ++ ys) ≡ entry_count_in xs
count_front xs ys inside = u16_front 76 xs ys (omega arith)

-- ---- the entries

same_record : (a b c x y z : ℕ) → a ≡ x → b ≡ y → c ≡ z → a_record a b c ≡ a_record x y z
same_record a b c x y z p q r = cc

same_resource : (a b c x y z : ℕ) → a ≡ x → b ≡ y → c ≡ z → a_resource a b c ≡ a_resource x y z
same_resource a b c x y z p q r = cc

entry_at_front : (resources : Bool) (at : ℕ) (xs ys : List ℕ)
    → at + entry_size resources ≤ length xs
    → entry_at resources (xs ++ ys) at ≡ entry_at resources xs at
entry_at_front false at xs ys inside =
    same_record _ _ _ _ _ _ (get_or_append_left xs ys 0 (at + 4) (omega arith))
    (u24_front (at + 5) xs ys (omega arith)) (u32_front at xs ys (omega arith))
entry_at_front true at xs ys inside =
    same_resource _ _ _ _ _ _ (u32_front at xs ys (omega arith))
    (u16_front (at + 4) xs ys (omega arith)) (u32_front (at + 6) xs ys (omega arith))

entry_within : (resources : Bool) (i count : ℕ) → i < count
    → entry_offset resources i + entry_size resources ≤ entry_offset resources count
entry_within false i count below = omega arith
entry_within true i count below = omega arith

pub entry_in_front : (xs ys : List ℕ) (i : ℕ) → 78 ≤ length xs
    → entry_offset (resources_in xs) (entry_count_in xs) ≤ length xs → i < entry_count_in xs
    → entry_in (xs ++ ys) i ≡ entry_in xs i
entry_in_front xs ys i inside ends below =
    let r : Bool = resources_in xs in
    let within = entry_within r i (entry_count_in xs) below in
    ap (λ (k : Bool). entry_at k (xs ++ ys) (entry_offset k i)) (resources_front xs ys inside)
    ∙ entry_at_front r (entry_offset r i) xs ys (omega arith)

cons_same : {X : Type 0} (x y : X) (xs ys : List X) → x ≡ y → xs ≡ ys → x ∷ xs ≡ y ∷ ys
cons_same x y xs ys e f = cc

pub same_numbered : {X : Type 0} (f g : ℕ → X) (from count : ℕ)
    → ((i : ℕ) → from ≤ i → i < from + count → f i ≡ g i)
    → map f (range_with_len from count) ≡ map g (range_with_len from count)
same_numbered f g from zero each = refl
same_numbered f g from (suc count) each =
    cons_same (f from) (g from) (map f (range_with_len (from + 1) count))
    (map g (range_with_len (from + 1) count)) (each from (omega arith) (omega arith))
    (same_numbered f g (from + 1) count (λ i low high. each i (omega arith) (omega arith)))

whole : DatabaseHeader → ℕ → ℕ → List (Entry ℕ) → Database ℕ
whole header app sort entries =
    record { header = header; app_info = app; sort_info = sort; entries = entries }

same_whole : (h g : DatabaseHeader) (a b c e : ℕ) (xs ys : List (Entry ℕ)) → h ≡ g → a ≡ b → c ≡ e
    → xs ≡ ys → whole h a c xs ≡ whole g b e ys
same_whole h g a b c e xs ys p q r s = cc

pub database_front : (xs ys : List ℕ) → 78 ≤ length xs
    → entry_offset (resources_in xs) (entry_count_in xs) ≤ length xs
    → database_in (xs ++ ys) ≡ database_in xs
unfolding database_in whole
database_front xs ys inside ends =
    same_whole (header_in (xs ++ ys)) (header_in xs) (u32_at (xs ++ ys) 52) (u32_at xs 52)
    (u32_at (xs ++ ys) 56) (u32_at xs 56)
    (numbered (entry_in (xs ++ ys)) (entry_count_in (xs ++ ys)))
    (numbered (entry_in xs) (entry_count_in xs))
    (header_front xs ys inside) (u32_front 52 xs ys (omega arith))
    (u32_front 56 xs ys (omega arith))
    (ap (numbered (entry_in (xs ++ ys))) (count_front xs ys inside)
    ∙ same_numbered (entry_in (xs ++ ys)) (entry_in xs) 0 (entry_count_in xs)
    (λ i low high. entry_in_front xs ys i inside ends (omega arith)))

-- ---- a spelling with something after it

-- what the head of a file says that begins with the spelling of a database
pub record IsHeaded (file : List ℕ) (database : Database ℕ) : Type 0 where
  pub is : database_in file ≡ database
  pub resources : resources_in file ≡ has_resources database.header.attributes
  pub count : entry_count_in file ≡ length database.entries
  pub next_list : u32_at file 72 ≡ 0
  pub entry : (i : ℕ) (e : Entry ℕ) → i < length database.entries
      → entry_in file i ≡ get_or database.entries i e

pub spelled_heads : (d : Database ℕ) (rest : List ℕ) → DatabaseFits d
    → IsHeaded (spelled d ++ rest) d
spelled_heads d rest fits =
    let front : List ℕ = spelled d in
    let spells : IsSpelled d front = record { fits = fits; bytes_are = refl } in
    let shape = spelled_shape d front spells in
    let ends = shape.ends in
    let inside = shape.header in
    let count = count_read d fits in
    record {
      is = database_front front rest inside (omega arith) ∙ database_read d front spells;
      resources = resources_front front rest inside ∙ resources_read d fits;
      count = count_front front rest inside ∙ count;
      next_list = u32_front 72 front rest (omega arith) ∙ next_list_read d fits;
      entry = λ i e below. entry_in_front front rest i inside (omega arith) (omega arith)
          ∙ entry_read d i e fits below;
    }
