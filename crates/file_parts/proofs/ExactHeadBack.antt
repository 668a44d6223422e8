-- The head of a file is read back, whatever bytes come after its name and after its entries.
use Rattle.file_parts.proofs.AllWords.{◌≡◌, ℕ, zero, suc, ◌+◌, ◌*◌, ◌<◌, ◌≤◌, Bool, true, List, [], ◌∷◌, ◌++◌, length, take, refl, sym, ap, subst, ◌∙◌, arith, inl, inr, append_assoc, length-append, All, ◌⊎◌, ◌==◌, not, slice_index, concat, flat_map, take_while, ne_eqb, get_or_append_left, All-head, All-tail, take_while-cons, u16_at, u32_at, numbered, entry_size, Database, DatabaseFits, DatabaseHeader, Entry, database_in, entry_bytes, entry_count_in, entry_in, entry_offset, fields_behind_name, has_resources, header_bytes, header_in, name_field, name_in, resources_in, spelled, entry_behind, IsHeaded, same_numbered, spelled_heads}
use Rattle.laws_store.proofs.Names.{length-name_field}
use Rattle.laws_store.proofs.Numbers.{big_from-behind}

-- ---- the name

abbrev no_zero : ℕ → Bool
no_zero byte = not (byte == 0)

passes : (x : ℕ) → 0 < x → no_zero x ≡ true
passes x some = ap not (ne_eqb x 0 (λ e. omega arith))

ends_less : (n k x : ℕ) → (suc n ≡ suc k) ⊎ (x ≡ 0) → (n ≡ k) ⊎ (x ≡ 0)
ends_less n k x (inl full) = inl (omega arith)
ends_less n k x (inr none) = inr none

-- it ends at the number, or where the next byte is zero
name_ends : (name rest : List ℕ) (n : ℕ) → All (λ byte. 0 < byte) name → length name ≤ n
    → (n ≡ length name) ⊎ (slice_index rest 0 ≡ 0)
    → take_while no_zero (take n (name ++ rest)) ≡ name
name_ends [] rest zero all room ends = refl
name_ends [] [] (suc n) all room ends = refl
name_ends [] (x ∷ rest) (suc n) all room (inl full) = absurd (omega arith)
name_ends [] (x ∷ rest) (suc n) all room (inr none) = cc (take_while-cons no_zero x (take n rest))
name_ends (x ∷ name) rest zero all room ends = absurd (omega arith)
name_ends (x ∷ name) rest (suc n) all room ends =
    let first = take_while-cons no_zero x (take n (name ++ rest)) in
    let second = passes x (All-head (λ byte. 0 < byte) x name all) in
    let third = name_ends name rest n (All-tail (λ byte. 0 < byte) x name all) (omega arith)
    (ends_less n (length name) (slice_index rest 0) ends) in
    cc

-- These bytes come after the name in its field. The first of them is zero, unless the name has 31
-- bytes.
pub record AreAfter (name after : List ℕ) : Type 0 where
  pub room : length name + length after ≡ 32
  pub ends : (31 ≡ length name) ⊎ (slice_index after 0 ≡ 0)

ends_longer : (name after rest : List ℕ) → 0 < length after
    → (31 ≡ length name) ⊎ (slice_index after 0 ≡ 0)
    → (31 ≡ length name) ⊎ (slice_index (after ++ rest) 0 ≡ 0)
ends_longer name after rest some (inl full) = inl full
ends_longer name after rest some (inr none) = inr (get_or_append_left after rest 0 0 some ∙ none)

name_here : (name after rest : List ℕ) → All (λ byte. 0 < byte) name → length name < 32
    → AreAfter name after → name_in ((name ++ after) ++ rest) ≡ name
unfolding name_in
name_here name after rest all room are =
    let first = append_assoc name after rest in
    let second = name_ends name (after ++ rest) 31 all (omega arith)
    (ends_longer name after rest (omega arith) are.ends) in
    cc

-- ---- what comes after its field

u16_same : (field other back : List ℕ) (i : ℕ) → length field ≡ 32 → length other ≡ 32
    → u16_at (field ++ back) (32 + i) ≡ u16_at (other ++ back) (32 + i)
unfolding u16_at
u16_same field other back i one two =
    big_from-behind 32 2 i field back one ∙ sym (big_from-behind 32 2 i other back two)

u32_same : (field other back : List ℕ) (i : ℕ) → length field ≡ 32 → length other ≡ 32
    → u32_at (field ++ back) (32 + i) ≡ u32_at (other ++ back) (32 + i)
unfolding u32_at
u32_same field other back i one two =
    big_from-behind 32 4 i field back one ∙ sym (big_from-behind 32 4 i other back two)

made : List ℕ → ℕ → ℕ → ℕ → ℕ → ℕ → ℕ → ℕ → ℕ → ℕ → DatabaseHeader
made a b c d e f g h i j = record {
  name = a;
  attributes = b;
  version = c;
  creation_date = d;
  modification_date = e;
  backup_date = f;
  modification_number = g;
  kind = h;
  creator = i;
  seed = j;
}

same_made : (xs ys : List ℕ) (b c d e f g h i j k l m n o p q r s : ℕ) → xs ≡ ys → b ≡ k → c ≡ l
    → d ≡ m → e ≡ n → f ≡ o → g ≡ p → h ≡ q → i ≡ r → j ≡ s
    → made xs b c d e f g h i j ≡ made ys k l m n o p q r s
same_made xs ys b c d e f g h i j k l m n o p q r s e0 e1 e2 e3 e4 e5 e6 e7 e8 e9 = cc

header_same : (field other back : List ℕ) → length field ≡ 32 → length other ≡ 32
    → name_in (field ++ back) ≡ name_in (other ++ back)
    → header_in (field ++ back) ≡ header_in (other ++ back)
unfolding header_in made
header_same field other back one two named = same_made (name_in (field ++ back))
    (name_in (other ++ back)) _ _ _ _ _ _ _ _ _ _ _ _ _ _ _ _ _ _ named (u16_same field other back 0
    one two) (u16_same field other back 2 one two) (u32_same field other back 4 one two)
    (u32_same field other back 8 one two) (u32_same field other back 12 one two)
    (u32_same field other back 16 one two) (u32_same field other back 28 one two)
    (u32_same field other back 32 one two) (u32_same field other back 36 one two)

resources_same : (field other back : List ℕ) → length field ≡ 32 → length other ≡ 32
    → resources_in (field ++ back) ≡ resources_in (other ++ back)
resources_same field other back one two = ap has_resources (u16_same field other back 0 one two)

entry_same : (field other back : List ℕ) (i : ℕ) → length field ≡ 32 → length other ≡ 32
    → entry_in (field ++ back) i ≡ entry_in (other ++ back) i
entry_same field other back i one two =
    let r : Bool = resources_in (other ++ back) in
    let at : ℕ = 46 + entry_size r * i in
    let e : entry_offset r i ≡ 32 + at = omega arith in
    let first = resources_same field other back one two in
    cc (entry_behind r 32 at field back one, entry_behind r 32 at other back two)

whole : DatabaseHeader → ℕ → ℕ → List (Entry ℕ) → Database ℕ
whole header app sort entries =
    record { header = header; app_info = app; sort_info = sort; entries = entries }

same_whole : (h g : DatabaseHeader) (a b c e : ℕ) (xs ys : List (Entry ℕ)) → h ≡ g → a ≡ b → c ≡ e
    → xs ≡ ys → whole h a c xs ≡ whole g b e ys
same_whole h g a b c e xs ys p q r s = cc

database_same : (field other back : List ℕ) → length field ≡ 32 → length other ≡ 32
    → name_in (field ++ back) ≡ name_in (other ++ back)
    → database_in (field ++ back) ≡ database_in (other ++ back)
unfolding database_in whole
database_same field other back one two named =
    same_whole (header_in (field ++ back)) (header_in (other ++ back)) _ _ _ _
    (numbered (entry_in (field ++ back)) (entry_count_in (field ++ back)))
    (numbered (entry_in (other ++ back)) (entry_count_in (other ++ back)))
    (header_same field other back one two named) (u32_same field other back 20 one two)
    (u32_same field other back 24 one two)
    (ap (numbered (entry_in (field ++ back))) (u16_same field other back 44 one two)
    ∙ same_numbered (entry_in (field ++ back)) (entry_in (other ++ back)) 0
    (entry_count_in (other ++ back)) (λ i low high. entry_same field other back i one two))

-- ---- the head of a database, and other bytes after it

-- the bytes after the field of the name
abbrev pub back : Database ℕ → List ℕ → List ℕ
back d rest = concat (fields_behind_name d) ++ (flat_map entry_bytes d.entries ++ rest)

plain_is : (d : Database ℕ) (rest : List ℕ)
    → spelled d ++ rest ≡ name_field d.header.name ++ back d rest
unfolding spelled header_bytes
plain_is d rest = append_assoc (name_field d.header.name ++ concat (fields_behind_name d))
    (flat_map entry_bytes d.entries) rest ∙ append_assoc (name_field d.header.name)
    (concat (fields_behind_name d)) (flat_map entry_bytes d.entries ++ rest)

name_of : (file : List ℕ) (d : Database ℕ) → database_in file ≡ d → name_in file ≡ d.header.name
unfolding database_in header_in
name_of file d is = ap (λ x. x.header.name) is

pub headed : (d : Database ℕ) (after rest : List ℕ) → DatabaseFits d → AreAfter d.header.name after
    → IsHeaded ((d.header.name ++ after) ++ back d rest) d
headed d after rest fits are =
    let name : List ℕ = d.header.name in
    let field : List ℕ = name ++ after in
    let other : List ℕ = name_field name in
    let tail : List ℕ = back d rest in
    let plain : IsHeaded (other ++ tail) d =
    subst (λ file. IsHeaded file d) (plain_is d rest) (spelled_heads d rest fits) in
    let one : length field ≡ 32 = length-append name after ∙ are.room in
    let two : length other ≡ 32 = length-name_field name fits.name in
    let named : name_in (field ++ tail) ≡ name_in (other ++ tail) = name_here name after tail
    fits.name.none_zero fits.name.room are ∙ sym (name_of (other ++ tail) d plain.is) in
    record {
      is = database_same field other tail one two named ∙ plain.is;
      resources = resources_same field other tail one two ∙ plain.resources;
      count = u16_same field other tail 44 one two ∙ plain.count;
      next_list = u32_same field other tail 40 one two ∙ plain.next_list;
      entry = λ i e below. entry_same field other tail i one two ∙ plain.entry i e below;
    }
