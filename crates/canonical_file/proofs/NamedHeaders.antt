-- The header of the sound parts is read from the file's header with a name.
use Rattle.std.proofs.Common.{◌≡◌, ℕ, ◌+◌, ◌≤◌, List, ◌++◌, length, take, drop, refl, sym, ap, ◌∙◌, arith}
use Rattle.std.specs.Prelude.{slice_range}
use Rattle.std.proofs.lemmas.List.{drop-take, take_at}
use Rattle.byteorder.specs.Endian.{big_from}
use Rattle.byteorder.specs.Numbers.{big_from-take}
use Rattle.heap_model.specs.Bytes.{u16_at, u32_at}
use Rattle.heap_model.specs.Database.{DatabaseHeader, name_field, name_in, header_in, database_in}
use Rattle.laws_store.proofs.Names.{length-name_field, name_read}
use Rattle.laws_store.proofs.Numbers.{big_from-behind, big_from-drop}
use Rattle.db_format.specs.Headers.{IsHeaderOf, header_values}
use Rattle.db_format.specs.declared.header.DbHeader.{DbHeader}
use Rattle.canonical_file.specs.Mended.{named_header}
use Rattle.canonical_file.specs.Salvage.{sound_header, sound_in, sound_info, sound_name}
use Rattle.canonical_file.proofs.SoundParts.{sound_named}

-- the name's field, and the rest of the header
pub named_parts : (file name front rest : List ℕ) → front ≡ name_field name
    → name ≡ sound_name (name_in file) → rest ≡ drop 32 (take 78 file)
    → front ++ rest ≡ named_header file
named_parts file name front rest field is after =
    ap (λ (xs : List ℕ). xs ++ rest) (field ∙ ap name_field is)
    ∙ ap (λ (xs : List ℕ). name_field (sound_name (name_in file)) ++ xs)
    (after ∙ drop-take 32 46 file)

-- a number after the name is that of the file
number_there : (file : List ℕ) (i n : ℕ) → i + n ≤ 46
    → big_from (32 + i) n (named_header file) ≡ big_from (32 + i) n file
number_there file i n inside =
    let name : List ℕ = name_field (sound_name (name_in file)) in
    let rest : List ℕ = take 46 (drop 32 file) in
    big_from-behind 32 n i name rest (length-name_field _ (sound_named file))
    ∙ big_from-take i n 46 (drop 32 file) inside
    ∙ big_from-drop i n 32 file

u16_there : (file : List ℕ) (i : ℕ) → i + 2 ≤ 46
    → u16_at (named_header file) (32 + i) ≡ u16_at file (32 + i)
unfolding u16_at
u16_there file i inside = number_there file i 2 inside

u32_there : (file : List ℕ) (i : ℕ) → i + 4 ≤ 46
    → u32_at (named_header file) (32 + i) ≡ u32_at file (32 + i)
unfolding u32_at
u32_there file i inside = number_there file i 4 inside

pub named_name : (file : List ℕ) → name_in (named_header file) ≡ sound_name (name_in file)
named_name file =
    let name : List ℕ = sound_name (name_in file) in
    let valid = sound_named file in
    let long : 32 ≡ length (name_field name) = sym (length-name_field name valid) in
    name_read name (named_header file) valid
    (ap (λ (n : ℕ). take n (named_header file)) long
    ∙ take_at (name_field name) (slice_range file 32 78) (length (name_field name)) refl)

made : List ℕ → ℕ → ℕ → ℕ → ℕ → ℕ → ℕ → ℕ → ℕ → ℕ → DatabaseHeader
made a b c d e f g h i j = record {
  name = a;
  attributes = b;
  version = c;
  creation_date = d;
  modification_date = e;
  backup_date = f;
  modification_number = g;
  kind = h;
  creator = i;
  seed = j;
}

same_made : (xs ys : List ℕ) (b c d e f g h i j k l m n o p q r s : ℕ) → xs ≡ ys → b ≡ k → c ≡ l
    → d ≡ m → e ≡ n → f ≡ o → g ≡ p → h ≡ q → i ≡ r → j ≡ s
    → made xs b c d e f g h i j ≡ made ys k l m n o p q r s
same_made xs ys b c d e f g h i j k l m n o p q r s e0 e1 e2 e3 e4 e5 e6 e7 e8 e9 = cc

pub named_values : (file : List ℕ) → header_in (named_header file) ≡ sound_header file
unfolding header_in made
named_values file =
    same_made (name_in (named_header file))
    (sound_name (name_in file)) _ _ _ _ _ _ _ _ _ _ _ _ _ _ _ _ _ _ (named_name file)
    (u16_there file 0 (omega arith)) (u16_there file 2 (omega arith))
    (u32_there file 4 (omega arith)) (u32_there file 8 (omega arith))
    (u32_there file 12 (omega arith))
    (u32_there file 16 (omega arith)) (u32_there file 28 (omega arith))
    (u32_there file 32 (omega arith)) (u32_there file 36 (omega arith))

-- ---- the header with the offsets of the sound parts

header_of_read : (file : List ℕ) → (database_in (named_header file)).header ≡ sound_header file
unfolding database_in
header_of_read file = named_values file

app_of_read : (file : List ℕ) → (database_in (named_header file)).app_info ≡ u32_at file 52
unfolding database_in
app_of_read file = u32_there file 20 (omega arith)

sort_of_read : (file : List ℕ) → (database_in (named_header file)).sort_info ≡ u32_at file 56
unfolding database_in
sort_of_read file = u32_there file 24 (omega arith)

pub sound_head : (file : List ℕ) (read header : DbHeader)
    → IsHeaderOf (database_in (named_header file)) read → header_values header ≡ header_values read
    → header.app_info ≡ sound_info file read.app_info
    → header.sort_info ≡ sound_info file read.sort_info
    → header.entry_count ≡ length (sound_in file).entries → IsHeaderOf (sound_in file) header
unfolding sound_in
sound_head file read header is values app sort count = record {
  values = values ∙ is.values ∙ header_of_read file;
  app_info = app ∙ ap (sound_info file) (is.app_info ∙ app_of_read file);
  sort_info = sort ∙ ap (sound_info file) (is.sort_info ∙ sort_of_read file);
  entry_count = count;
}
