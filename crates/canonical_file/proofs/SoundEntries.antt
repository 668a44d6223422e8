-- The sound ones among the first entries of a file, counted or appended one by one, are all in the
-- end.
use Rattle.std.proofs.Common.{◌≡◌, ℕ, ◌+◌, ◌≤◌, Bool, true, false, cond, List, [], ◌∷◌, ◌++◌, length, take, drop, refl, sym, ap, ◌∙◌, arith, append_assoc, length-append}
use Rattle.std.specs.Prelude.{filter}
use Rattle.std.specs.List.{flat_map}
use Rattle.std.proofs.lemmas.List.{append-nil, take-append-drop}
use Rattle.std.proofs.lemmas.List.Concat.{flat_map-append}
use Rattle.std.proofs.lemmas.List.Elements.{filter-append}
use Rattle.std.proofs.lemmas.List.FromFn.{filter_of_map_range_with_len_more, take-map-range_with_len}
use Rattle.heap_model.specs.Lists.{numbered}
use Rattle.heap_model.specs.Database.{Entry, entry_bytes, entry_in}
use Rattle.canonical_file.specs.Salvage.{is_sound_entry, sound_in, whole_entries}

-- the sound ones of the first entries
abbrev pub first_sound : List ℕ → ℕ → List (Entry ℕ)
first_sound file count = filter (is_sound_entry file) (numbered (entry_in file) count)

sound_more : (file : List ℕ) (index : ℕ)
    → first_sound file (index + 1)
    ≡ first_sound file index
    ++ cond (is_sound_entry file (entry_in file index)) (entry_in file index ∷ []) []
sound_more file index =
    filter_of_map_range_with_len_more (is_sound_entry file) (entry_in file) 0 index index
    (omega arith)

pub one_sound : (file : List ℕ) (index : ℕ) (entry : Entry ℕ) → entry ≡ entry_in file index
    → is_sound_entry file entry ≡ true
    → first_sound file (index + 1) ≡ first_sound file index ++ entry ∷ []
one_sound file index entry is sound =
    sound_more file index
    ∙ ap (λ (e : Entry ℕ). first_sound file index ++ cond (is_sound_entry file e) (e ∷ []) [])
    (sym is)
    ∙ ap (λ (b : Bool). first_sound file index ++ cond b (entry ∷ []) []) sound

pub none_sound : (file : List ℕ) (index : ℕ) (entry : Entry ℕ) → entry ≡ entry_in file index
    → is_sound_entry file entry ≡ false → first_sound file (index + 1) ≡ first_sound file index
none_sound file index entry is sound =
    sound_more file index
    ∙ ap (λ (e : Entry ℕ). first_sound file index ++ cond (is_sound_entry file e) (e ∷ []) [])
    (sym is)
    ∙ ap (λ (b : Bool). first_sound file index ++ cond b (entry ∷ []) []) sound
    ∙ append-nil (first_sound file index)

pub all_sound : (file : List ℕ) → first_sound file (whole_entries file) ≡ (sound_in file).entries
unfolding sound_in
all_sound file = refl

-- ---- their number

pub count_more : (file : List ℕ) (index count : ℕ) (entry : Entry ℕ) (b : Bool)
    → count ≡ length (first_sound file index) → entry ≡ entry_in file index
    → b ≡ is_sound_entry file entry → b ≡ true
    → count + 1 ≡ length (first_sound file (index + 1))
count_more file index count entry b same is test sound =
    let more = ap length (one_sound file index entry is (sym test ∙ sound)) in
    let both = length-append (first_sound file index) (entry ∷ []) in
    omega arith

pub count_stays : (file : List ℕ) (index count : ℕ) (entry : Entry ℕ) (b : Bool)
    → count ≡ length (first_sound file index) → entry ≡ entry_in file index
    → b ≡ is_sound_entry file entry → b ≡ false
    → count ≡ length (first_sound file (index + 1))
count_stays file index count entry b same is test sound =
    same ∙ sym (ap length (none_sound file index entry is (sym test ∙ sound)))

pub count_all : (file : List ℕ) (index count : ℕ) → count ≡ length (first_sound file index)
    → index ≡ whole_entries file → count ≡ length (sound_in file).entries
count_all file index count same all =
    same ∙ ap (λ (n : ℕ). length (first_sound file n)) all ∙ ap length (all_sound file)

-- ---- their bytes

abbrev pub first_bytes : List ℕ → ℕ → List ℕ
first_bytes file index = flat_map entry_bytes (first_sound file index)

pub bytes_more : (file : List ℕ) (index : ℕ) (entry : Entry ℕ) (b : Bool) (more : List ℕ)
    → entry ≡ entry_in file index → b ≡ is_sound_entry file entry → b ≡ true
    → more ≡ entry_bytes entry
    → first_bytes file (index + 1) ≡ first_bytes file index ++ more
bytes_more file index entry b more is test sound here =
    ap (flat_map entry_bytes) (one_sound file index entry is (sym test ∙ sound))
    ∙ flat_map-append entry_bytes (first_sound file index) (entry ∷ [])
    ∙ ap (λ (xs : List ℕ). first_bytes file index ++ xs) (append-nil (entry_bytes entry) ∙ sym here)

pub bytes_stay : (file : List ℕ) (index : ℕ) (entry : Entry ℕ) (b : Bool)
    → entry ≡ entry_in file index → b ≡ is_sound_entry file entry → b ≡ false
    → first_bytes file (index + 1) ≡ first_bytes file index
bytes_stay file index entry b is test sound =
    ap (flat_map entry_bytes) (none_sound file index entry is (sym test ∙ sound))

pub text_more : (file before now next more : List ℕ) (index : ℕ)
    → now ≡ before ++ first_bytes file index → next ≡ now ++ more
    → first_bytes file (index + 1) ≡ first_bytes file index ++ more
    → next ≡ before ++ first_bytes file (index + 1)
text_more file before now next more index so_far appended is =
    appended
    ∙ ap (λ (xs : List ℕ). xs ++ more) so_far
    ∙ append_assoc before (first_bytes file index) more
    ∙ ap (λ (xs : List ℕ). before ++ xs) (sym is)

pub long_more : (file more : List ℕ) (index : ℕ)
    → first_bytes file (index + 1) ≡ first_bytes file index ++ more
    → length (first_bytes file (index + 1)) ≡ length (first_bytes file index) + length more
long_more file more index is = ap length is ∙ length-append (first_bytes file index) more

pub bytes_all : (file : List ℕ) (index : ℕ) → index ≡ whole_entries file
    → first_bytes file index ≡ flat_map entry_bytes (sound_in file).entries
bytes_all file index all = ap (first_bytes file) all ∙ ap (flat_map entry_bytes) (all_sound file)

-- the first ones are at the front of all
front_of : (file : List ℕ) (index : ℕ) → index ≤ whole_entries file
    → (rest : List (Entry ℕ))
    × (first_sound file (whole_entries file) ≡ first_sound file index ++ rest)
front_of file index inside =
    let xs = numbered (entry_in file) (whole_entries file) in
    let kept = is_sound_entry file in (
      filter kept (drop index xs),
      ap (filter kept) (sym (take-append-drop index xs))
          ∙ filter-append kept (take index xs) (drop index xs)
          ∙ ap (λ (ys : List (Entry ℕ)). filter kept ys ++ filter kept (drop index xs))
          (take-map-range_with_len (entry_in file) 0 (whole_entries file) index inside),
    )

pub front_fits : (file : List ℕ) (index : ℕ) → index ≤ whole_entries file
    → length (first_bytes file index) ≤ length (flat_map entry_bytes (sound_in file).entries)
front_fits file index inside =
    let front = front_of file index inside in
    let is = ap (λ (es : List (Entry ℕ)). length (flat_map entry_bytes es))
    (sym (all_sound file) ∙ front.1) in
    let both = ap length (flat_map-append entry_bytes (first_sound file index) front.0) in
    let parts = length-append (first_bytes file index) (flat_map entry_bytes front.0) in
    omega arith
