-- Each entry that is salvaged is one of the file.
use Rattle.std.proofs.Common.{◌≡◌, ℕ, zero, suc, ◌+◌, ◌<◌, ◌≤◌, Bool, true, false, Option, None, List, [], ◌∷◌, length, take, drop, get_or, min, refl, sym, ap, subst, ◌∙◌, arith, inl, inr}
use Rattle.std.specs.Prelude.{All, filter, if◌then◌else◌, nat_le, nat_lt}
use Rattle.std.specs.List.{AllZip, fold}
use Rattle.std.proofs.lemmas.Bool.{leb-true, ltb-true}
use Rattle.std.proofs.lemmas.List.{get_or-map, length-map}
use Rattle.std.proofs.lemmas.List.Elements.{All-append, filter_passes}
use Rattle.std.proofs.lemmas.List.FromFn.{length-map-range_with_len, get_or-map-range_with_len}
use Rattle.laws_heap.proofs.Tests.{true_or_false}
use Rattle.heap_model.specs.Lists.{numbered}
use Rattle.heap_model.specs.Database.{Database, Entry, a_record, entry_data, data_in, entry_in}
use Rattle.heap_model.specs.Files.{IsReadAs, starts_behind}
use Rattle.pdb_format.proofs.LeastOffsets.{least_most}
use Rattle.pdb_format.proofs.Zips.{zip_at, zip_long}
use Rattle.canonical_file.specs.Salvage.{is_sound_entry, sound_block, sound_blocks, sound_end, sound_in, sound_offsets, whole_entries}
use Rattle.canonical_file.specs.SalvageLaws.{AreFrom, IsKeptFrom, SalvagedEntriesAreTheFiles}
use Rattle.canonical_file.proofs.SoundParts.{IsNoneOrInside, kept_offsets}

-- ---- an element that is kept is one of the list

filter_yes : (test : Entry ℕ → Bool) (x : Entry ℕ) (xs : List (Entry ℕ)) → test x ≡ true
    → filter test (x ∷ xs) ≡ x ∷ filter test xs
filter_yes test x xs e = ap (λ (b : Bool). if b then x ∷ filter test xs else filter test xs) e

filter_no : (test : Entry ℕ → Bool) (x : Entry ℕ) (xs : List (Entry ℕ)) → test x ≡ false
    → filter test (x ∷ xs) ≡ filter test xs
filter_no test x xs e = ap (λ (b : Bool). if b then x ∷ filter test xs else filter test xs) e

found : (test : Entry ℕ → Bool) (xs : List (Entry ℕ)) (k : ℕ) (d : Entry ℕ)
    → k < length (filter test xs)
    → (j : ℕ) × (j < length xs) × (get_or (filter test xs) k d ≡ get_or xs j d)
found test [] k d inside = absurd (omega arith)
found test (x ∷ xs) zero d inside = elim (true_or_false (test x)) [
  | inl here ↦
      (0, omega arith, ap (λ (ys : List (Entry ℕ)). get_or ys 0 d) (filter_yes test x xs here))
  | inr gone ↦
      let is = filter_no test x xs gone in
      let later = found test xs zero d (subst (λ (ys : List (Entry ℕ)). 0 < length ys) is inside) in
      (suc later.0, omega (arith, later.1), ap (λ (ys : List (Entry ℕ)). get_or ys 0 d) is ∙ later.2)
]
found test (x ∷ xs) (suc k) d inside = elim (true_or_false (test x)) [
  | inl here ↦
      let is = filter_yes test x xs here in
      let more = subst (λ (ys : List (Entry ℕ)). suc k < length ys) is inside in
      let later = found test xs k d (omega (arith, more)) in
      (suc later.0, omega (arith, later.1), ap (λ (ys : List (Entry ℕ)). get_or ys (suc k) d) is ∙ later.2)
  | inr gone ↦
      let is = filter_no test x xs gone in
      let later = found test xs (suc k) d (rw is at inside) in
      (suc later.0, omega (arith, later.1), ap (λ (ys : List (Entry ℕ)). get_or ys (suc k) d) is ∙ later.2)
]

-- ---- the entries

sound_list : List ℕ → List (Entry ℕ)
sound_list file = filter (is_sound_entry file) (numbered (entry_in file) (whole_entries file))

sound_list_is : (file : List ℕ) → (sound_in file).entries ≡ sound_list file
unfolding sound_in sound_list
sound_list_is file = refl

kept_index : (file : List ℕ) (k : ℕ) (d : Entry ℕ) → k < length (sound_list file)
    → (j : ℕ) × (j < whole_entries file) × (get_or (sound_list file) k d ≡ entry_in file j)
unfolding sound_list
kept_index file k d inside =
    let long = length-map-range_with_len (entry_in file) 0 (whole_entries file) in
    let one =
    found (is_sound_entry file) (numbered (entry_in file) (whole_entries file)) k d inside in
    let below : one.0 < whole_entries file = omega (arith, one.1, long) in
    (one.0, below, one.2 ∙ get_or-map-range_with_len (entry_in file) 0 (whole_entries file) one.0 one.0 d below (omega arith))

kept_sound : (file : List ℕ) (k : ℕ) (d : Entry ℕ) → k < length (sound_list file)
    → is_sound_entry file (get_or (sound_list file) k d) ≡ true
unfolding sound_list
kept_sound file k d inside =
    filter_passes (is_sound_entry file) (numbered (entry_in file) (whole_entries file)) k d inside

-- ---- their bytes

low_fold : (low first : ℕ) (xs : List ℕ) → low ≤ first → All (λ x. low ≤ x) xs
    → low ≤ fold min first xs
low_fold low first [] least all = least
low_fold low first (x ∷ xs) least all =
    let here = all 0 x (omega arith) in
    low_fold low (min first x) xs (omega arith) (λ k d inside. all (suc k) d (omega arith))

starts_after : (offsets : List ℕ) (rank at : ℕ) → All (λ x. at ≤ x) (starts_behind offsets rank at)
starts_after offsets rank at =
    All-append (λ x. at ≤ x) (filter (nat_lt at) (take rank offsets))
    (filter (nat_le at) (drop (rank + 1) offsets))
    (λ k d inside.
    (let less = ltb-true at (get_or (filter (nat_lt at) (take rank offsets)) k d) (filter_passes (nat_lt at) (take rank offsets) k d inside) in omega arith))
    (λ k d inside.
    leb-true at (get_or (filter (nat_le at) (drop (rank + 1) offsets)) k d)
    (filter_passes (nat_le at) (drop (rank + 1) offsets) k d inside))

from_there : (file : List ℕ) (rank at : ℕ) → IsNoneOrInside file at
    → AreFrom file at (sound_block file rank at)
from_there file rank zero within = refl
from_there file rank (suc at) (inl none) = absurd (omega arith)
from_there file rank (suc at) (inr inside) = (
  sound_end file rank (suc at),
  low_fold (suc at) (length file) _ inside.1 (starts_after (sound_offsets file) rank (suc at)),
  least_most (length file) (starts_behind (sound_offsets file) rank (suc at)),
  refl,
)

-- ---- the law

pub data_at : (file : List ℕ) (d : Database (Option (List ℕ))) (k : ℕ) (e : Entry (Option (List ℕ)))
    (s : Entry ℕ)
    → data_in d ≡ sound_blocks file → length d.entries ≡ length (sound_in file).entries
    → k < length d.entries
    → (entry_data (get_or d.entries k e) ≡ sound_block file (2 + k) (get_or (sound_offsets file) (2 + k) 0))
    × (get_or (sound_offsets file) (2 + k) 0 ≡ entry_data (get_or (sound_in file).entries k s))
    × (2 + k < length (sound_offsets file))
data_at file d k e s blocks same inside =
    let long = length-map (sound_in file).entries (entry_data {Data = ℕ}) in
    let rank : 2 + k ≡ suc (suc k) = omega arith in
    let below : 2 + k < length (sound_offsets file) = omega arith in (
      sym (get_or-map (entry_data {Data = Option (List ℕ)}) d.entries k e None inside)
          ∙ ap (λ (n : ℕ). get_or (data_in d) n None) (sym rank)
          ∙ ap (λ (xs : List (Option (List ℕ))). get_or xs (2 + k) None) blocks
          ∙ get_or-map-range_with_len (λ r. sound_block file r (get_or (sound_offsets file) r 0)) 0
          (length (sound_offsets file)) (2 + k) (2 + k) None below (omega arith),
      ap (λ (n : ℕ). get_or (sound_offsets file) n 0) rank
          ∙ get_or-map (entry_data {Data = ℕ}) (sound_in file).entries k s 0 (omega arith),
      below,
    )

kept_from : (file : List ℕ) (d : Database (Option (List ℕ))) (k : ℕ) (e : Entry (Option (List ℕ)))
    → AllZip IsReadAs (sound_in file).entries d.entries → data_in d ≡ sound_blocks file
    → k < length d.entries → IsKeptFrom file (get_or d.entries k e)
kept_from file d k e entries blocks inside =
    let s : Entry ℕ = a_record 0 0 0 in
    let same = zip_long IsReadAs (sound_in file).entries d.entries entries in
    let list = sound_list_is file in
    let listed = ap length list in
    let index = kept_index file k s (omega arith) in
    let here : get_or (sound_in file).entries k s ≡ entry_in file index.0 =
    ap (λ (es : List (Entry ℕ)). get_or es k s) list ∙ index.2 in
    let read = zip_at IsReadAs (sound_in file).entries d.entries k s e entries (omega arith) in
    let parts = data_at file d k e s blocks (sym same) inside in
    let at = parts.1 ∙ ap (entry_data {Data = ℕ}) here in
    let from = from_there file (2 + k) _ (kept_offsets file (2 + k) 0 parts.2) in
    record {
      index = index.0;
      whole = index.1;
      sound = rw index.2 at (kept_sound file k s (omega arith));
      values = subst (λ (x : Entry ℕ). IsReadAs x (get_or d.entries k e)) here read;
      bytes =
          rw at at (subst (AreFrom file (get_or (sound_offsets file) (2 + k) 0)) (sym parts.0) from);
    }

pub kept_entries : SalvagedEntriesAreTheFiles
kept_entries rule file d entry header is among =
    subst (IsKeptFrom file) among.2 (kept_from file d among.0 entry is.entries is.blocks among.1)
