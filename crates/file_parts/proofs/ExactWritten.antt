-- The parts of an exact file, as they are written one after the other.
use Rattle.file_parts.proofs.AllWords.{◌≡◌, ℕ, ◌+◌, ◌<◌, ◌≤◌, ◌++◌, Bool, true, false, None, List, [], ◌∷◌, length, get_or, drop, refl, sym, ap, subst, ◌∙◌, arith, append_assoc, add-one, drop-cons, concat, flat_map, drop_all, times, Entry, a_record, data_in, entry_bytes, entry_with, fields_behind_name, block_bytes, contained-times, times-some, Writing, Writes, then, stops, PackFault, ExactFile, exact_block, exact_blocks, exact_bytes, exact_offset, exact_placed, exact_size, exact_start, exact_tail, AreOffsets, HasValuesAt, IsOrdered, IsPlaceFault, IsRefusedFor, Blob}
use Rattle.file_parts.specs.declared.packing.PackFault.TheVariants as packs
use Rattle.file_parts.specs.declared.exact_writing.PlaceFault.TheVariants.{TooLarge}
use Rattle.file_parts.proofs.ExactOffsets.{length-placed, placed_at}
use Rattle.file_parts.proofs.ExactPlaces.{ArePlaced, blocks_of}
use Rattle.file_parts.proofs.ExactRanks.{get_or-same, rest_from}

-- ---- its order

-- the rank at an index is one of the file's
pub rank_inside : (exact : ExactFile) (i : ℕ) → IsOrdered exact → i < length exact.order
    → get_or exact.order i 0 < length (data_in exact.database)
rank_inside exact i ordered less = ordered.inside (get_or exact.order i 0)
    (times-some (get_or exact.order i 0) exact.order i 0 less refl)

-- ranks that are inside at each index
pub ordered_by : (exact : ExactFile)
    → ((i : ℕ) → i < length exact.order → get_or exact.order i 0 < length (data_in exact.database))
    → ((q : ℕ) → times q exact.order ≤ 1) → IsOrdered exact
ordered_by exact inside once = record {
  inside = λ rank some. (
      let found = contained-times rank exact.order some in
      subst (λ r. r < length (data_in exact.database))
      (get_or-same exact.order found.0 0 rank found.1 ∙ found.2) (inside found.0 found.1));
  once = once;
}

-- ---- its offsets and its size

pub blocks_whole : (exact : ExactFile)
    → blocks_of (exact_block exact) exact.order ≡ exact_blocks exact
unfolding exact_blocks
blocks_whole exact = refl

pub offsets_are : (exact : ExactFile) (offsets : List ℕ) (at : ℕ) → ArePlaced (exact_block exact)
    (exact_start exact) (length (data_in exact.database)) exact.order offsets at
    → AreOffsets exact offsets
offsets_are exact offsets at are =
    let room = are.room in
    record {
      count = room;
      each = λ rank inside. are.each rank (omega arith);
    }

pub size_placed : (exact : ExactFile) (offsets : List ℕ) (at : ℕ) → ArePlaced (exact_block exact)
    (exact_start exact) (length (data_in exact.database)) exact.order offsets at
    → at ≡ exact_size exact
size_placed exact offsets at are = cc (are.end, blocks_whole exact)

-- a file of at least this size is too large
pub place_fault : (part size : ℕ) (fault : PackFault) → part ≤ size → fault ≡ packs.TooLarge
    → IsRefusedFor part fault → IsPlaceFault size TooLarge
place_fault part size packs.TooLarge most is large = omega arith
place_fault part size (packs.BadLine line) most is large = absurd large
place_fault part size packs.OutOfMemory most is large = cc

-- ---- its entries

pub placed_count : (exact : ExactFile)
    → length (exact_placed exact).entries ≡ length exact.database.entries
placed_count exact = length-placed (exact_offset exact) 2 exact.database.entries

entry_rest : (es : List (Entry ℕ)) (i : ℕ) (e : Entry ℕ) → i < length es
    → drop i es ≡ get_or es i e ∷ drop (i + 1) es
entry_rest es i e inside = rw (add-one, drop-cons es i e) refl

-- the entry of an index, and those after it
pub entries_from : (exact : ExactFile) (i at : ℕ) (entry placed : Entry ℕ)
    → i < length exact.database.entries → HasValuesAt exact i entry
    → at ≡ exact_offset exact (2 + i) → placed ≡ entry_with (λ _. at) entry
    → flat_map entry_bytes (drop i (exact_placed exact).entries)
    ≡ entry_bytes placed ++ flat_map entry_bytes (drop (i + 1) (exact_placed exact).entries)
entries_from exact i at entry placed inside values at_is is =
    let es : List (Entry ℕ) = (exact_placed exact).entries in
    let e : Entry ℕ = a_record 0 0 0 in
    let many = placed_count exact in
    let here : get_or es i e ≡ placed = placed_at (exact_offset exact) 2 i exact.database.entries
    (a_record 0 0 None) e inside ∙ sym (values (exact_offset exact (2 + i)))
    ∙ ap (λ (n : ℕ). entry_with {Data = ℕ} (λ _. n) entry) (sym at_is) ∙ sym is in
    cc (entry_rest es i e (omega arith))

pub entries_none : (exact : ExactFile) (i : ℕ) → length exact.database.entries ≤ i
    → flat_map entry_bytes (drop i (exact_placed exact).entries) ≡ []
entries_none exact i past = let many = placed_count exact in
    cc (drop_all i (exact_placed exact).entries (omega arith))

-- ---- its blocks

-- the block of an index, and those after it
pub blocks_from : (exact : ExactFile) (i : ℕ) → i < length exact.order
    → blocks_of (exact_block exact) (drop i exact.order) ≡ block_bytes (exact_block exact
    (get_or exact.order i 0)) ++ blocks_of (exact_block exact) (drop (i + 1) exact.order)
blocks_from exact i inside = cc (rest_from exact.order i inside)

pub blocks_none : (exact : ExactFile) (i : ℕ) → length exact.order ≤ i
    → blocks_of (exact_block exact) (drop i exact.order) ≡ []
blocks_none exact i past = cc (drop_all i exact.order past)

-- ---- its bytes

abbrev pub name_text : ExactFile → List ℕ
name_text exact = exact.database.header.name ++ exact.after_name

abbrev pub fields_text : ExactFile → List ℕ
fields_text exact = concat (fields_behind_name (exact_placed exact))

abbrev pub entries_text : ExactFile → List ℕ
entries_text exact = flat_map entry_bytes (exact_placed exact).entries

bytes_is : (exact : ExactFile) → name_text exact ++ (fields_text exact
    ++ (entries_text exact ++ exact_tail exact)) ≡ exact_bytes exact
unfolding exact_bytes
bytes_is exact = append_assoc exact.database.header.name exact.after_name
    (fields_text exact ++ (entries_text exact ++ exact_tail exact))

-- what is written in parts, up to one that fails or to the end
module _ {W : Type 0} (contents : W → Blob) (exact : ExactFile) (old named : Writing W) where
  pub stops_name : Writes contents old named (name_text exact) false
      → Writes contents old named (exact_bytes exact) false
  stops_name name = subst (λ text. Writes contents old named text false) (bytes_is exact)
      (stops contents old named (name_text exact) _ name)

  after_name : (new : Writing W) (ok : Bool) → Writes contents old named (name_text exact) true
      → Writes contents named new (fields_text exact ++ (entries_text exact ++ exact_tail exact)) ok
      → Writes contents old new (exact_bytes exact) ok
  after_name new ok name more = subst (λ text. Writes contents old new text ok) (bytes_is exact)
      (then contents old named new (name_text exact) _ ok name more)

  pub stops_fields : (new : Writing W) → Writes contents old named (name_text exact) true
      → Writes contents named new (fields_text exact) false
      → Writes contents old new (exact_bytes exact) false
  stops_fields new name fields =
      after_name new false name (stops contents named new (fields_text exact) _ fields)

  pub stops_entries : (headed new : Writing W) → Writes contents old named (name_text exact) true
      → Writes contents named headed (fields_text exact) true
      → Writes contents headed new (entries_text exact) false
      → Writes contents old new (exact_bytes exact) false
  stops_entries headed new name fields entries =
      after_name new false name (then contents named headed new (fields_text exact) _ false fields
      (stops contents headed new (entries_text exact) _ entries))

  pub all_written : (headed listed new : Writing W) (ok : Bool)
      → Writes contents old named (name_text exact) true
      → Writes contents named headed (fields_text exact) true
      → Writes contents headed listed (entries_text exact) true
      → Writes contents listed new (exact_tail exact) ok
      → Writes contents old new (exact_bytes exact) ok
  all_written headed listed new ok name fields entries tail =
      after_name new ok name (then contents named headed new (fields_text exact) _ ok fields
      (then contents headed listed new (entries_text exact) _ ok entries tail))
