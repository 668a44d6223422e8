-- No heap has room for a block of 4 GiB.
use Rattle.pdb_files.proofs.Words.{◌≡◌, ℕ, zero, suc, ◌-◌, ◌^◌, ◌<◌, ◌≤◌, Option, Some, None, List, [], ◌∷◌, ◌++◌, length, get_or, map, set, refl, sym, ap, ◌∙◌, arith, inl, inr, ◌⊎◌, All, cases_lt, length-map, get_or-map, All-nil, All-cons, All-set, Memory, need, rooms, name_in, most_databases, Accepted, store_of, IsTaken, entries_end, blocks_in, HasNoFault, makings, listing_part, size_of_block, block_sizes, DoesInStore, Import, NotEnoughSpace, refused, bytes_at, IsBlockWithin, Block, size_within, IsShort, size_at}
use Rattle.heap_model.specs.Rooms.{Part, Stuck}
use Rattle.heap_model.specs.declared.call.Call.TheVariants as calls
use Rattle.heap_model.specs.declared.call.Reply.TheVariants as replies
use Rattle.laws_heap.proofs.Fits.{short_beyond}
use Rattle.pdb_files.proofs.Refusals.{good_brings}

-- ---- rooms

-- no room reaches a size, or one does
reached : (left : List ℕ) (size : ℕ)
    → All (λ room. room < size) left ⊎ ((k : ℕ) × (k < length left) × (size ≤ get_or left k 0))
reached [] size = inl (All-nil (λ room. room < size))
reached (room ∷ left) size = elim (cases_lt room size) [
  | inr enough ↦ inr (0, omega arith, omega arith)
  | inl less ↦ elim (reached left size) [
    | inl none ↦ inl (All-cons (λ room. room < size) room left less none)
    | inr some ↦ let inside = some.1 in inr (suc some.0, omega arith, some.2)
  ]
]

-- if each room is below 4 GiB, and a chunk needs 4 GiB or more, the parts run out of room
stuck : (left : List ℕ) (sizes : List (Option ℕ)) (more : List Part) (k n : ℕ)
    → All (λ room. room < 2 ^ 32) left → k < length sizes → get_or sizes k None ≡ Some n
    → 2 ^ 32 ≤ n → Stuck left (makings sizes ++ more)
stuck left [] more k n low inside is long = absurd (omega arith)
stuck left (None ∷ sizes) more zero n low inside is long = absurd cc
stuck left (None ∷ sizes) more (suc k) n low inside is long =
    stuck left sizes more k n low (omega arith) is long
stuck left (Some size ∷ sizes) more zero n low inside is long =
    let same : size ≡ n = ap (λ (o : Option ℕ). number size o) is in
    inl (λ i d below. (let room = low i d below in omega arith)) where
      number : ℕ → Option ℕ → ℕ
      number other None = other
      number other (Some m) = m
stuck left (Some size ∷ sizes) more (suc k) n low inside is long = elim (reached left (need size)) [
  | inl none ↦ inl none
  | inr some ↦
      let at : ℕ = some.0 in
      let lowered : List ℕ = set left at (get_or left at 0 - need size) in
      let room = low at 0 some.1 in
      inr (
        lowered,
        record { stretch = at; inside = some.1; reaches = some.2; lower = refl },
        stuck lowered sizes more k n (All-set (λ room. room < 2 ^ 32) left at
            (get_or left at 0 - need size) (omega arith) low) (omega arith) is long,
      )
]

-- ---- blocks

record IsLong (blocks : List (Option Block)) : Type 0 where
  rank : ℕ
  inside : rank < length blocks
  size : ℕ
  is : size_within (get_or blocks rank None) ≡ Some size
  long : 2 ^ 32 ≤ size

long_found : (blocks : List (Option Block)) → (All IsShort blocks → ⊥) → IsLong blocks
long_found [] not_all = absurd (not_all (All-nil IsShort))
long_found (None ∷ blocks) not_all =
    let later = long_found blocks (λ all. not_all (All-cons IsShort None blocks tt all)) in
    let inside = later.inside in
    record {
      rank = suc later.rank;
      inside = omega arith;
      size = later.size;
      is = later.is;
      long = later.long;
    }
long_found (Some block ∷ blocks) not_all = elim (cases_lt (block.end - block.start) (2 ^ 32)) [
  | inl short ↦
      let later =
      long_found blocks (λ all. not_all (All-cons IsShort (Some block) blocks short all)) in
      let inside = later.inside in
      record {
        rank = suc later.rank;
        inside = omega arith;
        size = later.size;
        is = later.is;
        long = later.long;
      }
  | inr long ↦ record {
    rank = 0;
    inside = omega arith;
    size = block.end - block.start;
    is = refl;
    long = omega arith;
  }
]

-- ---- the refusal

pub no_room_for_long : (old : Memory) (file : List ℕ) (blocks : List (Option Block))
    → Accepted old.bytes → HasNoFault file → (IsTaken (store_of old.bytes) 0 (name_in file) → ⊥)
    → length (store_of old.bytes).databases < most_databases
    → map (bytes_at file) blocks ≡ blocks_in file → All (IsBlockWithin (length file)) blocks
    → (All IsShort blocks → ⊥)
    → DoesInStore old (calls.File (Import file)) (replies.Refused NotEnoughSpace) old
no_room_for_long old file blocks a good free few are within not_all =
    let long = long_found blocks not_all in
    let inside = long.inside in
    let same = sym (length-map blocks (bytes_at file)) ∙ ap length are in
    let many = length-map (blocks_in file) size_of_block in
    let size : get_or (block_sizes file) long.rank None ≡ Some long.size =
    get_or-map size_of_block (blocks_in file) long.rank None None (omega arith)
    ∙ sym (size_at file blocks long.rank (Some long.size) are within inside (sym long.is)) in
    let lacks : Stuck (rooms old.bytes)
    (makings (Some (entries_end file) ∷ block_sizes file) ++ listing_part old.bytes ∷ []) =
    stuck (rooms old.bytes) (Some (entries_end file) ∷ block_sizes file)
    (listing_part old.bytes ∷ []) (suc long.rank) long.size
    (short_beyond old.bytes (2 ^ 32) a.heap (omega arith)) (omega arith) size long.long in
    refused old (calls.File (Import file)) NotEnoughSpace a (good_brings file _ NotEnoughSpace good
    (inr (free, inr ((λ most. omega arith), inr (tt, inl (inr lacks, refl))))))
