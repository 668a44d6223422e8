-- Offsets that are found for one rank after the other.
use Rattle.file_parts.proofs.AllWords.{◌≡◌, ℕ, ◌+◌, ◌<◌, ◌≤◌, List, [], ◌∷◌, ◌++◌, length, get_or, take, drop, sym, ap, subst, ◌∙◌, arith, inl, inr, append-nil, length-append, replicate, flat_map, set, cases_eq, get_or-replicate, get_or-set_same, get_or-set_other, length-replicate, length-set, take-append-drop, take_more, flat_map-append, times, block_bytes, same-yes, times-append, times-cons, offset_among, Blob}
use Rattle.file_parts.proofs.ExactOffsets.{offset_last, offset_other}
use Rattle.file_parts.proofs.ExactRanks.{rest_from}

-- the blocks of ranks, one after the other
abbrev pub blocks_of : (ℕ → Blob) → List ℕ → List ℕ
blocks_of block ranks = flat_map (λ rank. block_bytes (block rank)) ranks

-- The offsets of the first ranks are in their places, and the next block begins at `at`.
pub record ArePlaced (block : ℕ → Blob) (start count : ℕ) (front offsets : List ℕ)
    (at : ℕ) : Type 0 where
  pub room : length offsets ≡ count
  pub each : (rank : ℕ) → rank < count → get_or offsets rank 0 ≡ offset_among block start front rank
  pub end : at ≡ start + length (blocks_of block front)

pub placed_none : (block : ℕ → Blob) (start count : ℕ) (offsets : List ℕ) (at : ℕ)
    → offsets ≡ replicate count 0 → at ≡ start → ArePlaced block start count [] offsets at
placed_none block start count offsets at is begin = record {
  room = ap length is ∙ length-replicate count 0;
  each = λ rank inside. ap (λ xs. get_or xs rank 0) is ∙ get_or-replicate count rank 0 0 inside;
  end = omega arith;
}

placed_more : (block : ℕ → Blob) (start count : ℕ) (front offsets bytes : List ℕ) (at rank new : ℕ)
    → ArePlaced block start count front offsets at → rank < count → times rank front ≡ 0
    → bytes ≡ block_bytes (block rank) → new ≡ at + length bytes
    → ArePlaced block start count (front ++ rank ∷ []) (set offsets rank at) new
placed_more block start count front offsets bytes at rank new are inside none is end =
    let room = are.room in
    let here = are.end in
    let whole = ap length (flat_map-append (λ (r : ℕ). block_bytes (block r)) front (rank ∷ []))
    ∙ length-append (blocks_of block front) (blocks_of block (rank ∷ [])) in
    let last : length (blocks_of block (rank ∷ [])) ≡ length bytes =
    ap length (append-nil (block_bytes (block rank)) ∙ sym is) in
    record {
      room = length-set offsets rank at ∙ room;
      each = λ k less. elim (cases_eq k rank) [
        | inl same ↦ subst (λ j. get_or (set offsets rank at) j 0 ≡ offset_among block start
            (front ++ rank ∷ []) j) (sym same) (get_or-set_same offsets rank at 0 (omega arith)
            ∙ here ∙ sym (offset_last block start front rank none))
        | inr other ↦ get_or-set_other offsets rank k at 0 other ∙ are.each k less
            ∙ sym (offset_other block start front rank k (λ e. other (sym e)))
      ];
      end = omega arith;
    }

-- a rank that is there once isn't among those before it
none_before : (ranks : List ℕ) (i rank : ℕ) → i < length ranks → rank ≡ get_or ranks i 0
    → times rank ranks ≤ 1 → times rank (take i ranks) ≡ 0
none_before ranks i rank inside is once =
    let whole = ap (times rank) (sym (take-append-drop i ranks))
    ∙ times-append rank (take i ranks) (drop i ranks) in
    let rest = ap (times rank) (rest_from ranks i inside) in
    let cons = times-cons rank (get_or ranks i 0) (drop (i + 1) ranks) in
    omega (arith, same-yes (get_or ranks i 0) rank (sym is))

-- the next rank gets its offset
pub placed_next : (block : ℕ → Blob) (start count : ℕ) (ranks offsets bytes : List ℕ)
    (i at rank new : ℕ) → ArePlaced block start count (take i ranks) offsets at → i < length ranks
    → rank ≡ get_or ranks i 0 → rank < count → times rank ranks ≤ 1
    → bytes ≡ block_bytes (block rank) → new ≡ at + length bytes
    → ArePlaced block start count (take (i + 1) ranks) (set offsets rank at) new
placed_next block start count ranks offsets bytes i at rank new are before here inside once is end =
    let next : take (i + 1) ranks ≡ take i ranks ++ rank ∷ [] = cc (take_more ranks i 0 before) in
    subst (λ front. ArePlaced block start count front (set offsets rank at) new) (sym next)
    (placed_more block start count (take i ranks) offsets bytes at rank new are inside
    (none_before ranks i rank before here once) is end)

-- a block and those before it are among all blocks
pub size_before : (block : ℕ → Blob) (ranks bytes : List ℕ) (i rank : ℕ) → i < length ranks
    → rank ≡ get_or ranks i 0 → bytes ≡ block_bytes (block rank)
    → length (blocks_of block (take i ranks)) + length bytes ≤ length (blocks_of block ranks)
size_before block ranks bytes i rank inside here is =
    let f : ℕ → List ℕ = λ r. block_bytes (block r) in
    let whole = ap (λ xs. length (flat_map f xs)) (sym (take-append-drop i ranks))
    ∙ ap length (flat_map-append f (take i ranks) (drop i ranks))
    ∙ length-append (flat_map f (take i ranks)) (flat_map f (drop i ranks)) in
    let rest = ap (λ xs. length (flat_map f xs)) (rest_from ranks i inside)
    ∙ length-append (f (get_or ranks i 0)) (flat_map f (drop (i + 1) ranks)) in
    let one : length bytes ≡ length (f (get_or ranks i 0)) = ap length (is ∙ ap f here) in
    omega arith
