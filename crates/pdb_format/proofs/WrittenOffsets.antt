-- Blocks that follow each other in a file have rising offsets, and each ends where the next begins.
use Rattle.std.proofs.Common.{◌≡◌, ℕ, ◌+◌, ◌<◌, ◌≤◌, Bool, true, false, cond, Option, Some, None, List, [], ◌∷◌, ◌++◌, length, take, drop, refl, sym, ap, ◌∙◌, arith, length-append}
use Rattle.std.specs.Prelude.{min, nat_lt, nat_le, filter}
use Rattle.std.specs.List.{flat_map, fold}
use Rattle.std.proofs.lemmas.Bool.{le-ltb}
use Rattle.std.proofs.lemmas.Grind.{flat_map-append}
use Rattle.std.proofs.lemmas.List.{take_at, drop_at, drop-drop}
use Rattle.heap_model.specs.Files.{starts_behind, block_bytes, block_size, block_offset}
use Rattle.laws_heap.proofs.Tests.{leb-is-true, lt-leb-false}

-- the bytes of some blocks, one after the other
abbrev pub all_bytes : List (Option (List ℕ)) → List ℕ
all_bytes blocks = flat_map block_bytes blocks

-- the offsets of some blocks, the first of which would be at an offset
abbrev pub running : ℕ → List (Option (List ℕ)) → List ℕ
running at [] = []
running at (block ∷ blocks) = block_offset at block ∷ running (at + block_size block) blocks

pub size_more : (block : Option (List ℕ)) (blocks : List (Option (List ℕ)))
    → length (all_bytes (block ∷ blocks)) ≡ block_size block + length (all_bytes blocks)
size_more block blocks = length-append (block_bytes block) (all_bytes blocks)

pub length-running : (at : ℕ) (blocks : List (Option (List ℕ)))
    → length (running at blocks) ≡ length blocks
length-running at [] = refl
length-running at (block ∷ blocks) =
    let ih = length-running (at + block_size block) blocks in omega arith

onto : ℕ → List ℕ → List ℕ
onto x xs = x ∷ xs

pub running-append : (at : ℕ) (xs ys : List (Option (List ℕ)))
    → running at (xs ++ ys) ≡ running at xs ++ running (at + length (all_bytes xs)) ys
unfolding onto
running-append at [] ys = let e : at ≡ at + 0 = omega arith in ap (λ (k : ℕ). running k ys) e
running-append at (x ∷ xs) ys =
    let more = size_more x xs in
    let e : at + block_size x + length (all_bytes xs) ≡ at + length (all_bytes (x ∷ xs)) =
    omega arith in
    ap (onto (block_offset at x))
    (running-append (at + block_size x) xs ys
    ∙ ap (λ (k : ℕ). running (at + block_size x) xs ++ running k ys) e)

pub offset_most : (at : ℕ) (block : Option (List ℕ)) → block_offset at block ≤ at
offset_most at None = omega arith
offset_most at (Some bytes) = omega arith

-- ---- where a block ends

passed_over : (test : ℕ → Bool) (x : ℕ) (xs : List ℕ) → test x ≡ false
    → filter test (x ∷ xs) ≡ filter test xs
passed_over test x xs e = ap (λ (b : Bool). cond b (x ∷ filter test xs) (filter test xs)) e

kept : (test : ℕ → Bool) (x : ℕ) (xs : List ℕ) → test x ≡ true
    → filter test (x ∷ xs) ≡ x ∷ filter test xs
kept test x xs e = ap (λ (b : Bool). cond b (x ∷ filter test xs) (filter test xs)) e

-- no block before an offset begins after it
none_before : (o at : ℕ) (blocks : List (Option (List ℕ))) → at + length (all_bytes blocks) ≤ o
    → filter (nat_lt o) (running at blocks) ≡ []
none_before o at [] inside = refl
none_before o at (block ∷ blocks) inside =
    let more = size_more block blocks in
    let most = offset_most at block in
    passed_over (nat_lt o) (block_offset at block) (running (at + block_size block) blocks)
    (le-ltb o (block_offset at block) (omega arith))
    ∙ none_before o (at + block_size block) blocks (omega arith)

-- no block after an offset begins before it
none_sooner : (o n m : ℕ) (blocks : List (Option (List ℕ))) → 0 < o → o ≤ m → n ≤ m
    → fold min n (filter (nat_le o) (running m blocks)) ≡ n
none_sooner o n m [] some low high = refl
none_sooner o n m (None ∷ blocks) some low high =
    ap (fold min n)
    (passed_over (nat_le o) 0 (running (m + block_size None) blocks) (lt-leb-false o 0 some))
    ∙ none_sooner o n (m + block_size None) blocks some (omega arith) (omega arith)
none_sooner o n m (Some bytes ∷ blocks) some low high =
    let least : min n m ≡ n = omega arith in
    ap (fold min n) (kept (nat_le o) m (running (m + length bytes) blocks) (leb-is-true o m low))
    ∙ ap (λ (k : ℕ). fold min k (filter (nat_le o) (running (m + length bytes) blocks))) least
    ∙ none_sooner o n (m + length bytes) blocks some (omega arith) (omega arith)

-- the first of them begins where they all begin; if there is none, they all end there
first_next : (o m last : ℕ) (blocks : List (Option (List ℕ))) → 0 < o → o ≤ m
    → last ≡ m + length (all_bytes blocks)
    → fold min last (filter (nat_le o) (running m blocks)) ≡ m
first_next o m last [] some low ends = omega arith
first_next o m last (None ∷ blocks) some low ends =
    let e : m + block_size None ≡ m = omega arith in
    ap (fold min last)
    (passed_over (nat_le o) 0 (running (m + block_size None) blocks) (lt-leb-false o 0 some))
    ∙ ap (λ (k : ℕ). fold min last (filter (nat_le o) (running k blocks))) e
    ∙ first_next o m last blocks some low ends
first_next o m last (Some bytes ∷ blocks) some low ends =
    let least : min last m ≡ m = omega arith in
    ap (fold min last) (kept (nat_le o) m (running (m + length bytes) blocks) (leb-is-true o m low))
    ∙ ap (λ (k : ℕ). fold min k (filter (nat_le o) (running (m + length bytes) blocks))) least
    ∙ none_sooner o m (m + length bytes) blocks some (omega arith) (omega arith)

empty : List ℕ
empty = []

-- the block after some others ends where those after it begin
pub end_found : (at last : ℕ) (before after : List (Option (List ℕ))) (block : Option (List ℕ))
    → 0 < at → last ≡ at + length (all_bytes (before ++ block ∷ after))
    → fold min last (starts_behind (running at (before ++ block ∷ after)) (length before) (at + length (all_bytes before)))
    ≡ at + length (all_bytes before) + block_size block
unfolding empty
end_found at last before after block some ends =
    let o : ℕ = at + length (all_bytes before) in
    let offsets : List ℕ = running at (before ++ block ∷ after) in
    let parts = running-append at before (block ∷ after) in
    let long = length-running at before in
    let all = ap length (flat_map-append block_bytes before (block ∷ after))
    ∙ length-append (all_bytes before) (all_bytes (block ∷ after)) in
    let more = size_more block after in
    let front : take (length before) offsets ≡ running at before = ap (take (length before)) parts
    ∙ take_at (running at before) (running o (block ∷ after)) (length before) long in
    let back : drop (length before + 1) offsets ≡ running (o + block_size block) after =
    sym (drop-drop 1 (length before) offsets)
    ∙ ap (drop 1)
    (ap (drop (length before)) parts
    ∙ drop_at (running at before) (running o (block ∷ after)) (length before) long) in
    ap (λ (xs : List ℕ). fold min last
    (filter (nat_lt o) xs ++ filter (nat_le o) (drop (length before + 1) offsets))) front
    ∙ ap (λ (xs : List ℕ). fold min last
    (xs ++ filter (nat_le o) (drop (length before + 1) offsets)))
    (none_before o at before (omega arith))
    ∙ ap (λ (xs : List ℕ). fold min last (filter (nat_le o) xs)) back
    ∙ first_next o (o + block_size block) last after (omega arith) (omega arith) (omega arith)
