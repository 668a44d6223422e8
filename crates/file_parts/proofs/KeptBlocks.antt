-- Blocks in list order: their offsets, and the bytes of a file that has them in this order.
use Rattle.file_parts.proofs.AllWords.{◌≡◌, ℕ, zero, suc, ◌+◌, ◌-◌, ◌<◌, ◌++◌, Bool, true, false, Some, None, List, [], ◌∷◌, length, get_or, map, refl, sym, ap, ◌∙◌, arith, append_assoc, is_some, replicate, concat, flat_map, range_with_len, eq-eqb, ne_eqb, length-map, fill_by_all, Database, DatabaseHeader, Entry, a_record, a_resource, data_in, entry_bytes, entry_data, fields_behind_name, header_bytes, name_field, spelled, block_bytes, block_size, entries_with_offsets, with_offsets, all_bytes, running, ExactFile, entries_placed, exact_blocks, exact_bytes, exact_offset, exact_placed, exact_start, offset_among, is_other, order_of, Blob, cases_Bool, passing, inl, inr}
use Rattle.file_parts.proofs.ExactBlocks.{at_first, at_next, at_rank}
use Rattle.file_parts.proofs.ExactBlocksBack.{offset_none}
use Rattle.file_parts.proofs.ExactInside.{times_below}

-- ---- the offsets of some blocks, by the ranks of those that are there

passed : (test : ℕ → Bool) (from n : ℕ) → test from ≡ false
    → passing test from (suc n) ≡ passing test (from + 1) n
passed test from n is = rw is refl

taken : (test : ℕ → Bool) (from n : ℕ) → test from ≡ true
    → passing test from (suc n) ≡ from ∷ passing test (from + 1) n
taken test from n is = rw is refl

module _ (block : ℕ → Blob) (test : ℕ → Bool) (are : (r : ℕ) → test r ≡ is_some (block r)) where
  -- the first of the blocks isn't there
  none_first : (n from at k : ℕ) → k < suc n
      → ((j : ℕ) → j < n → offset_among block at (passing test (from + 1) n) (from + 1 + j)
      ≡ get_or (running at (map block (range_with_len (from + 1) n))) j 0)
      → offset_among block at (passing test (from + 1) n) (from + k)
      ≡ get_or (0 ∷ running (at + 0) (map block (range_with_len (from + 1) n))) k 0
  none_first n from at zero less more = offset_none block at (passing test (from + 1) n) (from + 0)
      (times_below test (from + 0) (from + 1) n (omega arith))
  none_first n from at (suc j) less more =
      let next : from + suc j ≡ from + 1 + j = omega arith in
      let same : at ≡ at + 0 = omega arith in
      cc (more j (omega arith))

  -- it is there
  some_first : (n from at k : ℕ) (bytes : List ℕ) → block from ≡ Some bytes → k < suc n
      → ((j : ℕ) → j < n → offset_among block (at + length bytes) (passing test (from + 1) n) (from
      + 1 + j) ≡ get_or (running (at + length bytes) (map block (range_with_len (from + 1) n))) j 0)
      → offset_among block at (from ∷ passing test (from + 1) n) (from + k)
      ≡ get_or (at ∷ running (at + length bytes) (map block (range_with_len (from + 1) n))) k 0
  some_first n from at zero bytes is less more =
      let here : from ≡ from + 0 = omega arith in
      rw (eq-eqb from (from + 0) here) refl
  some_first n from at (suc j) bytes is less more =
      let next : from + suc j ≡ from + 1 + j = omega arith in
      rw (ne_eqb from (from + suc j) (λ e. (omega arith))) (ap (λ m. offset_among block (at + m)
      (passing test (from + 1) n) (from + suc j)) (ap block_size is) ∙ ap (offset_among block
      (at + length bytes) (passing test (from + 1) n)) next ∙ more j (omega arith))

  by_first : (n from at k : ℕ) → k < suc n → (v : Blob) → block from ≡ v
      → ((start j : ℕ) → j < n → offset_among block start (passing test (from + 1) n) (from + 1 + j)
      ≡ get_or (running start (map block (range_with_len (from + 1) n))) j 0)
      → offset_among block at (passing test from (suc n)) (from + k)
      ≡ get_or (running at (map block (range_with_len from (suc n)))) k 0
  by_first n from at k less None is more =
      cc (passed test from n (are from ∙ ap is_some is), none_first n from at k less (more at))
  by_first n from at k less (Some bytes) is more =
      let first = taken test from n (are from ∙ ap is_some is) in
      cc (some_first n from at k bytes is less (more (at + length bytes)))

  listed_offset : (n from at k : ℕ) → k < n → offset_among block at (passing test from n) (from + k)
      ≡ get_or (running at (map block (range_with_len from n))) k 0
  listed_offset zero from at k inside = absurd (omega arith)
  listed_offset (suc n) from at k inside = by_first n from at k inside (block from) refl
      (λ start j less. listed_offset n (from + 1) start j less)

  by_bytes : (n from : ℕ) → (v : Blob) → block from ≡ v → flat_map (λ r. block_bytes (block r))
      (passing test (from + 1) n) ≡ all_bytes (map block (range_with_len (from + 1) n))
      → flat_map (λ r. block_bytes (block r)) (passing test from (suc n))
      ≡ all_bytes (map block (range_with_len from (suc n)))
  by_bytes n from None is more = cc (passed test from n (are from ∙ ap is_some is))
  by_bytes n from (Some bytes) is more = cc (taken test from n (are from ∙ ap is_some is))

  listed_bytes : (n from : ℕ) → flat_map (λ r. block_bytes (block r)) (passing test from n)
      ≡ all_bytes (map block (range_with_len from n))
  listed_bytes zero from = refl
  listed_bytes (suc n) from = by_bytes n from (block from) refl (listed_bytes n (from + 1))

-- ---- the ranks of blocks in list order

listed_test : (blocks : List Blob) (r : ℕ) → is_other blocks [] r ≡ is_some (get_or blocks r None)
listed_test blocks r = elim (cases_Bool (is_some (get_or blocks r None))) [
  | inl is ↦ rw is refl
  | inr is ↦ rw is refl
]

all_blocks : (blocks : List Blob) → map (at_rank blocks) (range_with_len 0 (length blocks)) ≡ blocks
all_blocks blocks =
    sym (fill_by_all (at_rank blocks) blocks (length blocks) None refl (λ k inside. refl))

-- the offsets of blocks in list order
pub order_offset : (blocks : List Blob) (at k : ℕ) → k < length blocks
    → offset_among (at_rank blocks) at (order_of blocks []) k ≡ get_or (running at blocks) k 0
order_offset blocks at k inside =
    let same : k ≡ 0 + k = omega arith in
    let first = listed_offset (at_rank blocks) (is_other blocks []) (listed_test blocks)
    (length blocks) 0 at k inside in
    cc (all_blocks blocks)

-- their bytes
pub order_bytes : (blocks : List Blob)
    → flat_map (λ r. block_bytes (get_or blocks r None)) (order_of blocks []) ≡ all_bytes blocks
order_bytes blocks = listed_bytes (at_rank blocks) (is_other blocks []) (listed_test blocks)
    (length blocks) 0 ∙ ap all_bytes (all_blocks blocks)

-- ---- a file whose blocks are in list order

entries_listed : (place : ℕ → ℕ) (rank at : ℕ) (es : List (Entry Blob))
    → ((k : ℕ) → k < length es → place (rank + k) ≡ get_or (running at (map entry_data es)) k 0)
    → entries_placed place rank es ≡ entries_with_offsets at es
entries_listed place rank at [] each = refl
entries_listed place rank at (a_record a id block ∷ es) each =
    let first = at_first place rank _ (each 0 (omega arith)) in
    let second = entries_listed place (rank + 1) (at + block_size block) es
    (λ k less. at_next place rank k _ (each (suc k) (omega arith))) in
    cc
entries_listed place rank at (a_resource kind id block ∷ es) each =
    let first = at_first place rank _ (each 0 (omega arith)) in
    let second = entries_listed place (rank + 1) (at + block_size block) es
    (λ k less. at_next place rank k _ (each (suc k) (omega arith))) in
    cc

whole : DatabaseHeader → ℕ → ℕ → List (Entry ℕ) → Database ℕ
whole header app sort entries =
    record { header = header; app_info = app; sort_info = sort; entries = entries }

offset_listed : (exact : ExactFile) (k : ℕ) → exact.order ≡ order_of (data_in exact.database) []
    → k < length (data_in exact.database)
    → exact_offset exact k ≡ get_or (running (exact_start exact) (data_in exact.database)) k 0
offset_listed exact k is inside =
    cc (order_offset (data_in exact.database) (exact_start exact) k inside)

pub placed_listed : (exact : ExactFile) → exact.order ≡ order_of (data_in exact.database) []
    → exact_placed exact ≡ with_offsets (exact_start exact) exact.database
unfolding whole
placed_listed exact is =
    let d : Database Blob = exact.database in
    let at : ℕ = exact_start exact in
    let sort : ℕ = at + block_size d.app_info in
    let long = length-map d.entries (entry_data {Data = Blob}) in
    let entries = entries_listed (exact_offset exact) 2 (sort + block_size d.sort_info) d.entries
    (λ k less. (let next : 2 + k ≡ suc (suc k) = omega arith in
    cc (offset_listed exact (2 + k) is (omega arith)))) in
    cc (offset_listed exact 0 is (omega arith), offset_listed exact 1 is (omega arith))

blocks_listed : (exact : ExactFile) → exact.order ≡ order_of (data_in exact.database) []
    → exact_blocks exact ≡ all_bytes (data_in exact.database)
unfolding exact_blocks
blocks_listed exact is = cc (order_bytes (data_in exact.database))

name_plain : (name rest : List ℕ)
    → name_field name ++ rest ≡ name ++ (replicate (32 - length name) 0 ++ rest)
unfolding name_field
name_plain name rest = append_assoc name (replicate (32 - length name) 0) rest

spelled_parts : (d : Database ℕ) (rest : List ℕ)
    → spelled d ++ rest ≡ d.header.name ++ (replicate (32 - length d.header.name) 0
    ++ (concat (fields_behind_name d) ++ (flat_map entry_bytes d.entries ++ rest)))
unfolding spelled header_bytes
spelled_parts d rest = append_assoc (name_field d.header.name ++ concat (fields_behind_name d))
    (flat_map entry_bytes d.entries) rest ∙ append_assoc (name_field d.header.name)
    (concat (fields_behind_name d)) (flat_map entry_bytes d.entries ++ rest)
    ∙ name_plain d.header.name
    (concat (fields_behind_name d) ++ (flat_map entry_bytes d.entries ++ rest))

-- the bytes of a file in list order, with zeros after its name
pub bytes_listed : (exact : ExactFile) → exact.order ≡ order_of (data_in exact.database) []
    → exact.after_name ≡ replicate (32 - length exact.database.header.name) 0
    → exact_bytes exact ≡ spelled (with_offsets (exact_start exact) exact.database) ++ (exact.filler
    ++ all_bytes (data_in exact.database))
unfolding exact_bytes
bytes_listed exact is plain =
    let d : Database Blob = exact.database in
    let placed : Database ℕ = exact_placed exact in
    let tail : List ℕ = exact.filler ++ exact_blocks exact in
    cc (spelled_parts placed tail, placed_listed exact is, blocks_listed exact is)
