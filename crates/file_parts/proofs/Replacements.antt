-- A file with one of its blocks replaced.
use Rattle.file_parts.proofs.AllWords.{◌≡◌, ℕ, zero, suc, ◌+◌, ◌<◌, Bool, true, false, Option, Some, None, List, [], ◌∷◌, length, get_or, map, refl, sym, ap, ◌∙◌, arith, ◌==◌, eqb-true, get_or-map, length-map, Database, Entry, a_record, a_resource, data_in, entry_data, entry_with, ExactFile, exact_block, block_replaced, entries_replaced, file_replaced}

-- ---- its entries

pub length-replaced : (at : ℕ) (bytes : List ℕ) (rank : ℕ) (es : List (Entry (Option (List ℕ))))
    → length (entries_replaced at bytes rank es) ≡ length es
length-replaced at bytes rank [] = refl
length-replaced at bytes rank (e ∷ es) = let ih = length-replaced at bytes (rank + 1) es in
    omega arith

pub replaced_at : (at : ℕ) (bytes : List ℕ) (rank k : ℕ) (es : List (Entry (Option (List ℕ))))
    (d e : Entry (Option (List ℕ))) → k < length es → get_or (entries_replaced at bytes rank es) k d
    ≡ entry_with (block_replaced at bytes (rank + k)) (get_or es k e)
replaced_at at bytes rank k [] d e inside = absurd (omega arith)
replaced_at at bytes rank zero (x ∷ es) d e inside =
    let same : rank ≡ rank + 0 = omega arith in
    ap (λ (r : ℕ). entry_with {Data = Option (List ℕ)} (block_replaced at bytes r) x) same
replaced_at at bytes rank (suc k) (x ∷ es) d e inside =
    let next : rank + 1 + k ≡ rank + suc k = omega arith in
    replaced_at at bytes (rank + 1) k es d e (omega arith) ∙ ap (λ r.
    entry_with {Data = Option (List ℕ)} (block_replaced at bytes r) (get_or es k e)) next

some_none : (bytes : List ℕ) → Some bytes ≡ None → ⊥
some_none bytes e = cc

-- ---- a block

pub replaced_here : (at : ℕ) (bytes : List ℕ) (rank : ℕ) (block : Option (List ℕ))
    → (rank == at) ≡ true → block_replaced at bytes rank block ≡ Some bytes
replaced_here at bytes rank block is = rw is refl

pub replaced_else : (at : ℕ) (bytes : List ℕ) (rank : ℕ) (block : Option (List ℕ))
    → (rank == at) ≡ false → block_replaced at bytes rank block ≡ block
replaced_else at bytes rank block is = rw is refl

-- a block that is replaced is there
pub replaced_none : (at : ℕ) (bytes : List ℕ) (rank : ℕ) (block : Option (List ℕ))
    → block_replaced at bytes rank block ≡ None → block ≡ None
replaced_none at bytes rank block none = by_test (rank == at) refl where
  by_test : (v : Bool) → (rank == at) ≡ v → block ≡ None
  by_test true is = absurd (some_none bytes (sym (replaced_here at bytes rank block is) ∙ none))
  by_test false is = sym (replaced_else at bytes rank block is) ∙ none

-- ---- its blocks

data_of : (f : Option (List ℕ) → Option (List ℕ)) (e : Entry (Option (List ℕ)))
    → entry_data (entry_with f e) ≡ f (entry_data e)
data_of f (a_record attributes id block) = refl
data_of f (a_resource kind id block) = refl

none_entry : Entry (Option (List ℕ))
none_entry = a_record 0 0 None

data_replaced : (at : ℕ) (bytes : List ℕ) (rank k : ℕ) (es : List (Entry (Option (List ℕ))))
    → k < length es → get_or (map entry_data (entries_replaced at bytes rank es)) k None
    ≡ block_replaced at bytes (rank + k) (get_or (map entry_data es) k None)
data_replaced at bytes rank k es inside =
    let long = length-replaced at bytes rank es in
    get_or-map (entry_data {Data = Option (List ℕ)}) (entries_replaced at bytes rank es) k
    none_entry None (omega arith) ∙ ap (entry_data {Data = Option (List ℕ)})
    (replaced_at at bytes rank k es none_entry none_entry inside) ∙ data_of (block_replaced at bytes
    (rank + k)) (get_or es k none_entry) ∙ ap (block_replaced at bytes (rank + k))
    (sym (get_or-map (entry_data {Data = Option (List ℕ)}) es k none_entry None inside))

-- the block of a rank
pub block_there : (exact : ExactFile) (at : ℕ) (bytes : List ℕ) (rank : ℕ)
    → rank < length (data_in exact.database) → exact_block (file_replaced exact at bytes) rank
    ≡ block_replaced at bytes rank (exact_block exact rank)
block_there exact at bytes zero inside = refl
block_there exact at bytes (suc zero) inside = refl
block_there exact at bytes (suc (suc k)) inside =
    let long = length-map exact.database.entries (entry_data {Data = Option (List ℕ)}) in
    let next : 2 + k ≡ suc (suc k) = omega arith in
    data_replaced at bytes 2 k exact.database.entries (omega arith) ∙ ap (λ r.
    block_replaced at bytes r (get_or (map entry_data exact.database.entries) k None)) next

pub block_count : (exact : ExactFile) (at : ℕ) (bytes : List ℕ)
    → length (data_in (file_replaced exact at bytes).database) ≡ length (data_in exact.database)
block_count exact at bytes =
    let long = length-map exact.database.entries (entry_data {Data = Option (List ℕ)}) in
    let more = length-map (entries_replaced at bytes 2 exact.database.entries)
    (entry_data {Data = Option (List ℕ)}) in
    let same = length-replaced at bytes 2 exact.database.entries in
    omega arith

-- ---- the block that is there

same_block : (at : ℕ) (bytes : List ℕ) (rank : ℕ) (block : Option (List ℕ))
    → (rank ≡ at → block ≡ Some bytes) → block_replaced at bytes rank block ≡ block
same_block at bytes rank block is = by_test (rank == at) refl where
  by_test : (v : Bool) → (rank == at) ≡ v → block_replaced at bytes rank block ≡ block
  by_test true here = rw here (sym (is (eqb-true rank at here)))
  by_test false other = rw other refl

same_entry : (f : Option (List ℕ) → Option (List ℕ)) (e : Entry (Option (List ℕ)))
    → f (entry_data e) ≡ entry_data e → entry_with f e ≡ e
same_entry f (a_record attributes id block) is = ap (a_record attributes id) is
same_entry f (a_resource kind id block) is = ap (λ (b : Option (List ℕ)). a_resource kind id b) is

same_entries : (at : ℕ) (bytes : List ℕ) (rank : ℕ) (es : List (Entry (Option (List ℕ))))
    → ((k : ℕ) → k < length es → rank + k ≡ at → get_or (map entry_data es) k None ≡ Some bytes)
    → entries_replaced at bytes rank es ≡ es
same_entries at bytes rank [] is = refl
same_entries at bytes rank (e ∷ es) is =
    let first = same_entry (block_replaced at bytes rank) e
    (same_block at bytes rank (entry_data e) (λ here. is 0 (omega arith) (omega arith))) in
    ap (λ (x : Entry (Option (List ℕ))). x ∷ entries_replaced at bytes (rank + 1) es) first
    ∙ ap (λ xs. e ∷ xs)
    (same_entries at bytes (rank + 1) es (λ k inside here. is (suc k) (omega arith) (omega arith)))

whole : ExactFile → Option (List ℕ) → Option (List ℕ) → List (Entry (Option (List ℕ))) → ExactFile
whole exact app sort entries = record {
  database = record {
    header = exact.database.header;
    app_info = app;
    sort_info = sort;
    entries = entries;
  };
  after_name = exact.after_name;
  filler = exact.filler;
  order = exact.order;
}

-- putting the block that is there changes nothing
pub same_file : (exact : ExactFile) (at : ℕ) (bytes : List ℕ) → exact_block exact at ≡ Some bytes
    → file_replaced exact at bytes ≡ exact
unfolding whole
same_file exact at bytes is =
    let d : Database (Option (List ℕ)) = exact.database in
    let app = block_replaced at bytes 0 d.app_info in
    let sort = block_replaced at bytes 1 d.sort_info in
    ap (whole exact app sort) (same_entries at bytes 2 d.entries (λ k inside here. later k here))
    ∙ ap (λ (b : Option (List ℕ)). whole exact app b d.entries)
    (same_block at bytes 1 d.sort_info (λ here. ap (exact_block exact) here ∙ is))
    ∙ ap (λ (b : Option (List ℕ)). whole exact b d.sort_info d.entries)
    (same_block at bytes 0 d.app_info (λ here. ap (exact_block exact) here ∙ is))
  where
    later : (k : ℕ) → 2 + k ≡ at
        → get_or (map entry_data exact.database.entries) k None ≡ Some bytes
    later k here =
        let next : suc (suc k) ≡ at = omega arith in
        ap (exact_block exact) next ∙ is
