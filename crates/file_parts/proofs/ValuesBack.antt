-- If a file without fault is exactly what is listed by values, no value is refused.
use Rattle.file_parts.proofs.AllWords.{subst, ◌≡◌, ℕ, ◌+◌, ◌^◌, ◌<◌, Bool, true, false, Option, None, List, [], ◌∷◌, ◌++◌, length, get_or, take, sym, ap, ◌∙◌, arith, inl, inr, length-append, All, filter, is_some, slice_index, range_with_len, get_or_append_left, take-append-le, All-cons, All-head, All-nil, All-tail, AreBytes, Database, Entry, a_record, a_resource, IsDatabaseName, data_in, entry_with, has_resources, IsWritableEntry, block_count, offset_count, filled, filled_entries, part_at, with_parts, IsExactly, exact_database, exact_of_parts, is_other, IsNoExactFile, valued_text}
use Rattle.file_parts.proofs.ExactFits.{all_writable, count_small, database_same}
use Rattle.file_parts.proofs.ExactFolders.{names_are}
use Rattle.file_parts.proofs.ExactNames.{after_right}
use Rattle.file_parts.proofs.ExactPackedBack.{some_filled}
use Rattle.file_parts.proofs.ExactRanks.{AreThereAs, free_here, true_false}
use Rattle.file_parts.proofs.ExactSpelled.{order_sorted}
use Rattle.file_parts.proofs.PackedEntries.{length-filled}
use Rattle.file_parts.proofs.PackedFiles.{block_with, count_with}

-- ---- an entry is good without its data

none_filled : (bytes : List ℕ) (part : Option (List ℕ)) → part ≡ None → filled bytes part ≡ None
none_filled bytes part none = ap (filled bytes) none

no_part : (bytes : List ℕ) (part : Option (List ℕ)) → (filled bytes part ≡ None → ⊥) → part ≡ None
    → ⊥
no_part bytes part some none = some (none_filled bytes part none)

one_unfilled : (r : Bool) (bytes : List ℕ) (e : Entry (Option (List ℕ)))
    → IsWritableEntry r (entry_with (filled bytes) e) → IsWritableEntry r e
one_unfilled false bytes (a_record attributes id part) is =
    (is.0, is.1, λ none. is.2 (none_filled bytes _ none))
one_unfilled true bytes (a_record attributes id part) is = absurd is
one_unfilled false bytes (a_resource kind id part) is = absurd is
one_unfilled true bytes (a_resource kind id part) is = (is.0, is.1, no_part bytes part is.2)

all_unfilled : (r : Bool) (parts : List (List ℕ)) (rank : ℕ) (es : List (Entry (Option (List ℕ))))
    → All (IsWritableEntry r) (filled_entries parts rank es) → All (IsWritableEntry r) es
all_unfilled r parts rank [] all = All-nil (IsWritableEntry r)
all_unfilled r parts rank (e ∷ es) all =
    let first : Entry (Option (List ℕ)) = entry_with (filled (part_at parts rank)) e in
    let rest : List (Entry (Option (List ℕ))) = filled_entries parts (rank + 1) es in
    All-cons (IsWritableEntry r) e es
    (one_unfilled r (part_at parts rank) e (All-head (IsWritableEntry r) first rest all))
    (all_unfilled r parts (rank + 1) es (All-tail (IsWritableEntry r) first rest all))

-- ---- what is listed

module _ (file : List ℕ) (d : Database (Option (List ℕ))) (after order : List ℕ)
    (parts : List (List ℕ)) (b : AreBytes file)
    (is : IsExactly file (exact_of_parts (valued_text d after order) parts)) where
  same : with_parts parts d ≡ exact_database file
  same = database_same file (exact_of_parts (valued_text d after order) parts) is

  pub entries_writable : All (IsWritableEntry (has_resources d.header.attributes)) d.entries
  entries_writable =
      all_unfilled (has_resources d.header.attributes) parts 2 d.entries
      (subst (λ (one : Database (Option (List ℕ))).
      All (IsWritableEntry (has_resources one.header.attributes)) one.entries) (sym same)
      (all_writable file is.good b))

  pub few_entries : length d.entries < 2 ^ 16
  few_entries =
      let long = length-filled parts 2 d.entries in
      let few = subst (λ (one : Database (Option (List ℕ))). length one.entries < 2 ^ 16) (sym same)
      (count_small file b) in
      omega arith

  pub valid_name : IsDatabaseName d.header.name
  valid_name = (names_are file (exact_of_parts (valued_text d after order) parts) is).valid

  there_as : AreThereAs file (data_in d)
  there_as =
      let count = count_with parts d in
      let blocks = ap length is.blocks in
      let all = block_count file in
      let offsets = offset_count file in
      record {
        long = omega arith;
        some = λ r inside. sym (ap is_some (block_with parts d r (omega arith))
            ∙ some_filled (part_at parts r) (get_or (data_in d) r None))
            ∙ ap (λ (blocks : List (Option (List ℕ))). is_some (get_or blocks r None)) is.blocks;
      }

  rank_free : (index : ℕ) → index < length order
      → is_other (data_in d) (take index order) (slice_index order index) ≡ true
  rank_free index inside =
      let others : List ℕ =
      filter (is_other (data_in d) order) (range_with_len 0 (length (data_in d))) in
      let both = length-append order others in
      let ranks : List ℕ = order ++ others in
      let sorted = order_sorted file (exact_of_parts (valued_text d after order) parts) b is in
      let free = free_here file ranks (data_in d) index sorted there_as (omega arith) in
      ap (λ front. is_other (data_in d) front (slice_index order index))
      (sym (take-append-le index order others (omega arith))) ∙ ap (is_other (data_in d)
      (take index ranks)) (sym (get_or_append_left order others 0 index inside)) ∙ free

  pub not_refused : IsNoExactFile d after order → ⊥
  not_refused (inl name) = true_false (sym (after_right _ _ _ (names_are _ _ is)) ∙ name)
  not_refused (inr (index, inside, bad)) = true_false (sym (rank_free index inside) ∙ bad)
