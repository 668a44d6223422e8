-- The records of a file get as many IDs as there are records, and its resources get none.
use Rattle.std.proofs.Common.{◌≡◌, ℕ, ◌<◌, ◌≤◌, Bool, true, false, None, List, [], ◌∷◌, length, get_or, refl, sym, ap, ◌∙◌, arith, inl, inr}
use Rattle.std.specs.Prelude.{All}
use Rattle.std.proofs.lemmas.List.FromFn.{length-map-range_with_len, get_or-map-range_with_len}
use Rattle.heap_model.specs.Lists.{numbered}
use Rattle.heap_model.specs.Database.{Entry, resources_in, entry_count_in, entry_at, entry_in, entry_offset, database_in}
use Rattle.heap_model.specs.Store.{unique_id, unique_ids}
use Rattle.heap_model.specs.UniqueIds.{greatest_id}
use Rattle.heap_model.specs.Files.{AreGiven, HaveIds, kept_ids}
use Rattle.pdb_format.specs.ReadFiles.{HasIdsFor}
use Rattle.pdb_format.proofs.Zips.{none_given, each_given}

pub given_long : (taken earlier : List ℕ) (seed : ℕ) (ids given : List ℕ) (last : ℕ)
    → AreGiven taken earlier seed ids given last → length given ≡ length ids
given_long taken earlier seed [] [] last are = refl
given_long taken earlier seed [] (one ∷ given) last are = absurd are
given_long taken earlier seed (id ∷ ids) [] last are = absurd are
given_long taken earlier seed (id ∷ ids) (one ∷ given) last (inl kept) =
    let long = given_long taken _ seed ids given last kept.2 in omega arith
given_long taken earlier seed (id ∷ ids) (one ∷ given) last (inr fresh) =
    let long = given_long _ _ one ids given last fresh.2 in omega arith

an_id : (resources : Bool) (file : List ℕ) (at : ℕ) → resources ≡ false
    → unique_id (entry_at resources file at) ≡ None → ⊥
an_id false file at e none = absurd cc
an_id true file at e none = absurd cc

no_id : (resources : Bool) (file : List ℕ) (at : ℕ) → resources ≡ true
    → unique_id (entry_at resources file at) ≡ None
no_id true file at e = refl
no_id false file at e = absurd cc

entry_at_index : (file : List ℕ) (k : ℕ) (d : Entry ℕ)
    → k < length (numbered (entry_in file) (entry_count_in file))
    → get_or (numbered (entry_in file) (entry_count_in file)) k d ≡ entry_in file k
entry_at_index file k d inside =
    let long = length-map-range_with_len (entry_in file) 0 (entry_count_in file) in
    get_or-map-range_with_len (entry_in file) 0 (entry_count_in file) k k d (omega arith)
    (omega arith)

-- each record has one
pub ids_of_records : (file : List ℕ) → resources_in file ≡ false
    → length (unique_ids (database_in file)) ≡ entry_count_in file
unfolding database_in
ids_of_records file records =
    each_given unique_id (numbered (entry_in file) (entry_count_in file))
    (λ k d inside none. an_id (resources_in file) file (entry_offset (resources_in file) k) records
    (sym (ap unique_id (entry_at_index file k d inside)) ∙ none))
    ∙ length-map-range_with_len (entry_in file) 0 (entry_count_in file)

-- and no resource
pub ids_of_resources : (file : List ℕ) → resources_in file ≡ true
    → unique_ids (database_in file) ≡ []
unfolding database_in
ids_of_resources file resources =
    none_given unique_id (numbered (entry_in file) (entry_count_in file))
    (λ k d inside. ap unique_id (entry_at_index file k d inside)
    ∙ no_id (resources_in file) file (entry_offset (resources_in file) k) resources)

-- IDs that the records of a file have can be theirs when it is read
pub ids_for : (file ids : List ℕ) (seed last : ℕ)
    → HaveIds seed (unique_ids (database_in file)) ids last
    → All (λ id. (0 < id) × (id ≤ greatest_id)) ids → HasIdsFor file ids
ids_for file ids seed last have fit = record {
  count =
      λ records. given_long (kept_ids [] (unique_ids (database_in file))) [] seed
      (unique_ids (database_in file)) ids last have ∙ ids_of_records file records;
  fit = fit;
}
