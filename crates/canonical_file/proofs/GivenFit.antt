-- The IDs that records are given fit their fields.
use Rattle.std.proofs.Common.{ℕ, ◌<◌, ◌≤◌, List, [], ◌∷◌, arith, inl, inr}
use Rattle.std.specs.Prelude.{All}
use Rattle.std.proofs.lemmas.List.Elements.{All-nil, All-cons, All-tail, All-head}
use Rattle.heap_model.specs.UniqueIds.{greatest_id}
use Rattle.heap_model.specs.Files.{AreGiven}
use Rattle.laws_store.proofs.Fresh.{fresh_fits}
use Rattle.file_ids.proofs.KeptLaws.{kept_is_new}

-- they are IDs, and the last seed is one or was there before
pub given_fit : (taken earlier : List ℕ) (seed : ℕ) (ids given : List ℕ) (last : ℕ)
    → seed ≤ greatest_id → All (λ id. id ≤ greatest_id) ids
    → AreGiven taken earlier seed ids given last
    → All (λ id. (0 < id) × (id ≤ greatest_id)) given × (last ≤ greatest_id)
given_fit taken earlier seed [] [] last least most are =
    (All-nil (λ id. (0 < id) × (id ≤ greatest_id)), omega arith)
given_fit taken earlier seed [] (one ∷ given) last least most are = absurd are
given_fit taken earlier seed (id ∷ ids) [] last least most are = absurd are
given_fit taken earlier seed (id ∷ ids) (one ∷ given) last least most (inl kept) =
    let here = All-head (λ q. q ≤ greatest_id) id ids most in
    let is = kept.1 in
    let some = (kept_is_new earlier id kept.0).0 in
    let rest = given_fit taken _ seed ids given last least
    (All-tail (λ q. q ≤ greatest_id) id ids most) kept.2 in
    (All-cons (λ q. (0 < q) × (q ≤ greatest_id)) one given (omega arith, omega arith) rest.0, rest.1)
given_fit taken earlier seed (id ∷ ids) (one ∷ given) last least most (inr fresh) =
    let fits = fresh_fits taken seed one least fresh.1 in
    let rest = given_fit _ _ one ids given last fits.1
    (All-tail (λ q. q ≤ greatest_id) id ids most) fresh.2 in
    (All-cons (λ q. (0 < q) × (q ≤ greatest_id)) one given (fits.0, fits.1) rest.0, rest.1)
