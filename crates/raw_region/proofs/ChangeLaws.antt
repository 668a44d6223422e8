-- Bytes that are changed one after another, at equal distances.
use Rattle.std.proofs.Common.{◌≡◌, ℕ, zero, suc, ◌+◌, ◌-◌, ◌<◌, ◌≤◌, ◌++◌, List, [], ◌∷◌, length, take, drop, get_or, set, refl, sym, ap, ◌∙◌, arith}
use Rattle.std.proofs.lemmas.List.{length-set, drop_all, take_all, append-nil}
use Rattle.raw_region.specs.ByteChanges.{changed_every}

-- the bytes before this one are changed already; if those after it are changed too, all are done
pub record IsOnWay (change : ℕ → ℕ) (step skip : ℕ) (old now : List ℕ) (at : ℕ) : Type 0 where
  pub same_length : length now ≡ length old
  pub will_be : take at now ++ changed_every change step 0 (drop at now) ≡ changed_every change step skip old

pub length-changed_every : (change : ℕ → ℕ) (step skip : ℕ) (bytes : List ℕ) → length (changed_every change step skip bytes) ≡ length bytes
unfolding changed_every
length-changed_every change step skip [] = refl
length-changed_every change step zero (byte ∷ bytes) = ap suc (length-changed_every change step (step - 1) bytes)
length-changed_every change step (suc skip) (byte ∷ bytes) = ap suc (length-changed_every change step skip bytes)

-- those that are passed over stay
pub passed_over : (change : ℕ → ℕ) (step skip : ℕ) (bytes : List ℕ) → take skip bytes ++ changed_every change step 0 (drop skip bytes) ≡ changed_every change step skip bytes
unfolding changed_every
passed_over change step zero bytes = refl
passed_over change step (suc skip) [] = refl
passed_over change step (suc skip) (byte ∷ bytes) = ap (λ (bs : List ℕ). byte ∷ bs) (passed_over change step skip bytes)

pub way_begins : (change : ℕ → ℕ) (step skip : ℕ) (bytes : List ℕ) → IsOnWay change step skip bytes bytes skip
way_begins change step skip bytes = record { same_length = refl; will_be = passed_over change step skip bytes }

-- one byte more
one_more : (change : ℕ → ℕ) (step at : ℕ) (bytes : List ℕ) → 0 < step → at < length bytes
    → take (at + step) (set bytes at (change (get_or bytes at 0))) ++ changed_every change step 0 (drop (at + step) (set bytes at (change (get_or bytes at 0)))) ≡ take at bytes ++ changed_every change step 0 (drop at bytes)
unfolding changed_every
one_more change zero at bytes some inside = absurd (omega arith)
one_more change step at [] some inside = absurd (omega arith)
one_more change (suc step) zero (byte ∷ bytes) some inside =
    let on : 0 + suc step ≡ suc step = omega arith in
    let gap : suc step - 1 ≡ step = omega arith in
    ap (λ (n : ℕ). take n (change byte ∷ bytes) ++ changed_every change (suc step) 0 (drop n (change byte ∷ bytes))) on
    ∙ ap (λ (bs : List ℕ). change byte ∷ bs) (passed_over change (suc step) step bytes)
    ∙ ap (λ (n : ℕ). change byte ∷ changed_every change (suc step) n bytes) (sym gap)
one_more change (suc step) (suc at) (byte ∷ bytes) some inside =
    let on : suc at + suc step ≡ suc (at + suc step) = omega arith in
    let now : List ℕ = set bytes at (change (get_or bytes at 0)) in
    ap (λ (n : ℕ). take n (byte ∷ now) ++ changed_every change (suc step) 0 (drop n (byte ∷ now))) on
    ∙ ap (λ (bs : List ℕ). byte ∷ bs) (one_more change (suc step) at bytes some (omega arith))

pub way_goes_on : (change : ℕ → ℕ) (step skip : ℕ) (old now : List ℕ) (at : ℕ) → 0 < step → at < length now → IsOnWay change step skip old now at
    → IsOnWay change step skip old (set now at (change (get_or now at 0))) (at + step)
way_goes_on change step skip old now at some inside way = record {
  same_length = length-set now at (change (get_or now at 0)) ∙ way.same_length;
  will_be = one_more change step at now some inside ∙ way.will_be;
}

pub way_ends : (change : ℕ → ℕ) (step skip : ℕ) (old now : List ℕ) (at : ℕ) → length now ≤ at → IsOnWay change step skip old now at → now ≡ changed_every change step skip old
unfolding changed_every
way_ends change step skip old now at past way =
    sym (ap (λ (bs : List ℕ). take at now ++ changed_every change step 0 bs) (drop_all at now past) ∙ append-nil (take at now) ∙ take_all at now past) ∙ way.will_be
