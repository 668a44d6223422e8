-- Writes of a text in parts: the bytes written are a prefix of it.
use Rattle.std.proofs.Common.{◌≡◌, ℕ, ◌<◌, ◌-◌, ◌≤◌, List, [], ◌++◌, length, take, drop, refl, sym, ap, ◌∙◌, subst, arith, append_assoc, append-nil, take-append-drop, take_at, length-append}
use Rattle.std.specs.Prelude.{Option, Bool, ◌==◌, ◌&&◌, not, cond}
use Rattle.std.proofs.lemmas.Bool.Decides.{nat_tests}
use Rattle.std.proofs.lemmas.List.{take_rest}
use Rattle.std.specs.Io.KnownBytes.{Appends, Keeps}
use Rattle.std.proofs.KnownBytes.{Appends-trans, Appends-kept}
use Rattle.palm_text.specs.Counted.{AppendsFront}

-- n more of the bytes went out
pub moves_on : (all done rest : List ℕ) (n : ℕ) → all ≡ done ++ rest → all ≡ (done ++ take n rest) ++ take (length rest - n) (drop n rest)
moves_on all done rest n split =
    split ∙ ap (λ l. done ++ l) (sym (take-append-drop n rest)) ∙ sym (append_assoc done (take n rest) (drop n rest)) ∙ ap (λ l. (done ++ take n rest) ++ l) (sym (take_rest rest n))

front : (old new : Option (List ℕ)) (all done rest : List ℕ) → all ≡ done ++ rest → Appends old new done → AppendsFront old new all
front old new all done rest split appended =
    (length done, omega (arith, ap length split, length-append done rest), subst (Appends old new) (sym (ap (take (length done)) split ∙ take_at done rest (length done) refl)) appended)

-- a write failed
pub stopped : (old mid new : Option (List ℕ)) (all done rest : List ℕ) → all ≡ done ++ rest → Appends old mid done → Keeps mid new → AppendsFront old new all
stopped old mid new all done rest split appended kept = front old new all done rest split (Appends-kept _ _ _ _ appended kept)

-- a write took 0 bytes
pub stalled : (old mid new : Option (List ℕ)) (all done rest : List ℕ) (n : ℕ) → n ≤ 0 → all ≡ done ++ rest → Appends old mid done → Appends mid new (take n rest) → AppendsFront old new all
stalled old mid new all done rest n none split appended taken =
    let zero : n ≡ 0 = omega arith in let zero_taken : take n rest ≡ [] = ap (λ k. take k rest) zero in
    front old new all done rest split (subst (Appends old new) (ap (λ l. done ++ l) zero_taken ∙ append-nil done) (Appends-trans _ _ _ _ _ appended taken))

-- a write that took a byte is no fault
pub no_fault : (n : ℕ) (x : Bool) → 0 < n → cond {A = ℕ} ((n == 0) && x) 1 0 ≡ 0
no_fault n x some = grind (arith, nat_tests)

-- a write of some bytes that took none is one
pub one_fault : (n k : ℕ) → n ≤ 0 → 0 < k → cond {A = ℕ} ((n == 0) && not (k == 0)) 1 0 ≡ 1
one_fault n k none some = grind (arith, nat_tests)

-- and so is one that failed
pub one_failed : (k : ℕ) → 0 < k → cond {A = ℕ} (not (k == 0)) 1 0 ≡ 1
one_failed k some = grind (arith, nat_tests)
