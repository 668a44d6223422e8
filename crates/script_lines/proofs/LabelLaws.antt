-- Laws on the numbers of labels.
use Rattle.std.proofs.Common.{◌≡◌, ℕ, List, Bool, true, false, if◌then◌else◌, None, refl, sym, ap, subst, ◌∙◌}
use Rattle.std.specs.Prelude.{Option}
use Rattle.std.specs.BTreeMap.{BTreeMap, UpdatesBy, get_by}
use Rattle.std.specs.Cmp.{eq_by_cmp_equiv}
use Rattle.std.specs.Cmp.Lexicographic.{slice_cmp, bytes_decides, nat_list_cmp_total, nat_list_eq_equiv, texts_ties}
use Rattle.std.specs.Map.{KeepsOthers}
use Rattle.std.specs.Ordering.{is_eq, nat_cmp}
use Rattle.std.specs.Str.{bytes_eq}
use Rattle.script_lines.specs.Numbering.{Numbering, with_label, with_next}

-- two tables that say the same of each word are the same
pub same_numbering : (one other : Numbering) → ((word : List ℕ) → one.number word ≡ other.number word) → one.count ≡ other.count → one ≡ other
same_numbering one other numbers counts = λ i. record { number = λ word. numbers word i; count = counts i }

-- a label that hasn't appeared takes the next number
pub with_label_absent : (labels : Numbering) (word : List ℕ) → labels.number word ≡ None → with_label labels word ≡ with_next labels word
with_label_absent labels word absent = rw absent refl

-- ---- a map whose keys are texts

found_apart : (bs cs ks : List ℕ) → bytes_eq bs cs ≡ false → is_eq (slice_cmp nat_cmp bs ks) ≡ true → is_eq (slice_cmp nat_cmp cs ks) ≡ false
found_apart bs cs ks other found =
    let same : bs ≡ ks = (bytes_decides bs ks).0 (texts_ties bs ks ∙ found) in
    sym (texts_ties cs ks) ∙ ap (bytes_eq cs) (sym same) ∙ nat_list_eq_equiv.symm cs bs ∙ other

other_text : {K X : Type 0} (text : K → List ℕ) (bs cs : List ℕ) (m n : BTreeMap K X) (w : Option X) → UpdatesBy (λ x y. slice_cmp nat_cmp (text x) (text y)) (λ k. slice_cmp nat_cmp bs (text k)) m n w → bytes_eq bs cs ≡ false
    → get_by (λ k. slice_cmp nat_cmp cs (text k)) n ≡ get_by (λ k. slice_cmp nat_cmp cs (text k)) m
unfolding KeepsOthers
other_text text bs cs m n w updates other = updates.3 _ (λ x y. (eq_by_cmp_equiv nat_list_cmp_total).congr cs (text x) (text y)) (λ k. found_apart bs cs (text k) other)

-- after a key got a value, each text finds that value if it is the key's, and otherwise what it found before
pub updated_at_text : {K X : Type 0} (text : K → List ℕ) (bs : List ℕ) (m n : BTreeMap K X) (w : Option X) → UpdatesBy (λ x y. slice_cmp nat_cmp (text x) (text y)) (λ k. slice_cmp nat_cmp bs (text k)) m n w → (cs : List ℕ)
    → get_by (λ k. slice_cmp nat_cmp cs (text k)) n ≡ (if bytes_eq bs cs then w else get_by (λ k. slice_cmp nat_cmp cs (text k)) m)
updated_at_text text bs m n w updates cs = by_test (bytes_eq bs cs) refl
  where
    by_test : (same : Bool) → bytes_eq bs cs ≡ same → get_by (λ k. slice_cmp nat_cmp cs (text k)) n ≡ (if same then w else get_by (λ k. slice_cmp nat_cmp cs (text k)) m)
    by_test true e = subst (λ (l : List ℕ). get_by (λ k. slice_cmp nat_cmp l (text k)) n ≡ w) ((bytes_decides bs cs).0 e) updates.1
    by_test false e = other_text text bs cs m n w updates e
