-- What is out under a name, in the list of chunks to which pointers are out, if the list changes at
-- one name.
use Rattle.palmheap_c.proofs.Words.{true, false, Bool, ◌≡◌, ◌≢◌, ℕ, [], ◌∷◌, cond, refl, sym, ap, ◌∙◌, arith, Ordering, Less, Equal, Greater, nat_tests, insert_entry, is_at, remove_entry, set_value, is_eq, match_ordering, nat_cmp, Option, Some, None, Pointers, pinned, Pinned}

-- ---- one key

same_key : (name key : ℕ) → is_at (nat_cmp name) key ≡ true → name ≡ key
same_key name key is = grind (arith, nat_tests)

own_key : (name key : ℕ) → name ≡ key → is_at (nat_cmp name) key ≡ true
own_key name key is = grind (arith, nat_tests)

other_key : (name key : ℕ) → name ≢ key → is_at (nat_cmp name) key ≡ false
other_key name key differs = grind (arith, nat_tests)

-- the look-up at a key, by whether the name is the key
at_own : (name key : ℕ) (it : Pinned) (rest : Option Pinned) → name ≡ key
    → cond (is_at (nat_cmp name) key) (Some it) rest ≡ Some it
at_own name key it rest is = ap (λ (b : Bool). cond b (Some it) rest) (own_key name key is)

past : (name key : ℕ) (it : Option Pinned) (rest : Option Pinned) → name ≢ key
    → cond (is_at (nat_cmp name) key) it rest ≡ rest
past name key it rest differs = ap (λ (b : Bool). cond b it rest) (other_key name key differs)

-- ---- another value

pub set_other : (pointers : Pointers) (name other : ℕ) (it : Pinned) → other ≢ name
    → pinned (set_value (is_at (nat_cmp name)) pointers it) other ≡ pinned pointers other
set_other [] name other it differs = refl
set_other (e ∷ pointers) name other it differs =
    by (set_other pointers name other it differs) (is_at (nat_cmp name) e.0) refl where
      by : pinned (set_value (is_at (nat_cmp name)) pointers it) other ≡ pinned pointers other
          → (b : Bool) → is_at (nat_cmp name) e.0 ≡ b → pinned (cond b ((e.0, it) ∷ pointers)
          (e ∷ set_value (is_at (nat_cmp name)) pointers it)) other
          ≡ cond (is_at (nat_cmp other) e.0) (Some e.1) (pinned pointers other)
      by rest true is =
          let apart : other ≢ e.0 = let same = same_key name e.0 is in
          λ x. differs (x ∙ sym same) in
          past other e.0 (Some it) (pinned pointers other) apart
          ∙ sym (past other e.0 (Some e.1) (pinned pointers other) apart)
      by rest false is = ap (cond (is_at (nat_cmp other) e.0) (Some e.1)) rest

pub set_own : (pointers : Pointers) (name : ℕ) (was it : Pinned) → pinned pointers name ≡ Some was
    → pinned (set_value (is_at (nat_cmp name)) pointers it) name ≡ Some it
set_own [] name was it there = absurd cc
set_own (e ∷ pointers) name was it there =
    by (set_own pointers name was it) (is_at (nat_cmp name) e.0) refl where
      by : (pinned pointers name ≡ Some was
          → pinned (set_value (is_at (nat_cmp name)) pointers it) name ≡ Some it) → (b : Bool)
          → is_at (nat_cmp name) e.0 ≡ b → pinned (cond b ((e.0, it) ∷ pointers)
          (e ∷ set_value (is_at (nat_cmp name)) pointers it)) name ≡ Some it
      by rest true is = at_own name e.0 it (pinned pointers name) (same_key name e.0 is)
      by rest false is = ap (λ (b : Bool). cond b (Some e.1)
          (pinned (set_value (is_at (nat_cmp name)) pointers it) name)) is
          ∙ rest (sym (ap (λ (b : Bool). cond b (Some e.1) (pinned pointers name)) is) ∙ there)

-- ---- one more

pub insert_other : (pointers : Pointers) (name other : ℕ) (it : Pinned) → other ≢ name
    → pinned (insert_entry nat_cmp pointers name it) other ≡ pinned pointers other
insert_other [] name other it differs = past other name (Some it) None differs
insert_other (e ∷ pointers) name other it differs =
    by (insert_other pointers name other it differs) (nat_cmp name e.0) refl where
      by : pinned (insert_entry nat_cmp pointers name it) other ≡ pinned pointers other
          → (r : Ordering) → nat_cmp name e.0 ≡ r
          → pinned (match_ordering r ((name, it) ∷ e ∷ pointers) ((e.0, it) ∷ pointers)
          (e ∷ insert_entry nat_cmp pointers name it)) other ≡ pinned (e ∷ pointers) other
      by rest Less is = past other name (Some it) (pinned (e ∷ pointers) other) differs
      by rest Equal is =
          let apart : other ≢ e.0 = let same = same_key name e.0 (ap is_eq is) in
          λ x. differs (x ∙ sym same) in
          past other e.0 (Some it) (pinned pointers other) apart
          ∙ sym (past other e.0 (Some e.1) (pinned pointers other) apart)
      by rest Greater is = ap (cond (is_at (nat_cmp other) e.0) (Some e.1)) rest

pub insert_own : (pointers : Pointers) (name : ℕ) (it : Pinned) → pinned pointers name ≡ None
    → pinned (insert_entry nat_cmp pointers name it) name ≡ Some it
insert_own [] name it none = at_own name name it None refl
insert_own (e ∷ pointers) name it none =
    by (insert_own pointers name it) (nat_cmp name e.0) refl where
      by : (pinned pointers name ≡ None
          → pinned (insert_entry nat_cmp pointers name it) name ≡ Some it) → (r : Ordering)
          → nat_cmp name e.0 ≡ r → pinned (match_ordering r ((name, it) ∷ e ∷ pointers)
          ((e.0, it) ∷ pointers) (e ∷ insert_entry nat_cmp pointers name it)) name ≡ Some it
      by rest Less is = at_own name name it (pinned (e ∷ pointers) name) refl
      by rest Equal is = at_own name e.0 it (pinned pointers name) (same_key name e.0 (ap is_eq is))
      by rest Greater is =
          let no : is_at (nat_cmp name) e.0 ≡ false = ap is_eq is in
          ap (λ (b : Bool). cond b (Some e.1) (pinned (insert_entry nat_cmp pointers name it) name))
          no ∙ rest (sym (ap (λ (b : Bool). cond b (Some e.1) (pinned pointers name)) no) ∙ none)

-- ---- one less

pub remove_other : (pointers : Pointers) (name other : ℕ) → other ≢ name
    → pinned (remove_entry (is_at (nat_cmp name)) pointers) other ≡ pinned pointers other
remove_other [] name other differs = refl
remove_other (e ∷ pointers) name other differs =
    by (remove_other pointers name other differs) (is_at (nat_cmp name) e.0) refl where
      by : pinned (remove_entry (is_at (nat_cmp name)) pointers) other ≡ pinned pointers other
          → (b : Bool) → is_at (nat_cmp name) e.0 ≡ b
          → pinned (cond b pointers (e ∷ remove_entry (is_at (nat_cmp name)) pointers)) other
          ≡ cond (is_at (nat_cmp other) e.0) (Some e.1) (pinned pointers other)
      by rest true is =
          let apart : other ≢ e.0 = let same = same_key name e.0 is in
          λ x. differs (x ∙ sym same) in
          sym (past other e.0 (Some e.1) (pinned pointers other) apart)
      by rest false is = ap (cond (is_at (nat_cmp other) e.0) (Some e.1)) rest
