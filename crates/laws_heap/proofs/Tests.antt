-- Tests and the facts that they decide.
use Rattle.laws_heap.proofs.Words.{◌≡◌, ℕ, ◌≤◌, ◌<◌, Bool, true, false, cond, Option, Some, None, refl, arith, inl, inr, leb-true, nat_tests, ◌⊎◌, nat_le, Decides}

pub Decides-nat_le : (a b : ℕ) → Decides (nat_le a b) (a ≤ b)
Decides-nat_le a b = (leb-true a b, λ h. grind (arith, nat_tests))

pub leb-is-true : (a b : ℕ) → a ≤ b → nat_le a b ≡ true
leb-is-true a b h = grind (arith, nat_tests)

pub lt-leb-false : (a b : ℕ) → b < a → nat_le a b ≡ false
lt-leb-false a b h = grind (arith, nat_tests)

-- the branch that is taken
pub cond-true : {A : Type 0} (b : Bool) (x y : A) → b ≡ true → cond b x y ≡ x
cond-true b x y e = rw e refl

pub cond-false : {A : Type 0} (b : Bool) (x y : A) → b ≡ false → cond b x y ≡ y
cond-false b x y e = rw e refl

pub true_or_false : (b : Bool) → (b ≡ true) ⊎ (b ≡ false)
true_or_false true = inl refl
true_or_false false = inr refl

abbrev pub some : {A : Type 0} → A → Option A
some x = Some x

pub same_some : {A : Type 0} (x y : A) → some x ≡ some y → x ≡ y
same_some x y e = cc

pub none_some : {A : Type 0} (o : Option A) (x : A) → o ≡ None → o ≡ Some x → ⊥
none_some o x e f = cc

-- a value that is there only where a test holds
pub guarded : {A : Type 0} (b : Bool) (x y : A) → cond b (some x) None ≡ Some y
    → (b ≡ true) × (x ≡ y)
guarded true x y e = (refl, same_some x y e)
guarded false x y e = absurd (none_some None y refl e)
