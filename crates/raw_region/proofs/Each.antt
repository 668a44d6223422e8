-- What is owned or shared of bytes with holes, byte by byte: it is cut and put together at any
-- place. Assumes `Logic`.
use Rattle.std.proofs.Common.{◌≡◌, ℕ, suc, ◌+◌, ◌<◌, Bool, true, false, List, [], ◌∷◌, ◌++◌, length, refl, subst, ◌∙◌, arith}
use seplogic.Ra.Ura.{Ura}
use base.Fraction.{full_share}
use base.Logic.{ent, sep, emp, id⊢}
use base.Fml.{Fml, Lft, ftrue, fsep}
use types.Logic.{Logic, sem}
use types.Kit.{‵, ◌⊛◌, ◌$◌, ◌∵◌, !, qed, move, drop, use0, use1, use2, split, fsplit, fjoin, done}
use denote.Builtin.{u8}
use denote.Index.{row}
use denote.Memory.{part_at, shared_of}
use denote.Slice.{elements_shared}
use Rattle.raw_region.specs.Ownership.{unless_out, each_but, owned_but, shared_but}

-- the offset behind some bytes
abbrev pub behind : ℕ → List ℕ → ℕ
behind i [] = i
behind i (x ∷ xs) = behind (suc i) xs

pub behind_is : (i : ℕ) (xs : List ℕ) → behind i xs ≡ i + length xs
behind_is i [] = omega arith
behind_is i (x ∷ xs) = let e = behind_is (suc i) xs in omega (arith, e)

-- the property of the first of some bytes, and of the others
first_of : (P : ℕ → Type 0) (i : ℕ) (x : ℕ) (xs : List ℕ) → ((j : ℕ) → j < length (x ∷ xs) → P (i + j)) → P i
first_of P i x xs h = let e : i + 0 ≡ i = omega arith in let l : 0 < length (x ∷ xs) = omega arith in subst P e (h 0 l)

others_of : (P : ℕ → Type 0) (i : ℕ) (x : ℕ) (xs : List ℕ) → ((j : ℕ) → j < length (x ∷ xs) → P (i + j)) → (j : ℕ) → j < length xs → P (suc i + j)
others_of P i x xs h j less = let e : i + suc j ≡ suc i + j = omega arith in let l : suc j < length (x ∷ xs) = omega (arith, less) in subst P e (h (suc j) l)

-- the same bytes are out
pub same_out : (m m' : ℕ → Bool) (at : ℕ → ℕ → Fml) (i : ℕ) (xs : List ℕ) → ((j : ℕ) → j < length xs → m (i + j) ≡ m' (i + j)) → each_but m at i xs ≡ each_but m' at i xs
same_out m m' at i [] h = refl
same_out m m' at i (x ∷ xs) h =
    let now : m i ≡ m' i = first_of (λ k. m k ≡ m' k) i x xs h in
    let rest = same_out m m' at (suc i) xs (others_of (λ k. m k ≡ m' k) i x xs h) in
    λ k. unless_out (now k) (at x i) (rest k)

-- all bytes are out
pub all_out : (m : ℕ → Bool) (at : ℕ → ℕ → Fml) (i : ℕ) (xs : List ℕ) → ((j : ℕ) → j < length xs → m (i + j) ≡ true) → each_but m at i xs ≡ ftrue
all_out m at i [] h = refl
all_out m at i (x ∷ xs) h =
    let now : m i ≡ true = first_of (λ k. m k ≡ true) i x xs h in
    let rest = all_out m at (suc i) xs (others_of (λ k. m k ≡ true) i x xs h) in
    λ k. unless_out (now k) (at x i) (rest k)

-- no byte is out: they are owned in a row
pub none_out : (m : ℕ → Bool) (b o i : ℕ) (xs : List ℕ) → ((j : ℕ) → j < length xs → m (i + j) ≡ false) → owned_but m b o i xs ≡ row u8 full_share xs b (i + o)
none_out m b o i [] h = refl
none_out m b o i (x ∷ xs) h =
    let now : m i ≡ false = first_of (λ k. m k ≡ false) i x xs h in
    let rest = none_out m b o (suc i) xs (others_of (λ k. m k ≡ false) i x xs h) in
    let there : suc i + o ≡ i + o + 1 = omega arith in
    (λ k. unless_out (now k) (part_at u8 full_share x b (i + o)) (rest k)) ∙ (λ k. fsep (part_at u8 full_share x b (i + o)) (row u8 full_share xs b (there k)))

pub none_out_shared : (m : ℕ → Bool) (b o i : ℕ) (xs : List ℕ) (κ : Lft) → ((j : ℕ) → j < length xs → m (i + j) ≡ false) → shared_but m b o i xs κ ≡ elements_shared u8 xs b (i + o) κ
none_out_shared m b o i [] κ h = refl
none_out_shared m b o i (x ∷ xs) κ h =
    let now : m i ≡ false = first_of (λ k. m k ≡ false) i x xs h in
    let rest = none_out_shared m b o (suc i) xs κ (others_of (λ k. m k ≡ false) i x xs h) in
    let there : suc i + o ≡ i + o + 1 = omega arith in
    (λ k. unless_out (now k) (shared_of u8 x b (i + o) κ) (rest k)) ∙ (λ k. fsep (shared_of u8 x b (i + o) κ) (elements_shared u8 xs b (there k) κ))

module _ {M : Type 1} {𝓤 : Ura M} (𝓛 : Logic 𝓤) where
  cut_behind : (c : Bool) (F G A B : Fml) → ent 𝓤 (sem 𝓛 G) (sep 𝓤 (sem 𝓛 A) (sem 𝓛 B)) → ent 𝓤 (sem 𝓛 (unless_out c F G)) (sep 𝓤 (sem 𝓛 (unless_out c F A)) (sem 𝓛 B))
  cut_behind true F G A B h = h
  cut_behind false F G A B h =
      qed 𝓛 (‵ (fsep F G) ∷ []) ∵ fsplit ! $ move ! (1 ∷ []) $ use1 𝓛 (‵ A ⊛ ‵ B) h $ split ! $ move ! (2 ∷ 0 ∷ 1 ∷ []) $ fjoin ! $ done !

  glue_behind : (c : Bool) (F G A B : Fml) → ent 𝓤 (sep 𝓤 (sem 𝓛 A) (sem 𝓛 B)) (sem 𝓛 G) → ent 𝓤 (sep 𝓤 (sem 𝓛 (unless_out c F A)) (sem 𝓛 B)) (sem 𝓛 (unless_out c F G))
  glue_behind true F G A B h = h
  glue_behind false F G A B h =
      qed 𝓛 (‵ (fsep F A) ∷ ‵ B ∷ []) ∵ fsplit ! $ move ! (1 ∷ 2 ∷ 0 ∷ []) $ use2 𝓛 (‵ G) h $ move ! (1 ∷ 0 ∷ []) $ fjoin ! $ done !

  pub each_cut : (m : ℕ → Bool) (at : ℕ → ℕ → Fml) (i : ℕ) (xs ys : List ℕ)
      → ent 𝓤 (sem 𝓛 (each_but m at i (xs ++ ys))) (sep 𝓤 (sem 𝓛 (each_but m at i xs)) (sem 𝓛 (each_but m at (behind i xs) ys)))
  each_cut m at i [] ys = qed 𝓛 (‵ (each_but m at i ys) ∷ []) ∵ use0 𝓛 (‵ ftrue) (id⊢ 𝓤 (emp 𝓤)) $ done !
  each_cut m at i (x ∷ xs) ys =
      cut_behind (m i) (at x i) (each_but m at (suc i) (xs ++ ys)) (each_but m at (suc i) xs) (each_but m at (behind (suc i) xs) ys) (each_cut m at (suc i) xs ys)

  pub each_glue : (m : ℕ → Bool) (at : ℕ → ℕ → Fml) (i : ℕ) (xs ys : List ℕ)
      → ent 𝓤 (sep 𝓤 (sem 𝓛 (each_but m at i xs)) (sem 𝓛 (each_but m at (behind i xs) ys))) (sem 𝓛 (each_but m at i (xs ++ ys)))
  each_glue m at i [] ys = qed 𝓛 (‵ ftrue ∷ ‵ (each_but m at i ys) ∷ []) ∵ drop ! $ done !
  each_glue m at i (x ∷ xs) ys =
      glue_behind (m i) (at x i) (each_but m at (suc i) (xs ++ ys)) (each_but m at (suc i) xs) (each_but m at (behind (suc i) xs) ys) (each_glue m at (suc i) xs ys)
