-- The bytes at a pointer, one by one. Assumes `Logic`.
use Rattle.std.proofs.Common.{◌≡◌, ℕ, zero, suc, ◌+◌, ◌-◌, ◌*◌, ◌<◌, List, [], ◌∷◌, ◌++◌, length, replicate, refl, ap, arith, w8}
use seplogic.Ra.Ura.{Ura}
use base.Fraction.{full_share}
use base.Logic.{ent, via, mono∗}
use base.Fml.{fat, froom}
use mir.Syntax.{ty_array, ty_int}
use mir.Val.{vint}
use types.Logic.{Logic, sem}
use types.Kit.{Item, ⋆, ‵, ◌⊛◌, given, learn, ◌$◌, ◌∵◌, !, qed, by, move, drop, use0, use1, use2, split, rewrite, fsplit, fjoin, feq_i, done}
use types.Share.{arr_parts}
use types.SemTy.{cells}
use denote.Array.{Array}
use denote.ArrayMemory.{Array-apart, Array-whole}
use denote.Builtin.{u8}
use denote.Index.{row, whole_in, whole_out}
use denote.Memory.{mem, part_at, shares}
use denote.Param.Laws.{of_field}
use denote.Param.Shared.{copy_shared}
use denote.Plain.{uint_in, uint_out}
use denote.Struct.Field.{u8-field}
use denote.Struct.Laws.{u8-laws, u8-copy}
use Rattle.core.proofs.ptr.Rows.{El, apart, empty, snoc}

module _ {M : Type 1} {𝓤 : Ura M} (𝓛 : Logic 𝓤) (n : ℕ) (bytes : List ℕ) (b o : ℕ) where
  pub cells_out : ent 𝓤 (sem 𝓛 (part_at (Array u8 n) full_share bytes b o)) (sem 𝓛 (cells (mem u8) bytes b o))
  cells_out =
      qed 𝓛 (‵ (part_at (Array u8 n) full_share bytes b o) ∷ []) ∵
      use1 𝓛 (‵ ((arr_parts (shares u8) n).part full_share bytes b o)) (Array-apart 𝓛 u8 full_share tt n bytes b o) $ fsplit ! $ drop ! $
      by ! (whole_in 𝓛 u8 bytes b o)

  pub cells_in : length bytes ≡ n → ent 𝓤 (sem 𝓛 (cells (mem u8) bytes b o)) (sem 𝓛 (part_at (Array u8 n) full_share bytes b o))
  cells_in long =
      qed 𝓛 (‵ (cells (mem u8) bytes b o) ∷ []) ∵
      use1 𝓛 (‵ (row u8 full_share bytes b o)) (whole_out 𝓛 u8 bytes b o) $ feq_i ! ℕ (length bytes) n long $ fjoin ! $
      by ! (Array-whole 𝓛 u8 full_share n bytes b o)

-- Rattle's lemmas on rows of values, at bytes
abbrev pub byte : El
byte = record { row = u8; laws = of_field u8-field u8-laws refl (copy_shared u8-field u8-copy) }

pairs : {a b c d : ℕ} → a ≡ b → c ≡ d → ◌≡◌ {A = ℕ × ℕ} (a, c) (b, d)
pairs e f = λ i. (e i, f i)

one_more_zero : (n : ℕ) → ◌++◌ {A = ℕ} (replicate n 0) (0 ∷ []) ≡ replicate (suc n) 0
one_more_zero zero = refl
one_more_zero (suc n) = ap (λ (l : List ℕ). 0 ∷ l) (one_more_zero n)

module _ {M : Type 1} {𝓤 : Ura M} (𝓛 : Logic 𝓤) (n b o : ℕ) where
  -- the first i bytes are zeros, and the others have no value
  abbrev pub Zeros : ℕ → Item 𝓤
  Zeros i = ‵ (part_at (Array u8 i) full_share (replicate i 0) b o)

  abbrev pub Blank : ℕ → Item 𝓤
  Blank i = ‵ (froom (ty_array (ty_int w8) (n - i)) b (i + o))

  pub none_yet : ent 𝓤 (𝓛.H.room (ty_array (ty_int w8) n) b o) (⋆ 𝓛 (Zeros 0 ∷ Blank 0 ∷ []))
  none_yet =
      qed 𝓛 (‵ (froom (ty_array (ty_int w8) n) b o) ∷ []) ∵
      rewrite ! 0 (λ (k : ℕ × ℕ). ‵ (froom (ty_array (ty_int w8) k.0) b k.1)) {x = (n - 0, 0 + o)} (let e : n ≡ n - 0 = omega arith in let f : o ≡ 0 + o = omega arith in pairs e f) refl $
      use0 𝓛 (Zeros 0) (empty byte 𝓛 [] b o refl) $ done !

  pub next_blank : (i : ℕ) → i < n → ent 𝓤 (⋆ 𝓛 (Blank i ∷ [])) (⋆ 𝓛 (‵ (froom (ty_int w8) b (i + o)) ∷ Blank (suc i) ∷ []))
  next_blank i within =
      qed 𝓛 (Blank i ∷ []) ∵
      rewrite ! 0 (λ (k : ℕ). ‵ (froom (ty_array (ty_int w8) k) b (i + o))) {x = suc (n - suc i)} (omega arith) refl $
      use1 𝓛 (‵ (froom (ty_int w8) b (i + o)) ⊛ ‵ (froom (ty_array (ty_int w8) (n - suc i)) b (i + o + 1))) (𝓛.laws.room_uncons (ty_int w8) (n - suc i) b (i + o)) $ split ! $
      rewrite ! 1 (λ (k : ℕ). ‵ (froom (ty_array (ty_int w8) (n - suc i)) b k)) {x = suc i + o} (omega arith) refl $ done !

  pub next_zero : (i : ℕ) → ent 𝓤 (⋆ 𝓛 (Zeros i ∷ ‵ (fat full_share (ty_int w8) b (i + o) (vint w8 0)) ∷ [])) (⋆ 𝓛 (Zeros (suc i) ∷ []))
  next_zero i =
      qed 𝓛 (Zeros i ∷ ‵ (fat full_share (ty_int w8) b (i + o) (vint w8 0)) ∷ []) ∵ move ! (1 ∷ []) $
      use1 𝓛 (‵ (part_at u8 full_share 0 b (i + o))) (uint_in 𝓛 full_share w8 0 b (i + o)) $
      rewrite ! 0 (λ (k : ℕ). ‵ (part_at u8 full_share 0 b k)) {x = i * 1 + o} (omega arith) refl $ move ! (1 ∷ 0 ∷ []) $
      use2 𝓛 (‵ (part_at (Array u8 (i + 1)) full_share (replicate i 0 ++ 0 ∷ []) b o)) (snoc byte 𝓛 b o i (replicate i 0) 0) $
      rewrite ! 0 (λ (k : ℕ). ‵ (part_at (Array u8 k) full_share (replicate i 0 ++ 0 ∷ []) b o)) {x = suc i} (omega arith) refl $
      rewrite ! 0 (λ (l : List ℕ). ‵ (part_at (Array u8 (suc i)) full_share l b o)) (one_more_zero i) refl $ done !

module _ {M : Type 1} {𝓤 : Ura M} (𝓛 : Logic 𝓤) where
  one_room : (x b o : ℕ) → ent 𝓤 (sem 𝓛 (part_at u8 full_share x b o)) (𝓛.H.room (ty_int w8) b o)
  one_room x b o =
      qed 𝓛 (‵ (part_at u8 full_share x b o) ∷ []) ∵ use1 𝓛 (‵ (fat full_share (ty_int w8) b o (vint w8 x))) (uint_out 𝓛 full_share w8 x b o) $
      by ! (𝓛.laws.at_room (ty_int w8) b o (vint w8 x))

  row_room : (bytes : List ℕ) (b o : ℕ) → ent 𝓤 (sem 𝓛 (row u8 full_share bytes b o)) (𝓛.H.room (ty_array (ty_int w8) (length bytes)) b o)
  row_room [] b o = 𝓛.laws.room_nil (ty_int w8) b o
  row_room (x ∷ xs) b o =
      via 𝓤 _ (mono∗ 𝓤 (one_room x b o) (row_room xs b (o + 1))) (𝓛.laws.room_cons (ty_int w8) (length xs) b o)

  -- bytes whose values are forgotten
  pub forgotten : (n : ℕ) (bytes : List ℕ) (b o : ℕ)
      → ent 𝓤 (sem 𝓛 (part_at (Array u8 n) full_share bytes b o)) (𝓛.H.room (ty_array (ty_int w8) n) b o)
  forgotten n bytes b o =
      qed 𝓛 (‵ (part_at (Array u8 n) full_share bytes b o) ∷ []) ∵
      use1 𝓛 (given (length bytes ≡ n) (‵ (row u8 full_share bytes b o))) (apart byte 𝓛 full_share n bytes b o) $ learn ! (λ long.
      use1 𝓛 (‵ (froom (ty_array (ty_int w8) (length bytes)) b o)) (row_room bytes b o) $
      rewrite ! 0 (λ (k : ℕ). ‵ (froom (ty_array (ty_int w8) k) b o)) long refl $ done !)
