-- A part of bytes with holes is taken out of what is owned, and put back; and what a `&` to them
-- shows of it. Assumes `Logic`.
use Rattle.std.proofs.Common.{◌≡◌, ℕ, ◌+◌, ◌-◌, ◌<◌, ◌≤◌, Bool, List, [], ◌∷◌, ◌++◌, length, take, drop as drop_l, replicate, slice_range, length-take, length-drop, take-append-drop, refl, sym, ap, arith, inl, inr}
use Rattle.std.specs.Prelude.{◌⊎◌, Some}
use Rattle.std.proofs.lemmas.List.{length-replicate}
use seplogic.Ra.Ura.{Ura}
use base.Fraction.{full_share}
use base.Logic.{ent, sep, emp, id⊢, never_e}
use base.Fml.{Fml, Lft, ftrue, fsep}
use contract.Monad.{fact, fact_i}
use types.Logic.{Logic, sem}
use types.Kit.{‵, raw, ◌⊛◌, ◌$◌, ◌∵◌, !, qed, move, keep, drop, use0, use1, use2, split, rewrite, fsplit, fjoin, done}
use types.SemTy.{cells}
use denote.Builtin.{u8}
use denote.Index.{row, whole_in, whole_out}
use denote.Memory.{mem, part_at, shared_of}
use denote.RawPtr.{Ptr, block_ptr, null_ptr, block_of, count_of, InBlock}
use denote.Slice.{elements_shared}
use denote.Steps.{heard}
use Rattle.heap_model.specs.Bytes.{overwritten}
use Rattle.raw_region.specs.Ownership.{owned_but, shared_but, bytes_but, bytes_but_lent}
use Rattle.raw_region.specs.declared.gapped.Gapped.{Gapped}
use Rattle.heap_model.specs.Memory.{Misses, without}
use Rattle.raw_region.specs.Holes.{is_out, lent_at, count_at}
use Rattle.raw_region.specs.Lends.{with_part}
use Rattle.raw_region.proofs.Each.{behind, behind_is, same_out, all_out, none_out, none_out_shared, each_cut, each_glue}
use Rattle.raw_region.proofs.HoleLaws.{misses_out, new_elsewhere, new_there, gone_elsewhere}
use Rattle.raw_region.proofs.GapWrites.{written_is}
use Rattle.raw_region.proofs.PartLaws.{overwritten_by_part}

-- the n bytes at k of a list, and those behind them
abbrev pub part_of : List ℕ → ℕ → ℕ → List ℕ
part_of xs k n = take n (drop_l k xs)

abbrev rest_of : List ℕ → ℕ → ℕ → List ℕ
rest_of xs k n = drop_l n (drop_l k xs)

pub part_is : (xs : List ℕ) (k n : ℕ) → slice_range xs k (k + n) ≡ part_of xs k n
part_is xs k n = let e : k + n - k ≡ n = omega arith in ap (λ (m : ℕ). take m (drop_l k xs)) e

-- an offset before a part or behind it
abbrev Away : ℕ → ℕ → ℕ → Type 0
Away at n j = (j < at) ⊎ (at + n ≤ j)

module _ {M : Type 1} {𝓤 : Ura M} (𝓛 : Logic 𝓤) (xs : List ℕ) (at n b o : ℕ) (within : at + n ≤ length xs) where
  abbrev Byte : ℕ → ℕ → Fml
  Byte byte offset = part_at u8 full_share byte b (offset + o)

  -- what is left of the bytes without the part
  abbrev pub Around : (ℕ → Bool) → Fml
  Around m = fsep (owned_but m b o 0 (take at xs)) (owned_but m b o (at + n) (rest_of xs at n))

  first_many : length (take at xs) ≡ at
  first_many = omega (arith, length-take at xs, within)

  part_many : length (part_of xs at n) ≡ n
  part_many = omega (arith, length-take n (drop_l at xs), length-drop at xs, within)

  there : behind 0 (take at xs) ≡ at
  there = omega (arith, behind_is 0 (take at xs), first_many)

  end : (ws : List ℕ) → length ws ≡ n → behind at ws ≡ at + n
  end ws many = omega (arith, behind_is at ws, many)

  out_of : (m : ℕ → Bool) → ent 𝓤 (sem 𝓛 (owned_but m b o 0 xs)) (sep 𝓤 (sem 𝓛 (owned_but m b o at (part_of xs at n))) (sem 𝓛 (Around m)))
  out_of m =
      let first = take at xs in let rest = drop_l at xs in let part = part_of xs at n in let last = rest_of xs at n in
      qed 𝓛 (‵ (owned_but m b o 0 xs) ∷ []) ∵
      rewrite ! 0 (λ (l : List ℕ). ‵ (owned_but m b o 0 l)) {x = first ++ rest} (sym (take-append-drop at xs)) refl $
      use1 𝓛 (‵ (owned_but m b o 0 first) ⊛ ‵ (owned_but m b o (behind 0 first) rest)) (each_cut 𝓛 m Byte 0 first rest) $ split ! $ move ! (1 ∷ []) $
      rewrite ! 0 (λ (i : ℕ). ‵ (owned_but m b o i rest)) there refl $
      rewrite ! 0 (λ (l : List ℕ). ‵ (owned_but m b o at l)) {x = part ++ last} (sym (take-append-drop n rest)) refl $
      use1 𝓛 (‵ (owned_but m b o at part) ⊛ ‵ (owned_but m b o (behind at part) last)) (each_cut 𝓛 m Byte at part last) $ split ! $ move ! (1 ∷ []) $
      rewrite ! 0 (λ (i : ℕ). ‵ (owned_but m b o i last)) (end part part_many) refl $
      move ! (2 ∷ 0 ∷ []) $ fjoin ! $ move ! (1 ∷ 0 ∷ []) $ done !

  back_in : (m : ℕ → Bool) (ws : List ℕ) → length ws ≡ n → ent 𝓤 (sep 𝓤 (sem 𝓛 (owned_but m b o at ws)) (sem 𝓛 (Around m))) (sem 𝓛 (owned_but m b o 0 (overwritten xs at ws)))
  back_in m ws many =
      let first = take at xs in let last = rest_of xs at n in
      let all : first ++ (ws ++ last) ≡ overwritten xs at ws = overwritten_by_part xs at n ws ws refl (sym many) in
      qed 𝓛 (‵ (owned_but m b o at ws) ∷ ‵ (Around m) ∷ []) ∵ move ! (1 ∷ []) $ fsplit ! $ move ! (1 ∷ []) $
      rewrite ! 0 (λ (i : ℕ). ‵ (owned_but m b o i last)) (sym (end ws many)) refl $ move ! (2 ∷ 0 ∷ []) $
      use2 𝓛 (‵ (owned_but m b o at (ws ++ last))) (each_glue 𝓛 m Byte at ws last) $
      rewrite ! 0 (λ (i : ℕ). ‵ (owned_but m b o i (ws ++ last))) (sym there) refl $ move ! (1 ∷ 0 ∷ []) $
      use2 𝓛 (‵ (owned_but m b o 0 (first ++ (ws ++ last)))) (each_glue 𝓛 m Byte 0 first (ws ++ last)) $
      rewrite ! 0 (λ (l : List ℕ). ‵ (owned_but m b o 0 l)) all refl $ done !

  around_same : (m m' : ℕ → Bool) → ((j : ℕ) → Away at n j → m j ≡ m' j) → Around m ≡ Around m'
  around_same m m' same =
      let few = first_many in
      let first = same_out m m' Byte 0 (take at xs) (λ j less. same (0 + j) (inl (omega (arith, less, few)))) in
      let last = same_out m m' Byte (at + n) (rest_of xs at n) (λ j less. same (at + n + j) (inr (omega arith))) in
      λ k. fsep (first k) (last k)

-- ---- bytes with holes
module _ {M : Type 1} {𝓤 : Ura M} (𝓛 : Logic 𝓤) (g : Gapped) (at n b o : ℕ) (inside : at + n ≤ g.len) where
  abbrev pub Owned : Gapped → Fml
  Owned h = bytes_but (is_out h.lents) (block_ptr b o) h.bytes

  pub within : at + n ≤ length g.bytes
  within = omega (arith, inside, g.ok.0)

  -- what is left without the part
  abbrev pub Other : Fml
  Other = Around 𝓛 g.bytes at n b o within (is_out g.lents)

  none_of : (ws : List ℕ) → length ws ≡ n → Misses g.lents at n → owned_but (is_out g.lents) b o at ws ≡ row u8 full_share ws b (at + o)
  none_of ws many misses = none_out (is_out g.lents) b o at ws (λ j less. misses_out g.lents at n (at + j) misses (omega arith) (omega (arith, less, many)))

  pub part_out : Misses g.lents at n → ent 𝓤 (sem 𝓛 (Owned g)) (sep 𝓤 (sem 𝓛 (cells (mem u8) (slice_range g.bytes at (at + n)) b (at + o))) (sem 𝓛 Other))
  part_out misses =
      let part = part_of g.bytes at n in
      qed 𝓛 (‵ (Owned g) ∷ []) ∵ use1 𝓛 (‵ (owned_but (is_out g.lents) b o at part) ⊛ ‵ Other) (out_of 𝓛 g.bytes at n b o within (is_out g.lents)) $ split ! $
      rewrite ! 0 (λ (F : Fml). ‵ F) (none_of part (part_many 𝓛 g.bytes at n b o within) misses) refl $
      use1 𝓛 (‵ (cells (mem u8) part b (at + o))) (whole_in 𝓛 u8 part b (at + o)) $
      rewrite ! 0 (λ (l : List ℕ). ‵ (cells (mem u8) l b (at + o))) (sym (part_is g.bytes at n)) refl $ done !

  pub part_in : Misses g.lents at n → (ws : List ℕ) → length ws ≡ n → ent 𝓤 (sep 𝓤 (sem 𝓛 (cells (mem u8) ws b (at + o))) (sem 𝓛 Other)) (sem 𝓛 (Owned (with_part g at ws)))
  part_in misses ws many =
      let inside' = inside in
      qed 𝓛 (‵ (cells (mem u8) ws b (at + o)) ∷ ‵ Other ∷ []) ∵ use1 𝓛 (‵ (row u8 full_share ws b (at + o))) (whole_out 𝓛 u8 ws b (at + o)) $
      rewrite ! 0 (λ (F : Fml). ‵ F) (sym (none_of ws many misses)) refl $
      use2 𝓛 (‵ (owned_but (is_out g.lents) b o 0 (overwritten g.bytes at ws))) (back_in 𝓛 g.bytes at n b o within (is_out g.lents) ws many) $
      rewrite ! 0 (λ (l : List ℕ). ‵ (owned_but (is_out g.lents) b o 0 l)) (sym (written_is g at ws (omega (arith, inside', many)))) refl $ done !

  -- a part becomes a hole
  pub hole_made : (p : Ptr) → Misses g.lents at n
      → ent 𝓤 (sem 𝓛 (Owned g)) (sep 𝓤 (sem 𝓛 (row u8 full_share (slice_range g.bytes at (at + n)) b (at + o))) (sem 𝓛 (owned_but (is_out (lent_at p at n ∷ g.lents)) b o 0 (overwritten g.bytes at (replicate n 0)))))
  hole_made p misses =
      let part = part_of g.bytes at n in let zeros : List ℕ = replicate n 0 in
      let more = lent_at p at n ∷ g.lents in
      let many : length zeros ≡ n = length-replicate n 0 in
      let none : owned_but (is_out more) b o at zeros ≡ ftrue =
      all_out (is_out more) (λ byte offset. part_at u8 full_share byte b (offset + o)) at zeros (λ j less. new_there g.lents p at n (at + j) (omega arith) (omega (arith, less, many))) in
      qed 𝓛 (‵ (Owned g) ∷ []) ∵ use1 𝓛 (‵ (owned_but (is_out g.lents) b o at part) ⊛ ‵ Other) (out_of 𝓛 g.bytes at n b o within (is_out g.lents)) $ split ! $
      rewrite ! 0 (λ (F : Fml). ‵ F) (none_of part (part_many 𝓛 g.bytes at n b o within) misses) refl $
      rewrite ! 0 (λ (l : List ℕ). ‵ (row u8 full_share l b (at + o))) (sym (part_is g.bytes at n)) refl $ move ! (1 ∷ []) $
      rewrite ! 0 (λ (F : Fml). ‵ F) (around_same 𝓛 g.bytes at n b o within (is_out g.lents) (is_out more) (λ j away. new_elsewhere g.lents p at n j away)) refl $
      use0 𝓛 (‵ ftrue) (id⊢ 𝓤 (emp 𝓤)) $
      rewrite ! 0 (λ (F : Fml). ‵ F) (sym none) refl $
      use2 𝓛 (‵ (owned_but (is_out more) b o 0 (overwritten g.bytes at zeros))) (back_in 𝓛 g.bytes at n b o within (is_out more) zeros many) $ move ! (1 ∷ 0 ∷ []) $ done !

  -- and a hole becomes a part
  pub hole_filled : (ws : List ℕ) → length ws ≡ n → count_at at g.lents ≡ Some n → Misses (without at g.lents) at n
      → ent 𝓤 (sep 𝓤 (sem 𝓛 (row u8 full_share ws b (at + o))) (sem 𝓛 (Owned g))) (sem 𝓛 (owned_but (is_out (without at g.lents)) b o 0 (overwritten g.bytes at ws)))
  hole_filled ws many count misses =
      let part = part_of g.bytes at n in let fewer = without at g.lents in
      let here : owned_but (is_out fewer) b o at ws ≡ row u8 full_share ws b (at + o) =
      none_out (is_out fewer) b o at ws (λ j less. misses_out fewer at n (at + j) misses (omega arith) (omega (arith, less, many))) in
      qed 𝓛 (‵ (row u8 full_share ws b (at + o)) ∷ ‵ (Owned g) ∷ []) ∵ move ! (1 ∷ []) $
      use1 𝓛 (‵ (owned_but (is_out g.lents) b o at part) ⊛ ‵ Other) (out_of 𝓛 g.bytes at n b o within (is_out g.lents)) $ split ! $ drop ! $
      rewrite ! 0 (λ (F : Fml). ‵ F) (around_same 𝓛 g.bytes at n b o within (is_out g.lents) (is_out fewer) (λ j away. gone_elsewhere g.lents at n j count away)) refl $ move ! (1 ∷ []) $
      rewrite ! 0 (λ (F : Fml). ‵ F) (sym here) refl $
      use2 𝓛 (‵ (owned_but (is_out fewer) b o 0 (overwritten g.bytes at ws))) (back_in 𝓛 g.bytes at n b o within (is_out fewer) ws many) $ done !

-- ---- shared
module _ {M : Type 1} {𝓤 : Ura M} (𝓛 : Logic 𝓤) where
  -- what a `&` to the owner shows of a part that misses what is lent
  pub part_seen : (g : Gapped) (p : Ptr) (at n : ℕ) (κ : Lft) → at + n ≤ g.len → Misses g.lents at n
      → ent 𝓤 (sem 𝓛 (bytes_but_lent (is_out g.lents) p g.bytes κ)) (sep 𝓤 (fact 𝓤 (InBlock p)) (sem 𝓛 (elements_shared u8 (slice_range g.bytes at (at + n)) (block_of p) (at + count_of p) κ)))
  part_seen g null_ptr at n κ inside misses =
      qed 𝓛 (‵ (bytes_but_lent (is_out g.lents) null_ptr g.bytes κ) ∷ []) ∵ fsplit ! $
      use1 𝓛 (raw (fact 𝓤 (InBlock null_ptr))) (never_e 𝓤 _) $ heard ! (InBlock null_ptr) (λ bad. absurd bad)
  part_seen g (block_ptr b o) at n κ inside misses =
      let m = is_out g.lents in let xs = g.bytes in
      let first = take at xs in let rest = drop_l at xs in let part = part_of xs at n in let last = rest_of xs at n in
      let Byte : ℕ → ℕ → Fml = λ byte offset. shared_of u8 byte b (offset + o) κ in
      let fits : at + n ≤ length xs = omega (arith, inside, g.ok.0) in
      let few = first_many 𝓛 xs at n b o fits in
      let many = part_many 𝓛 xs at n b o fits in
      let start : behind 0 first ≡ at = omega (arith, behind_is 0 first, few) in
      let seen : shared_but m b o at part κ ≡ elements_shared u8 part b (at + o) κ =
      none_out_shared m b o at part κ (λ j less. misses_out g.lents at n (at + j) misses (omega arith) (omega (arith, less, many))) in
      qed 𝓛 (‵ (bytes_but_lent m (block_ptr b o) xs κ) ∷ []) ∵ fsplit ! $ drop ! $
      rewrite ! 0 (λ (l : List ℕ). ‵ (shared_but m b o 0 l κ)) {x = first ++ rest} (sym (take-append-drop at xs)) refl $
      use1 𝓛 (‵ (shared_but m b o 0 first κ) ⊛ ‵ (shared_but m b o (behind 0 first) rest κ)) (each_cut 𝓛 m Byte 0 first rest) $ split ! $ drop ! $
      rewrite ! 0 (λ (i : ℕ). ‵ (shared_but m b o i rest κ)) start refl $
      rewrite ! 0 (λ (l : List ℕ). ‵ (shared_but m b o at l κ)) {x = part ++ last} (sym (take-append-drop n rest)) refl $
      use1 𝓛 (‵ (shared_but m b o at part κ) ⊛ ‵ (shared_but m b o (behind at part) last κ)) (each_cut 𝓛 m Byte at part last) $ split ! $
      rewrite ! 0 (λ (F : Fml). ‵ F) seen refl $
      rewrite ! 0 (λ (l : List ℕ). ‵ (elements_shared u8 l b (at + o) κ)) (sym (part_is xs at n)) refl $
      use0 𝓛 (raw (fact 𝓤 (Unit {0}))) (fact_i 𝓤 (Unit {0}) (emp 𝓤) tt) $ keep ! (0 ∷ 1 ∷ []) $ done !
