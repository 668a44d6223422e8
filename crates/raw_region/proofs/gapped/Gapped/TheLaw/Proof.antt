-- A `&` to bytes with holes is made of one to each byte that isn't lent. Assumes `Logic`.
use Rattle.std.proofs.Common.{ℕ, suc, ◌+◌, Bool, true, false, List, [], ◌∷◌}
use base.Fraction.{full_share}
use base.Logic.{emp, id⊢, sep}
use base.Fml.{Fml, Lft, ftrue, fbor}
use denote.Builtin.{u8}
use denote.Memory.{part_at, shared_of}
use denote.Plain.{uint_row_laws}
use denote.RawPtr.{Ptr, block_ptr, null_ptr, block_of, count_of, in_block}
use denote.Sharing.{ShrLaws, said}
use denote.SharingLaws.{beside_shr_laws, said_shr_laws, nothing_shr_laws}
use denote.Param.Shared.{copy_shared}
use denote.Struct.Field.{RawPtr-field, usize-field, u8-field}
use denote.Struct.Laws.{RawPtr-copy, usize-copy, u8-copy}
use denote.Struct.Lending.{Lends, Lends-both, Lends-nothing, Lends-false, in_block_pure, of_Lends}
use mir.Syntax.{w8}
use seplogic.Ra.Ura.{Ura}
use types.Logic.{Logic, sem, lfts}
use types.Kit.{‵, ◌⊛◌, raw, later, await, ◌$◌, !, qed, use0, use2, split, fjoin, updating, now, done}
use Rattle.raw_region.specs.Ownership.{unless_out, owned_but, shared_but, bytes_but, bytes_but_lent}
use Rattle.raw_region.specs.Holes.{is_out}
use Rattle.raw_region.specs.contracts.gapped.Gapped as C
use Rattle.raw_region.proofs.gapped.Gapped.TheLaw.Statement.{statement}

-- ---- copied, and at a shorter lifetime

unless_laws : (c : Bool) (s t : Lft → Fml) → ShrLaws s → ShrLaws t → ShrLaws (λ κ. unless_out c (s κ) (t κ))
unless_laws true s t ls lt = lt
unless_laws false s t ls lt = beside_shr_laws s t ls lt

each_laws : (m : ℕ → Bool) (b o i : ℕ) (bytes : List ℕ) → ShrLaws (shared_but m b o i bytes)
each_laws m b o i [] = nothing_shr_laws
each_laws m b o i (x ∷ xs) = unless_laws (m i) (shared_of u8 x b (i + o)) (shared_but m b o (suc i) xs) (uint_row_laws w8 x b (i + o)) (each_laws m b o (suc i) xs)

but_laws : (m : ℕ → Bool) (p : Ptr) (bytes : List ℕ) → ShrLaws (bytes_but_lent m p bytes)
but_laws m p bytes =
    beside_shr_laws (said (in_block p ftrue)) (shared_but m (block_of p) (count_of p) 0 bytes) (said_shr_laws (in_block p ftrue) (in_block_pure p)) (each_laws m (block_of p) (count_of p) 0 bytes)

-- ---- made of a borrow of what is owned

module _ {M : Type 1} {𝓤 : Ura M} (𝓛 : Logic 𝓤) where
  open 𝓛 use {H}

  unless_lends : (c : Bool) (F G : Fml) (s t : Lft → Fml) (l : Lft) → Lends 𝓛 F s l → Lends 𝓛 G t l → Lends 𝓛 (unless_out c F G) (λ κ. unless_out c (s κ) (t κ)) l
  unless_lends true F G s t l f g = g
  unless_lends false F G s t l f g = Lends-both 𝓛 F G s t l f g

  abbrev L : Lft
  L = (C.the_row).lives

  byte_lends : (x b o : ℕ) → Lends 𝓛 (part_at u8 full_share x b o) (shared_of u8 x b o) L
  byte_lends x b o κ ts inc sp = (copy_shared u8-field u8-copy).shares M 𝓤 𝓛 x κ ts b o inc sp

  each_lends : (m : ℕ → Bool) (b o i : ℕ) (bytes : List ℕ) → Lends 𝓛 (owned_but m b o i bytes) (shared_but m b o i bytes) L
  each_lends m b o i [] = Lends-nothing 𝓛 ftrue L
  each_lends m b o i (x ∷ xs) =
      unless_lends (m i) (part_at u8 full_share x b (i + o)) (owned_but m b o (suc i) xs) (shared_of u8 x b (i + o)) (shared_but m b o (suc i) xs) L (byte_lends x b (i + o)) (each_lends m b o (suc i) xs)

  but_lends : (m : ℕ → Bool) (p : Ptr) (bytes : List ℕ) → Lends 𝓛 (bytes_but m p bytes) (bytes_but_lent m p bytes) L
  but_lends m (block_ptr b o) bytes κ ts inc sp = qed 𝓛 (‵ (fbor κ (owned_but m b o 0 bytes)) ∷ raw (lfts 𝓛 ts) ∷ []) {P = H.⇛ (sep 𝓤 (sem 𝓛 (bytes_but_lent m (block_ptr b o) bytes κ)) (lfts 𝓛 ts))} (
      updating ! $ use2 𝓛 (later (‵ (shared_but m b o 0 bytes κ) ⊛ raw (lfts 𝓛 ts))) (each_lends m b o 0 bytes κ ts inc sp) $ await ! tt $ split ! $ use0 𝓛 (‵ ftrue) (id⊢ 𝓤 (emp 𝓤)) $ fjoin ! $ now ! $ done !)
  but_lends m null_ptr bytes κ ts inc sp = Lends-false 𝓛 (bytes_but_lent m null_ptr bytes) L κ ts inc sp

pub shares : statement
shares =
    of_Lends C.struct C.the_codes C.the_heap C.the_lent
    (λ d p. but_laws (is_out d.lents) d.ptr d.bytes)
    (copy_shared RawPtr-field RawPtr-copy, (copy_shared usize-field usize-copy, tt))
    (λ M 𝓤 𝓛 d p. but_lends 𝓛 (is_out d.lents) d.ptr d.bytes)
