-- Blank images with a chain of tables.
use Rattle.palmheap_c.proofs.Words.{false, ◌≡◌, ◌≢◌, ◌⊎◌, ℕ, inl, inr, ◌+◌, ◌-◌, ◌%◌, ◌≤◌, List, length, refl, sym, subst, ap, ◌∙◌, arith, cases_eq, cases_lt, eq-eqb, nat_tests, ◌==◌, IfOk, Option, Some, None, Result, Ok, GrowthRefused, IsBlank, IsRegionSize, LeavesRoom, LiveChunk, Memory, held, IsSlot, area_start, start_behind, Accepted, memory_answer, Answer}
use Rattle.std.specs.Prelude.{Err}
use Rattle.heap_migration.specs.Growth.{growth, growth_of}
use Rattle.heap_model.specs.Frame.{least_size, most_size}
use Rattle.heap_model.specs.Migration.{Migrates, MigratesBytes}
use Rattle.laws_heap.proofs.Migrations.{migrated}
use Rattle.laws_heap.proofs.Tests.{cond-false, cond-true}
use Rattle.palmheap_c.specs.ChainedImages.{HasChainSize, IsBlankChain, IsNoChain, LeavesChainRoom}

-- a chunk that no name has
no_chunk : (image : List ℕ) (name : ℕ) → ((live : LiveChunk) → held image name ≡ Some live → ⊥)
    → held image name ≡ None
no_chunk image name none = by (held image name) refl where
  by : (o : Option LiveChunk) → held image name ≡ o → o ≡ None
  by None is = refl
  by (Some live) is = absurd (none live is)

-- ---- sizes

-- after a table come 8 bytes more, or none
growth_is : (slots : ℕ) → (growth slots ≡ 0) ⊎ (growth slots ≡ 8)
growth_is slots = elim (cases_eq (slots % 2) 0) [
  | inl even ↦ inr (cond-true ((slots % 2) == 0) 8 0 (eq-eqb (slots % 2) 0 even))
  | inr odd ↦ inl (cond-false ((slots % 2) == 0) 8 0 (uneven slots odd))
] where
  uneven : (n : ℕ) → n % 2 ≢ 0 → ((n % 2) == 0) ≡ false
  uneven n odd = grind (arith, nat_tests)

-- an image has this size, but some image without a chain has not
pub no_size : (size slots : ℕ) → (IsRegionSize size → ⊥) → HasChainSize size slots → ⊥
no_size size slots none has =
    none (record { least = omega (arith, has.least); most = has.most; whole = has.whole })

-- the image before it is migrated has a size of an image
pub size_before : (size slots : ℕ) → HasChainSize size slots → IsRegionSize (size - growth slots)
size_before size slots has = by (growth slots) (growth_is slots) has.least where
  by : (g : ℕ) → (g ≡ 0) ⊎ (g ≡ 8) → least_size + g ≤ size → IsRegionSize (size - g)
  by g (inl none) least = record {
    least = omega (arith, least);
    most = omega (arith, has.most);
    whole = omega (arith, none, has.whole);
  }
  by g (inr some) least = record {
    least = omega (arith, least);
    most = omega (arith, has.most);
    whole = omega (arith, some, least, has.whole);
  }

-- the other way round
pub size_after : (size slots : ℕ) → IsRegionSize size → IsRegionSize (size - growth slots)
    → HasChainSize size slots
size_after size slots is before =
    record { least = by (growth slots) before.least; most = is.most; whole = is.whole } where
      by : (g : ℕ) → least_size ≤ size - g → least_size + g ≤ size
      by g least = omega (arith, least)

pub no_room : (size slots : ℕ) → (LeavesRoom (size - growth slots) slots → ⊥)
    → LeavesChainRoom size slots → ⊥
no_room size slots none room = none (record {
  some_slot = room.some_slot;
  a_chunk_fits = by (growth slots) (start_behind slots) room.a_chunk_fits;
}) where
  by : (g start : ℕ) → start + g + 8 ≤ size → start + 8 ≤ size - g
  by g start fits = omega (arith, fits)

-- ---- the image

module _ (size slots : ℕ) (one image : List ℕ) (blank : IsBlank (size - growth slots) slots one)
    (accepted : Accepted one) (few : growth slots ≤ size) (most : size ≤ most_size) where
  -- the table grows as an image with so many slots does
  grows : growth_of one ≡ growth slots
  grows = ap growth blank.slots_are

  pub chain_fits : length one + growth_of one ≤ most_size
  chain_fits = omega (arith, blank.size_is, grows, few, most)

  pub is_blank_chain : MigratesBytes one image (growth_of one) → IsBlankChain size slots image
  is_blank_chain becomes = record {
    size_is = len;
    chained = migrates.chained;
    slots_are = migrates.count ∙ blank.slots_are;
    one_table = migrates.further;
    nothing = λ name. no_chunk image name (nothing name);
    before = one;
    blank = blank;
    becomes = bytes;
  } where
    bytes : MigratesBytes one image (growth slots)
    bytes = subst (λ (n : ℕ). MigratesBytes one image n) grows becomes

    len : length image ≡ size
    len = omega (arith, bytes.len, blank.size_is, few)

    migrates : Migrates one image (growth slots)
    migrates = migrated one image (growth slots) accepted.heap blank.unchained
        (omega (arith, len, most)) bytes

    -- a name at or after the chunks' start is that of a fixed chunk, and was less by the growth
    lower : (name : ℕ) → area_start image ≤ name → name - growth slots + growth slots ≡ name
    lower name high = omega (arith, high, migrates.shift)

    nothing : (name : ℕ) (live : LiveChunk) → held image name ≡ Some live → ⊥
    nothing name live is = elim (cases_lt name (area_start image)) [
      | inl low ↦
          let no_slot : IsSlot one name → ⊥ =
          λ s. (let same = migrates.slots name s in let none = blank.nothing name in cc) in
          let none = migrates.no_others name no_slot low in cc
      | inr high ↦
          let there : held image name ≡ held one (name - growth slots) =
          subst (λ (n : ℕ). held image n ≡ held one (name - growth slots)) (lower name high)
          (migrates.fixed (name - growth slots) (omega (arith, high, migrates.shift))) in
          let none = blank.nothing (name - growth slots) in cc
    ]

-- the same of the image that is made, if it is made
pub chain_made : (size slots by : ℕ) (one : List ℕ) (result : Result Memory Answer)
    → IsRegionSize size → by ≡ growth slots → by ≤ 8 → IsBlank (size - by) slots one → Accepted one
    → IfOk result (λ grown. MigratesBytes one grown.bytes (growth_of one))
    → IfOk result (λ grown. IsBlankChain size slots grown.bytes)
chain_made size slots by one (Err answer) is grows few blank accepted becomes = tt
chain_made size slots by one (Ok grown) is grows few blank accepted becomes = is_blank_chain size
    slots one grown.bytes (subst (λ (n : ℕ). IsBlank (size - n) slots one) grows blank) accepted
    (omega (arith, is.least, few, grows)) is.most becomes

-- why none was made
pub no_memory_for : (size slots : ℕ) (found : Answer) → IsNoChain size slots found
    → found ≡ memory_answer → GrowthRefused
no_memory_for size slots found (inl bad) is = let kind : 1 ≡ 4 =
    ap (λ (a : Answer). a.kind) (sym is ∙ bad.0) in absurd (omega (arith, kind))
no_memory_for size slots found (inr (inl bad)) is = let kind : 1 ≡ 5 =
    ap (λ (a : Answer). a.kind) (sym is ∙ bad.0) in absurd (omega (arith, kind))
no_memory_for size slots found (inr (inr memory)) is = memory.1
