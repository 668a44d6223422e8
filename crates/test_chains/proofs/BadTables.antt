-- Chains that are no such as `IsBadTable` speaks of, taken apart.
use Rattle.std.proofs.Common.{◌≡◌, ◌≢◌, ℕ, List, [], ◌∷◌, length, refl, sym, ap, ◌∙◌, arith, inl, inr}
use Rattle.heap_model.specs.Bytes.{u16_at, u32_at, u32_bytes}
use Rattle.heap_model.specs.Chunk.{seen}
use Rattle.heap_model.specs.Placed.{AnyPlaced}
use Rattle.heap_model.specs.Slots.{Table}
use Rattle.heap_model.specs.Heap.{TableHere, IsTablePlace}
use Rattle.heap_model.specs.Reading.{chunk_at, chunks_from, chunks_of}
use Rattle.heap_check.specs.Faults.{Leads}
use Rattle.test_chains.specs.ChainedImages.{made_table, next_is_free, cycle, two_tables}

-- no other table of an image is at a place
abbrev NoOther : List ℕ → List Table → ℕ → Type 0
NoOther image tables next = (t : Table) → AnyPlaced (TableHere t) 24 (chunks_of image) → t.place ≡ next → IsTablePlace tables next

-- the word after a table, by the place of the table
after : (image : List ℕ) (place at : ℕ) → at ≡ place → u32_at image place ≡ u32_at image at
after image place at e = ap (u32_at image) (sym e)

pub free_once : (tables : List Table) (next : ℕ) → length tables ≡ 1 → Leads next_is_free (chunks_of next_is_free) 32 tables next → ⊥
unfolding u16_at u32_at u32_bytes seen chunk_at chunks_from chunks_of
free_once [] next count leads = absurd cc
free_once (t ∷ ts) next count leads = elim leads.1 [ inl none ↦ none | inr none ↦ none ]

pub cycle_none : (tables : List Table) (next : ℕ) → length tables ≡ 0 → Leads cycle (chunks_of cycle) 32 tables next → NoOther cycle tables next → ⊥
unfolding u16_at u32_at u32_bytes seen chunk_at chunks_from chunks_of
cycle_none [] next count leads other = other (made_table 32 1) (inl (refl, refl, refl, omega arith)) leads
cycle_none (t ∷ ts) next count leads other = absurd cc

pub cycle_once : (tables : List Table) (next : ℕ) → length tables ≡ 1 → Leads cycle (chunks_of cycle) 32 tables next → NoOther cycle tables next → ⊥
unfolding u16_at u32_at u32_bytes seen chunk_at chunks_from chunks_of
cycle_once [] next count leads other = absurd cc
cycle_once (t ∷ []) next count leads other =
    let second : 48 ≡ next = sym (after cycle t.place 32 leads.0) ∙ leads.3 in
    elim (other (made_table 48 1) (inr (inl (refl, refl, refl, omega arith))) second) [ inl e ↦ (let first = leads.0 in absurd (omega arith)) | inr none ↦ none ]
cycle_once (t ∷ u ∷ ts) next count leads other = absurd (omega arith)

pub cycle_thrice : (tables : List Table) (next : ℕ) → length tables ≡ 3 → Leads cycle (chunks_of cycle) 32 tables next → ⊥
unfolding u16_at u32_at u32_bytes seen chunk_at chunks_from chunks_of
cycle_thrice [] next count leads = absurd (omega arith)
cycle_thrice (t ∷ []) next count leads = absurd (omega arith)
cycle_thrice (t ∷ u ∷ []) next count leads = absurd (omega arith)
cycle_thrice (t ∷ u ∷ v ∷ ts) next count leads =
    let first : 32 ≡ t.place = leads.0 in
    let second : 48 ≡ u.place = sym (after cycle t.place 32 first) ∙ leads.3.0 in
    let third : 32 ≡ v.place = sym (after cycle u.place 48 second) ∙ leads.3.3.0 in
    leads.2 (inr (inl (sym third ∙ first)))

-- a right chain has none
pub two_right : (tables : List Table) (next : ℕ) → Leads two_tables (chunks_of two_tables) 32 tables next → next ≢ 0 → NoOther two_tables tables next → ⊥
unfolding u16_at u32_at u32_bytes seen chunk_at chunks_from chunks_of
two_right [] next leads more other = other (made_table 32 1) (inl (refl, refl, refl, omega arith)) leads
two_right (t ∷ []) next leads more other = more (sym leads.3 ∙ after two_tables t.place 32 leads.0)
two_right (t ∷ u ∷ ts) next leads more other =
    let none : 0 ≡ u.place = sym (after two_tables t.place 32 leads.0) ∙ leads.3.0 in
    elim leads.3.1 [ inl here ↦ (let place = here.1 in absurd (omega arith)) | inr rest ↦ elim rest [ inl none ↦ none | inr others ↦ elim others [ inl none ↦ none | inr none ↦ none ] ] ]
