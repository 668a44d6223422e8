-- The chunk of a database with another length: it may be refused to grow only for lack of room, and
-- is never refused to shrink.
use Rattle.database_edits.proofs.Words.{◌≡◌, ℕ, ◌<◌, ◌≤◌, length, inl, inr, refl, arith, Result, Ok, Err, IfErr, IsOk, Memory, need, held, ShortFor, bytes_under, IsManagers}
use Rattle.heap_model.specs.Lending.{IsLent}
use Rattle.heap_model.specs.Refusals.{FirstBrings}
use Rattle.heap_model.specs.MemorySteps.{growth_checks}
use Rattle.heap_model.specs.declared.refusal.Refusal.{Refusal}
use Rattle.heap_model.specs.declared.refusal.Refusal.TheVariants.{NotEnoughSpace}
use Rattle.database_edits.proofs.Chunks.{under}

-- it is refused for lack of room
pub refused : (old : Memory) (db size : ℕ) (refusal : Refusal) → IsManagers old.bytes db
    → (IsLent old db → ⊥) → FirstBrings (growth_checks old (held old.bytes) db size) refusal
    → (refusal ≡ NotEnoughSpace) × (need (length (bytes_under old.bytes db)) < need size)
    × ShortFor old.bytes db (need size)
unfolding bytes_under
refused old db size refusal m here brings =
    let u = under old.bytes db m in
    elim (rw u.1 at brings) [
      | inl lent ↦ absurd (here lent.0)
      | inr rest ↦ elim rest.1 [
        | inl locked ↦ absurd (omega (arith, locked.0.0, u.2))
        | inr more ↦ elim more.1 [
          | inl short ↦ (short.1, rw u.1 short.0.1, short.0.2)
          | inr none ↦ absurd none.1
        ]
      ]
    ]

pub shrinks_ok : {A : Type 0} (old : Memory) (db size : ℕ) (result : Result A Refusal)
    → IsManagers old.bytes db → (IsLent old db → ⊥) → size ≤ length (bytes_under old.bytes db)
    → IfErr result (λ refusal. FirstBrings (growth_checks old (held old.bytes) db size) refusal)
    → IsOk result
shrinks_ok old db size (Ok done) m here fewer why = refl
shrinks_ok old db size (Err refusal) m here fewer why =
    absurd (omega (arith, (refused old db size refusal m here why).1))
