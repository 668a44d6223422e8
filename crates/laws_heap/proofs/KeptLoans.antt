-- A name that is lent stays so, over no step and over two, and stands for a chunk.
use Rattle.laws_heap.proofs.Words.{◌≡◌, ℕ, List, length, Option, Some, None, refl, sym, ◌∙◌, Memory, Lent, area_start, LiveChunk, chunks_of, held, place_of, IsLent, IsLentAs, KeepsLoan}
use Rattle.laws_heap.proofs.Lives.{live_placed}
use Rattle.laws_heap.proofs.LentBodies.{some_none}

pub keeps_itself : (memory : Memory) → KeepsLoan memory memory
keeps_itself memory = λ name count is. (is, refl)

pub keeps_then : (old mid new : Memory) → KeepsLoan old mid → KeepsLoan mid new → KeepsLoan old new
keeps_then old mid new first second = λ name count is.
    let mid_is = first name count is in
    let new_is = second name count mid_is.0 in
    (new_is.0, new_is.1 ∙ mid_is.1)

-- a name that stands for nothing is not lent
pub live_nowhere : (image : List ℕ) (name : ℕ) → held image name ≡ None → place_of image name ≡ None
unfolding held
live_nowhere image name e = live_placed (area_start image) (chunks_of image) name e

pub unheld_here : (memory : Memory) (name : ℕ) → held memory.bytes name ≡ None → IsLent memory name
    → ⊥
unheld_here memory name none is =
    some_none (λ y. place_of memory.bytes name ≡ Some y.at) memory.lents is never where
      never : (y : Lent) → place_of memory.bytes name ≡ Some y.at → ⊥
      never y e = let bad = sym (live_nowhere memory.bytes name none) ∙ e in absurd cc

-- a name that is lent stands for a chunk
pub lent_as : (memory : Memory) (name : ℕ) → IsLent memory name → (o : Option LiveChunk)
    → held memory.bytes name ≡ o → (count : ℕ) × IsLentAs memory name count
lent_as memory name out None is = absurd (unheld_here memory name is out)
lent_as memory name out (Some live) is =
    (length live.bytes, record { lent = out; live = live; is_held = is; many = refl })
