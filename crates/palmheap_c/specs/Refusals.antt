-- The result of asking for the name of a refusal.
use Rattle.std.specs.Prelude.{◌≡◌, ◌≢◌, ◌⊎◌, ℕ, List}
use Rattle.heap_model.specs.Numbers.{name_of, number_of}
use Rattle.heap_model.specs.declared.refusal.Refusal.{Refusal}
use Rattle.palmheap_c.specs.Buffers.{PutsCoded}

-- the result if no refusal has the number
abbrev pub call_no_refusal : ℕ
call_no_refusal = 101

-- The buffer got the name of the refusal with this number, or is too short for it. Otherwise no
-- refusal has this number, and the buffer and the count are unchanged.
abbrev pub NamesRefusal : ℕ → (old new : List ℕ) → (was count : ℕ) → ℕ → Type 0
NamesRefusal number old new was count result =
    ((refusal : Refusal) × (number ≡ number_of refusal) × PutsCoded (name_of refusal) old new count result)
    ⊎ ((result ≡ call_no_refusal) × ((refusal : Refusal) → number ≢ number_of refusal) × (new ≡ old) × (count ≡ was))
