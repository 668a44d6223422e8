-- The result of asking for the sentences on a name or a number.
use Rattle.std.specs.Prelude.{◌≡◌, ◌⊎◌, ◌<◌, ℕ, List, false, true, Some}
use Rattle.allowance.specs.Refusals.{GrowthRefused}
use Rattle.explanations.specs.Explained.{all_rows, answers, is_among}
use Rattle.heap_model.specs.Numbers.{number_of}
use Rattle.heap_model.specs.declared.refusal.Refusal.TheVariants.{OutOfMemory}
use Rattle.palm_text.specs.Counted.{Writing}
use Rattle.palmheap_c.specs.Buffers.{PutsCoded}

-- the result if no fault, refusal or change has the name or number
abbrev pub call_no_word : ℕ
call_no_word = 105

-- a write or the last flush failed
abbrev pub HasFailed : {W : Type 0} → Writing W → Type 0
HasFailed out = (0 < out.faults) ⊎ (out.flushed ≡ Some false)

-- nothing is explained: no fault, refusal or change has the word as its name or number, or an
-- allocation failed
abbrev pub RefusesText : List ℕ → ℕ → Type 0
RefusesText word result =
    ((result ≡ call_no_word) × (is_among word all_rows ≡ false))
    ⊎ ((result ≡ number_of OutOfMemory) × (is_among word all_rows ≡ true) × GrowthRefused)

-- The buffer got the lines of the rows with this name or number, or is too short for them.
-- Otherwise nothing is explained, and the buffer and the count are unchanged.
abbrev pub Explains : List ℕ → (old new : List ℕ) → (was count : ℕ) → ℕ → Type 0
Explains word old new was count result =
    ((is_among word all_rows ≡ true) × PutsCoded (answers word all_rows) old new count result)
    ⊎ (RefusesText word result × (new ≡ old) × (count ≡ was))
