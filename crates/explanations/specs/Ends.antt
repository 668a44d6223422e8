-- What `explain` writes with each status.
use Rattle.std.specs.Prelude.{◌≡◌, ◌≢◌, true, false, ℕ, List, Option}
use Rattle.palm_text.specs.Counted.{Writing}
use Rattle.palm_text.specs.Output.{Puts}
use Rattle.program_io.specs.declared.status.Status.{Status}
use Rattle.program_io.specs.declared.status.Status.TheVariants.{Done, Refused, BadWords, ReadFault, WriteFault, NoMemory}
use Rattle.explanations.specs.Explained.{Explanation, answers, is_among}

-- `Done`: there are rows of the word, and their lines were written and flushed. `BadWords`: there
-- are none, and nothing was written. `WriteFault`: a write or the flush failed. There is no
-- other status.
pub record EndsExplain {V : Type 0} (word : List ℕ) (rows : List Explanation) (contents : V → Option (List ℕ)) (old new : Writing V) (status : Status) : Type 0 where
  pub done : status ≡ Done → (is_among word rows ≡ true) × Puts contents old new (answers word rows) true
  pub unknown : status ≡ BadWords → (is_among word rows ≡ false) × (new ≡ old)
  pub write_fault : status ≡ WriteFault → (is_among word rows ≡ true) × Puts contents old new (answers word rows) false
  pub not_refused : status ≢ Refused
  pub reads_nothing : status ≢ ReadFault
  pub takes_no_memory : status ≢ NoMemory
