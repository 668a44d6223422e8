-- The view that contracts have of a writer whose faults are counted.
use Rattle.std.specs.Prelude.{◌≡◌, ℕ, ◌≤◌, ◌<◌, ◌+◌, ◌==◌, Bool, true, false, ◌&&◌, not, cond, List, length, take, refl, Option, Some, Result, Ok, Err}
use Rattle.std.specs.Coded.{Coded, code_by, coded×, coded_ℕ, coded_bool, coded_option}
use Rattle.std.specs.Io.KnownBytes.{Appends, Keeps}

-- A writer, with the number of its faults and of its flushes. A fault is a write of one byte or
-- more that failed or took 0 bytes. If the last call was a flush, `flushed` says whether it
-- succeeded.
pub record Writing (W : Type 0) : Type 0 where
  pub writer : W
  pub faults : ℕ
  pub flushes : ℕ
  pub flushed : Option Bool

module _ {W : Type 0} where
  abbrev pub writing : W → ℕ → ℕ → Option Bool → Writing W
  writing writer faults flushes flushed = record { writer = writer; faults = faults; flushes = flushes; flushed = flushed }

  abbrev pub writing_code : Coded W → Coded (Writing W)
  writing_code code = code_by (W × (ℕ × (ℕ × Option Bool))) (coded× code (coded× coded_ℕ (coded× coded_ℕ (coded_option coded_bool)))) (λ w. (w.writer, (w.faults, (w.flushes, w.flushed)))) (λ parts. writing parts.0 parts.1.0 parts.1.1.0 parts.1.1.1) (λ _. refl)

-- a write is a fault: it is of one byte or more, and it failed or took 0 bytes
abbrev pub is_write_fault : {E : Type 0} → Result ℕ E → List ℕ → Bool
is_write_fault (Ok n) bytes = (n == 0) && not (length bytes == 0)
is_write_fault (Err error) bytes = not (length bytes == 0)

-- the number of faults of one write: 1 or 0
abbrev pub faults_of : {E : Type 0} → Result ℕ E → List ℕ → ℕ
faults_of result bytes = cond (is_write_fault result bytes) 1 0

-- the known bytes grow by a prefix of others
abbrev pub AppendsFront : Option (List ℕ) → Option (List ℕ) → List ℕ → Type 0
AppendsFront old new bytes = (n : ℕ) × (n ≤ length bytes) × Appends old new (take n bytes)

-- A text is written, and nothing is flushed. Success: all of it was written, and there was no
-- fault. Failure: a prefix of it was written, and there was a fault.
abbrev pub Writes : {W : Type 0} → (W → Option (List ℕ)) → Writing W → Writing W → List ℕ → Bool → Type 0
Writes contents old new text true = Appends (contents old.writer) (contents new.writer) text × (new.faults ≡ old.faults) × (new.flushes ≡ old.flushes)
Writes contents old new text false = AppendsFront (contents old.writer) (contents new.writer) text × (old.faults < new.faults) × (new.flushes ≡ old.flushes)

-- A writer is flushed once, and nothing is written. `ok` says whether the flush succeeded.
pub record Flushes {W : Type 0} (contents : W → Option (List ℕ)) (old new : Writing W) (ok : Bool) : Type 0 where
  pub bytes : Keeps (contents old.writer) (contents new.writer)
  pub faults : new.faults ≡ old.faults
  pub flushes : new.flushes ≡ old.flushes + 1
  pub flushed : new.flushed ≡ Some ok
