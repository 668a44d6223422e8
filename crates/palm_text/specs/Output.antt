-- Texts that are written and then flushed, and outputs.
use Rattle.std.specs.Prelude.{◌≡◌, ◌⊎◌, ℕ, Bool, true, false, List, Option}
use Rattle.palm_text.specs.Counted.{Flushes, Writing, Writes}

-- All of a text was written without a fault, and then the writer was flushed once. `ok` says
-- whether the flush succeeded.
pub record WritesAndFlushes {W : Type 0} (contents : W → Option (List ℕ)) (old new : Writing W) (text : List ℕ) (ok : Bool) : Type 0 where
  pub between : Writing W
  pub writes : Writes contents old between text true
  pub flushes : Flushes contents between new ok

-- Success: all of the text was written without a fault, and the flush after it succeeded.
-- Failure: a prefix was written, there was a fault, and nothing was flushed; or all of the text was
-- written without a fault, and the flush failed.
abbrev pub Puts : {W : Type 0} → (W → Option (List ℕ)) → Writing W → Writing W → List ℕ → Bool → Type 0
Puts contents old new text true = WritesAndFlushes contents old new text true
Puts contents old new text false = Writes contents old new text false ⊎ WritesAndFlushes contents old new text false

-- An output: what bytes a writer has, if they are known, and the writer before a command and after
-- it.
pub record Output (W : Type 0) : Type 0 where
  pub contents : W → Option (List ℕ)
  pub old : Writing W
  pub new : Writing W

module _ {W : Type 0} where
  abbrev pub output : (W → Option (List ℕ)) → Writing W → Writing W → Output W
  output contents old new = record { contents = contents; old = old; new = new }

  -- all of a text was written and flushed; or, if `ok` is false, a write or the flush failed
  abbrev pub PutsTo : Output W → List ℕ → Bool → Type 0
  PutsTo out text ok = Puts out.contents out.old out.new text ok

  -- nothing was done with the output
  abbrev pub IsUnused : Output W → Type 0
  IsUnused out = out.new ≡ out.old
