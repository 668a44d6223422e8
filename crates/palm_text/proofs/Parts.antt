-- Texts that are written in parts.
use Rattle.std.proofs.Common.{ℕ, ◌+◌, List, [], ◌++◌, length, take, Option, refl, sym, ◌∙◌, subst, arith, length-append, Bool, true, false, inr}
use Rattle.std.proofs.lemmas.List.{take-append-le}
use Rattle.std.proofs.Math.Seq.{take-append-add}
use Rattle.std.specs.Io.KnownBytes.{Appends}
use Rattle.std.proofs.KnownBytes.{Appends-trans, Appends-nil}
use Rattle.palm_text.specs.Counted.{Writing, AppendsFront, Writes, Flushes}
use Rattle.palm_text.specs.Output.{Puts}

front_more : (old new : Option (List ℕ)) (a b : List ℕ) → AppendsFront old new a → AppendsFront old new (a ++ b)
front_more old new a b (n, within, appended) = (n, omega (arith, length-append a b), subst (Appends old new) (sym (take-append-le n a b within)) appended)

front_after : (old mid new : Option (List ℕ)) (a b : List ℕ) → Appends old mid a → AppendsFront mid new b → AppendsFront old new (a ++ b)
front_after old mid new a b first (n, within, appended) = (length a + n, omega (arith, length-append a b), subst (Appends old new) (sym (take-append-add a b n)) (Appends-trans old mid new a (take n b) first appended))

-- a part that was written, and what follows it
pub then : {W : Type 0} (contents : W → Option (List ℕ)) (old mid new : Writing W) (a b : List ℕ) (ok : Bool) → Writes contents old mid a true → Writes contents mid new b ok → Writes contents old new (a ++ b) ok
then contents old mid new a b true first rest = (Appends-trans _ _ _ a b first.0 rest.0, rest.1 ∙ first.1, rest.2 ∙ first.2)
then contents old mid new a b false first rest = (front_after _ _ _ a b first.0 rest.0, omega (arith, first.1, rest.1), rest.2 ∙ first.2)

-- a part that failed
pub stops : {W : Type 0} (contents : W → Option (List ℕ)) (old new : Writing W) (a b : List ℕ) → Writes contents old new a false → Writes contents old new (a ++ b) false
stops contents old new a b first = (front_more _ _ a b first.0, first.1, first.2)

-- no bytes
pub nothing : {W : Type 0} (contents : W → Option (List ℕ)) (w : Writing W) → Writes contents w w [] true
nothing contents w = (Appends-nil _, refl, refl)

-- a text, and a flush after it
pub then_flush : {W : Type 0} (contents : W → Option (List ℕ)) (old between new : Writing W) (text : List ℕ) (ok : Bool) → Writes contents old between text true → Flushes contents between new ok → Puts contents old new text ok
then_flush contents old between new text true all flush = record { between = between; writes = all; flushes = flush }
then_flush contents old between new text false all flush = inr (record { between = between; writes = all; flushes = flush })
