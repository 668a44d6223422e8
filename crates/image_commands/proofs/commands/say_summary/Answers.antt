use Rattle.std.proofs.Common.{ℕ, List, true, false, Ok, Err, inl, inr, ◌≡◌, subst}
use Rattle.std.specs.Prelude.{Result, IfOk, IsOkAnd, string_bytes}
use Rattle.palm_text.specs.Output.{Puts, output}
use Rattle.program_io.specs.declared.status.Status.TheVariants.{Done}
use Rattle.image_commands.specs.FaultLines.{Says}
use Rattle.image_commands.specs.ImageChecks.{summary_lines}
use Rattle.image_commands.proofs.commands.say_summary.Goals as goal

of_text : {S E : Type 0} (bytes : S → List ℕ) (line : Result S E) (text : List ℕ) (P : List ℕ → Type 0) → IfOk line (λ s. bytes s ≡ text) → IsOkAnd line (λ s. P (bytes s)) → P text
of_text bytes (Ok s) text P is p = subst P is p
of_text bytes (Err e) text P is p = absurd p

-- the lines were made and printed, or a write of them failed
pub returns-in-Text-clause-said : goal.returns-in-Text-clause-said
returns-in-Text-clause-said g c = λ ample.
    let contents = g.V.Write.contents in
    let lines = summary_lines c.args.summary.now in
    let says : Says (output contents c.args.out.now c.say_text.new.out) lines Done c.say_text.result = record {
      statuses = elim c.say_text.ensures.status [ inl done ↦ inl done | inr rest ↦ elim rest [ inl failed ↦ inr failed | inr short ↦ absurd (ample short) ] ];
      said = λ is. of_text string_bytes c.summary_text.result lines (λ (text : List ℕ). Puts contents c.args.out.now c.say_text.new.out text true) c.summary_text.ensures.lines (c.say_text.ensures.said is);
      write = λ is. of_text string_bytes c.summary_text.result lines (λ (text : List ℕ). Puts contents c.args.out.now c.say_text.new.out text false) c.summary_text.ensures.lines (c.say_text.ensures.fault is);
    } in
    rw c.in-Text.is says
