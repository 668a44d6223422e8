-- A word that names no database ends the command with the line for that.
use Rattle.std.proofs.Common.{◌≡◌, ◌⊎◌, ◌<◌, ℕ, true, false, List, [], length, Option, refl, sym, ap, subst, inl, inr}
use Rattle.std.specs.Prelude.{Some, slice_index_or}
use Rattle.heap_model.specs.Memory.{Memory}
use Rattle.heap_model.specs.Store.{Accepted, store_of}
use Rattle.heap_model.specs.declared.refusal.Refusal.TheVariants.{NoSuchDatabase}
use Rattle.palm_text.specs.Counted.{Writing}
use Rattle.palm_text.specs.Output.{Puts, output}
use Rattle.program_io.specs.declared.status.Status.{Status}
use Rattle.program_io.specs.declared.status.Status.TheVariants.{Refused, WriteFault}
use Rattle.script_calls.specs.Lines.{refusal_line}
use Rattle.store_commands.specs.Exports.{IsMissing, NotExported, NotExportedBy}
use Rattle.store_commands.specs.declared.exports.Ended.{Ended}
use Rattle.store_commands.proofs.exports.export_files.Goals as goal

missing : {V : Type 0} (image : List ℕ) (words : List (List ℕ)) (contents : V → Option (List ℕ)) (old new : Writing V) (word : ℕ) (ended : Ended) → Accepted image → ended.word ≡ Some word → (ended.status ≡ Refused) ⊎ (ended.status ≡ WriteFault)
    → (ended.status ≡ Refused → Puts contents old new (refusal_line NoSuchDatabase) true) → (ended.status ≡ WriteFault → Puts contents old new (refusal_line NoSuchDatabase) false) → word < length words → IsMissing (store_of image) (slice_index_or words word [])
    → NotExported image words (output contents old new) ended
missing image words contents old new word ended accepted which statuses said fault inside none = elim statuses [
  | inl is ↦ subst (λ (s : Status). NotExportedBy image words (output contents old new) ended.word s) (sym is) (inr (record { accepted = accepted; index = word; inside = inside; which = which; missing = none; told = said is }))
  | inr is ↦ subst (λ (s : Status). NotExportedBy image words (output contents old new) ended.word s) (sym is) (inr (record { accepted = accepted; index = word; inside = inside; which = which; missing = none; told = fault is }))
]

pub returns-clause-not : goal.returns-clause-not
returns-clause-not g c =
    let named = rw c.in-Err-Missing.field-0-is at c.in-Err-Missing.ensures.missing in
    let silent = c.in-Ok.ensures.silent in
    let said = c.say_missing.ensures in
    missing c.args.region.bytes c.args.words.now g.V.Write.contents c.args.out.now c.say_missing.new.out c.in-Err-Missing.word c.say_missing.result c.in-Ok.ensures.accepted said.word said.statuses
    (λ is. subst (λ (w : Writing g.row.V.Denot). Puts g.V.Write.contents w c.say_missing.new.out (refusal_line NoSuchDatabase) true) silent (said.said is))
    (λ is. subst (λ (w : Writing g.row.V.Denot). Puts g.V.Write.contents w c.say_missing.new.out (refusal_line NoSuchDatabase) false) silent (said.fault is))
    named.0 (subst (λ (m : Memory). IsMissing (store_of m.bytes) (slice_index_or c.args.words.now c.in-Err-Missing.word [])) c.in-Ok.ensures.store named.1)
