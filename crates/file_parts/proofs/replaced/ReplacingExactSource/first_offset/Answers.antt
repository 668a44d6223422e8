-- `first_offset` of `ReplacingExactSource` meets its contract, by the laws of ReplacedFiles.
use Rattle.file_parts.proofs.AllWords.{◌+◌, List, ℕ, length, sym, ap, ◌∙◌, entries_end}
use Rattle.file_parts.proofs.ReplacedFiles.{start_is}
use Rattle.file_parts.proofs.replaced.ReplacingExactSource.first_offset.Goals as goal

pub returns-clause-is : goal.returns-clause-is
returns-clause-is c =
    let file : List ℕ = c.args.self.now.unpacked.file in
    ap (λ (n : ℕ). n + length c.filler.result.now) c.entries_end.ensures.is
    ∙ ap (λ (xs : List ℕ). entries_end file + length xs) c.filler.ensures
    ∙ sym (start_is c.args.self.now c.requires)
