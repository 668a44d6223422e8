-- `first_offset` of `KeepingExactSource` meets its contract, by the laws of KeptSources.
use Rattle.std.proofs.Common.{◌+◌, ℕ, length, sym, ap, ◌∙◌, arith}
use Rattle.file_parts.proofs.KeptSources.{fits, start_is}
use Rattle.file_parts.proofs.kept.KeepingExactSource.first_offset.Goals as goal

pub returns-clause-is : goal.returns-clause-is
returns-clause-is c =
    ap (λ (n : ℕ). n + length c.args.self.now.filler.now) c.entries_end.ensures.is
    ∙ sym (start_is c.args.self.now)

pub returns-clause-most : goal.returns-clause-most
returns-clause-most c =
    let is = c.entries_end.ensures.is in
    let most = fits c.args.self.now c.requires in
    omega (arith, is, most)
