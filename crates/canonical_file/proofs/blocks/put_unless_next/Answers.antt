-- `put_unless_next` adds a block to the run if it is the run's neighbour, by the laws of Runs.
use Rattle.std.proofs.Common.{◌≡◌, length, refl, sym, subst, rules}
use Rattle.std.specs.Prelude.{Option}
use Rattle.pdb_format.specs.Blocks.{IsBlockWithin}
use Rattle.pdb_format.specs.declared.blocks.Block.{Block}
use Rattle.canonical_file.specs.Canonical.{Continues}
use Rattle.canonical_file.proofs.Runs.{longer_run}
use Rattle.canonical_file.proofs.blocks.put_unless_next.Goals as goal

pub returns-then-block-run-clause-next : goal.returns-then-block-run-clause-next
returns-then-block-run-clause-next g c =
    let inside = subst (IsBlockWithin (length c.args.source.now)) c.in-Some.is c.requires.block in
    let meets : c.in-Some.block.start ≡ c.args.run.end = search rules in
    let next : Block = record { start = c.args.run.start; end = c.in-Some.block.end } in
    subst (λ (block : Option Block).
    Continues c.args.source.now g.W.Write.contents c.args.out.now c.args.out.now c.args.run block
    next) (sym c.in-Some.is)
    (longer_run g.W.Write.contents c.args.source.now c.args.out.now c.args.run c.in-Some.block next
    c.requires.run.0 inside.0 meets refl refl)
