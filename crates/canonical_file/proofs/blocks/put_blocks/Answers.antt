-- `put_blocks` writes the blocks, one after the other, by the laws of Parts, BlockTexts and Runs.
use Rattle.std.proofs.Common.{◌≡◌, ◌+◌, ◌<◌, ◌≤◌, ◌++◌, ℕ, List, Option, length, drop, false, is_ok, sym, refl, ap, subst, ◌∙◌, arith, rules, append-nil}
use Rattle.std.proofs.lemmas.List.{drop_all}
use Rattle.pdb_format.specs.declared.blocks.Block.{Block}
use Rattle.palm_text.specs.Counted.{Writes}
use Rattle.palm_text.proofs.Parts.{stops}
use Rattle.canonical_file.specs.Canonical.{blocks_at, run_bytes}
use Rattle.canonical_file.proofs.BlockTexts.{block_here}
use Rattle.canonical_file.proofs.Runs.{continued}
use Rattle.canonical_file.proofs.blocks.put_blocks.Goals as goal

pub returns-in-Err : goal.returns-in-Err
returns-in-Err g c =
    let source = c.args.source.now in
    c.loop-index.invariant.text c.put_unless_next.new.out false
    (stops g.W.Write.contents c.loop-index.out c.put_unless_next.new.out
    (run_bytes source c.loop-index.run)
    (blocks_at source (drop c.loop-index.index c.args.blocks.now)) c.in-Err.ensures.stops)

pub loop-index-preserved : goal.loop-index-preserved
loop-index-preserved g c =
    let inside : c.loop-index.index < length c.args.blocks.now = search rules in
    let source = c.args.source.now in
    let rest = blocks_at source (drop (c.loop-index.index + 1) c.args.blocks.now) in
    let parts = block_here source c.args.blocks.now c.loop-index.index _ inside refl in
    record {
      within = c.in-Ok.ensures.within;
      text = λ new ok w.
          c.loop-index.invariant.text new ok
          (subst (λ (xs : List ℕ). Writes g.W.Write.contents c.loop-index.out new (run_bytes source c.loop-index.run ++ xs) ok) (sym parts)
          (continued _ _ _ _ new _ _ c.in-Ok.next rest ok c.in-Ok.ensures.next w));
    }

pub returns : goal.returns
returns g c =
    let source = c.args.source.now in
    let run = run_bytes source c.loop-index.run in
    let past : length c.args.blocks.now ≤ c.loop-index.index = omega arith in
    let all : run ++ blocks_at source (drop c.loop-index.index c.args.blocks.now)
    ≡ c.bytes_of.result.now =
    ap (λ (blocks : List (Option Block)). run ++ blocks_at source blocks)
    (drop_all c.loop-index.index c.args.blocks.now past)
    ∙ append-nil run ∙ sym c.bytes_of.ensures in
    c.loop-index.invariant.text c.put_all.new.out (is_ok c.put_all.result)
    (subst (λ (xs : List ℕ). Writes g.W.Write.contents c.loop-index.out c.put_all.new.out xs (is_ok c.put_all.result))
    (sym all) c.put_all.ensures)
