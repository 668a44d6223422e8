use Rattle.std.proofs.Common.{◌+◌, slice_range, replicate, ap, ◌∙◌, ℕ, List, arith}
use Rattle.heap_model.specs.Bytes.{overwritten}
use Rattle.raw_region.specs.declared.gapped.Gapped.{Gapped}
use Rattle.raw_region.proofs.Carries.{carried}
use Rattle.raw_region.proofs.gapped.Gapped.carry.Goals as goal

pub returns-clause-bytes : goal.returns-clause-bytes
returns-clause-bytes c =
    let from = c.args.from in let to = c.args.to in let n = c.args.n in
    let whole = ap (λ (g : Gapped). g.bytes) c.replace-whole.ensures.value in
    let cut = c.cut_out-others.ensures in
    let part = cut.part.2 ∙ ap (λ (l : List ℕ). slice_range l from (from + n)) whole in
    let others = cut.others.2 ∙ ap (λ (l : List ℕ). overwritten l from (replicate n 0)) whole in
    ap (λ (g : Gapped). g.bytes) c.replace-none.ensures.after
    ∙ c.filled_in.ensures.2
    ∙ (λ i. overwritten ((c.write.ensures.bytes ∙ (λ j. overwritten (others j) to ((c.as_slice.ensures ∙ part) j))) i) from (part i))
    ∙ carried c.args.self.now.bytes from to n (omega (arith, c.requires.from.0, c.args.self.now.ok.0)) (omega (arith, c.requires.to.0, c.args.self.now.ok.0)) c.requires.apart
