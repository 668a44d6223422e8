-- `joined` appends the files one by one, each with its end, by the laws of EndLaws.
use Rattle.std.proofs.Common.{ℕ, [], ◌∷◌, ◌++◌, ap, ◌∙◌}
use Rattle.palmheap_c.proofs.EndLaws.{one_joined}
use Rattle.palmheap_c.proofs.inputs.joined.Goals as goal

pub loop-file-preserved : goal.loop-file-preserved
loop-file-preserved c =
    one_joined c.args.files.now c.loop-file.file-index c.file-item.result c.loop-file.all.items
    c.extend.new.bytes.items c.loop-file.ends.items c.push.new.items.items c.loop-file-test.true
    c.file-item.is c.loop-file.invariant (rw c.as_slice.ensures at c.in_ok-extend.ensures.items)
    (rw c.len.ensures at c.in_ok-push.ensures.items
    ∙ ap (λ (n : ℕ). c.loop-file.ends.items ++ (n ∷ [])) c.extend.new.bytes.ok.0)
