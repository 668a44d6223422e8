use Rattle.std.proofs.Common.{ℕ, ◌+◌, ◌∙◌, ap}
use Rattle.heap_model.specs.Memory.{Memory}
use Rattle.heap_model.specs.Bytes.{u32_bytes, overwritten}
use Rattle.chunk_format.specs.Header.{with_owner_field}
use Rattle.chunk_format.proofs.SecondLaws.{reowns}
use Rattle.chunk_format.proofs.header.put_owner.Goals as goal

pub returns-clause-reowned : goal.returns-clause-reowned
returns-clause-reowned c =
    let old : Memory = c.args.region.now in
    let after : ℕ → Memory = λ word. record old { bytes = overwritten old.bytes (c.args.at + 4) (u32_bytes (with_owner_field word c.args.owner)) } in
    reowns old c.put_u32.new.self c.args.at c.args.owner c.requires.owner (c.put_u32.ensures.after ∙ ap after c.get_u32-word.ensures)
