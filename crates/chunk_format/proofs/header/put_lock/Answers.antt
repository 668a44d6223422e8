use Rattle.std.proofs.Common.{ℕ, ◌+◌, ◌∙◌, ap}
use Rattle.heap_model.specs.Memory.{Memory}
use Rattle.heap_model.specs.Bytes.{u32_bytes, overwritten}
use Rattle.chunk_format.specs.Header.{with_lock_field}
use Rattle.chunk_format.proofs.SecondLaws.{relocks}
use Rattle.chunk_format.proofs.header.put_lock.Goals as goal

pub returns-clause-relocked : goal.returns-clause-relocked
returns-clause-relocked c =
    let old : Memory = c.args.region.now in
    let after : ℕ → Memory = λ word. record old { bytes = overwritten old.bytes (c.args.at + 4) (u32_bytes (with_lock_field word c.args.lock)) } in
    relocks old c.put_u32.new.self c.args.at c.args.lock c.requires.lock (c.put_u32.ensures.after ∙ ap after c.get_u32-word.ensures)
