use Rattle.std.proofs.Common.{◌≡◌, ℕ, ◌+◌, ◌-◌, ◌*◌, ◌^◌, ◌++◌, subst, arith}
use Rattle.heap_model.specs.Bytes.{u32_bytes, overwritten}
use Rattle.chunk_format.proofs.WriteLaws.{two_words}
use Rattle.chunk_format.proofs.header.write_live.Goals as goal

pub returns-clause-after : goal.returns-clause-after
returns-clause-after c =
    subst (λ (size : ℕ). c.put_u32-2.new.self ≡ record c.args.region.now { bytes = overwritten c.args.region.now.bytes c.args.at (u32_bytes ((size - 8 - c.args.count) * 2 ^ 24 + size) ++ u32_bytes (c.args.lock * 2 ^ 28 + c.args.owner * 2 ^ 24 + c.args.h_offset)) })
    c.size_of_body-size.ensures (two_words c.args.region.now c.put_u32.new.self c.put_u32-2.new.self c.args.at _ _ (omega arith) c.put_u32.ensures.after c.put_u32-2.ensures.after)
