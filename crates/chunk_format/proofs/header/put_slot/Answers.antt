-- A chunk whose second word names another slot is spelled with that slot.
use Rattle.std.proofs.Common.{ℕ, ◌+◌, ◌∙◌, ap, arith}
use Rattle.heap_model.specs.Memory.{Memory}
use Rattle.heap_model.specs.Bytes.{u32_bytes, overwritten}
use Rattle.chunk_format.specs.Header.{h_offset_to, with_h_offset}
use Rattle.chunk_format.proofs.SecondLaws.{reslots}
use Rattle.chunk_format.proofs.header.put_slot.Goals as goal

pub returns-clause-reslotted : goal.returns-clause-reslotted
returns-clause-reslotted c =
    let old : Memory = c.args.region.now in
    let after : ℕ → ℕ → Memory = λ word way. record old { bytes = overwritten old.bytes (c.args.at + 4) (u32_bytes (with_h_offset word way)) } in
    let word = ap (λ (n : ℕ). after n c.h_offset.result) c.get_u32-word.ensures in
    let way = ap (after c.get_u32-word.result) c.h_offset.ensures in
    reslots _ c.args.at c.args.slot (omega (arith, c.requires.inside.inside, c.requires.small)) c.requires.slot c.requires.even
    (ap (λ (m : Memory). m.bytes) (c.put_u32.ensures.after ∙ way ∙ ap (λ (n : ℕ). after n (h_offset_to c.args.at c.args.slot)) c.get_u32-word.ensures))
