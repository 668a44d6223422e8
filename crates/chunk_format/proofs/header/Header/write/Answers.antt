use Rattle.std.proofs.Common.{ℕ, ap, sym, ◌∙◌}
use Rattle.heap_model.specs.Memory.{Memory}
use Rattle.heap_model.specs.Bytes.{overwritten}
use Rattle.chunk_format.specs.declared.header.Header.{Header}
use Rattle.chunk_format.specs.Header.{live_words, header_words}
use Rattle.chunk_format.proofs.WriteLaws.{header_written}
use Rattle.chunk_format.proofs.header.Header.write.Goals as goal

pub returns-in-Free-clause-spelled : goal.returns-in-Free-clause-spelled
returns-in-Free-clause-spelled c =
    let old = c.args.region.now.bytes in
    let at = c.args.at in
    header_written old _ at c.args.self c.requires.inside c.requires.small c.requires.writable (ap (λ (m : Memory). m.bytes) c.put_u32.ensures.after
    ∙ ap (λ (h : Header). overwritten old at (header_words at h)) (sym c.in-Free.is))

pub returns-in-Movable-clause-len : goal.returns-in-Movable-clause-len
returns-in-Movable-clause-len c = c.write_live.ensures.len

pub returns-in-Movable-clause-spelled : goal.returns-in-Movable-clause-spelled
returns-in-Movable-clause-spelled c =
    let old = c.args.region.now.bytes in
    let at = c.args.at in
    header_written old _ at c.args.self c.requires.inside c.requires.small c.requires.writable (ap (λ (m : Memory). m.bytes) c.write_live.ensures.after
    ∙ ap (λ (h : ℕ). overwritten old at (live_words c.in-Movable.length c.in-Movable.lock c.in-Movable.owner h)) c.h_offset.ensures
    ∙ ap (λ (h : Header). overwritten old at (header_words at h)) (sym c.in-Movable.is))

pub returns-in-Fixed-clause-len : goal.returns-in-Fixed-clause-len
returns-in-Fixed-clause-len c = c.write_live-in-Fixed.ensures.len

pub returns-in-Fixed-clause-spelled : goal.returns-in-Fixed-clause-spelled
returns-in-Fixed-clause-spelled c =
    let old = c.args.region.now.bytes in
    let at = c.args.at in
    header_written old _ at c.args.self c.requires.inside c.requires.small c.requires.writable (ap (λ (m : Memory). m.bytes) c.write_live-in-Fixed.ensures.after
    ∙ ap (λ (h : Header). overwritten old at (header_words at h)) (sym c.in-Fixed.is))
