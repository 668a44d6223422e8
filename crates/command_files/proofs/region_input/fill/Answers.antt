use Rattle.std.proofs.Common.{◌≡◌, ◌+◌, ◌≤◌, ℕ, List, length, take, sym, ap, subst, ◌∙◌, arith}
use Rattle.std.proofs.lemmas.List.{length-take}
use Rattle.heap_model.specs.Memory.{Lent, Memory, Misses}
use Rattle.command_files.proofs.Filled.{front_written, filled}
use Rattle.command_files.proofs.region_input.fill.Goals as goal

pub write-requires : goal.write-requires
write-requires g c =
    let count = length-take c.in-Ok.n c.read_once.new.turn in
    let len = c.len.ensures in
    let fits = c.if-n-len.false in
    let inside = c.requires.inside in
    record {
      inside = omega arith;
      misses = subst (λ (lents : List Lent). Misses lents c.args.at.now (length (take c.in-Ok.n c.read_once.new.turn))) (sym c.requires.whole) tt;
    }

pub returns-clause-kept : goal.returns-clause-kept
returns-clause-kept g c =
    let at = c.args.at.now in
    let old = c.args.region.now.bytes in
    let part = take c.in-Ok.n c.read_once.new.turn in
    let count = length-take c.in-Ok.n c.read_once.new.turn in
    let bound = c.in-Ok.ensures.bound in
    let len = c.len.ensures in
    let fits = c.if-n-len.false in
    let inside = c.requires.inside in
    let long : c.in-Ok.n ≡ length part = omega arith in
    let within : at + length part ≤ length old = omega arith in
    let front = ap (λ (n : ℕ). take (at + n) c.write.new.self.bytes) long
    ∙ ap (λ (m : Memory). take (at + length part) m.bytes) c.write.ensures.after
    ∙ front_written old at part within in
    filled (g.R.Read.remaining c.args.reader.now) (g.R.Read.remaining c.read_once.new.reader) old c.write.new.self.bytes part at (at + c.in-Ok.n) c.in-Ok.ensures.bytes.0 front
