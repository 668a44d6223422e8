use Rattle.std.proofs.Common.{◌++◌, ◌<◌, ◌∙◌, take, arith, rules}
use Rattle.std.specs.Prelude.{◌==◌, not, length}
use Rattle.std.proofs.KnownBytes.{Appends-trans}
use Rattle.palm_text.proofs.Fronts.{moves_on, stopped, stalled, no_fault, one_fault, one_failed}
use Rattle.palm_text.proofs.output.put_all.Goals as goal

pub loop-rest-preserved : goal.loop-rest-preserved
loop-rest-preserved g c =
    let (done, split, appended) = c.loop-rest.invariant.gone in let rest = c.loop-rest.rest.now in let n = c.in-Ok.n in
    record {
      gone = (done ++ take n rest, moves_on _ done rest n split, Appends-trans _ _ _ _ _ appended c.in-Ok.ensures.bytes);
      quiet = omega (arith, c.in-Ok.ensures.faults, c.loop-rest.invariant.quiet, no_fault n (not (length rest == 0)) c.if-n-gt0.true);
      unflushed = c.in-Ok.ensures.flushes ∙ c.loop-rest.invariant.unflushed;
    }

pub returns-in_default : goal.returns-in_default
returns-in_default g c =
    let (done, split, appended) = c.loop-rest.invariant.gone in let rest = c.loop-rest.rest.now in let n = c.in-Ok.n in
    let some : 0 < length rest = search rules in (
      stalled _ _ _ _ done _ n c.if-n-gt0.false split appended c.in-Ok.ensures.bytes,
      omega (arith, c.in-Ok.ensures.faults, c.loop-rest.invariant.quiet, one_fault n (length rest) c.if-n-gt0.false some),
      c.in-Ok.ensures.flushes ∙ c.loop-rest.invariant.unflushed,
    )

pub returns-in_default-2 : goal.returns-in_default-2
returns-in_default-2 g c =
    let (done, split, appended) = c.loop-rest.invariant.gone in let rest = c.loop-rest.rest.now in
    let some : 0 < length rest = search rules in (
      stopped _ _ _ _ done _ split appended c.in_default.ensures.bytes,
      omega (arith, c.in_default.ensures.faults, c.loop-rest.invariant.quiet, one_failed (length rest) some),
      c.in_default.ensures.flushes ∙ c.loop-rest.invariant.unflushed,
    )
