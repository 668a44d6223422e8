use native.Mathlib.Omega.{arith}
use Rattle.std.proofs.Common.{refl, inl}
use Rattle.palmheap_program.proofs.run_command.run_region_from.Goals as goal

-- the image or the script was refused, a write failed, or memory ran out
pub returns-in-Err-clause-ends : goal.returns-in-Err-clause-ends
returns-in-Err-clause-ends g c = record {
  done = λ is. absurd (let f = c.in-Err.ensures.faults in let s = is in grind arith);
  refused = λ is. c.in-Err.ensures.refused (let s = is in cc);
  no_image = λ is. refl;
  no_memory = λ is. (refl, c.in-Err.ensures.memory (let s = is in cc));
  write_fault = λ is. inl (c.in-Err.ensures.write (let s = is in cc), refl);
  good_words = λ is. (let f = c.in-Err.ensures.faults in let s = is in grind arith);
  reads_nothing = λ is. (let f = c.in-Err.ensures.faults in let s = is in grind arith);
}
