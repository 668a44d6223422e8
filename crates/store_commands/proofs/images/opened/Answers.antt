use Rattle.std.proofs.Common.{◌≡◌, ◌≢◌, true, false, rules}
use Rattle.store_check.specs.declared.fault.StoreFault.TheVariants.{OutOfMemory}
use Rattle.program_io.specs.declared.status.Status.TheVariants.{Refused, WriteFault}
use Rattle.palm_text.specs.Output.{output}
use Rattle.image_commands.proofs.Checked.{puts_fault}
use Rattle.store_commands.proofs.images.opened.Goals as goal

pub returns-in-Err : goal.returns-in-Err
returns-in-Err g c =
    let other : c.in-Err.error.fault ≢ OutOfMemory = search rules in
    record {
      store = search rules;
      accepted = search rules;
      silent = search rules;
      faults = search rules;
      refused = search rules;
      said = λ is.
          let refused : c.say_fault.result ≡ Refused = cc in
          puts_fault c.args.form (output g.V.Write.contents c.args.out.now c.say_fault.new.out) c.args.region.bytes c.in-Err.error.fault true other c.in-Err.ensures.fault (c.say_fault.ensures.said refused);
      write = λ is.
          let failed : c.say_fault.result ≡ WriteFault = cc in
          puts_fault c.args.form (output g.V.Write.contents c.args.out.now c.say_fault.new.out) c.args.region.bytes c.in-Err.error.fault false other c.in-Err.ensures.fault (c.say_fault.ensures.write failed);
      no_memory = search rules;
      short = search rules;
    }
