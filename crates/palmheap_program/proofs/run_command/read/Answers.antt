-- The image was accepted and nothing was written for it, and then the script was refused.
use Rattle.std.proofs.Common.{◌≡◌, ℕ, List, Option, Bool, false, subst, inr}
use Rattle.palm_text.specs.Counted.{Writing}
use Rattle.palmheap_program.specs.Runs.{PutsScriptFault}
use Rattle.palmheap_program.proofs.run_command.read.Goals as goal
use Rattle.palm_text.specs.Output.{output}

from_old : {V : Type 0} (contents : V → Option (List ℕ)) (script : List ℕ) (old opened new : Writing V) (ok : Bool) → opened ≡ old → PutsScriptFault script (output contents opened new) ok → PutsScriptFault script (output contents old new) ok
from_old {V} contents script old opened new ok same puts = subst (λ (writer : Writing V). PutsScriptFault script (output contents writer new) ok) same puts

pub returns-in-Err-parsed-clause-write : goal.returns-in-Err-parsed-clause-write
returns-in-Err-parsed-clause-write g c = λ is.
    inr (c.in-Ok.ensures.accepted, from_old g.V.Write.contents c.args.script.now c.args.out.now c.opened.new.out c.parsed.new.out false c.in-Ok.ensures.silent (c.in-Err-parsed.ensures.write (let s = is in cc)))
