-- The body of a chunk that was found in the heap's value may be read.
use Rattle.mem_manager.proofs.Laws.{◌∙◌, found_viewed, found_under, not_lent_other, here_inside}
use Rattle.mem_manager.proofs.StepWords.{one_of}
use Rattle.mem_manager.proofs.heap.Heap.sys_body_found.Goals as goal

pub body_of-requires : goal.body_of-requires
body_of-requires c =
    let f = found_viewed c.self.view_is c.requires.stands in record {
      found = one_of c.requires.stands.is;
      other = rw c.self.view_is at (not_lent_other c.self.invariant.heap f (here_inside c.self.view_is c.self.invariant.heap c.requires.here));
    }

pub returns : goal.returns
returns c = c.body_of.ensures ∙ found_under c.requires.stands.is
