-- The bytes that are returned are those under the number.
use Rattle.palm_store.proofs.Laws.{number_spelled, number_shape, number_here}
use Rattle.palm_store.proofs.lookup.header.header_in.Goals as goal

pub sys_body_found-requires-clause-here : goal.sys_body_found-requires-clause-here
sys_body_found-requires-clause-here c = number_here _ _ c.requires.accepted c.requires.opened.number

pub returns : goal.returns
returns c =
    let is = c.sys_body_found.ensures in
    let has = c.requires.opened.number in record {
      is = is;
      spelled = rw is (number_spelled _ _ c.requires.accepted has);
      shape = rw is (number_shape _ _ c.requires.accepted has);
    }
