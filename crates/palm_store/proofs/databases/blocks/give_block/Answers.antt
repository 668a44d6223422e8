-- The header names the chunk first, and then that is given to the database.
use Rattle.palm_store.proofs.Laws.{rules, writes_then, opened_here, given, given_kept, given_movable, given_no_directory, written_then_owned, owned_none, set_block_steps}
use Rattle.palm_store.proofs.OpenedHere.{wrote}
use Rattle.palm_store.proofs.databases.blocks.give_block.Goals as goal

pub write_block-requires : goal.write_block-requires
write_block-requires c = record { opened = opened_here _ _ c.requires.accepted c.requires.opened }

pub sys_set_owner-requires : goal.sys_set_owner-requires
sys_set_owner-requires c =
    let a = c.requires.accepted in
    let g = given _ _ c.requires.given in
    let l = c.write_block.ensures.written in record {
      movable = given_movable _ _ _ g (given_kept _ _ _ _ _ a c.requires.opened.number g l);
      no_directory = given_no_directory _ _ _ a.heap g l.frame.directory;
      some_owner = search rules;
      most_owner = search rules;
    }

pub returns : goal.returns
returns c =
    let a = c.requires.accepted in
    let has = c.requires.opened.number in
    let g = given _ _ c.requires.given in
    let written = c.write_block.ensures in
    let given = c.sys_set_owner.ensures in
    let owned = written_then_owned _ _ _ _ _ 15 _ written.written given.leaves in record {
      given = set_block_steps _ _ _ _ _ a has g c.requires.none written.fits owned;
      none_made = owned_none _ _ _ _ 15 _ _ a has g.there owned;
      kept = writes_then _ _ _ written.kept (wrote given.loan given.rest);
    }
