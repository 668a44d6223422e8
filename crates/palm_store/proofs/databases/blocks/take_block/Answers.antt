-- The header names the block no more first, and then an owner gets that.
use Rattle.palm_store.proofs.Laws.{rules, writes_then, for_data, opened_here, written_then_owned, owned_none, is_block, block_movable, block_no_directory, take_block_steps}
use Rattle.palm_store.proofs.OpenedHere.{wrote}
use Rattle.palm_store.proofs.databases.blocks.take_block.Goals as goal

pub write_block-requires : goal.write_block-requires
write_block-requires c = record { opened = opened_here _ _ c.requires.accepted c.requires.opened }

pub sys_set_owner-requires : goal.sys_set_owner-requires
sys_set_owner-requires c =
    let r = c.requires in
    let block = is_block _ _ _ _ r.accepted r.opened.number r.is r.there in
    let l = c.write_block.ensures.written in record {
      movable = block_movable _ _ _ _ _ _ r.accepted r.opened.number block l;
      no_directory = block_no_directory _ _ _ _ _ _ r.accepted block l;
      some_owner = search rules;
      most_owner = search rules;
    }

pub returns : goal.returns
returns c =
    let r = c.requires in
    let has = r.opened.number in
    let block = is_block _ _ _ _ r.accepted has r.is r.there in
    let written = c.write_block.ensures in
    let given = c.sys_set_owner.ensures in
    let owned = written_then_owned _ _ _ _ _ _ _ written.written given.leaves in record {
      taken = take_block_steps _ _ _ _ _ _ r.accepted has block.is block.some r.owner.0 r.owner.1 written.fits owned;
      none_made = owned_none _ _ _ _ _ _ _ r.accepted has (for_data _ _ block.own).there owned;
      kept = writes_then _ _ _ written.kept (wrote given.loan given.rest);
    }
