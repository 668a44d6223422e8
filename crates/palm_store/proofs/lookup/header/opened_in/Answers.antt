-- The header's count is that of the entries.
use Rattle.std.proofs.Common.{sym, ◌∙◌}
use Rattle.palm_store.proofs.EntriesHere.{header_inside, count_here}
use Rattle.palm_store.proofs.Loans.{number_here}
use Rattle.palm_store.proofs.lookup.header.opened_in.Goals as goal

pub sys_body_found-requires-clause-here : goal.sys_body_found-requires-clause-here
sys_body_found-requires-clause-here c = number_here _ _ c.requires.accepted c.requires.number

pub entry_count-requires : goal.entry_count-requires
entry_count-requires c =
    header_inside _ _ _ c.requires.accepted c.requires.number c.sys_body_found.ensures

pub returns-clause-opened : goal.returns-clause-opened
returns-clause-opened c = record {
  number = c.requires.number;
  chunk = c.requires.chunk;
  count = c.entry_count.ensures ∙ sym (count_here _ _ _ c.requires.number c.sys_body_found.ensures);
}
