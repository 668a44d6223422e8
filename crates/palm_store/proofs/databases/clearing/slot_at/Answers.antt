-- The slot is the one at the index, among those that the database has.
use Rattle.palm_store.proofs.Laws.{sym, ◌∙◌, ◌-◌, ◌≤◌, ◌<◌, arith, entry_count_in, length-named, header_inside, entry_inside, first_named, second_named, later_named}
use Rattle.palm_store.proofs.databases.clearing.slot_at.Goals as goal

pub app_info-requires : goal.app_info-requires
app_info-requires c = header_inside _ c.requires.spelled

pub sort_info-requires : goal.sort_info-requires
sort_info-requires c = header_inside _ c.requires.spelled

pub has_resources-requires : goal.has_resources-requires
has_resources-requires c = header_inside _ c.requires.spelled

pub entry_slot-requires-clause-inside : goal.entry_slot-requires-clause-inside
entry_slot-requires-clause-inside c =
    let past : 2 ≤ c.args.index = omega arith in
    let long = length-named c.args.body.now in
    let inside = c.requires.inside in
    let below : c.args.index - 2 < entry_count_in c.args.body.now = omega (arith, long, inside, past) in
    rw c.has_resources.ensures (entry_inside _ (c.args.index - 2) c.requires.spelled below)

pub returns-in-0 : goal.returns-in-0
returns-in-0 c = c.app_info.ensures ∙ sym (first_named _ _ c.in-0.is)

pub returns-in-1 : goal.returns-in-1
returns-in-1 c = c.sort_info.ensures ∙ sym (second_named _ _ c.in-1.is)

pub returns-in_default : goal.returns-in_default
returns-in_default c = (let past : 2 ≤ c.args.index = omega arith in c.entry_slot.ensures ∙ sym (later_named _ _ past c.requires.inside))
