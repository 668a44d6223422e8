-- The header's chunk is made, the data, and the slot is listed; or all of it is freed again.
use Rattle.palm_store.proofs.Laws.{refl, sym, subst, ◌≤◌, ◌∙◌, List, length, ℕ, rules, data_sizes, numbers_in, keeps_then, few_bytes, made_directory, made_movable, fresh_apart, no_rest_room, listed_whole, made_here, owned_here}
use Rattle.palm_store.proofs.databases.completing.list_whole.Goals as goal

pub make_data_and_list-requires-clause-few : goal.make_data_and_list-requires-clause-few
make_data_and_list-requires-clause-few c =
    subst (λ (bytes : List ℕ). length bytes ≤ 4096) (sym (made_directory c.args.heap.now.bytes c.sys_new.new.self.bytes c.in_ok-slot.slot.0 c.args.size c.requires.accepted.heap c.in_ok-slot.ensures.made)) (few_bytes c.args.heap.now.bytes c.requires.accepted)

pub sys_find-chunk-requires : goal.sys_find-chunk-requires
sys_find-chunk-requires c =
    let m = made_movable c.args.heap.now.bytes c.sys_new.new.self.bytes c.in_ok-slot.slot.0 _ _ c.in_ok-slot.ensures.made in
    record { live = m.live; is_held = c.in-Err.ensures.refused.map c.in_ok-slot.slot.0 ∙ m.is_held; movable = m.movable }

pub sys_free-requires-clause-no_directory : goal.sys_free-requires-clause-no_directory
sys_free-requires-clause-no_directory c e =
    fresh_apart c.args.heap.now.bytes c.sys_new.new.self.bytes c.in_ok-slot.slot.0 c.args.size c.requires.accepted.heap c.in_ok-slot.ensures.made (e ∙ c.in-Err.ensures.refused.frame.directory)

pub returns-in-Err-clause-no_room : goal.returns-in-Err-clause-no_room
returns-in-Err-clause-no_room c =
    no_rest_room c.args.heap.now.bytes c.sys_new.new.self.bytes c.in_ok-slot.slot.0 c.args.size (data_sizes c.args.blocks c.args.entries.now) c.requires.accepted.heap c.in_ok-slot.ensures.made c.in_ok-slot.ensures.lowers c.in-Err.ensures.no_room

pub returns-clause-lists : goal.returns-clause-lists
returns-clause-lists c =
    listed_whole c.args.heap.now.bytes c.sys_new.new.self.bytes c.make_data_and_list.new.heap.bytes c.in_ok-slot.slot.0 c.args.size (data_sizes c.args.blocks c.args.entries.now) (numbers_in c.make_data_and_list.new.names) c.requires.accepted.heap c.in_ok-slot.ensures.made c.in_default.ensures.lists

pub sys_free-requires-clause-here : goal.sys_free-requires-clause-here
sys_free-requires-clause-here c =
    owned_here c.make_data_and_list.new.heap c.in_ok-slot.slot.0 _ (c.in-Err.ensures.refused.map c.in_ok-slot.slot.0 ∙ made_here c.args.heap.now.bytes c.sys_new.new.self.bytes c.in_ok-slot.slot.0 c.args.size c.in_ok-slot.ensures.made) refl

pub returns-clause-kept : goal.returns-clause-kept
returns-clause-kept c = record {
  loan = keeps_then c.args.heap.now c.sys_new.new.self c.make_data_and_list.new.heap
      c.sys_new.ensures.loan c.make_data_and_list.ensures.kept.loan;
  rest = search rules;
}

pub returns-in-Err-clause-kept : goal.returns-in-Err-clause-kept
returns-in-Err-clause-kept c = record {
  loan = keeps_then _ _ _ (keeps_then _ _ _ c.sys_new.ensures.loan
      c.make_data_and_list.ensures.kept.loan) c.sys_free.ensures.loan;
  rest = search rules;
}
