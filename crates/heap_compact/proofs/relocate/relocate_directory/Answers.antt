-- The directory is no directory while it moves, and is named again then.
use Rattle.heap_compact.proofs.Laws.{◌∙◌, inl, inr, refl, plain_then, lists_kept, same_lents, ap, ◌+◌, IsOne, min, same_slid, named_spot, relocated_again, named_one, some_name, moved_owner}
use Rattle.heap_compact.proofs.relocate.relocate_directory.Goals as goal

pub name_directory-requires-clause-managers : goal.name_directory-requires-clause-managers
name_directory-requires-clause-managers c = inl refl

pub relocate_other-requires : goal.relocate_other-requires
relocate_other-requires c =
    let n = c.name_directory.ensures in record {
      heap = n.heap;
      found = named_one c.args.found n.names c.requires.found;
      unlocked = c.requires.unlocked;
      no_directory = λ e. some_name _ c.requires.heap.accepted c.requires.found (e ∙ n.names.directory);
      room = named_spot _ _ _ _ _ n.names c.requires.room;
      enough = c.requires.enough;
      lists = lists_kept _ _ _ _ n.keeps c.requires.lists;
    }

pub name_directory-requires-2-clause-managers : goal.name_directory-requires-2-clause-managers
name_directory-requires-2-clause-managers c = inr (moved_owner _ _ _ c.requires.heap.accepted c.requires.found c.requires.unlocked c.requires.directory
    c.name_directory.ensures.names (named_spot _ _ _ _ _ c.name_directory.ensures.names c.requires.room) c.requires.enough c.relocate_other.ensures.moved)

pub returns : goal.returns
returns c =
    let first = c.name_directory.ensures in let other = c.relocate_other.ensures in let last = c.name_directory-2.ensures in
    let moved = λ (f : IsOne c.args.region.now.bytes c.args.found). relocated_again _ _ _ _ _ _ _ _ _ first.names (other.moved (named_one _ first.names f)) last.names c.requires.directory in
    record {
      lists = lists_kept _ _ _ _ last.keeps other.lists;
      moved = moved;
      frame = (moved c.requires.found c.requires.room).frame;
      plain = plain_then _ _ _
          (plain_then _ _ _ first.plain other.plain) last.plain;
      out = same_lents last.rest ∙ other.out ∙ same_lents first.rest;
      slid = same_slid last.rest ∙ other.slid ∙ ap (λ n. n + min c.args.found.length c.args.count) (same_slid first.rest);
      heap = last.heap;
    }
