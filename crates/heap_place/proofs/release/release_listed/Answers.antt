-- The chunk that became free is put into its list.
use Rattle.heap_place.proofs.Laws.{plain_then, rules, links_chunk, links_plain, given_lists, chunk_up_to, becomes_links}
use Rattle.heap_place.proofs.release.release_listed.Goals as goal

pub returns : goal.returns
returns c =
    let e = c.release-size.ensures in let p = c.push.ensures.pushed in record {
      gone = becomes_links e.gone p.links;
      free = chunk_up_to p.links.frame.accepted (links_chunk p.links e.chunk);
      lists = given_lists c.requires.heap.accepted c.requires.found e.keeps p c.requires.lists;
      plain = plain_then _ _ _ e.plain (links_plain _ _ _ _ p.links);
      rest = search rules;
      heap = c.push.ensures.heap;
    }
