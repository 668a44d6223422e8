-- A header and zeros make the free chunk a table, and the last table leads to it.
use Rattle.heap_place.proofs.Laws.{◌∙◌, arith, rules, same_bytes, same_lents, head_tables, written_lends, added_lends, starts_still, words_within, body_still, cut_facts, table_written, table_lays, table_claimed}
use Rattle.laws_heap.proofs.MoreTables.{written_replaces, written_new, written_chained, second_adds}
use Rattle.heap_place.proofs.claim.claim_table_at.Goals as goal

pub write-requires : goal.write-requires
write-requires c =
    let f = cut_facts c.requires.heap.accepted c.requires.free in
    record { inside = f.0; misses = (words_within c.requires.heap c.requires.free).misses; small = omega arith; writable = (omega arith, omega arith) }

pub fill-requires : goal.fill-requires
fill-requires c = body_still 64 c.requires.heap c.requires.free (same_lents c.write.ensures.after) c.write.ensures.len

pub add_table-requires : goal.add_table-requires
add_table-requires c =
    let r = c.requires in
    let w = table_written r.heap.accepted r.chained r.free
    (same_bytes c.write.ensures.after) c.write.ensures.spelled (same_bytes c.fill.ensures.after) in
    record {
      chained = written_chained _ _ _ _ _ w;
      table = written_new _ _ _ _ _ w;
      start = starts_still c.args.region.now.bytes c.fill.new.self.bytes c.args.start.place c.args.start.before (head_tables c.args.region.now.bytes c.fill.new.self.bytes (written_replaces _ _ _ _ _ w).head) r.start;
      lent = written_lends c.args.region.now c.fill.new.self _ _ _ w r.heap.lent
          (same_lents c.fill.ensures.after ∙ same_lents c.write.ensures.after);
    }

pub returns : goal.returns
returns c =
    let r = c.requires in
    let lays = table_lays r.heap.accepted r.chained r.free (same_bytes c.write.ensures.after) c.write.ensures.spelled (same_bytes c.fill.ensures.after) (same_bytes c.add_table.ensures.after) in
    let done = table_claimed r.free lays in record {
      made = done.puts;
      keeps = done.keeps;
      plain = done.plain;
      rest = search rules;
      heap = record {
        accepted = done.puts.gains.accepted;
        lent = added_lends c.fill.new.self c.add_table.new.region _ (second_adds _ _ _ _ _ _ lays)
            (written_lends c.args.region.now c.fill.new.self _ _ _ lays.first r.heap.lent (same_lents c.fill.ensures.after ∙ same_lents c.write.ensures.after)) (same_lents c.add_table.ensures.after);
      };
    }
