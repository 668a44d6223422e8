-- The loop of `add_named` keeps its invariant: the ranks of the lines so far are added and marked,
-- and the first faulty line is one of the others.
use Rattle.file_parts.proofs.AllWords.{◌≡◌, [], length, map, take, drop, data_in, database_listed, order_fault, AreMarked}
use Rattle.file_parts.proofs.exact_listed.add_named.Given as goal

abbrev pub invariant-loop-line : goal.invariant-loop-line
invariant-loop-line g l = record {
  ranks : l.ranks.items ≡ map (λ line. line.rank) (take l.line-index l.order);
  marks : AreMarked (length (data_in (database_listed l.listed))) l.ranks.items l.marks;
  fault : order_fault (data_in (database_listed l.listed)) [] l.order
      ≡ order_fault (data_in (database_listed l.listed)) l.ranks.items (drop l.line-index l.order);
}
