-- `put_ranks` writes a line `order` for each rank, by the laws of ExactRanks.
use Rattle.file_parts.proofs.AllLaws.{◌≡◌, ◌+◌, ◌<◌, ◌≤◌, ◌++◌, List, ℕ, [], true, false, length, get_or, drop, ap, arith, drop_all, then, stops, nothing, order_line, order_lines, rest_from}
use Rattle.file_parts.proofs.exact_text.put_ranks.Goals as goal

-- the line of an index, and those after it
line_here : (ranks : List ℕ) (i : ℕ) → i < length ranks
    → order_lines (drop i ranks) ≡ order_line (get_or ranks i 0) ++ order_lines (drop (i + 1) ranks)
line_here ranks i inside = ap order_lines (rest_from ranks i inside)

pub loop-rank-preserved : goal.loop-rank-preserved
loop-rank-preserved g c = λ new ok w.
    let ranks : List ℕ = c.args.ranks.now in
    let i = c.loop-rank.rank-index in
    let inside : i < length ranks = omega arith in
    c.loop-rank.invariant new ok
    (rw (line_here ranks i inside)
    (then g.W.Write.contents c.loop-rank.out c.put_rank.new.out new _ _ ok c.in-Ok.ensures w))

pub returns-in-Err : goal.returns-in-Err
returns-in-Err g c =
    let ranks : List ℕ = c.args.ranks.now in
    let i = c.loop-rank.rank-index in
    let inside : i < length ranks = omega arith in
    c.loop-rank.invariant c.put_rank.new.out false
    (rw (line_here ranks i inside) (stops g.W.Write.contents c.loop-rank.out c.put_rank.new.out _
    (order_lines (drop (i + 1) ranks)) c.in-Err.ensures))

pub returns : goal.returns
returns g c =
    let ranks : List ℕ = c.args.ranks.now in
    let i = c.loop-rank.rank-index in
    let past : length ranks ≤ i = omega arith in
    let none : order_lines (drop i ranks) ≡ [] = ap order_lines (drop_all i ranks past) in
    c.loop-rank.invariant c.loop-rank.out true
    (rw none (nothing g.W.Write.contents c.loop-rank.out))
