-- `put_bar_part` writes a part of the bar.
use Rattle.heap_svg.proofs.Words.{ℕ, ◌++◌, is_ok, subst, codes, decimal, Writes, bar_part}
use Rattle.heap_svg.proofs.frame.put_bar_part.Goals as goal

pub returns : goal.returns
unfolding bar_part
returns g c = subst (λ (n : ℕ). Writes g.W.Write.contents c.args.out.now c.put_pieces.new.out
    (codes "<rect x=\"" ++ (decimal c.args.start
    ++ (codes "\" width=\"" ++ (decimal n ++ (codes "\" height=\"9\" fill=\"" ++ (c.args.colour.now
    ++ (codes "\"><title>" ++ (c.args.title.now ++ codes "</title></rect>\n"))))))))
    (is_ok c.put_pieces.result)) c.saturating_sub.ensures c.put_pieces.ensures
