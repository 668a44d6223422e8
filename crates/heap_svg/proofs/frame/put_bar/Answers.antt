-- `put_bar` writes the bar for an image of this size.
use Rattle.heap_svg.proofs.Words.{◌+◌, ◌-◌, ℕ, is_ok, subst, Writes, then, bar_open, bar_parts, bar_text}
use Rattle.heap_svg.proofs.frame.put_bar.Goals as goal

pub returns : goal.returns
unfolding bar_text
returns g c =
    let size = c.args.size in
    let bar = c.args.bar in
    let used = size - bar.free in
    let parts = rw c.saturating_sub-used.ensures at c.put_bar_parts.ensures in
    then g.W.Write.contents c.args.out.now c.put_bar_open.new.out c.put_bar_parts.new.out
    (bar_open size) (bar_parts used (used + bar.largest) (used + bar.most) size)
    (is_ok c.put_bar_parts.result) c.in_ok-put_bar_open.ensures parts
