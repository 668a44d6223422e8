-- `put_bar_parts` writes the parts of the bar and its end.
use Rattle.heap_svg.proofs.Laws.{◌++◌, is_ok, false, codes, then, stops, bar_part, bar_parts, fails}
use Rattle.heap_svg.proofs.frame.put_bar_parts.Goals as goal

pub returns-in_err-put_bar_part : goal.returns-in_err-put_bar_part
unfolding bar_parts
returns-in_err-put_bar_part g c =
    let used = bar_part 0 c.args.used (codes "#888") (codes "used") in
    let free =
    bar_part c.args.used c.args.largest (codes "#2ca02c") (codes "the largest free piece") in
    let added =
    bar_part c.args.largest c.args.most (codes "#98df8a") (codes "what a compact adds to it") in
    let others =
    bar_part c.args.most c.args.size (codes "#f7b6b2") (codes "free in other stretches") in
    let end = codes "</svg>\n" in
    fails g.W.Write.contents c.args.out.now c.put_bar_part.new.out _ c.from_residual.result (let e =
    c.from_residual.ensures in e.0) (stops g.W.Write.contents c.args.out.now c.put_bar_part.new.out
    used (free ++ (added ++ (others ++ end))) c.in_err-put_bar_part.ensures)

pub returns-in_err-put_bar_part-2 : goal.returns-in_err-put_bar_part-2
unfolding bar_parts
returns-in_err-put_bar_part-2 g c =
    let used = bar_part 0 c.args.used (codes "#888") (codes "used") in
    let free =
    bar_part c.args.used c.args.largest (codes "#2ca02c") (codes "the largest free piece") in
    let added =
    bar_part c.args.largest c.args.most (codes "#98df8a") (codes "what a compact adds to it") in
    let others =
    bar_part c.args.most c.args.size (codes "#f7b6b2") (codes "free in other stretches") in
    let end = codes "</svg>\n" in
    fails g.W.Write.contents c.args.out.now c.put_bar_part-2.new.out _
    c.from_residual-in_err-put_bar_part-2.result (let e =
    c.from_residual-in_err-put_bar_part-2.ensures in e.0) (then g.W.Write.contents c.args.out.now
    c.put_bar_part.new.out c.put_bar_part-2.new.out used (free ++ (added ++ (others ++ end))) false
    c.in_ok-put_bar_part.ensures (stops g.W.Write.contents c.put_bar_part.new.out
    c.put_bar_part-2.new.out free (added ++ (others ++ end)) c.in_err-put_bar_part-2.ensures))

pub returns-in_err-put_bar_part-3 : goal.returns-in_err-put_bar_part-3
unfolding bar_parts
returns-in_err-put_bar_part-3 g c =
    let used = bar_part 0 c.args.used (codes "#888") (codes "used") in
    let free =
    bar_part c.args.used c.args.largest (codes "#2ca02c") (codes "the largest free piece") in
    let added =
    bar_part c.args.largest c.args.most (codes "#98df8a") (codes "what a compact adds to it") in
    let others =
    bar_part c.args.most c.args.size (codes "#f7b6b2") (codes "free in other stretches") in
    let end = codes "</svg>\n" in
    fails g.W.Write.contents c.args.out.now c.put_bar_part-3.new.out _
    c.from_residual-in_err-put_bar_part-3.result (let e =
    c.from_residual-in_err-put_bar_part-3.ensures in e.0)
    (then g.W.Write.contents c.args.out.now c.put_bar_part.new.out c.put_bar_part-3.new.out used
    (free ++ (added ++ (others ++ end))) false c.in_ok-put_bar_part.ensures (then g.W.Write.contents
    c.put_bar_part.new.out c.put_bar_part-2.new.out c.put_bar_part-3.new.out free (added ++ (others
    ++ end)) false c.in_ok-put_bar_part-2.ensures (stops g.W.Write.contents c.put_bar_part-2.new.out
    c.put_bar_part-3.new.out added (others ++ end) c.in_err-put_bar_part-3.ensures)))

pub returns-in_err-put_bar_part-4 : goal.returns-in_err-put_bar_part-4
unfolding bar_parts
returns-in_err-put_bar_part-4 g c =
    let used = bar_part 0 c.args.used (codes "#888") (codes "used") in
    let free =
    bar_part c.args.used c.args.largest (codes "#2ca02c") (codes "the largest free piece") in
    let added =
    bar_part c.args.largest c.args.most (codes "#98df8a") (codes "what a compact adds to it") in
    let others =
    bar_part c.args.most c.args.size (codes "#f7b6b2") (codes "free in other stretches") in
    let end = codes "</svg>\n" in
    fails g.W.Write.contents c.args.out.now c.put_bar_part-4.new.out _
    c.from_residual-in_err-put_bar_part-4.result (let e =
    c.from_residual-in_err-put_bar_part-4.ensures in e.0)
    (then g.W.Write.contents c.args.out.now c.put_bar_part.new.out c.put_bar_part-4.new.out used
    (free ++ (added ++ (others ++ end))) false c.in_ok-put_bar_part.ensures (then g.W.Write.contents
    c.put_bar_part.new.out c.put_bar_part-2.new.out c.put_bar_part-4.new.out free
    (added ++ (others ++ end)) false c.in_ok-put_bar_part-2.ensures (then g.W.Write.contents
    c.put_bar_part-2.new.out c.put_bar_part-3.new.out c.put_bar_part-4.new.out added
    (others ++ end) false c.in_ok-put_bar_part-3.ensures (stops g.W.Write.contents
    c.put_bar_part-3.new.out c.put_bar_part-4.new.out others end c.in_err-put_bar_part-4.ensures))))

pub returns : goal.returns
unfolding bar_parts
returns g c =
    let used = bar_part 0 c.args.used (codes "#888") (codes "used") in
    let free =
    bar_part c.args.used c.args.largest (codes "#2ca02c") (codes "the largest free piece") in
    let added =
    bar_part c.args.largest c.args.most (codes "#98df8a") (codes "what a compact adds to it") in
    let others =
    bar_part c.args.most c.args.size (codes "#f7b6b2") (codes "free in other stretches") in
    let end = codes "</svg>\n" in
    then g.W.Write.contents c.args.out.now c.put_bar_part.new.out c.put_all.new.out used
    (free ++ (added ++ (others ++ end))) (is_ok c.put_all.result) c.in_ok-put_bar_part.ensures
    (then g.W.Write.contents c.put_bar_part.new.out c.put_bar_part-2.new.out c.put_all.new.out free
    (added ++ (others ++ end)) (is_ok c.put_all.result) c.in_ok-put_bar_part-2.ensures
    (then g.W.Write.contents c.put_bar_part-2.new.out c.put_bar_part-3.new.out c.put_all.new.out
    added (others ++ end) (is_ok c.put_all.result) c.in_ok-put_bar_part-3.ensures
    (then g.W.Write.contents c.put_bar_part-3.new.out c.put_bar_part-4.new.out c.put_all.new.out
    others end (is_ok c.put_all.result) c.in_ok-put_bar_part-4.ensures c.put_all.ensures)))
