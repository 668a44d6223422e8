-- `put_placing` writes the line of the filler, and the lines `order`.
use Rattle.file_parts.proofs.AllWords.{is_ok, then, stops, order_text}
use Rattle.file_parts.proofs.exact_text.put_placing.Goals as goal

pub returns-in-Ok : goal.returns-in-Ok
returns-in-Ok g c =
    let file = c.args.unpacked.now.file in
    rw c.as_slice.ensures.value at (then g.W.Write.contents c.args.out.now c.put_filler.new.out
    c.put_order.new.out _ _ (is_ok c.put_order.result) c.in-Ok.ensures c.put_order.ensures)

pub returns-in-Err : goal.returns-in-Err
returns-in-Err g c = stops g.W.Write.contents c.args.out.now c.put_filler.new.out _
    (order_text c.args.unpacked.now.ranks.items) c.in-Err.ensures
