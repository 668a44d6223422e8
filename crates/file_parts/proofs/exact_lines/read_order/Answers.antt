-- `read_order` reads the lines `order`, by the laws of ExactLines.
use Rattle.file_parts.proofs.AllWords.{List, length, sym, ap, ◌∙◌, arith, Ok, read_order, OrderLine}
use Rattle.file_parts.proofs.ExactLines.{order_more, order_ends, order_faulty, order_shorter}
use Rattle.file_parts.proofs.exact_lines.read_order.Goals as goal

pub loop-line-init : goal.loop-line-init
loop-line-init g c = (
  length c.args.lines.now.texts,
  omega arith,
  ap (λ order. read_order (length c.args.lines.now.texts) order c.args.lines.now)
      (sym c.new-order.ensures.items),
)

pub loop-line-preserved : goal.loop-line-preserved
loop-line-preserved g c =
    let all = c.loop-line.invariant in
    let more = order_more all.0 c.loop-line.order.items c.loop-line.lines
    c.read_order_line.new.lines c.in-Ok-Some.line all.1 (c.in-Ok-Some.ensures
    ∙ ap (λ one. Ok (one, c.read_order_line.new.lines)) c.in-Ok-Some.field-0-is) in (
      more.0,
      more.1,
      all.2 ∙ more.2
          ∙ ap (λ (order : List OrderLine). read_order more.0 order c.read_order_line.new.lines)
          (sym c.in-Ok.ensures.items),
    )

pub loop-line-smaller : goal.loop-line-smaller
loop-line-smaller g c = order_shorter c.loop-line.lines c.read_order_line.new.lines
    c.in-Ok-Some.line (c.in-Ok-Some.ensures
    ∙ ap (λ one. Ok (one, c.read_order_line.new.lines)) c.in-Ok-Some.field-0-is)

pub returns-in-Ok-None-clause-ok : goal.returns-in-Ok-None-clause-ok
returns-in-Ok-None-clause-ok g c =
    let all = c.loop-line.invariant in
    all.2 ∙ order_ends all.0 c.loop-line.order.items c.loop-line.lines c.read_order_line.new.lines
    (c.in-Ok-None.ensures
    ∙ ap (λ one. Ok (one, c.read_order_line.new.lines)) c.in-Ok-None.field-0-is)

pub returns-in-Err-clause-err : goal.returns-in-Err-clause-err
returns-in-Err-clause-err g c = λ other.
    let all = c.loop-line.invariant in
    all.2 ∙ order_faulty all.0 c.loop-line.order.items c.loop-line.lines c.in-Err.fault all.1
    c.in-Err.ensures.0
