-- `put_order` writes the lines `order`, if the blocks are not in list order.
use Rattle.file_parts.proofs.AllWords.{◌≡◌, List, ℕ, Bool, [], cond, sym, ap, ◌∙◌, nothing, order_lines, order_text}
use Rattle.file_parts.proofs.exact_text.put_order.Goals as goal

pub returns-then-is_list_order : goal.returns-then-is_list_order
returns-then-is_list_order g c =
    let ranks : List ℕ = c.args.ranks.now in
    let none : order_text ranks ≡ [] = ap (λ (b : Bool). order_lines (cond b [] ranks))
    (sym c.is_list_order.ensures ∙ c.if-is_list_order.true) in
    rw none (nothing g.W.Write.contents c.args.out.now)

pub returns : goal.returns
returns g c =
    let ranks : List ℕ = c.args.ranks.now in
    let all : order_text ranks ≡ order_lines ranks =
    ap (λ (b : Bool). order_lines (cond b [] ranks))
    (sym c.is_list_order.ensures ∙ c.if-is_list_order.false) in
    rw all c.put_ranks.ensures
