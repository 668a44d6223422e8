-- `put_exact` writes a file with blocks at these offsets.
use Rattle.file_parts.proofs.AllLaws.{◌≡◌, ℕ, List, false, drop, take, ap, ◌∙◌, rules, is_ok, exact_placed, fields_taken, all_written, stops_name, stops_fields, stops_entries}
use Rattle.file_parts.proofs.exact_writing.put_exact.Goals as goal

pub returns : goal.returns
returns g c =
    let file = g.S.ExactSource.exact c.args.source.now in
    let fields = ap (λ (xs : List ℕ). take 46 (drop 32 xs)) c.header_at.ensures.is
    ∙ fields_taken (exact_placed file) c.header_at.ensures.name.room in
    all_written g.W.Write.contents file c.args.out.now c.put_all.new.out c.put_all-2.new.out
    c.put_entries.new.out c.put_tail.new.out (is_ok c.put_tail.result)
    (rw c.name_field.ensures at c.in_ok-put_all.ensures)
    (rw fields at c.in_ok-put_all-2.ensures) c.in_ok-put_entries.ensures c.put_tail.ensures

pub returns-in_err-put_all : goal.returns-in_err-put_all
returns-in_err-put_all g c =
    let file = g.S.ExactSource.exact c.args.source.now in
    let failed : is_ok c.from_residual.result ≡ false = search rules in
    rw failed
    (stops_name g.W.Write.contents file c.args.out.now c.put_all.new.out
    (rw c.name_field.ensures at c.in_err-put_all.ensures))

pub returns-in_err-put_all-2 : goal.returns-in_err-put_all-2
returns-in_err-put_all-2 g c =
    let file = g.S.ExactSource.exact c.args.source.now in
    let fields = ap (λ (xs : List ℕ). take 46 (drop 32 xs)) c.header_at.ensures.is
    ∙ fields_taken (exact_placed file) c.header_at.ensures.name.room in
    let failed : is_ok c.from_residual-in_err-put_all-2.result ≡ false = search rules in
    rw failed
    (stops_fields g.W.Write.contents file c.args.out.now c.put_all.new.out c.put_all-2.new.out
    (rw c.name_field.ensures at c.in_ok-put_all.ensures)
    (rw fields at c.in_err-put_all-2.ensures))

pub returns-in_err-put_entries : goal.returns-in_err-put_entries
returns-in_err-put_entries g c =
    let file = g.S.ExactSource.exact c.args.source.now in
    let fields = ap (λ (xs : List ℕ). take 46 (drop 32 xs)) c.header_at.ensures.is
    ∙ fields_taken (exact_placed file) c.header_at.ensures.name.room in
    let failed : is_ok c.from_residual-in_err-put_entries.result ≡ false = search rules in
    rw failed (stops_entries g.W.Write.contents file c.args.out.now c.put_all.new.out
    c.put_all-2.new.out c.put_entries.new.out (rw c.name_field.ensures at c.in_ok-put_all.ensures)
    (rw fields at c.in_ok-put_all-2.ensures) c.in_err-put_entries.ensures)
