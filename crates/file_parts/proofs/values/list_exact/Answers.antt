-- `list_exact` returns the exact file of a database, with the bytes after its name and a filler.
use Rattle.file_parts.proofs.AllWords.{ap, sym, ◌∙◌, Ok, database_listed, exact_listed, ExactHead, exact_with}
use Rattle.file_parts.proofs.ValueLaws.{no_file, text_is}
use Rattle.file_parts.proofs.values.list_exact.Goals as goal

pub returns-in-Ok-checked-clause-ok : goal.returns-in-Ok-checked-clause-ok
returns-in-Ok-checked-clause-ok g c = text_is (database_listed c.args.listed) c.args.after_name.now
    _ c.in-Ok.order.items (exact_listed c.in-Ok-checked.exact) c.in-Ok.ensures.ranks
    (ap (λ (head : ExactHead). exact_with head (Ok (database_listed c.args.listed)))
    (sym c.lines_of.ensures) ∙ c.in-Ok-checked.ensures.ok)

pub returns-in-Err-clause-none : goal.returns-in-Err-clause-none
returns-in-Err-clause-none g c = λ same. no_file (database_listed c.args.listed)
    c.args.after_name.now _ c.in-Ok.order.items c.in-Err.fault c.in-Ok.ensures.ranks
    (ap (λ (head : ExactHead). exact_with head (Ok (database_listed c.args.listed)))
    (sym c.lines_of.ensures) ∙ c.in-Err.ensures.err (c.fault_of.ensures.none (let is = same in cc)))
