-- `read_folder` reads the text of a folder, by the laws of FolderTexts.
use Rattle.file_parts.proofs.AllWords.{◌≡◌, Bool, true, false, ap, ◌∙◌, arith, rules, Ok, read_exact_line}
use Rattle.file_parts.specs.declared.either.ListedFolder.TheVariants.{Canonical, Exact}
use Rattle.file_parts.proofs.FolderTexts.{faulty_canonically, faulty_exactly, faulty_first, read_canonically, read_exactly}
use Rattle.file_parts.proofs.either.read_folder.Goals as goal

pub returns-in-Ok-clause-ok : goal.returns-in-Ok-clause-ok
returns-in-Ok-clause-ok g c =
    let test = c.in-Ok-true.field-0-test in
    let yes : c.in-Ok-true.field-0 ≡ true = first_of (cc, first_of (search rules, grind arith)) in
    let read : read_exact_line c.of-lines.result ≡ Ok (true, c.read_exact_line.new.lines) =
    c.in-Ok-true.ensures ∙ ap (λ (exact : Bool). Ok (exact, c.read_exact_line.new.lines)) yes in
    read_exactly c.args.text.now _ c.read_exact_line.new.lines c.of-lines.ensures read
    (Exact c.in-Ok.exact) c.in-Ok.ensures.ok

pub returns-in-Err-read_listed_exact-clause-err : goal.returns-in-Err-read_listed_exact-clause-err
returns-in-Err-read_listed_exact-clause-err g c =
    let test = c.in-Ok-true.field-0-test in
    let yes : c.in-Ok-true.field-0 ≡ true = first_of (cc, first_of (search rules, grind arith)) in
    let read : read_exact_line c.of-lines.result ≡ Ok (true, c.read_exact_line.new.lines) =
    c.in-Ok-true.ensures ∙ ap (λ (exact : Bool). Ok (exact, c.read_exact_line.new.lines)) yes in
    λ other. faulty_exactly c.args.text.now _ c.read_exact_line.new.lines
    c.in-Err-read_listed_exact.fault c.of-lines.ensures read
    (c.in-Err-read_listed_exact.ensures.err other)

pub returns-in-Ok-read_listed-clause-ok : goal.returns-in-Ok-read_listed-clause-ok
returns-in-Ok-read_listed-clause-ok g c =
    let test = c.in-Ok-false.field-0-test in
    let no : c.in-Ok-false.field-0 ≡ false = first_of (cc, first_of (search rules, grind arith)) in
    let read : read_exact_line c.of-lines.result ≡ Ok (false, c.read_exact_line.new.lines) =
    c.in-Ok-false.ensures ∙ ap (λ (exact : Bool). Ok (exact, c.read_exact_line.new.lines)) no in
    read_canonically c.args.text.now _ c.read_exact_line.new.lines c.of-lines.ensures read
    (Canonical c.in-Ok-read_listed.listed) c.in-Ok-read_listed.ensures.ok

pub returns-in-Err-read_listed-clause-err : goal.returns-in-Err-read_listed-clause-err
returns-in-Err-read_listed-clause-err g c =
    let test = c.in-Ok-false.field-0-test in
    let no : c.in-Ok-false.field-0 ≡ false = first_of (cc, first_of (search rules, grind arith)) in
    let read : read_exact_line c.of-lines.result ≡ Ok (false, c.read_exact_line.new.lines) =
    c.in-Ok-false.ensures ∙ ap (λ (exact : Bool). Ok (exact, c.read_exact_line.new.lines)) no in
    λ other. faulty_canonically c.args.text.now _ c.read_exact_line.new.lines
    c.in-Err-read_listed.fault c.of-lines.ensures read (c.in-Err-read_listed.ensures.err other)

pub returns-in-Err-clause-err : goal.returns-in-Err-clause-err
returns-in-Err-clause-err g c =
    λ other. faulty_first c.args.text.now _ c.in-Err.fault c.of-lines.ensures c.in-Err.ensures.0
