-- `read_entries` reads the lines of the entries, up to the end of the text.
use Rattle.file_parts.proofs.AllLaws.{◌∷◌, ◌++◌, [], List, ℕ, Option, length, sym, ap, ◌∙◌, arith, Err, Result, length-map, length-append, Entry, ScriptFault, ListedEntry, IsGoodEntry, entry_listed, entries_listed, read_entries, unless_bad, entries_on, entries_end, next_shorter, listed_more, all_more}
use Rattle.file_parts.proofs.entries.read_entries.Goals as goal

pub returns-in-None-clause-ok : goal.returns-in-None-clause-ok
returns-in-None-clause-ok g c = c.loop-line.invariant.goes_on
    ∙ entries_end c.args.resources (entries_listed c.loop-line.entries.items)
    c.loop-line.lines.number c.loop-line.lines.texts c.in-None.ensures.0

pub loop-line-smaller : goal.loop-line-smaller
loop-line-smaller g c = next_shorter c.loop-line.lines.number c.loop-line.lines.texts
    c.in-Some.line.now c.next.new.self c.in-Some.ensures

pub returns-in-Err-clause-err : goal.returns-in-Err-clause-err
returns-in-Err-clause-err g c = λ other.
    let items = c.loop-line.entries.items in
    let front : List (Entry (Option (List ℕ))) = entries_listed items in
    let rest = c.next.new.self in
    let count = length-map items entry_listed ∙ ap length (sym c.as_slice.ensures.value) in
    let wrong = c.in-Err.ensures.err front count in
    c.loop-line.invariant.goes_on ∙ entries_on c.args.resources front c.loop-line.lines.number
    c.loop-line.lines.texts c.in-Some.line.now rest c.in-Some.ensures
    ∙ ap (λ (one : Result (Entry (Option (List ℕ))) ScriptFault). unless_bad rest.number one
    (λ entry. read_entries c.args.resources (front ++ entry ∷ []) rest.number rest.texts)) wrong
    ∙ ap Err (sym c.fault.ensures)

pub loop-line-preserved : goal.loop-line-preserved
loop-line-preserved g c =
    let items = c.loop-line.entries.items in
    let front : List (Entry (Option (List ℕ))) = entries_listed items in
    let item : ListedEntry = c.in-Ok.entry in
    let rest = c.next.new.self in
    let count = length-map items entry_listed ∙ ap length (sym c.as_slice.ensures.value) in
    let right = c.in-Ok.ensures.ok front count in
    let pushed = c.in-Ok-push.ensures.items in
    let more = ap (λ (xs : List ListedEntry). length xs) pushed ∙ length-append items (item ∷ []) in
    let long = ap (λ (xs : List ListedEntry). length xs) c.as_slice.ensures.value in
    let old = c.loop-line.invariant.few in
    let few = c.in-Ok.ensures.few in
    record {
      goes_on = c.loop-line.invariant.goes_on ∙ entries_on c.args.resources front
          c.loop-line.lines.number c.loop-line.lines.texts c.in-Some.line.now rest c.in-Some.ensures
          ∙ ap (λ (one : Result (Entry (Option (List ℕ))) ScriptFault). unless_bad rest.number one
          (λ entry. read_entries c.args.resources (front ++ entry ∷ []) rest.number rest.texts))
          right ∙ ap (λ (es : List (Entry (Option (List ℕ)))). read_entries c.args.resources es
          rest.number rest.texts) (sym (ap entries_listed pushed ∙ listed_more items item));
      few = omega (arith, more, long, old, few);
      good = rw pushed (all_more (IsGoodEntry c.args.resources) items item
          c.loop-line.invariant.good c.in-Ok.ensures.good);
    }
