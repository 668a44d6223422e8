-- The directory is searched in its order; if no database is found, none has the name.
use Rattle.palm_store.proofs.Laws.{sym, ap, ◌∙◌, arith, rules, name_under, number_in, slot_read}
use Rattle.palm_store.proofs.Lookups.{not_taken}
use Rattle.palm_store.proofs.lookup.name.find_named.Goals as goal

pub is_named-requires-clause-number : goal.is_named-requires-clause-number
is_named-requires-clause-number c =
    let is = c.directory_bytes-directory.ensures.is in
    number_in _ _ _ _ is c.loop-index-test.true c.listed_in-other.ensures

pub returns-then-is_named-clause-there : goal.returns-then-is_named-clause-there
returns-then-is_named-clause-there c =
    let is = c.directory_bytes-directory.ensures.is in record {
      number = number_in _ _ _ _ is c.loop-index-test.true c.listed_in-other.ensures;
      apart = search rules;
      named = c.is_named.ensures.0 c.if-is_named.true;
    }

pub returns-clause-none : goal.returns-clause-none
returns-clause-none c =
    let bytes = c.directory_bytes-directory.ensures in
    let many = bytes.listed in
    not_taken _ _ _ (λ k below other e.
    let read = slot_read c.args.heap.now.bytes _ k bytes.is below in
    c.loop-index.invariant k (omega arith) (λ same. other (sym read ∙ same))
    (ap (name_under c.args.heap.now.bytes) read ∙ e))
