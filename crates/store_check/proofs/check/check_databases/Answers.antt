-- `check_databases` returns the first fault of the databases, or their number, by the laws of
-- CheckLaws.
use Rattle.store_check.proofs.Lemmas.{◌≡◌, ◌⊎◌, Accepted, OutOfMemory, store_faults, IsFirstOr, if_err, marked_first, own_first, first_refused, none_accepted, listed_cut, listed_length}
use Rattle.store_check.proofs.check.check_databases.Goals as goal

pub returns-in_err-check_marks-clause-refused : goal.returns-in_err-check_marks-clause-refused
returns-in_err-check_marks-clause-refused g c =
    if_err (λ fault. (fault ≡ OutOfMemory) ⊎ (Accepted c.args.region.now.bytes → ⊥))
    c.from_residual.result (let e = c.from_residual.ensures in (e.0, e.1))
    (first_refused c.args.region.now.bytes _ c.requires.accepted c.know_bytes.ensures
    (marked_first c.args.region.now.bytes _ c.in_err-check_marks.ensures.fault))

pub returns-in_err-check_ids_and_names-clause-fault : goal.returns-in_err-check_ids_and_names-clause-fault
returns-in_err-check_ids_and_names-clause-fault g c =
    if_err (IsFirstOr (store_faults c.args.region.now.bytes))
    c.from_residual-in_err-check_ids_and_names.result
    (let e = c.from_residual-in_err-check_ids_and_names.ensures in (e.0, e.1))
    (own_first c.args.region.now.bytes _ c.in_ok-check_marks.ensures.none
    c.in_err-check_ids_and_names.ensures.fault)

pub returns-in_err-check_ids_and_names-clause-refused : goal.returns-in_err-check_ids_and_names-clause-refused
returns-in_err-check_ids_and_names-clause-refused g c = if_err (λ fault. (fault ≡ OutOfMemory)
    ⊎ (Accepted c.args.region.now.bytes → ⊥)) c.from_residual-in_err-check_ids_and_names.result
    (let e = c.from_residual-in_err-check_ids_and_names.ensures in (e.0, e.1))
    (first_refused c.args.region.now.bytes _ c.requires.accepted c.know_bytes.ensures
    (own_first c.args.region.now.bytes _ c.in_ok-check_marks.ensures.none
    c.in_err-check_ids_and_names.ensures.fault))

pub returns-clause-accepted : goal.returns-clause-accepted
returns-clause-accepted g c = none_accepted c.args.region.now.bytes c.requires.accepted
    c.know_bytes.ensures c.in_ok-check_marks.ensures.none c.in_ok-check_ids_and_names.ensures.none

pub returns-clause-count : goal.returns-clause-count
returns-clause-count g c = listed_length _ _ (listed_cut _ _ c.check_marks.new.table _
    c.in_ok-check_marks.ensures.listing c.listed_count.ensures c.in_ok-check_marks.ensures.noted)
