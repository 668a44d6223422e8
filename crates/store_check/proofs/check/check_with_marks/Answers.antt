-- `check_with_marks` returns the first fault that marks show, by the laws of CheckLaws, ChunkLaws
-- and CountLaws.
use Rattle.store_check.proofs.Lemmas.{ℕ, List, [], ◌∷◌, ◌++◌, length, ap, arith, directory_of, shared_faults, stray_faults, listed_faults, chunk_faults, AreEnoughMarks, first_before, first_after, none_both, same_marks}
use Rattle.store_check.proofs.ChunkLaws.{shared_first, shared_none, stray_first, stray_none}
use Rattle.store_check.proofs.CountLaws.{twice_inside, unmarked_inside}
use Rattle.store_check.proofs.check.check_with_marks.Goals as goal

pub check_listed-requires-clause-marks : goal.check_listed-requires-clause-marks
check_listed-requires-clause-marks c = same_marks _ _ _
    (ap (λ (word : ℕ). word ∷ []) c.directory.ensures) (c.mark.ensures [] c.requires.clear)

pub word_of_mark-requires : goal.word_of_mark-requires
word_of_mark-requires c =
    twice_inside _ c.check_listed.new.marks c.in-Some.number c.in_ok-check_listed.ensures.named
    c.in_ok-check_listed.ensures.marked c.in-Some.ensures.some.here

pub returns-in-Some-clause-fault : goal.returns-in-Some-clause-fault
returns-in-Some-clause-fault c =
    let image : List ℕ = c.args.region.now.bytes in
    let listed = c.in_ok-check_listed.ensures in
    let room : AreEnoughMarks image (length c.check_listed.new.marks) =
    λ number s. (let below = c.requires.room number s in omega arith) in
    first_after (listed_faults image) (chunk_faults image) _ listed.none (first_before
    (shared_faults image) (stray_faults image) _ (shared_first _ c.check_listed.new.marks _ _
    listed.named room listed.marked c.in-Some.ensures.some c.word_of_mark.ensures))

pub word_of_mark-requires-in-Some-first_unmarked : goal.word_of_mark-requires-in-Some-first_unmarked
word_of_mark-requires-in-Some-first_unmarked c = unmarked_inside _ c.check_listed.new.marks _
    c.in-Some-first_unmarked.number c.in_ok-check_listed.ensures.named c.requires.owners
    c.in_ok-check_listed.ensures.marked c.in-Some-first_unmarked.ensures.some.here

pub returns-in-Some-first_unmarked-clause-fault : goal.returns-in-Some-first_unmarked-clause-fault
returns-in-Some-first_unmarked-clause-fault c =
    let image : List ℕ = c.args.region.now.bytes in
    let listed = c.in_ok-check_listed.ensures in
    let room : AreEnoughMarks image (length c.check_listed.new.marks) =
    λ number s. (let below = c.requires.room number s in omega arith) in
    first_after (listed_faults image) (chunk_faults image) _ listed.none
    (first_after (shared_faults image) (stray_faults image) _ (shared_none _
    c.check_listed.new.marks listed.named room listed.marked c.in_default.ensures.none)
    (stray_first _ _ _ _ _ listed.named c.requires.owners room listed.marked
    c.in-Some-first_unmarked.ensures.some c.word_of_mark-in-Some-first_unmarked.ensures))

pub returns-in-None-clause-none : goal.returns-in-None-clause-none
returns-in-None-clause-none c =
    let image : List ℕ = c.args.region.now.bytes in
    let listed = c.in_ok-check_listed.ensures in
    let room : AreEnoughMarks image (length c.check_listed.new.marks) =
    λ number s. (let below = c.requires.room number s in omega arith) in
    none_both (listed_faults image) (chunk_faults image) listed.none (none_both
    (shared_faults image) (stray_faults image) (shared_none _ c.check_listed.new.marks listed.named
    room listed.marked c.in_default.ensures.none) (stray_none _ c.check_listed.new.marks _
    listed.named c.requires.owners room listed.marked c.in-None.ensures.none))
