-- `find_bad_slot` returns the first bad word of the directory, or marks all slots that it lists, by
-- the laws of SlotLaws.
use Rattle.store_check.proofs.Lemmas.{◌≡◌, ◌*◌, ◌∙◌, ap, ℕ, List, length, refl, arith, false≢true, u32_at, listed_at, met, AreEnoughMarks, word_bad, slot_first, slots_more, slots_marked}
use Rattle.store_check.proofs.slots.find_bad_slot.Goals as goal

pub returns-then-is_other_or_marked-clause-some : goal.returns-then-is_other_or_marked-clause-some
returns-then-is_other_or_marked-clause-some c =
    let image : List ℕ = c.args.region.now.bytes in
    let len = ap length c.directory_in-directory.ensures in
    let is : c.word_at-slot.result ≡ listed_at image c.loop-index.index = c.word_at-slot.ensures
    ∙ ap (λ (b : List ℕ). u32_at b (4 * c.loop-index.index)) c.directory_in-directory.ensures in
    let room : AreEnoughMarks image (length c.loop-index.marks) =
    λ number s. (let below = c.requires.room number s in omega arith) in
    let bad = (c.if-is_other_or_marked.ensures image (met image c.loop-index.index)
    c.requires.accepted c.requires.owners room c.loop-index.invariant.marked).0 refl in
    slot_first _ _ _ c.loop-index.invariant
    ((word_bad image c.loop-index.index _ (omega arith) (omega arith) is).0 bad)

pub loop-index-preserved : goal.loop-index-preserved
loop-index-preserved c =
    let image : List ℕ = c.args.region.now.bytes in
    let len = ap length c.directory_in-directory.ensures in
    let is : c.word_at-slot.result ≡ listed_at image c.loop-index.index = c.word_at-slot.ensures
    ∙ ap (λ (b : List ℕ). u32_at b (4 * c.loop-index.index)) c.directory_in-directory.ensures in
    let room : AreEnoughMarks image (length c.loop-index.marks) =
    λ number s. (let below = c.requires.room number s in omega arith) in
    let told = c.if-is_other_or_marked.ensures image (met image c.loop-index.index)
    c.requires.accepted c.requires.owners room c.loop-index.invariant.marked in
    let word = word_bad image c.loop-index.index _ (omega arith) (omega arith) is in
    slots_more image c.loop-index.marks c.mark.new.marks c.loop-index.index c.word_at-slot.result is
    (omega arith) (λ bad. false≢true (told.1 (word.1 bad)))
    (c.mark.ensures (met image c.loop-index.index) c.loop-index.invariant.marked)
    c.loop-index.invariant

pub returns-clause-marked : goal.returns-clause-marked
returns-clause-marked c =
    let len = ap length c.directory_in-directory.ensures in
    slots_marked _ _ _ (omega arith) (omega arith) c.loop-index.invariant
