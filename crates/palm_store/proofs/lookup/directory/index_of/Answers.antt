-- A number that the directory lists is found at its index.
use Rattle.palm_store.proofs.Laws.{◌≡◌, ◌≢◌, ◌*◌, ℕ, ap, ◌∙◌, arith, rules, u32_at, slot_in, slot_read, listed_at}
use Rattle.palm_store.proofs.lookup.directory.index_of.Goals as goal

pub loop-directory-init : goal.loop-directory-init
loop-directory-init c =
    let at = listed_at _ _ c.requires.number in
    (at.0, omega arith, at.1)

pub listed_in-requires : goal.listed_in-requires
listed_in-requires c =
    let at = c.loop-directory.invariant in
    omega (arith, at.1, at.2.inside, c.directory_bytes-directory.ensures.listed)

pub loop-directory-preserved : goal.loop-directory-preserved
loop-directory-preserved c =
    let at = c.loop-directory.invariant in
    let other : c.listed_in.result.0 ≢ c.args.db.0 = search rules in
    let bytes = c.directory_bytes-directory in
    let read = slot_read _ _ at.0 bytes.ensures.is at.2.inside in
    let apart : c.loop-directory.index ≢ at.0 = λ same. other (c.listed_in.ensures
    ∙ ap (λ (k : ℕ). u32_at bytes.result.now (4 * k)) same ∙ read ∙ at.2.there) in
    (at.0, omega (arith, at.1), at.2)

pub loop-directory-smaller : goal.loop-directory-smaller
loop-directory-smaller c =
    let at = c.loop-directory.invariant in
    omega (arith, at.1, at.2.inside, c.directory_bytes-directory.ensures.listed)

pub overflow_add-index : goal.overflow_add-index
overflow_add-index c =
    let at = c.loop-directory.invariant in
    omega (arith, at.1, at.2.inside, c.directory_bytes-directory.ensures.few)

pub overflow_cast-result : goal.overflow_cast-result
overflow_cast-result c =
    let at = c.loop-directory.invariant in
    omega (arith, at.1, at.2.inside, c.directory_bytes-directory.ensures.few)

pub returns : goal.returns
returns c =
    let there : c.args.db.0 ≡ c.listed_in.result.0 = search rules in
    let at = c.loop-directory.invariant in
    let bytes = c.directory_bytes-directory.ensures in
    slot_in _ _ _ _ bytes.is (omega (arith, at.1, at.2.inside, bytes.listed))
    (there ∙ c.listed_in.ensures)
