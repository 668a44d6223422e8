-- Each test finds the refusal for a name that can't be taken, or there is none.
use Rattle.palm_store.proofs.GivenChunks.{unknown_why, managers_why, data_why, fixed_why, giving_could, giving_may}
use Rattle.std.proofs.Common.{◌∙◌, sym}
use Rattle.palm_store.proofs.chunks.check_taken.Goals as goal

pub returns-in_default-clause-why : goal.returns-in_default-clause-why
returns-in_default-clause-why c = unknown_why c.args.heap.now.bytes c.args.name.0 c.in_default.ensures.none

pub returns-then-chunk-eq-MANAGERS_OWNER-clause-why : goal.returns-then-chunk-eq-MANAGERS_OWNER-clause-why
returns-then-chunk-eq-MANAGERS_OWNER-clause-why c = managers_why c.args.heap.now.bytes c.args.name.0 (sym c.in-Some.ensures.owner ∙ c.if-chunk-eq-MANAGERS_OWNER.true)

pub returns-then-chunk-eq-DATA_OWNER-clause-why : goal.returns-then-chunk-eq-DATA_OWNER-clause-why
returns-then-chunk-eq-DATA_OWNER-clause-why c = data_why c.args.heap.now.bytes c.args.name.0 c.in-Some.ensures.there (sym c.in-Some.ensures.owner ∙ c.if-chunk-eq-DATA_OWNER.true)

pub returns-then-chunk-eq-FIXED_LOCK-clause-why : goal.returns-then-chunk-eq-FIXED_LOCK-clause-why
returns-then-chunk-eq-FIXED_LOCK-clause-why c =
    fixed_why c.args.heap.now.bytes c.args.name.0 c.in-Some.chunk.lock c.in-Some.ensures.there (λ e. c.if-chunk-eq-MANAGERS_OWNER.false (c.in-Some.ensures.owner ∙ e)) (λ e. c.if-chunk-eq-DATA_OWNER.false (c.in-Some.ensures.owner ∙ e)) c.in-Some.ensures.lock c.if-chunk-eq-FIXED_LOCK.true

pub returns-clause-may : goal.returns-clause-may
returns-clause-may c =
    giving_may c.args.heap.now.bytes c.args.name.0 c.in-Some.chunk.lock c.in-Some.ensures.there (λ e. c.if-chunk-eq-MANAGERS_OWNER.false (c.in-Some.ensures.owner ∙ e)) (λ e. c.if-chunk-eq-DATA_OWNER.false (c.in-Some.ensures.owner ∙ e)) c.in-Some.ensures.lock c.if-chunk-eq-FIXED_LOCK.false

pub returns-clause-could : goal.returns-clause-could
returns-clause-could c =
    giving_could c.args.heap.now.bytes c.args.name.0 c.in-Some.chunk.lock c.in-Some.ensures.there (λ e. c.if-chunk-eq-MANAGERS_OWNER.false (c.in-Some.ensures.owner ∙ e)) (λ e. c.if-chunk-eq-DATA_OWNER.false (c.in-Some.ensures.owner ∙ e)) c.in-Some.ensures.lock c.if-chunk-eq-FIXED_LOCK.false
