use Rattle.std.proofs.Common.{[], ℕ, subst, arith}
use Rattle.heap_model.specs.Database.{database_in}
use Rattle.heap_model.specs.Store.{unique_ids}
use Rattle.heap_model.specs.Files.{kept_ids, HaveIds}
use Rattle.file_ids.proofs.KeptLaws.{length-kept_ids}
use Rattle.file_ids.proofs.GivenLaws.{id_count, both_passes, given_fit, given_distinct}
use Rattle.file_ids.proofs.give.put_ids.Goals as goal

pub give_fresh-requires-clause-room : goal.give_fresh-requires-clause-room
give_fresh-requires-clause-room g c =
    let count = id_count c.args.file.now c.requires.records in
    let kept = length-kept_ids [] (unique_ids (database_in c.args.file.now)) in
    record { ids = kept_ids [] (unique_ids (database_in c.args.file.now)); has = c.keep_ids.ensures.taken; few = omega arith }

pub returns-clause-given : goal.returns-clause-given
returns-clause-given g c =
    subst (λ (seed : ℕ). HaveIds seed (unique_ids (database_in c.args.file.now)) c.give_fresh.new.ids c.give_fresh.result) c.seed.ensures.is
    (both_passes c.seed.result (unique_ids (database_in c.args.file.now)) c.keep_ids.new.ids c.give_fresh.new.ids c.give_fresh.result c.keep_ids.ensures.kept
    (c.give_fresh.ensures.given (kept_ids [] (unique_ids (database_in c.args.file.now))) c.keep_ids.ensures.taken))

pub returns-clause-fit : goal.returns-clause-fit
returns-clause-fit g c =
    given_fit (kept_ids [] (unique_ids (database_in c.args.file.now))) c.seed.result c.keep_ids.new.ids c.give_fresh.new.ids c.give_fresh.result (omega arith) c.keep_ids.ensures.most
    (c.give_fresh.ensures.given (kept_ids [] (unique_ids (database_in c.args.file.now))) c.keep_ids.ensures.taken)

pub returns-clause-distinct : goal.returns-clause-distinct
returns-clause-distinct g c =
    given_distinct c.seed.result (unique_ids (database_in c.args.file.now)) c.give_fresh.new.ids c.give_fresh.result
    (both_passes c.seed.result (unique_ids (database_in c.args.file.now)) c.keep_ids.new.ids c.give_fresh.new.ids c.give_fresh.result c.keep_ids.ensures.kept
    (c.give_fresh.ensures.given (kept_ids [] (unique_ids (database_in c.args.file.now))) c.keep_ids.ensures.taken))
