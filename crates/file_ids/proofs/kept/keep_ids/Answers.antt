use Rattle.std.proofs.Common.{◌<◌, length, sym, subst, ◌∙◌, add-one, arith, inl, inr}
use Rattle.heap_model.specs.Database.{database_in}
use Rattle.heap_model.specs.Store.{unique_ids}
use Rattle.file_ids.proofs.KeptLaws.{KeptTo, kept_first, kept_here, kept_not, kept_taken}
use Rattle.file_ids.proofs.GivenLaws.{id_count, id_there}
use Rattle.file_ids.proofs.kept.keep_ids.Goals as goal
use Rattle.file_ids.proofs.kept.keep_ids.Goals.{then-id-ne0+then-not-has, else-id-ne0, else-id-ne0-via-then-id-ne0+else-not-has, else-id-ne0-via-else-id-ne0}

pub loop-index-init : goal.loop-index-init
loop-index-init g c = kept_first (unique_ids (database_in c.args.file.now)) c.args.taken.now c.args.ids.now c.requires.empty (c.requires.count ∙ sym (id_count c.args.file.now c.requires.records)) c.requires.zeros

pub loop-index-preserved : goal.loop-index-preserved
loop-index-preserved g c =
    let count = id_count c.args.file.now c.requires.records in
    let inside : c.loop-index.index < length (unique_ids (database_in c.args.file.now)) = omega arith in
    let is = id_there c.args.file.now c.loop-index.index c.record_id-id.result c.requires.records (omega arith) c.record_id-id.ensures.is in
    elim c.if-id-ne0.branch [
      | then-id-ne0+then-not-has w ↦ rw (add-one, w.taken-is, w.ids-is)
          (kept_here (unique_ids (database_in c.args.file.now)) c.loop-index.taken w.add.new.set c.loop-index.ids c.loop-index.index c.record_id-id.result inside is w.if-id-ne0.true c.record_id-id.ensures.most (λ here. (let yes = w.has.ensures.1 here in let no = w.if-not-has.true in cc)) w.add.ensures.adds c.loop-index.invariant)
      | else-id-ne0 w ↦ rw (add-one, w.taken-is, w.ids-is)
          (kept_not (unique_ids (database_in c.args.file.now)) c.loop-index.taken c.loop-index.ids c.loop-index.index c.record_id-id.result inside is
          (elim w.else-id-ne0.branch [
            | else-id-ne0-via-then-id-ne0+else-not-has v ↦ inr (v.has.ensures.0 v.if-not-has.false)
            | else-id-ne0-via-else-id-ne0 v ↦ inl v.if-id-ne0.false
          ]) c.loop-index.invariant)
    ]

pub returns-clause-taken : goal.returns-clause-taken
returns-clause-taken g c =
    let count = id_count c.args.file.now c.requires.records in
    kept_taken (unique_ids (database_in c.args.file.now)) c.loop-index.taken c.loop-index.ids
    (subst (KeptTo (unique_ids (database_in c.args.file.now)) c.loop-index.taken c.loop-index.ids) (omega arith) c.loop-index.invariant)
