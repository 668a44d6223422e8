-- `find_same_name` returns the first database with an earlier one's name, by the laws of NameLaws.
use Rattle.store_check.proofs.Lemmas.{◌∙◌, ap, arith, false≢true, name_number, names_more, same_none}
use Rattle.store_check.proofs.names.find_same_name.Goals as goal

pub loop-db-preserved : goal.loop-db-preserved
loop-db-preserved c = names_more c.args.region.now.bytes c.loop-db.seen c.add.new.set c.loop-db.db
    c.number_of_name-number.result
    (c.number_of_name-number.ensures.is ∙ ap name_number c.header_of.ensures) c.add.ensures.adds
    (λ bad. false≢true (c.if-has_same_name.ensures.1 bad)) c.loop-db.invariant

pub returns-clause-none : goal.returns-clause-none
returns-clause-none c = let count = c.requires.listed.count in
    same_none c.args.region.now.bytes c.loop-db.db (omega arith) c.loop-db.invariant.none_same
