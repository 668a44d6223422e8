-- `has_same_name` may skip names whose number isn't in the set, by the laws of NameLaws.
use Rattle.std.proofs.lemmas.Bool.{false≢true}
use Rattle.store_check.proofs.NameLaws.{other_name}
use Rattle.store_check.proofs.names.has_same_name.Goals as goal

pub returns-then-not-has : goal.returns-then-not-has
returns-then-not-has c = (
  λ yes. absurd (false≢true yes),
  λ bad. absurd (other_name c.args.region.now.bytes c.args.seen.now c.args.db c.args.number
      c.requires.names c.requires.number c.requires.seen
      (λ there. false≢true (c.if-not-has.ensures.1 there)) bad),
)
