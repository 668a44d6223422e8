-- `has_name` returns whether only zeros follow the name in its field, by the laws of StartLaws.
use Rattle.pdb_format.proofs.StartLaws.{named_by_start, start_named}
use Rattle.pdb_format.proofs.heads.has_name.Goals as goal

pub returns : goal.returns
returns g c = (
  (λ yes. named_by_start _ _ c.start.ensures c.requires (c.has_name.ensures.0 yes)),
  (λ has. c.has_name.ensures.1 (start_named _ _ c.start.ensures c.requires has)),
)
