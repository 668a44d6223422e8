use Rattle.std.proofs.Common.{List, subst}
use Rattle.heap_model.specs.Store.{StoredDatabase}
use Rattle.heap_model.specs.Counts.{HasDatabases}
use Rattle.laws_store.proofs.Counts.{has_databases, databases_are, accepted_with}
use Rattle.laws_store.proofs.laws.acceptance_is_counted.Goals as goal

pub returns : goal.returns
returns c image stored = (
  λ h. (accepted_with image stored h, databases_are image stored h),
  λ p. subst (λ (all : List StoredDatabase). HasDatabases image all) p.1 (has_databases image p.0),
)
