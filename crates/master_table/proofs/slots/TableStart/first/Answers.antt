use Rattle.std.proofs.Common.{refl, inl}
use Rattle.master_table.proofs.slots.TableStart.first.Goals as goal

pub returns : goal.returns
returns c = λ image. inl (refl, refl)
