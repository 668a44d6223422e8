use Rattle.std.proofs.Common.{sym, ◌∙◌}
use Rattle.heap_model.specs.Database.{database_in}
use Rattle.laws_store.proofs.Shapes.{spelled_shape}
use Rattle.db_format.proofs.ViewLaws.{length-read}
use Rattle.db_format.proofs.view.DatabaseView.entry_count.Goals as goal

pub entry_count-requires : goal.entry_count-requires
entry_count-requires c = (spelled_shape (database_in c.self.inside.bytes.now) c.self.inside.bytes.now c.self.invariant).header

pub returns : goal.returns
returns c = rw (← c.self.view_is) (c.entry_count.ensures ∙ sym (length-read c.self.inside.bytes.now))
