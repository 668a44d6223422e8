use Rattle.std.proofs.Common.{sym, ◌∙◌}
use Rattle.heap_model.specs.Database.{database_in}
use Rattle.laws_store.proofs.Shapes.{spelled_shape}
use Rattle.db_format.proofs.ViewLaws.{attributes_read}
use Rattle.db_format.proofs.view.DatabaseView.attributes.Goals as goal

pub attributes-requires : goal.attributes-requires
attributes-requires c = (spelled_shape (database_in c.self.inside.bytes.now) c.self.inside.bytes.now c.self.invariant).header

pub returns : goal.returns
returns c = rw (← c.self.view_is) (c.attributes.ensures ∙ sym (attributes_read c.self.inside.bytes.now))
