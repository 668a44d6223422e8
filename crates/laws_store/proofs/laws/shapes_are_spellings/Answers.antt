use Rattle.heap_model.specs.Database.{database_in}
use Rattle.laws_store.proofs.Shapes.{spelled_shape, shape_spelled}
use Rattle.laws_store.proofs.laws.shapes_are_spellings.Goals as goal

pub returns : goal.returns
returns c bytes b = (spelled_shape (database_in bytes) bytes, shape_spelled bytes b)
