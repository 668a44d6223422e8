use Rattle.laws_store.proofs.Bodies.{held_bytes}
use Rattle.laws_store.proofs.laws.bodies_are_bytes.Goals as goal

pub returns : goal.returns
returns c = held_bytes
