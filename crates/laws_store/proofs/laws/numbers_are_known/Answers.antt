-- The numbers are distinct, and the chunk under a number tells whether a database has it.
use Rattle.laws_store.proofs.Counts.{numbers_distinct}
use Rattle.laws_store.proofs.Found.{is_number}
use Rattle.laws_store.proofs.laws.numbers_are_known.Goals as goal

pub returns : goal.returns
returns c image store h = (numbers_distinct image _ h, λ db. is_number image store.databases db h)
