-- The chunk of a database is never lent.
use Rattle.database_edits.proofs.Words.{Memory, ℕ, SpellsHere, IsHere, IsManagers}

pub managers_here : (memory : Memory) (db : ℕ) → IsManagers memory.bytes db → IsHere memory db
managers_here memory db m = record { not_lent = λ other lent. other m.owner }

pub spelled_here : (memory : Memory) (db : ℕ) → SpellsHere memory.bytes db → IsHere memory db
spelled_here memory db s = record { not_lent = λ other lent. other s.owner }
