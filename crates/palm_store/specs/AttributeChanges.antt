-- Changes of attributes that a call may make to all records.
use Rattle.std.specs.Prelude.{◌≡◌, ◌<◌, ◌^◌, ℕ, true}
use Rattle.heap_model.specs.Database.{is_deleted}

-- A byte is changed to a byte. A deleted record stays deleted, because it may have no data.
pub record MayChange (change : ℕ → ℕ) : Type 0 where
  pub fits : (attributes : ℕ) → attributes < 2 ^ 8 → change attributes < 2 ^ 8
  pub deleted : (attributes : ℕ) → is_deleted attributes ≡ true → is_deleted (change attributes) ≡ true
