-- The fact that an allocation failed.
use Rattle.std.specs.Prelude.{⊤}

-- An allocation failed. The field is private, so no other file can make this record.
pub record GrowthRefused : Type 0 where
  refused : ⊤

-- The only proof of `GrowthRefused`, for `note` of an `Allowance`. No proof of another crate may
-- cite it.
pub told_of_failure : GrowthRefused
told_of_failure = record { refused = tt }
