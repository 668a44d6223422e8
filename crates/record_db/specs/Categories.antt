-- The effect of a call on a category on one record.
use Rattle.std.specs.Prelude.{if◌then◌else◌, ℕ, Bool}
use Rattle.heap_model.specs.Categories.{has_category, recategorized}

-- a record's attributes after the records of the category `from` move to the category `to`
abbrev pub moved_attributes : ℕ → ℕ → Bool → ℕ → ℕ
moved_attributes to from dirty attributes = if has_category from attributes then recategorized to dirty attributes else attributes
