-- The unique IDs that new records get, by this project's own rule.
use Rattle.std.specs.Prelude.{◌≡◌, ◌+◌, ◌*◌, ◌/◌, ◌%◌, ◌^◌, nat_lt, if◌then◌else◌, ℕ, zero, suc, List}
use Rattle.heap_model.specs.Lists.{times, Least}

-- the greatest unique ID; the least is 1
abbrev pub greatest_id : ℕ
greatest_id = 0xFFFFFF

-- the ID after a number; 1 comes after the greatest
abbrev pub next_id : ℕ → ℕ
next_id number = if nat_lt number greatest_id then number + 1 else 1

-- the IDs after a seed, counted from 0
abbrev pub id_behind : ℕ → ℕ → ℕ
id_behind seed zero = next_id seed
id_behind seed (suc count) = next_id (id_behind seed count)

-- `id` is the first of the IDs after the seed that isn't among `ids`
pub record IsFresh (ids : List ℕ) (seed id : ℕ) : Type 0 where
  pub behind : ℕ
  pub first : Least (λ count. times (id_behind seed count) ids ≡ 0) behind
  pub is : id ≡ id_behind seed behind

-- the seed for new IDs: the low 24 bits of the seed field
abbrev pub seed_in : ℕ → ℕ
seed_in field = field % 2 ^ 24

-- the field with another seed in its low 24 bits; the upper 8 stay
abbrev pub with_seed : ℕ → ℕ → ℕ
with_seed field seed = 2 ^ 24 * (field / 2 ^ 24) + seed
