-- The form of a row for a call, and the step that the call makes. Both are the same for all kinds
-- of stores.
use Rattle.std.specs.Prelude.{◌≡◌, ℕ, Bool, List}
use Rattle.heap_model.specs.Memory.{Memory}
use Rattle.heap_model.specs.Meaning.{ChunkMap}
use Rattle.heap_model.specs.Refusals.{Check, NoneHolds, FirstBrings}
use Rattle.heap_model.specs.declared.names.Name.{Name}
use Rattle.heap_model.specs.declared.names.Place.{Place}
use Rattle.heap_model.specs.declared.call.Reply.{Reply}
use Rattle.heap_model.specs.declared.call.Reply.TheVariants.{Refused, Done, Number, Named, Locked, Data}

-- The description of a call on a store:
-- - whether the call only asks, and so leaves the region as it is, also if it is refused;
-- - its refusals in order;
-- - which replies are right, given the region afterwards;
-- - how the store afterwards follows from the store before.
pub record Row (Store : Type 0) : Type 1 where
  pub only_asks : Bool
  pub refusals : List Check
  pub answers : Reply → Memory → Type 0
  pub effect : Reply → Store → Store → Type 0

-- ---- the step

-- Either the reply is a refusal that the checks bring, and then all is as before. Or no check has
-- to refuse, the reply is a right one, and the store is as the call's effect makes it.
abbrev pub StepBy : {Store : Type 0} → Row Store → Type 0 → Store → Reply → Memory → Store → Type 0
StepBy row AsBefore old (Refused refusal) region new = FirstBrings row.refusals refusal × AsBefore
StepBy row AsBefore old reply region new = NoneHolds row.refusals × (row.answers reply region × row.effect reply old new)

-- ---- words of the answers: which reply it is, and what holds of its value

abbrev pub done : Reply → Memory → Type 0
done Done new = Unit {0}
done reply new = ⊥

abbrev pub a_number : (ℕ → Type 0) → Reply → Memory → Type 0
a_number P (Number count) new = P count
a_number P reply new = ⊥

abbrev pub a_name : (Name → Type 0) → Reply → Memory → Type 0
a_name P (Named name) new = P name
a_name P reply new = ⊥

abbrev pub locked : (Place → ℕ → Memory → Type 0) → Reply → Memory → Type 0
locked P (Locked place count) new = P place count new
locked P reply new = ⊥

abbrev pub data_of : (List ℕ → Type 0) → Reply → Memory → Type 0
data_of P (Data bytes) new = P bytes
data_of P reply new = ⊥

-- ---- words of the effects, if the store is a map

-- the map afterwards is the map before with a change
abbrev pub becomes : (ChunkMap → ChunkMap) → Reply → ChunkMap → ChunkMap → Type 0
becomes change reply old new = (name : ℕ) → new name ≡ change old name

-- the same, if the change needs the name in the reply
abbrev pub becomes_named : (Name → ChunkMap → ChunkMap) → Reply → ChunkMap → ChunkMap → Type 0
becomes_named change (Named name) old new = (other : ℕ) → new other ≡ change name old other
becomes_named change reply old new = ⊥

-- the map is unchanged
abbrev pub stays : Reply → ChunkMap → ChunkMap → Type 0
stays reply old new = (name : ℕ) → new name ≡ old name
