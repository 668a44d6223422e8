-- The remembered tables of a space stay right in the same frame, and after a table is added.
use Rattle.heap_compact.proofs.Words.{Bool, true, false, ◌≡◌, ℕ, ◌++◌, refl, List, [], ◌∷◌, subst, arith, inl, inr, slice_index, OnTrue, OnFalse, Memory, Table, further_tables, SameFrame, GrowsInPlace, gained, GainsTable, HoldsHeap, HasLongTable, KnowsTables, Remembered, RemembersPlace, HasLists, IsSpace}
use Rattle.master_table.proofs.RowLaws.{starts_gained}
use Rattle.master_table.proofs.FurtherLaws.{knows_still, knows_more}

pub tables_kept : {old new : List ℕ} (known : Remembered) → SameFrame old new
    → KnowsTables old known → KnowsTables new known
tables_kept {old} {new} known f knows = knows_still old new known f.tables knows

-- of a region that is the value of its space
pub viewed_kept : {old region : Memory} {new : List ℕ} (known : Remembered) → region ≡ old
    → SameFrame old.bytes new → KnowsTables region.bytes known → KnowsTables new known
viewed_kept known view f knows = tables_kept known f (rw view at knows)

-- so the space is one
pub kept_space : {old : List ℕ} {new : Memory} {heads : List ℕ} {known : Remembered} → HoldsHeap new → HasLists new.bytes heads → SameFrame old new.bytes → KnowsTables old known → IsSpace new heads known
kept_space heap lists f knows = record { heap = heap; lists = lists; tables = tables_kept _ f knows }

pub viewed_space : {old region new : Memory} {heads : List ℕ} {known : Remembered} → region ≡ old → HoldsHeap new → HasLists new.bytes heads → SameFrame old.bytes new.bytes → KnowsTables region.bytes known → IsSpace new heads known
viewed_space view heap lists f knows = record { heap = heap; lists = lists; tables = viewed_kept _ view f knows }

-- so it holds the heap
pub viewed_heap : {old region : Memory} → region ≡ old → HoldsHeap region → HoldsHeap old
viewed_heap view h = subst (λ (m : Memory). HoldsHeap m) view h

-- where a chunk grew, or nothing has changed
pub grown_kept : (old new : Memory) (known : Remembered) (at count : ℕ) (done : Bool) → OnTrue done (GrowsInPlace old.bytes new.bytes at count) → OnFalse done (new ≡ old) → KnowsTables old.bytes known → KnowsTables new.bytes known
grown_kept old new known at count true grown same knows = tables_kept known grown.frame knows
grown_kept old new known at count false grown same knows = rw (← same) at knows

-- ---- where a table is added

still_listed : (tables : List Table) (place at : ℕ) → HasLongTable tables at
    → HasLongTable (tables ++ gained place ∷ []) at
still_listed [] place at h = absurd h
still_listed (t ∷ tables) place at h = elim h [ inl own ↦ inl own | inr later ↦ inr (still_listed tables place at later) ]

added_listed : (tables : List Table) (place : ℕ) → HasLongTable (tables ++ gained place ∷ []) place
added_listed [] place = inl (refl, omega arith)
added_listed (t ∷ tables) place = inr (added_listed tables place)

pub tables_gained : {old new : List ℕ} (known after : Remembered) {place : ℕ} → GainsTable old new place → KnowsTables old known → RemembersPlace known after place → KnowsTables new after
tables_gained {old} {new} known after {place} g knows more =
    knows_more new known after place
    record {
      entries = λ entry some. rw (← g.further) at (still_listed (further_tables old) place (slice_index known.places entry) (knows.entries entry some));
      latest = starts_gained old new _ _ _ g.count g.further knows.latest;
    }
    more (rw (← g.further) at (added_listed (further_tables old) place))
