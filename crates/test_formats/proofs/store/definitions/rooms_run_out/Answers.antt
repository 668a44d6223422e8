use Rattle.std.proofs.Common.{◌<◌, [], ◌∷◌, refl, arith, inl, inr}
use Rattle.std.proofs.lemmas.List.Elements.{All-nil, All-cons}
use Rattle.heap_model.specs.Bytes.{u16_at, u24_at, u32_at, u16_bytes, u24_bytes, u32_bytes, overwritten}
use Rattle.heap_model.specs.Slots.{slots_of, further_tables}
use Rattle.heap_model.specs.Reading.{chunk_at, chunks_from, chunks_of, held, is_accepted}
use Rattle.heap_model.specs.Database.{name_field, header_bytes, entry_bytes, spelled, name_in, header_in, database_in}
use Rattle.heap_model.specs.Store.{bytes_under, owner_under, directory_bytes, listed, databases, named}
use Rattle.test_formats.proofs.store.definitions.rooms_run_out.Goals as goal

pub returns-clause-rooms : goal.returns-clause-rooms
unfolding u16_at u24_at u32_at u16_bytes u24_bytes u32_bytes overwritten slots_of further_tables chunk_at chunks_from chunks_of held is_accepted name_field header_bytes entry_bytes spelled name_in header_in database_in bytes_under owner_under directory_bytes listed databases named
returns-clause-rooms c = refl

pub returns-clause-locked : goal.returns-clause-locked
unfolding u16_at u24_at u32_at u16_bytes u24_bytes u32_bytes overwritten slots_of further_tables chunk_at chunks_from chunks_of held is_accepted name_field header_bytes entry_bytes spelled name_in header_in database_in bytes_under owner_under directory_bytes listed databases named
returns-clause-locked c = refl

-- the room is lowered, and is too little then
pub returns-clause-stuck : goal.returns-clause-stuck
returns-clause-stuck c = inr (
  8 ∷ [],
  record { stretch = 0; inside = omega arith; reaches = omega arith; lower = refl },
  inl (All-cons (λ room. room < 16) 8 [] (omega arith) (All-nil (λ room. room < 16))),
)

pub returns-clause-not_grown : goal.returns-clause-not_grown
returns-clause-not_grown c = inl (All-cons (λ room. room < 104) 88 (32 ∷ []) (omega arith) (All-cons (λ room. room < 104) 32 [] (omega arith) (All-nil (λ room. room < 104))))

-- the first part takes from the room that the second counts on
pub returns-clause-room_is_taken : goal.returns-clause-room_is_taken
returns-clause-room_is_taken c = inr (
  72 ∷ 16 ∷ [],
  record { stretch = 0; inside = omega arith; reaches = omega arith; lower = refl },
  inl (All-cons (λ room. room < 96) 88 (16 ∷ []) (omega arith) (All-cons (λ room. room < 96) 16 [] (omega arith) (All-nil (λ room. room < 96)))),
)
