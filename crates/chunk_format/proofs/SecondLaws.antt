-- The second word of a live chunk, written alone.
use Rattle.std.proofs.Common.{false, ◌≡◌, ℕ, ◌+◌, ◌*◌, ◌%◌, ◌^◌, ◌<◌, ◌≤◌, List, length, sym, ap, subst, ◌∙◌, arith}
use Rattle.heap_model.specs.Memory.{Memory}
use Rattle.heap_model.specs.Bytes.{u32_at, u32_bytes, overwritten}
use Rattle.heap_model.specs.Chunk.{need, is_table_by, IsLive}
use Rattle.laws_heap.proofs.Chunks.{seen-plain, plain_body, plain-movable, plain-callers}
use Rattle.laws_heap.proofs.Frames.{SameBetween, length-u32_bytes, length-overwritten, overwritten-above, slice-same, u32_at-written, u32_at-below}
use Rattle.chunk_format.specs.Header.{h_offset_to, with_lock_field, with_owner_field, with_h_offset, with_lock_at, with_owner_at, with_slot_at, Relocks, Reowns, Reslots}
use Rattle.chunk_format.proofs.WriteLaws.{slot_named-h_offset_to}

-- a live chunk whose second word has another lock, owner and hOffset
second_written : {old : List ℕ} {at : ℕ} {bytes : List ℕ} {was_lock was_owner was_way : ℕ} (lock owner way word : ℕ) → IsLive old at bytes was_lock was_owner was_way → is_table_by was_lock was_owner ≡ false → is_table_by lock owner ≡ false → lock < 16 → owner < 16 → way < 2 ^ 24
    → word ≡ lock * 2 ^ 28 + owner * 2 ^ 24 + way → IsLive (overwritten old (at + 4) (u32_bytes word)) at bytes lock owner way
second_written {old} {at} {bytes} {was_lock} {was_owner} {was_way} lock owner way word s was_plain plain lock_fits owner_fits way_fits is =
    let four = length-u32_bytes word in
    let inside : at + need (length bytes) ≤ length old = s.inside in
    let new : List ℕ = overwritten old (at + 4) (u32_bytes word) in
    let len : length new ≡ length old = length-overwritten old (at + 4) (u32_bytes word) (omega arith) in
    let behind = overwritten-above old (at + 4) (u32_bytes word) (at + 8 + length bytes) (omega arith) in
    let start : at + 4 + length (u32_bytes word) ≡ at + 8 = omega arith in
    record {
      first_word = u32_at-below at (at + 4) old (u32_bytes word) (omega arith) (omega arith) ∙ s.first_word;
      size_fits = s.size_fits;
      second_word = u32_at-written word (at + 4) old (omega arith) (omega arith) ∙ is;
      lock_fits = lock_fits;
      owner_fits = owner_fits;
      h_offset_fits = way_fits;
      body = seen-plain lock owner _ plain ∙ sym (slice-same (at + 8) (at + 8 + length bytes) old new (subst (λ (n : ℕ). SameBetween n (at + 8 + length bytes) old new) start behind) (omega arith) (omega arith)) ∙ plain_body old at bytes was_lock was_owner was_way was_plain s;
      inside = omega arith;
    }

relocked_live : {old : List ℕ} {at : ℕ} {bytes : List ℕ} {was owner way : ℕ} (lock : ℕ) → IsLive old at bytes was owner way → was < 15 → lock < 15
    → IsLive (overwritten old (at + 4) (u32_bytes (with_lock_field (u32_at old (at + 4)) lock))) at bytes lock owner way
relocked_live {old} {at} {was} {owner} {way} lock s was_low low =
    let second = s.second_word in
    let owner_fits : owner < 16 = s.owner_fits in
    let way_fits : way < 2 ^ 24 = s.h_offset_fits in
    second_written lock owner way (with_lock_field (u32_at old (at + 4)) lock) s (plain-movable was owner was_low) (plain-movable lock owner low) (omega arith) owner_fits way_fits (omega arith)

reowned_live : {old : List ℕ} {at : ℕ} {bytes : List ℕ} {lock was way : ℕ} (owner : ℕ) → IsLive old at bytes lock was way → is_table_by lock was ≡ false → is_table_by lock owner ≡ false → owner ≤ 15
    → IsLive (overwritten old (at + 4) (u32_bytes (with_owner_field (u32_at old (at + 4)) owner))) at bytes lock owner way
reowned_live {old} {at} {lock} {was} {way} owner s was_plain plain fits =
    let second = s.second_word in
    let lock_fits : lock < 16 = s.lock_fits in
    let owner_fits : was < 16 = s.owner_fits in
    let way_fits : way < 2 ^ 24 = s.h_offset_fits in
    second_written lock owner way (with_owner_field (u32_at old (at + 4)) owner) s was_plain plain lock_fits (omega arith) way_fits (omega arith)

reslotted_live : {old : List ℕ} {at : ℕ} {bytes : List ℕ} {lock owner was : ℕ} (way : ℕ) → IsLive old at bytes lock owner was → lock < 15 → way < 2 ^ 24
    → IsLive (overwritten old (at + 4) (u32_bytes (with_h_offset (u32_at old (at + 4)) way))) at bytes lock owner way
reslotted_live {old} {at} {lock} {owner} {was} way s low fits =
    let second = s.second_word in
    let owner_fits : owner < 16 = s.owner_fits in
    let was_fits : was < 2 ^ 24 = s.h_offset_fits in
    second_written lock owner way (with_h_offset (u32_at old (at + 4)) way) s (plain-movable lock owner low) (plain-movable lock owner low) (omega arith) owner_fits fits (omega arith)

pub relocks : (old new : Memory) (at lock : ℕ) → lock < 15 → new ≡ record old { bytes = with_lock_at old.bytes at lock } → Relocks old.bytes new.bytes at lock
relocks old new at lock low is bytes was owner slot may s =
    let image : new.bytes ≡ with_lock_at old.bytes at lock = ap (λ (m : Memory). m.bytes) is in
    (s.0, subst (λ (b : List ℕ). IsLive b at bytes lock owner s.0) (sym image) (relocked_live lock s.1 s.2 low), low, may, s.4)

pub reowns : (old new : Memory) (at owner : ℕ) → owner ≤ 15 → new ≡ record old { bytes = with_owner_at old.bytes at owner } → Reowns old.bytes new.bytes at owner
reowns old new at owner fits is =
    let image : new.bytes ≡ with_owner_at old.bytes at owner = ap (λ (m : Memory). m.bytes) is in
    record {
      movable_too = λ bytes lock was slot may s. (s.0, subst (λ (b : List ℕ). IsLive b at bytes lock owner s.0) (sym image) (reowned_live owner s.1 (plain-movable lock was s.2) (plain-movable lock owner s.2) fits), s.2, may, s.4);
      fixed_too = λ bytes was some more s. subst (λ (b : List ℕ). IsLive b at bytes 15 owner 0) (sym image) (reowned_live owner s (plain-callers 15 was some) (plain-callers 15 owner more) fits);
    }

pub reslots : {old : List ℕ} (new : List ℕ) (at slot : ℕ) → at < 2 ^ 24 → slot < 2 ^ 24 → slot % 2 ≡ at % 2 → new ≡ with_slot_at old at slot → Reslots old new at slot
reslots new at slot low small even is bytes lock owner was s =
    let way : ℕ = h_offset_to at slot in
    (way, subst (λ (b : List ℕ). IsLive b at bytes lock owner way) (sym is) (reslotted_live way s.1 s.2 (omega arith)), s.2, s.3, slot_named-h_offset_to at slot low small even)
