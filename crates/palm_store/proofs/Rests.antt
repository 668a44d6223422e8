-- What two calls after each other leave of a region's value.
use Rattle.palm_store.proofs.Words.{◌≡◌, ℕ, sym, ap, ◌∙◌, Memory}
pub use Rattle.database_edits.proofs.Kept.{writes_then, slides_then, none_slid}

-- the first may slide bytes, and so may the second
pub moved_then : (old mid new : Memory) → mid ≡ record old { bytes = mid.bytes; slid = mid.slid } → new ≡ record mid { bytes = new.bytes; slid = new.slid } → new ≡ record old { bytes = new.bytes; slid = new.slid }
moved_then old mid new first second = second ∙ ap (λ (m : Memory). record m { bytes = new.bytes; slid = new.slid }) first

-- the second slides none
pub then_written : (old mid new : Memory) → mid ≡ record old { bytes = mid.bytes; slid = mid.slid } → new ≡ record mid { bytes = new.bytes } → new ≡ record old { bytes = new.bytes; slid = new.slid }
then_written old mid new first second = moved_then old mid new first (second ∙ ap (λ (count : ℕ). record mid { bytes = new.bytes; slid = count }) (ap (λ (m : Memory). m.slid) (sym second)))

-- the first slides none
pub then_moved : (old mid new : Memory) → mid ≡ record old { bytes = mid.bytes } → new ≡ record mid { bytes = new.bytes; slid = new.slid } → new ≡ record old { bytes = new.bytes; slid = new.slid }
then_moved old mid new first second = second ∙ ap (λ (m : Memory). record m { bytes = new.bytes; slid = new.slid }) first
