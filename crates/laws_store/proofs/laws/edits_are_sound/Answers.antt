-- One lemma for each edit of the entries, and one for the modification number.
use Rattle.std.proofs.Common.{inl, inr}
use Rattle.laws_store.proofs.Entries.{raised_sound, replaced_kept, replaced_own, removed_sound, inserted_sound, moved_sound}
use Rattle.laws_store.proofs.laws.edits_are_sound.Goals as goal

pub returns : goal.returns
returns c = (
  inserted_sound,
  λ d index change e s at fits names id. elim id [
    | inl kept ↦ replaced_kept d index change e s at fits names kept
    | inr own ↦ replaced_own d index change e s at fits names own
  ],
  removed_sound,
  moved_sound,
  raised_sound,
)
