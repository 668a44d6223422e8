-- The statuses of `canonical --keep`, and the line of the changes that are left.
use Rattle.std.proofs.Common.{◌≡◌, ◌++◌, ℕ, Bool, true, false, Option, List, length, refl, inl, inr}
use Rattle.std.specs.Prelude.{◌⊎◌, codes}
use Rattle.heap_model.specs.Files.{HasNoFault}
use Rattle.palm_text.specs.Counted.{Writing}
use Rattle.palm_text.specs.Output.{Puts, output}
use Rattle.canonical_file.specs.Changes.{changes_line}
use Rattle.canonical_file.specs.declared.changes.Changes.{Changes}
use Rattle.file_listing.specs.Lines.{heading}
use Rattle.file_parts.specs.Keeping.{AreChangesLeft, KeepsParts}
use Rattle.file_parts.specs.Kept.{IsKeepFault}
use Rattle.file_parts.specs.declared.exact_writing.PlaceFault.TheVariants.{TooLarge}
use Rattle.file_parts.specs.declared.keep.Keep.{Keep}
use Rattle.program_io.specs.declared.status.Status.{Status}
use Rattle.program_io.specs.declared.status.Status.TheVariants.{Done, Refused, BadWords, ReadFault, WriteFault, NoMemory}
use Rattle.file_commands.specs.Ends.{PutsText, rewritten_lines}
use Rattle.file_commands.specs.Keeps.{EndsKept, IsLeftText}
use Rattle.file_commands.proofs.PutStatuses.{neither}

-- the line of the changes that are left
pub puts_left : {V : Type 0} (contents : V → Option (List ℕ)) (keep : Keep) (path : Option (List ℕ)) (old new : Writing V) (file : List ℕ) (left : Changes) (ok : Bool) → HasNoFault file → AreChangesLeft keep file left → Puts contents old new (heading path ++ changes_line left) ok → PutsText (IsLeftText keep path file) file contents old new ok
puts_left contents keep path old new file left ok good are puts = (good, (heading path ++ changes_line left, (left, are, refl), puts))

module _ {W V : Type 0} (file_contents : W → Option (List ℕ)) (contents : V → Option (List ℕ)) where
  -- there was not enough memory, and nothing was written
  pub no_room : (keep : Keep) (file : List ℕ) (file_old : Writing W) (old : Writing V) → HasNoFault file → EndsKept keep file (output file_contents file_old file_old) (output contents old old) NoMemory
  no_room keep file file_old old good = record {
    done = λ e. cc;
    refused = λ e. cc;
    no_memory = λ _. (good, refl, refl);
    write_fault = λ e. cc;
    good_words = λ e. cc;
    reads_nothing = λ e. cc;
  }

  -- the file would be too large
  pub too_large : (keep : Keep) (file : List ℕ) (file_old : Writing W) (old new : Writing V) (status : Status) → IsKeepFault keep file TooLarge → (status ≡ Refused) ⊎ (status ≡ WriteFault)
      → (status ≡ Refused → Puts contents old new (codes "bad TooLarge\n") true) → (status ≡ WriteFault → Puts contents old new (codes "bad TooLarge\n") false) → EndsKept keep file (output file_contents file_old file_old) (output contents old new) status
  too_large keep file file_old old new status large either refused fails = record {
    done = λ e. absurd (neither status Done Refused WriteFault either e (λ e. cc) (λ e. cc));
    refused = λ e. (inr (large, refused e), refl);
    no_memory = λ e. absurd (neither status NoMemory Refused WriteFault either e (λ e. cc) (λ e. cc));
    write_fault = λ e. inr (inr (inr (large, fails e), refl));
    good_words = λ e. neither status BadWords Refused WriteFault either e (λ e. cc) (λ e. cc);
    reads_nothing = λ e. neither status ReadFault Refused WriteFault either e (λ e. cc) (λ e. cc);
  }

  -- the file is written
  pub kept_whole : (keep : Keep) (file bytes : List ℕ) (left : Changes) (file_old file_new : Writing W) (old new : Writing V) (status : Status) → KeepsParts keep file bytes → AreChangesLeft keep file left → (status ≡ Done) ⊎ (status ≡ WriteFault)
      → (status ≡ Done → Puts file_contents file_old file_new bytes true) → (status ≡ Done → Puts contents old new (rewritten_lines (record { count = length bytes; changes = left })) true)
      → (status ≡ WriteFault → (Puts file_contents file_old file_new bytes false × (new ≡ old)) ⊎ (Puts file_contents file_old file_new bytes true × Puts contents old new (rewritten_lines (record { count = length bytes; changes = left })) false))
      → EndsKept keep file (output file_contents file_old file_new) (output contents old new) status
  unfolding rewritten_lines
  kept_whole keep file bytes left file_old file_new old new status keeps are either written told fails = record {
    done = λ e. record { bytes = bytes; keeps = keeps; written = written e; left = left; are = are; told = told e };
    refused = λ e. absurd (neither status Refused Done WriteFault either e (λ e. cc) (λ e. cc));
    no_memory = λ e. absurd (neither status NoMemory Done WriteFault either e (λ e. cc) (λ e. cc));
    write_fault = λ e. elim (fails e) [
      | inl part ↦ inl ((bytes, keeps, part.0), part.1)
      | inr whole ↦ inr (inl (record { bytes = bytes; keeps = keeps; written = whole.0; left = left; are = are; told = whole.1 }))
    ];
    good_words = λ e. neither status BadWords Done WriteFault either e (λ e. cc) (λ e. cc);
    reads_nothing = λ e. neither status ReadFault Done WriteFault either e (λ e. cc) (λ e. cc);
  }
