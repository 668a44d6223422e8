-- What is written and then flushed.
use Rattle.std.proofs.Common.{◌++◌, ℕ, Bool, true, false, Option, List, length, refl, subst, inl}
use Rattle.heap_model.specs.Files.{HasNoFault, IsFirstFault}
use Rattle.heap_model.specs.declared.file_fault.FileFault.{FileFault}
use Rattle.palm_text.specs.Counted.{Writing, Writes, Flushes}
use Rattle.palm_text.specs.Output.{Puts, output}
use Rattle.palm_text.proofs.Parts.{then_flush}
use Rattle.canonical_file.specs.Canonical.{IsCanonical, WritesCanonical, WroteCanonical}
use Rattle.canonical_file.specs.Changes.{AreChanges, changes_line}
use Rattle.canonical_file.specs.declared.changes.Changes.{Changes}
use Rattle.file_listing.specs.declared.rows.Row.{Row}
use Rattle.file_listing.specs.Lines.{heading}
use Rattle.file_listing.specs.Listing.{WritesListing, fault_row}
use Rattle.file_commands.specs.declared.faults.Rewritten.{Rewritten}
use Rattle.file_commands.specs.Ends.{IsChangesText, PutsText, PutsListing, PutsFaultRow, PutsCanonical, PutsPart, WroteWhole, written_line, rewritten_lines}

module _ {V : Type 0} (contents : V → Option (List ℕ)) where
  pub puts_fault : (row_text : Row → List ℕ) (old new : Writing V) (file : List ℕ) (fault : FileFault) (ok : Bool) → IsFirstFault file fault → Puts contents old new (row_text (fault_row file fault)) ok → PutsFaultRow row_text file contents old new ok
  puts_fault row_text old new file fault ok first puts = (fault, first, puts)

  -- a listing, and the flush after it
  pub puts_listing : (row_text : Row → List ℕ) (old between new : Writing V) (file : List ℕ) (ok : Bool) → HasNoFault file → WritesListing row_text file contents old between true → Flushes contents between new ok → PutsListing row_text file contents old new ok
  puts_listing row_text old between new file ok good listing flush = (good, (listing.0, listing.1, then_flush contents old between new listing.0 ok listing.2 flush))

  -- a write of it failed
  pub listing_stops : (row_text : Row → List ℕ) (old new : Writing V) (file : List ℕ) → HasNoFault file → WritesListing row_text file contents old new false → PutsListing row_text file contents old new false
  listing_stops row_text old new file good listing = (good, (listing.0, listing.1, inl listing.2))

  -- the line of the changes of a file
  pub puts_changes : (path : Option (List ℕ)) (old new : Writing V) (file : List ℕ) (changes : Changes) (ok : Bool) → HasNoFault file → AreChanges file changes → Puts contents old new (heading path ++ changes_line changes) ok → PutsText (IsChangesText path file) file contents old new ok
  puts_changes path old new file changes ok good are puts = (good, (heading path ++ changes_line changes, (changes, are, refl), puts))

  -- a file that is its own canonical form
  pub wrote_same : (old new : Writing V) (file : List ℕ) → IsCanonical file file → Writes contents old new file true → WroteCanonical file contents old new (length file)
  wrote_same old new file same writes = (file, same, refl, writes)

  -- or a prefix of it
  pub cut_same : (old new : Writing V) (file : List ℕ) → IsCanonical file file → Writes contents old new file false → WritesCanonical file contents old new false
  cut_same old new file same writes = (file, same, writes)

  -- a canonical form, and the flush after it
  pub puts_whole : (old between new : Writing V) (file : List ℕ) (rewritten : Rewritten) → AreChanges file rewritten.changes → WroteCanonical file contents old between rewritten.count → Flushes contents between new true → WroteWhole file (output contents old new) rewritten
  puts_whole old between new file rewritten changes wrote flush = record {
    bytes = wrote.0;
    canonical = wrote.1;
    count = wrote.2;
    changes = changes;
    written = then_flush contents old between new wrote.0 true wrote.3 flush;
  }

  -- that flush failed
  pub flush_fails : (old between new : Writing V) (file : List ℕ) (count : ℕ) → WroteCanonical file contents old between count → Flushes contents between new false → PutsPart file (output contents old new)
  flush_fails old between new file count wrote flush = (wrote.0, wrote.1, then_flush contents old between new wrote.0 false wrote.3 flush)

  -- or a write before it
  pub canonical_stops : (old new : Writing V) (file : List ℕ) → WritesCanonical file contents old new false → PutsPart file (output contents old new)
  canonical_stops old new file writes = (writes.0, writes.1, inl writes.2)

-- the lines after the whole form
pub told : {W V : Type 0} (file_contents : W → Option (List ℕ)) (contents : V → Option (List ℕ)) (file_old file_new : Writing W) (old new : Writing V) (file : List ℕ) (rewritten : Rewritten) (ok : Bool)
    → WroteWhole file (output file_contents file_old file_new) rewritten → Puts contents old new (rewritten_lines rewritten) ok → PutsCanonical file (output file_contents file_old file_new) (output contents old new) ok
unfolding rewritten_lines
told file_contents contents file_old file_new old new file rewritten ok whole lines = record {
  bytes = whole.bytes;
  canonical = whole.canonical;
  written = whole.written;
  changes = rewritten.changes;
  changes_are = whole.changes;
  told = subst (λ (n : ℕ). Puts contents old new (written_line n ++ changes_line rewritten.changes) ok) whole.count lines;
}
