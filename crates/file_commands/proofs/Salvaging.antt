-- What `salvage` writes and then flushes.
use Rattle.std.proofs.Common.{◌≤◌, ℕ, Bool, true, false, Option, List, length, subst, inl}
use Rattle.palm_text.specs.Counted.{Writing, Flushes}
use Rattle.palm_text.specs.Output.{Puts, output}
use Rattle.palm_text.proofs.Parts.{then_flush}
use Rattle.canonical_file.specs.Canonical.{WritesOne, WroteOne}
use Rattle.canonical_file.specs.Salvage.{Salvages}
use Rattle.canonical_file.specs.declared.salvage.SalvagedIds.{SalvagedIds}
use Rattle.file_commands.specs.Salvages.{PutWhole, PutsSalvaged, PutsSalvagedPart, salvaged_lines}

module _ {W : Type 0} (contents : W → Option (List ℕ)) (rule : SalvagedIds) where
  -- a salvaged file, and the flush after it
  pub puts_salvage : (old between new : Writing W) (file : List ℕ) (count : ℕ) → 78 ≤ length file → WroteOne (Salvages rule file) contents old between count → Flushes contents between new true → PutWhole rule file (output contents old new) count
  puts_salvage old between new file count long wrote flush = (long, (wrote.0, wrote.1, wrote.2, then_flush contents old between new wrote.0 true wrote.3 flush))

  -- that flush failed
  pub salvage_flush_fails : (old between new : Writing W) (file : List ℕ) (count : ℕ) → WroteOne (Salvages rule file) contents old between count → Flushes contents between new false → PutsSalvagedPart rule file (output contents old new)
  salvage_flush_fails old between new file count wrote flush = (wrote.0, wrote.1, then_flush contents old between new wrote.0 false wrote.3 flush)

  -- or a write before it
  pub salvage_stops : (old new : Writing W) (file : List ℕ) → WritesOne (Salvages rule file) contents old new false → PutsSalvagedPart rule file (output contents old new)
  salvage_stops old new file writes = (writes.0, writes.1, inl writes.2)

-- the lines after the whole file
pub salvage_told : {W V : Type 0} (rule : SalvagedIds) (file_contents : W → Option (List ℕ)) (contents : V → Option (List ℕ)) (file_old file_new : Writing W) (old new : Writing V) (file : List ℕ) (count : ℕ) (ok : Bool)
    → PutWhole rule file (output file_contents file_old file_new) count → Puts contents old new (salvaged_lines file count) ok → PutsSalvaged rule file (output file_contents file_old file_new) (output contents old new) ok
salvage_told rule file_contents contents file_old file_new old new file count ok whole lines = record {
  header = whole.0;
  bytes = whole.1.0;
  salvaged = whole.1.1;
  written = whole.1.3;
  told = subst (λ (n : ℕ). Puts contents old new (salvaged_lines file n) ok) whole.1.2 lines;
}
