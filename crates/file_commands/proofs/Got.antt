-- A block that was written, and the line for one that a file doesn't have.
use Rattle.std.proofs.Common.{ℕ, Bool, List, Option}
use Rattle.heap_model.specs.Files.{HasNoFault}
use Rattle.heap_model.specs.declared.refusal.Refusal.{Refusal}
use Rattle.palm_text.specs.Counted.{Writing}
use Rattle.palm_text.specs.Output.{Puts, output}
use Rattle.file_commands.specs.declared.block_words.WantedBlock.{WantedBlock}
use Rattle.file_commands.specs.Gets.{PutsBlock, PutsNoBlock, no_block_line}
use Rattle.file_commands.specs.WantedBlocks.{IsWantedBlock, LacksBlock}

module _ {W : Type 0} (contents : W → Option (List ℕ)) where
  pub puts_block : (old new : Writing W) (file : List ℕ) (wanted : WantedBlock) (bytes : List ℕ) (ok : Bool) → HasNoFault file → IsWantedBlock file wanted bytes → Puts contents old new bytes ok → PutsBlock file wanted (output contents old new) ok
  puts_block old new file wanted bytes ok good is puts = (good, (bytes, is, puts))

  pub puts_no_block : (old new : Writing W) (file : List ℕ) (wanted : WantedBlock) (refusal : Refusal) (ok : Bool) → HasNoFault file → LacksBlock file wanted refusal → Puts contents old new (no_block_line refusal) ok → PutsNoBlock file wanted (output contents old new) ok
  puts_no_block old new file wanted refusal ok good lacks puts = (good, (refusal, lacks, puts))
