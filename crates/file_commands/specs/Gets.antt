-- What `get` writes: a block to one writer, or lines to another one. A definition that ends in a
-- `Bool` has it true if all was written and flushed, and false if a write or a flush failed.
use Rattle.std.specs.Prelude.{◌≡◌, ◌≢◌, ◌⊎◌, ◌++◌, ℕ, Bool, true, false, List, codes, decimal}
use Rattle.heap_model.specs.Files.{HasNoFault}
use Rattle.heap_model.specs.Numbers.{number_of, name_of}
use Rattle.heap_model.specs.declared.refusal.Refusal.{Refusal}
use Rattle.palm_text.specs.Output.{IsUnused, Output, PutsTo}
use Rattle.program_io.specs.declared.status.Status.{Status}
use Rattle.program_io.specs.declared.status.Status.TheVariants.{Done, Refused, BadWords, ReadFault, WriteFault, NoMemory}
use Rattle.file_commands.specs.declared.block_words.WantedBlock.{WantedBlock}
use Rattle.file_commands.specs.Ends.{PutsFault}
use Rattle.file_commands.specs.WantedBlocks.{IsWantedBlock, LacksBlock}

-- the line for a block that a file doesn't have
unfoldable pub no_block_line : Refusal → List ℕ
no_block_line refusal = codes "refused " ++ (decimal (number_of refusal) ++ (codes " " ++ (name_of refusal ++ codes "\n")))

module _ {W : Type 0} where
  -- the output is the bytes of the block that is asked for, of a file without fault, and nothing else
  abbrev pub PutsBlock : List ℕ → WantedBlock → Output W → Bool → Type 0
  PutsBlock file wanted block_out ok = HasNoFault file × ((bytes : List ℕ) × IsWantedBlock file wanted bytes × PutsTo block_out bytes ok)

  -- the output is the line that says why a file without fault doesn't have the block
  abbrev pub PutsNoBlock : List ℕ → WantedBlock → Output W → Bool → Type 0
  PutsNoBlock file wanted out ok = HasNoFault file × ((refusal : Refusal) × LacksBlock file wanted refusal × PutsTo out (no_block_line refusal) ok)

  -- the output is the lines for a file with a fault, or for a block that the file doesn't have
  abbrev pub PutsNotGot : List ℕ → WantedBlock → Output W → Bool → Type 0
  PutsNotGot file wanted out ok = PutsFault file out.contents out.old out.new ok ⊎ PutsNoBlock file wanted out ok

-- A write or a flush failed in `get`. It failed in the block, and there are no lines; or in the
-- lines, and there is no block.
abbrev pub GetBreaksOff : {W V : Type 0} → List ℕ → WantedBlock → Output W → Output V → Type 0
GetBreaksOff file wanted block_out out =
    (PutsBlock file wanted block_out false × IsUnused out)
    ⊎ (PutsNotGot file wanted out false × IsUnused block_out)

-- What `get` wrote. The block goes to the first output, lines go to the second one.
pub record EndsGet {W V : Type 0} (file : List ℕ) (wanted : WantedBlock) (block_out : Output W) (out : Output V) (status : Status) : Type 0 where
  pub done : status ≡ Done → PutsBlock file wanted block_out true × IsUnused out
  pub refused : status ≡ Refused → PutsNotGot file wanted out true × IsUnused block_out
  pub no_memory : status ≡ NoMemory → HasNoFault file × IsUnused block_out × IsUnused out
  pub write_fault : status ≡ WriteFault → GetBreaksOff file wanted block_out out
  pub good_words : status ≢ BadWords
  pub reads_nothing : status ≢ ReadFault
