-- What `put` writes: the new file to one output, and lines to another one. A definition that ends in
-- a `Bool` has it true if all was written and flushed, and false if a write or a flush failed.
use Rattle.std.specs.Prelude.{◌≡◌, ◌≢◌, ◌⊎◌, ℕ, Bool, true, false, List, [], length, codes, Option}
use Rattle.heap_model.specs.Files.{HasNoFault}
use Rattle.palm_text.specs.Counted.{Writing}
use Rattle.palm_text.specs.Output.{IsUnused, Output, Puts, PutsTo}
use Rattle.file_parts.specs.Replacing.{IsReplaceFault, Replaces}
use Rattle.file_parts.specs.declared.replaced.ReplaceFault.{ReplaceFault}
use Rattle.file_parts.specs.declared.replaced.ReplaceFault.TheVariants.{TooLarge, EmptyPart, OutOfMemory}
use Rattle.program_io.specs.declared.status.Status.{Status}
use Rattle.program_io.specs.declared.status.Status.TheVariants.{Done, Refused, BadWords, ReadFault, WriteFault, NoMemory}
use Rattle.file_commands.specs.declared.put_command.NewBlock.{NewBlock}
use Rattle.file_commands.specs.Ends.{written_line}
use Rattle.file_commands.specs.Gets.{PutsNotGot}
use Rattle.file_commands.specs.WantedBlocks.{IsWantedRank}

-- the line for a block that isn't replaced
abbrev pub replace_fault_line : ReplaceFault → List ℕ
replace_fault_line TooLarge = codes "bad TooLarge\n"
replace_fault_line EmptyPart = codes "bad EmptyPart\n"
replace_fault_line OutOfMemory = []

-- the output is this line, and no allocation failed
abbrev pub PutsPutFault : {V : Type 0} → ReplaceFault → (V → Option (List ℕ)) → Writing V → Writing V → Bool → Type 0
PutsPutFault fault contents old new ok = (fault ≢ OutOfMemory) × Puts contents old new (replace_fault_line fault) ok

-- the file with its block replaced, and then the line with its size
pub record PutsReplaced {W V : Type 0} (file : List ℕ) (block : NewBlock) (file_out : Output W) (out : Output V) (ok : Bool) : Type 0 where
  pub rank : ℕ
  pub wanted : IsWantedRank file block.wanted rank
  pub bytes : List ℕ
  pub replaces : Replaces file rank block.bytes.now bytes
  pub written : PutsTo file_out bytes true
  pub told : PutsTo out (written_line (length bytes)) ok

-- the file without the line: a write of it failed, or the flush after it
abbrev pub PutsReplacedPart : {W : Type 0} → List ℕ → NewBlock → Output W → Type 0
PutsReplacedPart file block file_out = (rank : ℕ) × IsWantedRank file block.wanted rank × ((bytes : List ℕ) × Replaces file rank block.bytes.now bytes × PutsTo file_out bytes false)

-- the output is the line that says why the block isn't replaced
abbrev pub PutsNotReplaced : {V : Type 0} → List ℕ → NewBlock → Output V → Bool → Type 0
PutsNotReplaced file block out ok = (rank : ℕ) × IsWantedRank file block.wanted rank × ((fault : ReplaceFault) × IsReplaceFault file rank block.bytes.now fault × PutsPutFault fault out.contents out.old out.new ok)

-- the output is the lines for a file with a fault, for a block that the file doesn't have, or for
-- one that isn't replaced
abbrev pub PutsNotPut : {V : Type 0} → List ℕ → NewBlock → Output V → Bool → Type 0
PutsNotPut file block out ok = PutsNotGot file block.wanted out ok ⊎ PutsNotReplaced file block out ok

-- A write or a flush failed in `put`, and nothing was written after it. There are three cases:
-- - It failed for the file, and nothing was printed.
-- - It failed for the line, after the whole file.
-- - Nothing is replaced, and it failed for the lines about that.
abbrev pub PutBreaksOff : {W V : Type 0} → List ℕ → NewBlock → Output W → Output V → Type 0
PutBreaksOff file block file_out out =
    (PutsReplacedPart file block file_out × IsUnused out)
    ⊎ PutsReplaced file block file_out out false
    ⊎ (PutsNotPut file block out false × IsUnused file_out)

-- what `put` wrote for a file
pub record EndsPut {W V : Type 0} (file : List ℕ) (block : NewBlock) (file_out : Output W) (out : Output V) (status : Status) : Type 0 where
  pub done : status ≡ Done → PutsReplaced file block file_out out true
  pub refused : status ≡ Refused → PutsNotPut file block out true × IsUnused file_out
  pub no_memory : status ≡ NoMemory → HasNoFault file × IsUnused file_out × IsUnused out
  pub write_fault : status ≡ WriteFault → PutBreaksOff file block file_out out
  pub good_words : status ≢ BadWords
  pub reads_nothing : status ≢ ReadFault
