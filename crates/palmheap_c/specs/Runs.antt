-- The results of running a script on an image, as lists of bytes.
use Rattle.std.specs.Prelude.{◌≡◌, ◌<◌, ◌+◌, ◌^◌, ◌-◌, ◌⊎◌, ℕ, List, [], ◌∷◌, length, min, Ok, Err}
use Rattle.std.specs.List.{flat_map}
use Rattle.allowance.specs.Refusals.{GrowthRefused}
use Rattle.heap_model.specs.Memory.{Memory}
use Rattle.heap_model.specs.Store.{Accepted}
use Rattle.script_lines.specs.Reading.{read_script}
use Rattle.script_lines.specs.declared.fault.LineFault.{LineFault}
use Rattle.script_lines.specs.declared.fault.ScriptFault.{ScriptFault}
use Rattle.script_lines.specs.declared.fault.ScriptFault.TheVariants.{UnknownCommand, WrongCount, BadWord, OutOfMemory}
use Rattle.script_lines.specs.declared.line.Line.{Line}
use Rattle.script_calls.specs.Lines.{Bindings, Lines, labelled, setting, unbound}
use Rattle.palmheap_c.specs.Answers.{IsImageFault, IsMemoryAnswer, answer, no_fault, memory_answer, no_room}
use Rattle.palmheap_c.specs.Buffers.{FillsBuffer}
use Rattle.palmheap_c.specs.declared.answers.Answer.{Answer}
use Rattle.palmheap_c.specs.declared.results.Results.{Results}
use Rattle.palmheap_c.specs.declared.results.Sizes.{Sizes}

-- ---- a run

-- A text is read as a script, and its lines were run from an accepted image, of which nothing is
-- lent. These are their reply lines, the files that they export, and the new image, an accepted
-- one. A line was refused with `OutOfMemory` only if an allocation failed.
pub record Ran (image script : List ℕ) (inputs : List (List ℕ)) (image_after text : List ℕ) (files : List (List ℕ)) : Type 0 where
  pub region : Memory
  pub region_after : Memory
  pub lines : List Line
  pub bound : Bindings
  pub image_is : region.bytes ≡ image
  pub whole : region.lents ≡ []
  pub before : Accepted image
  pub read : read_script script ≡ Ok lines
  pub ran : Lines (setting GrowthRefused inputs) (labelled region unbound) lines text files (labelled region_after bound)
  pub after_is : region_after.bytes ≡ image_after
  pub accepted : Accepted image_after
  pub len : length image_after ≡ length image

-- some files, one after the other
abbrev pub joined : List (List ℕ) → List ℕ
joined files = flat_map (λ file. file) files

-- where each of some files ends, if the first one starts at `start`
abbrev pub ends_from : ℕ → List (List ℕ) → List ℕ
ends_from start [] = []
ends_from start (file ∷ files) = (start + length file) ∷ ends_from (start + length file) files

-- A script was run. This is the new image, and the results are the reply lines, the files one after
-- the other, and where each of them ends.
pub record HasResults (image script : List ℕ) (inputs : List (List ℕ)) (image_after : List ℕ) (results : Results) : Type 0 where
  pub files : List (List ℕ)
  pub ran : Ran image script inputs image_after results.text.items files
  pub all_is : results.files.items ≡ joined files
  pub ends_are : results.ends.items ≡ ends_from 0 files

-- ---- faults of a script

-- the number, or the greatest one of 32 bits if it is greater
abbrev pub capped : ℕ → ℕ
capped n = min n (2 ^ 32 - 1)

-- the fault of a script at a line
abbrev pub of_script : ℕ → ScriptFault → Answer
of_script line UnknownCommand = answer 70 line 0
of_script line WrongCount = answer 71 line 0
of_script line (BadWord word) = answer 72 line (capped word)
of_script line OutOfMemory = memory_answer

-- the fault of a script: its line, and of a bad word the number of the word, both counted from 1
abbrev pub of_line : LineFault → Answer
of_line fault = of_script (capped fault.line) fault.fault

-- the text is no script, and this is its first fault
abbrev pub IsScriptFault : List ℕ → Answer → Type 0
IsScriptFault script found = (fault : LineFault) × (read_script script ≡ Err fault) × (found ≡ of_line fault)

-- An allocation failed, or this is the first fault of the image. Or the image is accepted, and this
-- is the first fault of the script.
abbrev pub IsRunRefusal : List ℕ → List ℕ → Answer → Type 0
IsRunRefusal image script found = IsMemoryAnswer found ⊎ (IsImageFault image found ⊎ (Accepted image × IsScriptFault script found))

-- ---- the caller's memory

-- the sizes of the results of a run
pub record HasSizes (text : List ℕ) (files : List (List ℕ)) (sizes : Sizes) : Type 0 where
  pub printed : sizes.printed ≡ length text
  pub exported : sizes.exported ≡ length (joined files)
  pub files_are : sizes.files ≡ length files

-- the memory of the caller that a run writes to
pub record Written : Type 0 where
  pub image : List ℕ
  pub printed : List ℕ
  pub exported : List ℕ
  pub ends : List ℕ
  pub sizes : Sizes

-- the memory that these five parts make
abbrev pub written : (image printed exported ends : List ℕ) → Sizes → Written
written image printed exported ends sizes = record { image = image; printed = printed; exported = exported; ends = ends; sizes = sizes }

-- a buffer is too short for results of these sizes
abbrev pub AreShortBuffers : Sizes → (printed exported ends : List ℕ) → Type 0
AreShortBuffers sizes printed exported ends = (length printed < sizes.printed) ⊎ ((length exported < sizes.exported) ⊎ (length ends < sizes.files))

-- The script was run on the image in place. The buffers begin with its reply lines, with its files
-- one after the other, and with where each of them ends.
pub record RunsInPlace (script : List ℕ) (inputs : List (List ℕ)) (old new : Written) : Type 0 where
  pub text : List ℕ
  pub files : List (List ℕ)
  pub ran : Ran old.image script inputs new.image text files
  pub printed_is : FillsBuffer text old.printed new.printed
  pub exported_is : FillsBuffer (joined files) old.exported new.exported
  pub ends_are : FillsBuffer (ends_from 0 files) old.ends new.ends
  pub sizes_are : HasSizes text files new.sizes

-- The script was run on a copy of the image, and its results have these sizes. A buffer is too
-- short for them.
pub record RunsShort (script : List ℕ) (inputs : List (List ℕ)) (old : Written) (sizes : Sizes) : Type 0 where
  pub image_after : List ℕ
  pub text : List ℕ
  pub files : List (List ℕ)
  pub ran : Ran old.image script inputs image_after text files
  pub sizes_are : HasSizes text files sizes
  pub short : AreShortBuffers sizes old.printed old.exported old.ends

-- The result of a run. There are three cases:
-- - The script was run on the image in place.
-- - A buffer is too short. Only the sizes were written.
-- - The run was refused. All memory of the caller is unchanged, the sizes too.
abbrev pub IsRunAnswer : (script : List ℕ) → (inputs : List (List ℕ)) → (old new : Written) → Answer → Type 0
IsRunAnswer script inputs old new found =
    ((found ≡ no_fault) × RunsInPlace script inputs old new)
    ⊎ (((found ≡ no_room) × RunsShort script inputs old new.sizes × (new ≡ record old { sizes = new.sizes }))
    ⊎ (IsRunRefusal old.image script found × (new ≡ old)))
