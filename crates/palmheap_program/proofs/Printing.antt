-- Texts of scripts that are printed and flushed.
use Rattle.std.proofs.Common.{ℕ, List, Option, true, false, inr}
use Rattle.heap_model.specs.Memory.{Memory}
use Rattle.palm_text.specs.Counted.{Flushes, Writing}
use Rattle.script_lines.specs.declared.line.Line.{Line}
use Rattle.script_calls.specs.Lines.{RunsThroughShort, Setting}
use Rattle.palmheap_program.specs.Runs.{PrintingFails, RunsAndFlushes}
use Rattle.palm_text.specs.Output.{output}

-- the flush after all of the text succeeded
pub flushed : {V : Type 0} {given : Setting} (contents : V → Option (List ℕ)) (lines : List Line) (region region_after : Memory) (old between new : Writing V) (files : List (List ℕ))
    → RunsThroughShort given lines region region_after (output contents old between) files → Flushes contents between new true → RunsAndFlushes given lines region region_after (output contents old new) files
flushed contents lines region region_after old between new files runs flush = record { between = between; ran = runs; flushes = flush }

-- it failed
pub flush_fails : {V : Type 0} {given : Setting} (contents : V → Option (List ℕ)) (lines : List Line) (region region_after : Memory) (old between new : Writing V) (files : List (List ℕ))
    → RunsThroughShort given lines region region_after (output contents old between) files → Flushes contents between new false → PrintingFails given lines region region_after (output contents old new)
flush_fails contents lines region region_after old between new files runs flush = inr (record { between = between; files = files; ran = runs; flushes = flush })
