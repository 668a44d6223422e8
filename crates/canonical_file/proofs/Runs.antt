-- Two blocks that are neighbours in a file are one run of its bytes.
use Rattle.std.proofs.Common.{◌≡◌, ℕ, ◌≤◌, Option, Some, None, List, [], ◌++◌, drop, true, refl, sym, ap, subst, ◌∙◌, arith, append-nil, append_assoc, Bool}
use Rattle.std.specs.Prelude.{slice_range}
use Rattle.std.proofs.lemmas.List.{append_cancel_right}
use Rattle.std.proofs.lemmas.List.Folds.{drop_split}
use Rattle.palm_text.specs.Counted.{Writing, Writes}
use Rattle.palm_text.proofs.Parts.{then, nothing}
use Rattle.heap_model.specs.Files.{block_bytes}
use Rattle.pdb_format.specs.Blocks.{bytes_at}
use Rattle.pdb_format.specs.declared.blocks.Block.{Block}
use Rattle.canonical_file.specs.Canonical.{Continues, run_bytes}

-- two neighbours
pub neighbours : (file : List ℕ) (start mid end : ℕ) → start ≤ mid → mid ≤ end
    → slice_range file start mid ++ slice_range file mid end ≡ slice_range file start end
neighbours file start mid end first second =
    append_cancel_right (slice_range file start mid ++ slice_range file mid end)
    (slice_range file start end) (drop end file)
    (append_assoc (slice_range file start mid) (slice_range file mid end) (drop end file)
    ∙ ap (λ (xs : List ℕ). slice_range file start mid ++ xs) (sym (drop_split file mid end second))
    ∙ sym (drop_split file start mid first)
    ∙ drop_split file start end (omega arith))

module _ {W : Type 0} (contents : W → Option (List ℕ)) where
  -- no block
  pub same_run : (file : List ℕ) (w : Writing W) (run : Block)
      → Continues file contents w w run None run
  same_run file w run =
      record { text = []; writes = nothing contents w; parts = append-nil (run_bytes file run) }

  -- a block that begins where the run ends
  pub longer_run : (file : List ℕ) (w : Writing W) (run block next : Block) → run.start ≤ run.end
      → block.start ≤ block.end → block.start ≡ run.end → next.start ≡ run.start
      → next.end ≡ block.end → Continues file contents w w run (Some block) next
  longer_run file w run block next first second meets start end =
      record {
        text = [];
        writes = nothing contents w;
        parts = ap (λ (at : ℕ). run_bytes file run ++ slice_range file at block.end) meets
            ∙ neighbours file run.start run.end block.end first (omega arith)
            ∙ ap (λ (at : ℕ). slice_range file at block.end) (sym start)
            ∙ ap (slice_range file next.start) (sym end);
      }

  -- another block
  pub new_run : (file : List ℕ) (old new : Writing W) (run block : Block)
      → Writes contents old new (run_bytes file run) true
      → Continues file contents old new run (Some block) block
  new_run file old new run block writes =
      record { text = run_bytes file run; writes = writes; parts = refl }

  -- what is written from then on completes the run and the block
  pub continued : (file : List ℕ) (old mid new : Writing W) (run : Block) (block : Option Block)
      (next : Block) (rest : List ℕ) (ok : Bool)
      → Continues file contents old mid run block next
      → Writes contents mid new (run_bytes file next ++ rest) ok
      → Writes contents old new (run_bytes file run ++ (block_bytes (bytes_at file block) ++ rest)) ok
  continued file old mid new run block next rest ok step writes =
      subst (λ (xs : List ℕ). Writes contents old new xs ok)
      (sym (append_assoc step.text (run_bytes file next) rest)
      ∙ ap (λ (xs : List ℕ). xs ++ rest) (sym step.parts)
      ∙ append_assoc (run_bytes file run) (block_bytes (bytes_at file block)) rest)
      (then contents old mid new step.text (run_bytes file next ++ rest) ok step.writes writes)
