-- The statuses of `put`.
use Rattle.std.proofs.Common.{◌≡◌, ℕ, Bool, true, false, Option, List, length, refl, sym, subst, inl, inr, ◌∙◌}
use Rattle.std.specs.Prelude.{◌⊎◌}
use Rattle.heap_model.specs.Files.{HasNoFault}
use Rattle.heap_model.specs.declared.refusal.Refusal.{Refusal}
use Rattle.palm_text.specs.Counted.{Writing}
use Rattle.palm_text.specs.Output.{Puts, output}
use Rattle.file_parts.specs.Replacing.{IsReplaceFault, Replaces}
use Rattle.file_parts.specs.declared.replaced.ReplaceFault.{ReplaceFault}
use Rattle.file_parts.specs.declared.replaced.ReplaceFault.TheVariants.{OutOfMemory}
use Rattle.program_io.specs.declared.status.Status.{Status}
use Rattle.program_io.specs.declared.status.Status.TheVariants.{Done, Refused, BadWords, ReadFault, WriteFault, NoMemory}
use Rattle.file_commands.specs.declared.put_command.NewBlock.{NewBlock}
use Rattle.file_commands.specs.Ends.{written_line}
use Rattle.file_commands.specs.Gets.{no_block_line}
use Rattle.file_commands.specs.Puts.{EndsPut, PutsPutFault, replace_fault_line}
use Rattle.file_commands.specs.WantedBlocks.{IsWantedRank, LacksBlock}

pub neither : (s x a b : Status) → (s ≡ a) ⊎ (s ≡ b) → s ≡ x → (x ≡ a → ⊥) → (x ≡ b → ⊥) → ⊥
neither s x a b (inl e) is first second = first (sym is ∙ e)
neither s x a b (inr e) is first second = second (sym is ∙ e)

none_of : (s x a b d : Status) → (s ≡ a) ⊎ (s ≡ b) ⊎ (s ≡ d) → s ≡ x → (x ≡ a → ⊥) → (x ≡ b → ⊥) → (x ≡ d → ⊥) → ⊥
none_of s x a b d (inl e) is first second third = first (sym is ∙ e)
none_of s x a b d (inr (inl e)) is first second third = second (sym is ∙ e)
none_of s x a b d (inr (inr e)) is first second third = third (sym is ∙ e)

module _ {W V : Type 0} (file_contents : W → Option (List ℕ)) (contents : V → Option (List ℕ)) where
  -- the file doesn't have the block
  pub no_block : (file : List ℕ) (block : NewBlock) (refusal : Refusal) (file_old : Writing W) (old new : Writing V) (status : Status) → HasNoFault file → LacksBlock file block.wanted refusal → (status ≡ Refused) ⊎ (status ≡ WriteFault)
      → (status ≡ Refused → Puts contents old new (no_block_line refusal) true) → (status ≡ WriteFault → Puts contents old new (no_block_line refusal) false) → EndsPut file block (output file_contents file_old file_old) (output contents old new) status
  no_block file block refusal file_old old new status good lacks either refused fails = record {
    done = λ e. absurd (neither status Done Refused WriteFault either e (λ e. cc) (λ e. cc));
    refused = λ e. (inl (inr (good, (refusal, lacks, refused e))), refl);
    no_memory = λ e. absurd (neither status NoMemory Refused WriteFault either e (λ e. cc) (λ e. cc));
    write_fault = λ e. inr (inr (inl (inr (good, (refusal, lacks, fails e))), refl));
    good_words = λ e. neither status BadWords Refused WriteFault either e (λ e. cc) (λ e. cc);
    reads_nothing = λ e. neither status ReadFault Refused WriteFault either e (λ e. cc) (λ e. cc);
  }

  -- the block isn't replaced
  pub not_put : (file : List ℕ) (block : NewBlock) (rank : ℕ) (fault : ReplaceFault) (file_old : Writing W) (old new : Writing V) (status : Status) → HasNoFault file → IsWantedRank file block.wanted rank → IsReplaceFault file rank block.bytes.now fault → (status ≡ Refused) ⊎ (status ≡ WriteFault) ⊎ (status ≡ NoMemory)
      → (status ≡ Refused → PutsPutFault fault contents old new true) → (status ≡ WriteFault → PutsPutFault fault contents old new false) → (status ≡ NoMemory → new ≡ old) → EndsPut file block (output file_contents file_old file_old) (output contents old new) status
  not_put file block rank fault file_old old new status good wanted is either refused fails silent = record {
    done = λ e. absurd (none_of status Done Refused WriteFault NoMemory either e (λ e. cc) (λ e. cc) (λ e. cc));
    refused = λ e. (inr (rank, wanted, (fault, is, refused e)), refl);
    no_memory = λ e. (good, refl, silent e);
    write_fault = λ e. inr (inr (inr (rank, wanted, (fault, is, fails e)), refl));
    good_words = λ e. none_of status BadWords Refused WriteFault NoMemory either e (λ e. cc) (λ e. cc) (λ e. cc);
    reads_nothing = λ e. none_of status ReadFault Refused WriteFault NoMemory either e (λ e. cc) (λ e. cc) (λ e. cc);
  }

  -- the file is written
  pub put_whole : (file : List ℕ) (block : NewBlock) (rank : ℕ) (bytes : List ℕ) (file_old file_new : Writing W) (old new : Writing V) (status : Status) → IsWantedRank file block.wanted rank → Replaces file rank block.bytes.now bytes → (status ≡ Done) ⊎ (status ≡ WriteFault)
      → (status ≡ Done → Puts file_contents file_old file_new bytes true) → (status ≡ Done → Puts contents old new (written_line (length bytes)) true)
      → (status ≡ WriteFault → (Puts file_contents file_old file_new bytes false × (new ≡ old)) ⊎ (Puts file_contents file_old file_new bytes true × Puts contents old new (written_line (length bytes)) false))
      → EndsPut file block (output file_contents file_old file_new) (output contents old new) status
  put_whole file block rank bytes file_old file_new old new status wanted is either written told fails = record {
    done = λ e. record { rank = rank; wanted = wanted; bytes = bytes; replaces = is; written = written e; told = told e };
    refused = λ e. absurd (neither status Refused Done WriteFault either e (λ e. cc) (λ e. cc));
    no_memory = λ e. absurd (neither status NoMemory Done WriteFault either e (λ e. cc) (λ e. cc));
    write_fault = λ e. elim (fails e) [
      | inl part ↦ inl ((rank, wanted, (bytes, is, part.0)), part.1)
      | inr whole ↦ inr (inl (record { rank = rank; wanted = wanted; bytes = bytes; replaces = is; written = whole.0; told = whole.1 }))
    ];
    good_words = λ e. neither status BadWords Done WriteFault either e (λ e. cc) (λ e. cc);
    reads_nothing = λ e. neither status ReadFault Done WriteFault either e (λ e. cc) (λ e. cc);
  }

-- the line for a block that isn't replaced
pub told_fault : {V : Type 0} (contents : V → Option (List ℕ)) (fault one : ReplaceFault) (old new : Writing V) (ok : Bool) → fault ≡ one → (one ≡ OutOfMemory → ⊥) → Puts contents old new (replace_fault_line one) ok → PutsPutFault fault contents old new ok
told_fault contents fault one old new ok is other puts = subst (λ (x : ReplaceFault). PutsPutFault x contents old new ok) (sym is) (other, puts)
