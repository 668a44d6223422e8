-- How a run ends whose script is run while it is read.
use Rattle.std.proofs.Common.{◌≡◌, ◌⊎◌, ℕ, Bool, true, false, List, Option, Result, Err, inl, inr, refl, sym, subst}
use Rattle.heap_model.specs.Memory.{Memory}
use Rattle.heap_model.specs.Store.{Accepted}
use Rattle.palm_text.specs.Counted.{Flushes, Writing}
use Rattle.live_scripts.specs.Live.{ReadStops}
use Rattle.live_scripts.specs.declared.fault.LiveFault.{LiveFault}
use Rattle.live_scripts.specs.declared.fault.LiveFault.TheVariants as faults
use Rattle.image_commands.specs.FaultLines.{PutsBadImage}
use Rattle.file_commands.specs.LineFaults.{PutsScriptRefused}
use Rattle.script_lines.specs.declared.fault.LineFault.{LineFault}
use Rattle.program_io.specs.declared.input.InputFault.{InputFault}
use Rattle.program_io.specs.declared.status.Status.{Status}
use Rattle.program_io.specs.declared.status.Status.TheVariants.{Refused, WriteFault, NoMemory}
use Rattle.palmheap_program.specs.declared.live_command.LiveEnd.{LiveEnd}
use Rattle.palmheap_program.specs.declared.live_command.LiveEnd.TheVariants as ends
use Rattle.palmheap_program.specs.LiveRuns.{EndsAtLine, EndsEarlyLive, EndsLive, EndsLiveBy, LiveBreaksOff, LiveText, PutsLiveRefusal, LiveRunWantsMemory}
use Rattle.palm_text.specs.Output.{Output, output}
use Rattle.palmheap_program.specs.Runs.{run_outputs}
use Rattle.script_calls.specs.Lines.{Setting}

module _ {W V : Type 0} (given : Setting) (region : Memory) (script : LiveText) (contents : V → Option (List ℕ)) (old new : Writing V) (image_contents : W → Option (List ℕ)) (image_old image_new : Writing W) where
  abbrev By : Status → Type 0
  By status = EndsLiveBy given region script (run_outputs (output contents old new) (output image_contents image_old image_new)) status

  by_refused : (status : Status) → status ≡ Refused → PutsLiveRefusal given region script.known (output contents old new) true → image_new ≡ image_old → By status
  by_refused status is puts same = record {
    refused = λ _. puts;
    write_fault = λ e. absurd cc;
    no_memory = λ e. absurd cc;
    no_image = λ _. same;
    not_done = λ e. cc;
    good_words = λ e. cc;
    reads_all = λ e. cc;
  }

  pub by_write : (status : Status) → status ≡ WriteFault → LiveBreaksOff given region script (run_outputs (output contents old new) (output image_contents image_old image_new)) → By status
  by_write status is off = record {
    refused = λ e. absurd cc;
    write_fault = λ _. off;
    no_memory = λ e. absurd cc;
    no_image = λ other. absurd (other is);
    not_done = λ e. cc;
    good_words = λ e. cc;
    reads_all = λ e. cc;
  }

  pub by_memory : (status : Status) → status ≡ NoMemory → given.short → LiveRunWantsMemory given region script.known (output contents old new) → image_new ≡ image_old → By status
  by_memory status is wanted wants same = record {
    refused = λ e. absurd cc;
    write_fault = λ e. absurd cc;
    no_memory = λ _. (wanted, wants);
    no_image = λ _. same;
    not_done = λ e. cc;
    good_words = λ e. cc;
    reads_all = λ e. cc;
  }

  -- an image that is not accepted
  pub by_bad : {S : Type 0} (result : Result S Status) (status : Status) → result ≡ Err status → (status ≡ Refused) ⊎ ((status ≡ WriteFault) ⊎ (status ≡ NoMemory)) → ((result ≡ Err Refused) ⊎ (result ≡ Err WriteFault) → Accepted region.bytes → ⊥)
      → (result ≡ Err Refused → PutsBadImage region.bytes (output contents old new) true) → (result ≡ Err WriteFault → PutsBadImage region.bytes (output contents old new) false) → (result ≡ Err NoMemory → new ≡ old) → (result ≡ Err NoMemory → given.short) → image_new ≡ image_old → By status
  by_bad result status was (inl is) refused said fault none wanted same = let e : result ≡ Err Refused = cc in by_refused status is (inl (refused (inl e), said e)) same
  by_bad result status was (inr (inl is)) refused said fault none wanted same = let e : result ≡ Err WriteFault = cc in by_write status is (inl (inl (refused (inr e), fault e), same))
  by_bad result status was (inr (inr is)) refused said fault none wanted same = let e : result ≡ Err NoMemory = cc in by_memory status is (wanted e) (inl (none e)) same

  -- a run that a fault ended
  pub stopped : (region_after : Memory) (mid : Writing V) (fault : LiveFault) (end : LiveEnd) → Accepted region.bytes → ReadStops given script.known region region_after (output contents old mid) fault → (fault ≡ faults.Memory → given.short) → EndsEarlyLive given.short (output contents mid new) fault end → image_new ≡ image_old
      → EndsLive given region script (run_outputs (output contents old new) (output image_contents image_old image_new)) end
  stopped region_after mid (faults.Line fault) (ends.Ended status) accepted stops wanted (inl (is, puts)) same = by_refused status is (inr (fault, mid, (accepted, (region_after, stops)), puts)) same
  stopped region_after mid (faults.Line fault) (ends.Ended status) accepted stops wanted (inr (inl (is, puts))) same = by_write status is (inl (inr (fault, mid, (accepted, (region_after, stops)), puts), same))
  stopped region_after mid (faults.Line fault) (ends.Ended status) accepted stops wanted (inr (inr (is, shorted, ok, flush))) same = by_memory status is shorted (inr (inr (mid, ok, fault, (accepted, (region_after, stops)), flush))) same
  stopped region_after mid (faults.Line fault) (ends.Unread other) accepted stops wanted none same = absurd none
  stopped region_after mid (faults.Input fault) (ends.Ended status) accepted stops wanted none same = absurd none
  stopped region_after mid (faults.Input fault) (ends.Unread other) accepted stops wanted (is, unchanged) same = rw (is, unchanged) ((accepted, (region_after, stops)), same)
  stopped region_after mid faults.Memory (ends.Ended status) accepted stops wanted (is, ok, flush) same = by_memory status is (wanted refl) (inr (inl (mid, ok, (accepted, (region_after, stops)), flush))) same
  stopped region_after mid faults.Memory (ends.Unread other) accepted stops wanted none same = absurd none
  stopped region_after mid faults.Write (ends.Ended status) accepted stops wanted (is, unchanged) same = by_write status is (inr (inl ((accepted, (region_after, subst (λ (w : Writing V). ReadStops given script.known region region_after (output contents old w) faults.Write) (sym unchanged) stops)), same)))
  stopped region_after mid faults.Write (ends.Unread other) accepted stops wanted none same = absurd none

-- the end of a run at a faulty line
pub at_line_short : {V short : Type 0} (contents : V → Option (List ℕ)) (old mid new : Writing V) (fault : LineFault) (ok : Bool) → short → mid ≡ old → Flushes contents mid new ok → EndsAtLine short (output contents old new) fault NoMemory
at_line_short {V} contents old mid new fault ok wanted same flush = inr (inr (refl, wanted, ok, subst (λ (w : Writing V). Flushes contents w new ok) same flush))

pub at_line_said : {V short : Type 0} (contents : V → Option (List ℕ)) (old new : Writing V) (fault : LineFault) (status : Status) → (status ≡ NoMemory → ⊥) → (status ≡ Refused) ⊎ ((status ≡ WriteFault) ⊎ (status ≡ NoMemory)) → (status ≡ Refused → PutsScriptRefused fault contents old new true)
    → (status ≡ WriteFault → PutsScriptRefused fault contents old new false) → EndsAtLine short (output contents old new) fault status
at_line_said contents old new fault status other (inl is) said failed = inl (is, said is)
at_line_said contents old new fault status other (inr (inl is)) said failed = inr (inl (is, failed is))
at_line_said contents old new fault status other (inr (inr is)) said failed = absurd (other is)

-- a script that could not be read ends a run only by that fault
pub unread_input : {W : Type 0} (short : Type 0) (contents : W → Option (List ℕ)) (old new : Writing W) (fault : LiveFault) (end : LiveEnd) (reason : InputFault) → EndsEarlyLive short (output contents old new) fault end → end ≡ ends.Unread reason → fault ≡ faults.Input reason
unread_input short contents old new (faults.Line fault) (ends.Ended status) reason early is = absurd cc
unread_input short contents old new (faults.Line fault) (ends.Unread other) reason early is = absurd early
unread_input short contents old new (faults.Input fault) (ends.Ended status) reason early is = absurd early
unread_input short contents old new (faults.Input fault) (ends.Unread other) reason (same, unchanged) is = cc
unread_input short contents old new faults.Memory (ends.Ended status) reason early is = absurd cc
unread_input short contents old new faults.Memory (ends.Unread other) reason early is = absurd early
unread_input short contents old new faults.Write (ends.Ended status) reason early is = absurd cc
unread_input short contents old new faults.Write (ends.Unread other) reason early is = absurd early

-- memory was short if a run ended for it
pub stops_short : {W : Type 0} {given : Setting} (known : Option (List ℕ)) (old new : Memory) (out : Output W) (fault : LiveFault) → ReadStops given known old new out fault → fault ≡ faults.Memory → given.short
stops_short known old new out faults.Memory (script, is, stops) e = stops.by.0
stops_short known old new out (faults.Line fault) stops e = absurd cc
stops_short known old new out (faults.Input fault) stops e = absurd cc
stops_short known old new out faults.Write stops e = absurd cc
