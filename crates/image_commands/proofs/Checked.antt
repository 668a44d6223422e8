-- How `check` ends, in each form.
use Rattle.std.proofs.Common.{◌≡◌, ◌≢◌, ◌⊎◌, ℕ, Bool, true, false, List, inl, inr, sym, ◌∙◌}
use Rattle.heap_model.specs.Store.{Accepted}
use Rattle.store_check.specs.declared.fault.StoreFault.{StoreFault}
use Rattle.store_check.specs.declared.fault.StoreFault.TheVariants.{OutOfMemory}
use Rattle.store_check.specs.declared.summary.StoreSummary.{StoreSummary}
use Rattle.store_check.specs.Checks.{SummarizesStore, IsAnswered, IsRefusal}
use Rattle.image_commands.proofs.Answered.{first_fault}
use Rattle.palm_text.specs.Output.{IsUnused, Output, PutsTo}
use Rattle.image_commands.specs.FaultLines.{Says}
use Rattle.image_commands.specs.ImageChecks.{PutsFault, EndsCheck, fault_in_form, summary_in}
use Rattle.program_io.specs.declared.command_line.Form.{Form}
use Rattle.program_io.specs.declared.status.Status.{Status}
use Rattle.program_io.specs.declared.status.Status.TheVariants.{Done, Refused, BadWords, ReadFault, WriteFault, NoMemory}

-- with a fault other than out of memory, the image is not accepted
pub not_accepted : (image : List ℕ) (fault : StoreFault) → fault ≢ OutOfMemory → IsRefusal image fault → Accepted image → ⊥
not_accepted image fault other (inl short) = absurd (other short)
not_accepted image fault other (inr refused) = refused

one_of : (status x y z : Status) → (status ≡ x) ⊎ (status ≡ y) → status ≡ z → (x ≡ z → ⊥) → (y ≡ z → ⊥) → ⊥
one_of status x y z (inl e) is first second = first (sym e ∙ is)
one_of status x y z (inr e) is first second = second (sym e ∙ is)

module _ {V : Type 0} (form : Form) (out : Output V) (image : List ℕ) where
  -- what is printed for a fault is printed for the first fault of the image
  pub puts_fault : (fault : StoreFault) (ok : Bool) → fault ≢ OutOfMemory → IsAnswered image fault → PutsTo out (fault_in_form form fault) ok → PutsFault form image out ok
  puts_fault fault ok other answered puts = (fault, first_fault image fault other answered, puts)

  -- so `check` ends as it has to
  pub summary_ends : (summary : StoreSummary) (status : Status) → Accepted image → SummarizesStore image summary → (status ≢ NoMemory → Says out (summary_in form summary) Done status) → (status ≡ NoMemory → IsUnused out) → EndsCheck form image out status
  summary_ends summary status accepted is says unused = record {
    done = λ e. (summary, is, (says (λ short. (let both = sym e ∙ short in cc))).said e);
    accepted = λ _. accepted;
    refused = λ e _. one_of status Done WriteFault Refused (says (λ short. (let both = sym e ∙ short in cc))).statuses e (λ e. cc) (λ e. cc);
    fault = λ e. absurd (one_of status Done WriteFault Refused (says (λ short. (let both = sym e ∙ short in cc))).statuses e (λ e. cc) (λ e. cc));
    no_memory = unused;
    write_fault = λ e. inl (accepted, (summary, is, (says (λ short. (let both = sym e ∙ short in cc))).write e));
    good_words = λ e. one_of status Done WriteFault BadWords (says (λ short. (let both = sym e ∙ short in cc))).statuses e (λ e. cc) (λ e. cc);
    reads_nothing = λ e. one_of status Done WriteFault ReadFault (says (λ short. (let both = sym e ∙ short in cc))).statuses e (λ e. cc) (λ e. cc);
  }

  pub fault_ends : (fault : StoreFault) (status : Status) → fault ≢ OutOfMemory → IsAnswered image fault → IsRefusal image fault → Says out (fault_in_form form fault) Refused status → EndsCheck form image out status
  fault_ends fault status other answered refusal says = record {
    done = λ e. absurd (one_of status Refused WriteFault Done says.statuses e (λ e. cc) (λ e. cc));
    accepted = λ e. absurd (one_of status Refused WriteFault Done says.statuses e (λ e. cc) (λ e. cc));
    refused = λ _. not_accepted image fault other refusal;
    fault = λ e. puts_fault fault true other answered (says.said e);
    no_memory = λ e. absurd (one_of status Refused WriteFault NoMemory says.statuses e (λ e. cc) (λ e. cc));
    write_fault = λ e. inr (not_accepted image fault other refusal, puts_fault fault false other answered (says.write e));
    good_words = λ e. one_of status Refused WriteFault BadWords says.statuses e (λ e. cc) (λ e. cc);
    reads_nothing = λ e. one_of status Refused WriteFault ReadFault says.statuses e (λ e. cc) (λ e. cc);
  }

  pub memory_ends : IsUnused out → EndsCheck form image out NoMemory
  memory_ends unused = record {
    done = λ e. cc;
    accepted = λ e. cc;
    refused = λ e. cc;
    fault = λ e. cc;
    no_memory = λ _. unused;
    write_fault = λ e. cc;
    good_words = λ e. cc;
    reads_nothing = λ e. cc;
  }
