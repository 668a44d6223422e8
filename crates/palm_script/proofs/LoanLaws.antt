-- Laws on what is lent while calls are done.
use Rattle.std.proofs.Common.{◌≡◌, ℕ, suc, zero, ◌+◌, ◌≤◌, List, [], ◌∷◌, length, Option, Some, None, ◌<◌, get_or, refl, sym, ap, ◌∙◌, subst, add-one, arith}
use Rattle.std.proofs.lemmas.Option.{slice_get-get_or}
use Rattle.heap_model.specs.Memory.{Memory}
use Rattle.heap_model.specs.Slots.{area_start}
use Rattle.heap_model.specs.Meaning.{LiveChunk}
use Rattle.heap_model.specs.Reading.{chunks_of, held}
use Rattle.heap_model.specs.Space.{place_of}
use Rattle.heap_model.specs.Lending.{IsLent, IsLentAs}
use Rattle.heap_model.specs.Store.{Accepted}
use Rattle.heap_model.specs.StoreSteps.{Call, DoesInStore}
use Rattle.heap_model.specs.declared.call.Reply.{Reply}
use Rattle.laws_heap.proofs.KeptLoans.{keeps_itself, keeps_then, lent_as}
use Rattle.laws_store.proofs.MeantStore.{read_is_meant}
use Rattle.palm_script.specs.Headline.{AnswersAsRun}
use Rattle.palm_script.specs.Loans.{LoanStays, RunsOnLoan}
use Rattle.palm_script.proofs.RunLaws.{RunMoving, answers_moving}

-- ---- over one call

pub stays_itself : (memory : Memory) → LoanStays memory memory
stays_itself memory = record { lent = refl; names = keeps_itself memory; places = λ name is. refl }

pub call_stays : (old new : Memory) (call : Call) (reply : Reply) → DoesInStore old call reply new → LoanStays old new
call_stays old new call reply does = record { lent = same; names = does.loan; places = place } where
  same : new.lents ≡ old.lents
  same = ap (λ (m : Memory). m.lents) does.rest

  place : (name : ℕ) → IsLent old name → place_of new.bytes name ≡ place_of old.bytes name
  place name out =
      let was = lent_as old name out (held old.bytes name) refl in
      (does.loan name was.0 was.1).1

-- ---- over calls

pub stays_then : (old mid new : Memory) → LoanStays old mid → LoanStays mid new → LoanStays old new
stays_then old mid new first second = record { lent = second.lent ∙ first.lent; names = keeps_then old mid new first.names second.names; places = place } where
  place : (name : ℕ) → IsLent old name → place_of new.bytes name ≡ place_of old.bytes name
  place name out =
      let was = lent_as old name out (held old.bytes name) refl in
      second.places name (first.names name was.0 was.1).0.lent ∙ first.places name out

loan_at : (old : Memory) (calls : List Call) (replies : List Reply) (new : Memory) → Call → Reply → (runs : AnswersAsRun old calls replies new) → (count : ℕ) → count ≤ length calls → LoanStays old (runs.region count)
loan_at old calls replies new call reply runs zero within = subst (LoanStays old) (sym runs.first) (stays_itself old)
loan_at old calls replies new call reply runs (suc count) within =
    let found = slice_get-get_or calls count call (omega arith) in
    let replied = runs.replied in
    let answered = slice_get-get_or replies count reply (omega arith) in
    let stays = call_stays (runs.region count) (runs.region (count + 1)) _ _ (runs.step count _ _ found answered) in
    subst (λ (k : ℕ). LoanStays old (runs.region k)) (add-one count) (stays_then old (runs.region count) (runs.region (count + 1)) (loan_at old calls replies new call reply runs count (omega arith)) stays)

pub runs_on_loan : (old : Memory) (calls : List Call) (replies : List Reply) (new : Memory) → RunMoving old calls replies new → RunsOnLoan old calls replies new
runs_on_loan old [] replies new (none, same) = record {
  region = λ _. old;
  first = refl;
  end = sym same;
  replied = ap length none;
  step = λ count call reply found answered. absurd cc;
  moves = λ count call found. absurd cc;
  loan = λ count within. stays_itself old;
}
runs_on_loan old (call ∷ calls) replies new (reply, rest, mid, are, does, moves, run) =
    let runs = answers_moving old (call ∷ calls) replies new does.before (reply, rest, mid, are, does, moves, run) in
    record {
      region = runs.region;
      first = runs.first;
      end = runs.end;
      replied = runs.replied;
      step = runs.step;
      moves = runs.moves;
      loan = loan_at old (call ∷ calls) replies new call reply runs;
    }

pub run_stays : (old : Memory) (calls : List Call) (replies : List Reply) (new : Memory) → RunMoving old calls replies new → LoanStays old new
run_stays old calls replies new run =
    let runs = runs_on_loan old calls replies new run in
    subst (LoanStays old) runs.end (runs.loan (length calls) (omega arith))

-- ---- the headline, from what `run_calls` promises

module _ (image : Memory) (calls : List Call) (replies : List Reply) (last : Memory) (runs : RunsOnLoan image calls replies last) (call : Call) (reply : Reply) where
  step_at : (count : ℕ) → count < length calls → DoesInStore (runs.region count) (get_or calls count call) (get_or replies count reply) (runs.region (count + 1))
  step_at count below =
      let replied = runs.replied in
      runs.step count _ _ (slice_get-get_or calls count call below) (slice_get-get_or replies count reply (omega arith))

  accepted_at : Accepted image.bytes → (count : ℕ) → count ≤ length calls → Accepted (runs.region count).bytes
  accepted_at accepted zero within = subst (λ (m : Memory). Accepted m.bytes) (sym runs.first) accepted
  accepted_at accepted (suc count) within = subst (λ (k : ℕ). Accepted (runs.region k).bytes) (add-one count) (step_at count (omega arith)).accepted

  answers_some : Accepted image.bytes → AnswersAsRun image calls replies last
  answers_some accepted = record {
    region = runs.region;
    first = runs.first;
    end = runs.end;
    accepted = accepted_at accepted;
    means = λ count within. read_is_meant (runs.region count).bytes (accepted_at accepted count within);
    replied = runs.replied;
    step = runs.step;
    still = λ count below. (step_at count below).still;
    moves = runs.moves;
  }

pub answers_as_run : (image : Memory) (calls : List Call) (replies : List Reply) (last : Memory) → Accepted image.bytes → RunsOnLoan image calls replies last → AnswersAsRun image calls replies last
answers_as_run image [] replies last accepted runs = record {
  region = λ _. image;
  first = refl;
  end = sym runs.first ∙ runs.end;
  accepted = λ count within. accepted;
  means = λ count within. read_is_meant image.bytes accepted;
  replied = runs.replied;
  step = λ count call reply found answered. absurd cc;
  still = λ count below. absurd (omega arith);
  moves = λ count call found. absurd cc;
}
answers_as_run image (call ∷ calls) [] last accepted runs = absurd (omega (arith, runs.replied))
answers_as_run image (call ∷ calls) (reply ∷ replies) last accepted runs = answers_some image (call ∷ calls) (reply ∷ replies) last runs call reply accepted
