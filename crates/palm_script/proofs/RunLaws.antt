-- Laws on runs of calls.
use Rattle.std.proofs.Common.{◌≡◌, ℕ, suc, zero, ◌+◌, ◌<◌, ◌≤◌, List, [], ◌∷◌, ◌++◌, length, drop, get_or, refl, sym, ap, ◌∙◌, subst, append_assoc, append-nil, add-one, drop-cons, arith}
use Rattle.std.proofs.Math.ListN.{drop_of_length-le}
use Rattle.std.specs.Prelude.{Some, slice_get}
use Rattle.heap_model.specs.Memory.{Memory}
use Rattle.heap_model.specs.Space.{Still}
use Rattle.heap_model.specs.Store.{Accepted}
use Rattle.heap_model.specs.StoreSteps.{Call, DoesInStore}
use Rattle.heap_model.specs.Runs.{Run}
use Rattle.heap_model.specs.declared.call.Reply.{Reply}
use Rattle.script_calls.specs.Movement.{Moves}
use Rattle.laws_store.proofs.MeantStore.{read_is_meant}
use Rattle.palm_script.specs.Headline.{AnswersAsRun}

-- ---- a run whose calls move only what they may

-- the same as `Run`, with the chunks that each call moves
abbrev pub RunMoving : Memory → List Call → List Reply → Memory → Type 0
RunMoving old [] replies new = (replies ≡ []) × (new ≡ old)
RunMoving old (call ∷ calls) replies new =
    (reply : Reply) × (rest : List Reply) × (mid : Memory)
    × (replies ≡ reply ∷ rest) × DoesInStore old call reply mid × Moves old call mid × RunMoving mid calls rest new

pub as_run : (old : Memory) (calls : List Call) (replies : List Reply) (new : Memory) → RunMoving old calls replies new → Run old calls replies new
as_run old [] replies new run = run
as_run old (call ∷ calls) replies new (reply, rest, mid, are, does, moves, run) = (reply, rest, mid, are, does, as_run mid calls rest new run)

-- ---- a run that goes on

-- what is a run from here on is one from the start, with these replies before
pub record GoesOn (start : Memory) (calls : List Call) (count : ℕ) (replies : List Reply) (here : Memory) : Type 0 where
  pub run : (rest : List Reply) (last : Memory) → RunMoving here (drop count calls) rest last → RunMoving start calls (replies ++ rest) last

pub goes_on-one : (start : Memory) (calls : List Call) (i : ℕ) (replies : List Reply) (here : Memory) (call : Call) (reply : Reply) (next : Memory)
    → i < length calls → call ≡ get_or calls i call → GoesOn start calls i replies here → DoesInStore here call reply next → Moves here call next → GoesOn start calls (i + 1) (replies ++ reply ∷ []) next
goes_on-one start calls i replies here call reply next within is so_far does moves = record {
  run = λ rest last run.
      let onto : RunMoving here (call ∷ drop (suc i) calls) (reply ∷ rest) last = (reply, rest, next, refl, does, moves, subst (λ (k : ℕ). RunMoving next (drop k calls) rest last) (add-one i) run) in
      let split : drop i calls ≡ call ∷ drop (suc i) calls = drop-cons calls i call within ∙ ap (λ (c : Call). c ∷ drop (suc i) calls) (sym is) in
      rw append_assoc (so_far.run (reply ∷ rest) last (rw split onto));
}

pub goes_on-end : (start : Memory) (calls : List Call) (i : ℕ) (replies : List Reply) (here : Memory) → length calls ≤ i → GoesOn start calls i replies here → RunMoving start calls replies here
goes_on-end start calls i replies here all so_far =
    let none : drop i calls ≡ [] = drop_of_length-le calls all in
    rw (← append-nil replies) (so_far.run [] here (rw none (refl, refl)))

-- ---- the headline

-- a region, and others after it
unfoldable behind : Memory → (ℕ → Memory) → ℕ → Memory
behind first others zero = first
behind first others (suc count) = others count

-- one call before
one_in_front : (image : Memory) (call : Call) (calls : List Call) (reply : Reply) (replies : List Reply) (mid last : Memory) → Accepted image.bytes → DoesInStore image call reply mid → Moves image call mid → AnswersAsRun mid calls replies last → AnswersAsRun image (call ∷ calls) (reply ∷ replies) last
unfolding behind
one_in_front image call calls reply replies mid last accepted does moves later = record {
  region = behind image later.region;
  first = refl;
  end = later.end;
  accepted = accepted_at;
  means = λ count within. read_is_meant (behind image later.region count).bytes (accepted_at count within);
  replied = ap suc later.replied;
  step = λ count one answer found answered. rw add-one (step_at count one answer found answered);
  still = λ count below. rw add-one (still_at count below);
  moves = λ count one found. rw add-one (moves_at count one found);
}
  where
    accepted_at : (count : ℕ) → count ≤ length (call ∷ calls) → Accepted (behind image later.region count).bytes
    accepted_at zero within = accepted
    accepted_at (suc count) within = later.accepted count (omega arith)

    step_at : (count : ℕ) (one : Call) (answer : Reply) → slice_get (call ∷ calls) count ≡ Some one → slice_get (reply ∷ replies) count ≡ Some answer → DoesInStore (behind image later.region count) one answer (behind image later.region (suc count))
    step_at zero one answer found answered =
        let called : call ≡ one = cc in
        let replied : reply ≡ answer = cc in
        rw (later.first, ← called, ← replied) does
    step_at (suc count) one answer found answered = subst (λ (k : ℕ). DoesInStore (later.region count) one answer (later.region k)) (add-one count) (later.step count one answer found answered)

    still_at : (count : ℕ) → count < length (call ∷ calls) → Still (behind image later.region count).bytes (behind image later.region (suc count)).bytes
    still_at zero below = rw later.first does.still
    still_at (suc count) below = subst (λ (k : ℕ). Still (later.region count).bytes (later.region k).bytes) (add-one count) (later.still count (omega arith))

    moves_at : (count : ℕ) (one : Call) → slice_get (call ∷ calls) count ≡ Some one → Moves (behind image later.region count) one (behind image later.region (suc count))
    moves_at zero one found =
        let called : call ≡ one = cc in
        rw (later.first, ← called) moves
    moves_at (suc count) one found = subst (λ (k : ℕ). Moves (later.region count) one (later.region k)) (add-one count) (later.moves count one found)

-- a run from an accepted image is answered so
pub answers_moving : (image : Memory) (calls : List Call) (replies : List Reply) (last : Memory) → Accepted image.bytes → RunMoving image calls replies last → AnswersAsRun image calls replies last
answers_moving image [] replies last accepted (none, same) = record {
  region = λ _. image;
  first = refl;
  end = sym same;
  accepted = λ count within. accepted;
  means = λ count within. read_is_meant image.bytes accepted;
  replied = ap length none;
  step = λ count call reply found answered. absurd cc;
  still = λ count below. absurd (omega arith);
  moves = λ count call found. absurd cc;
}
answers_moving image (call ∷ calls) replies last accepted (reply, rest, mid, are, does, moves, run) =
    rw are (one_in_front image call calls reply rest mid last accepted does moves (answers_moving mid calls rest last does.accepted run))
