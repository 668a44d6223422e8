-- What two edits after each other leave of the memory.
use Rattle.database_edits.proofs.Words.{ℕ, sym, ap, ◌∙◌, Memory}
use Rattle.laws_heap.proofs.KeptLoans.{keeps_then}
use Rattle.laws_store.proofs.CallSteps.{kept_then}
use Rattle.database_edits.specs.Kept.{OnlyWrites, OnlySlides}

pub writes_then : (old mid new : Memory) → OnlyWrites old mid → OnlyWrites mid new
    → OnlyWrites old new
writes_then old mid new first second = record {
  loan = keeps_then old mid new first.loan second.loan;
  rest = kept_then old mid new first.rest second.rest;
}

pub slides_then : (old mid new : Memory) → OnlySlides old mid → OnlySlides mid new
    → OnlySlides old new
slides_then old mid new first second = record {
  loan = keeps_then old mid new first.loan second.loan;
  rest = second.rest
      ∙ ap (λ (m : Memory). record m { bytes = new.bytes; slid = new.slid }) first.rest;
}

-- an edit that slides nothing
pub none_slid : (old new : Memory) → OnlyWrites old new → OnlySlides old new
none_slid old new kept =
    let same = ap (λ (m : Memory). m.slid) kept.rest in
    record {
      loan = kept.loan;
      rest = kept.rest
          ∙ ap (λ (count : ℕ). record old { bytes = new.bytes; slid = count }) (sym same);
    }
