-- Fills three chunks while calls run.
use Rattle.std.specs.Prelude.{◌≡◌, ◌⊎◌, ℕ, List, length, take}
use Rattle.heap_model.specs.Bytes.{overwritten}
use Rattle.heap_model.specs.Memory.{Memory}
use Rattle.heap_model.specs.Refusals.{FirstBrings}
use Rattle.heap_model.specs.Store.{bytes_of, store_of}
use Rattle.heap_model.specs.StoreSteps.{Call}
use Rattle.heap_model.specs.declared.names.Name.{Name}
use Rattle.heap_model.specs.declared.call.Reply.{Reply}
use Rattle.heap_model.specs.declared.refusal.Refusal.{Refusal}
use Rattle.allowance.specs.Refusals.{GrowthRefused}
use Rattle.mem_manager.specs.Loans.{OnLoan, IsOutUnder, also_out_checks}
use Rattle.palm_store.specs.Loans.{TakesOutOfStore, PutsBackInStore}
use Rattle.palm_script.specs.Loans.{RunsOnLoan}
use Rattle.example_loans.specs.declared.filling.Notes.{Notes}
use Rattle.example_loans.specs.declared.filling.NotFilled.{NotFilled}
use Rattle.example_loans.specs.declared.filling.NotFilled.TheVariants.{Refused, OutOfMemory}

-- a text over the first of some bytes, or as much of it as there is room for
abbrev pub text_over : List ℕ → List ℕ → List ℕ
text_over bytes text = overwritten bytes 0 (take (length bytes) text)

-- the loan after a text is written over its first bytes
abbrev pub with_text : OnLoan → List ℕ → OnLoan
with_text loan text = record loan { part = record loan.part { bytes = text_over loan.part.bytes text } }

-- The bytes under a name are those that it had, with a text over the first of them.
abbrev pub HasTextOver : (old new : Memory) → Name → List ℕ → Type 0
HasTextOver old new name text = bytes_of ((store_of new.bytes).map name.0) ≡ text_over (bytes_of ((store_of old.bytes).map name.0)) text

-- The bytes under three names were taken out, one after another.
pub record TakesThree (old new : Memory) (notes : Notes) (first second third : OnLoan) : Type 0 where
  pub one_out : Memory
  pub two_out : Memory
  pub takes_first : TakesOutOfStore old one_out notes.first first
  pub takes_second : TakesOutOfStore one_out two_out notes.second second
  pub takes_third : TakesOutOfStore two_out new notes.third third

-- The bytes under three names were taken out, and a list of calls was run. Then the bytes of the
-- second were put back, and the list was run again. Then the others were put back, the first before
-- the third. The calls don't see the loans. While one is put back, the others stay out.
pub record FillsMeanwhile (old : Memory) (notes : Notes) (text : List ℕ) (calls : List Call) (before after : List Reply) (new : Memory) : Type 0 where
  pub first : OnLoan
  pub second : OnLoan
  pub third : OnLoan
  pub out : Memory
  pub takes : TakesThree old out notes first second third
  pub done : Memory
  pub runs : RunsOnLoan out calls before done
  pub second_back : Memory
  pub puts_second : PutsBackInStore done second_back (with_text second text)
  pub second_has : HasTextOver old second_back notes.second text
  pub first_stays : IsOutUnder second_back notes.first.0 first.part
  pub third_stays : IsOutUnder second_back notes.third.0 third.part
  pub done_again : Memory
  pub runs_again : RunsOnLoan second_back calls after done_again
  pub first_back : Memory
  pub puts_first : PutsBackInStore done_again first_back (with_text first text)
  pub puts_third : PutsBackInStore first_back new (with_text third text)

-- Why the bytes of one of three chunks can't be taken out, after those before it were.
abbrev pub IsWhyNotTaken : Memory → Notes → Refusal → Type 0
IsWhyNotTaken old notes refusal =
    FirstBrings (also_out_checks old notes.first.0) refusal
    ⊎ ((one_out : Memory) × (first : OnLoan) × TakesOutOfStore old one_out notes.first first
    × (FirstBrings (also_out_checks one_out notes.second.0) refusal
    ⊎ ((two_out : Memory) × (second : OnLoan) × TakesOutOfStore one_out two_out notes.second second
    × FirstBrings (also_out_checks two_out notes.third.0) refusal)))

-- why the chunks were not filled
abbrev pub IsWhyUnfilled : Memory → Notes → NotFilled → Type 0
IsWhyUnfilled old notes (Refused refusal) = IsWhyNotTaken old notes refusal
IsWhyUnfilled old notes OutOfMemory = GrowthRefused
