-- Steps of calls on a store: what is left to show of one that asks, of one that is refused, and of
-- one that changes the store.
use Rattle.laws_store.proofs.Words.{◌≡◌, Bool, true, false, cond, Result, Ok, Err, refl, sym, ap, subst, ◌∙◌, arith, inl, if◌then◌else◌, IsErr, IsErrAnd, OnTrue, Memory, Store, Accepted, store_of, FirstBrings, reply_of, SameStore, LeavesStore, Call, StoreStep, may_slide_bytes, LeavesTables, DoesInStore, Tables, tables_of, Reply}
use Rattle.heap_model.specs.Lending.{KeepsLoan}
use Rattle.heap_model.specs.StoreSteps.{row_of}
use Rattle.heap_model.specs.declared.call.MemoryCall.TheVariants.{MoreSlots}
use Rattle.heap_model.specs.declared.call.Call.TheVariants as calls
use Rattle.heap_model.specs.declared.call.Reply.TheVariants as replies
use Rattle.heap_model.specs.declared.refusal.Refusal.{Refusal}
use Rattle.laws_heap.proofs.KeptLoans.{keeps_itself}

pub same_store : (region : Memory) → SameStore (store_of region.bytes) (store_of region.bytes)
same_store region = record { map = λ name. refl; databases = refl }

-- no table was made where the region is as it was
none_made : (region : Memory) (call : Call) (reply : Reply) → StoreStep region call reply region
    → LeavesTables call reply (tables_of region.bytes) (tables_of region.bytes)
none_made region (calls.Memory MoreSlots) replies.Done s =
    let more = s.1.0.1 in
    absurd (omega arith)
none_made region call reply s = refl

-- a call that leaves the region does its step where the reply is right
pub asks : (region : Memory) (call : Call) (reply : Reply) → Accepted region.bytes
    → StoreStep region call reply region → DoesInStore region call reply region
asks region call reply a step = record {
  before = a;
  step = step;
  accepted = a;
  len = refl;
  tables = none_made region call reply step;
  directory = inl refl;
  still = λ name live held locked there. refl;
  loan = keeps_itself region;
  asks = unchanged (row_of region call).only_asks;
  rest = none_slid (may_slide_bytes call);
} where
  unchanged : (asks : Bool) → OnTrue asks (region ≡ region)
  unchanged true = refl
  unchanged false = tt

  none_slid : (slides : Bool)
      → region ≡ record region { bytes = region.bytes; slid = cond slides region.slid region.slid }
  none_slid true = refl
  none_slid false = refl

-- a refusal, which leaves the region whatever is called
pub refused : (region : Memory) (call : Call) (refusal : Refusal) → Accepted region.bytes
    → FirstBrings (row_of region call).refusals refusal
    → DoesInStore region call (replies.Refused refusal) region
refused region call refusal a brings = asks region call (replies.Refused refusal) a
    (brings, record { store = same_store region; free = refl; slots = refl })

-- a refusal of a call below, handed on
pub handed_on : {A : Type 0} {old new : Memory} (f : A → Reply) (call : Call)
    (result : Result A Refusal) {brought : Refusal}
    → IsErr result × IsErrAnd result (λ refusal. refusal ≡ brought)
    → DoesInStore old call (replies.Refused brought) new
    → DoesInStore old call (reply_of f result) new
handed_on f call (Ok answer) is does = let no_error = is.0 in absurd cc
handed_on {A} {old} {new} f call (Err refusal) is does = rw (← is.1) at does

-- a call that leaves some store, and makes no table
pub changes : (old new : Memory) (call : Call) (reply : Reply) (store : Store)
    → ((tables : Tables) → LeavesTables call reply tables tables) → Accepted old.bytes
    → LeavesStore old.bytes new.bytes store → StoreStep old call reply new → KeepsLoan old new
    → OnTrue (row_of old call).only_asks (new ≡ old) → new
    ≡ record old { bytes = new.bytes; slid = if may_slide_bytes call then new.slid else old.slid }
    → DoesInStore old call reply new
changes old new call reply store none a leaves step loan asks rest = record {
  before = a;
  step = step;
  accepted = leaves.accepted;
  len = leaves.len;
  tables = subst (λ (tables : Tables). LeavesTables call reply (tables_of old.bytes) tables)
      (sym leaves.tables) (none (tables_of old.bytes));
  directory = inl leaves.directory;
  still = leaves.still;
  loan = loan;
  asks = asks;
  rest = rest;
}

-- ---- of the region's value the bytes alone change

pub kept_then : (old mid new : Memory) → mid ≡ record old { bytes = mid.bytes }
    → new ≡ record mid { bytes = new.bytes } → new ≡ record old { bytes = new.bytes }
kept_then old mid new one two = two ∙ ap (λ (m : Memory). record m { bytes = new.bytes }) one
