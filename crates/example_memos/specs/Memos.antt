-- The calls that write a memo.
use Rattle.std.specs.Prelude.{ℕ, List, [], ◌∷◌, true}
use Rattle.heap_model.specs.StoreSteps.{Call}
use Rattle.heap_model.specs.declared.call.Call.TheVariants.{Memory, Record}
use Rattle.heap_model.specs.declared.call.MemoryCall.TheVariants.{Lock, StrCopy, Unlock}
use Rattle.heap_model.specs.declared.call.RecordCall.TheVariants.{Release}
use Rattle.example_memos.specs.declared.memos.Memo.{Memo}

-- the calls that write a text into a memo and release its record as dirty
abbrev pub writing : Memo → List ℕ → List Call
writing memo text =
    Memory (Lock memo.name)
    ∷ Memory (StrCopy memo.name 0 text)
    ∷ Memory (Unlock memo.name)
    ∷ Record (Release memo.db memo.index true)
    ∷ []
