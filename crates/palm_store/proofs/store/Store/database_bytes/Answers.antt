-- The bytes are those of the database of the number.
use Rattle.std.proofs.Common.{Result, Ok, Err, refl}
use Rattle.std.specs.Prelude.{IfOk, IfSome, OnOk}
use Rattle.std.specs.Result.{result_ok}
use Rattle.palm_store.proofs.EntriesHere.{read_here}
use Rattle.palm_store.proofs.store.Store.database_bytes.Goals as goal

if_some : {A E : Type 0} (P Q : A → Type 0) (R : Type 0) (result : Result A E) → IfOk result P → OnOk result R → ((x : A) → R → P x → Q x) → IfSome (result_ok result) Q
if_some P Q R (Ok x) p r then = then x r p
if_some P Q R (Err error) p r then = tt

pub returns-clause-is : goal.returns-clause-is
returns-clause-is c =
    rw (c.ok.ensures.value, ← c.self.view_is) (if_some _ _ _ c.find_header.result c.find_header.ensures.is c.find_header.ensures.known (λ header known is. read_here _ header.now _ _ known is refl))
