-- The file stays or doesn't, whatever that means.
use Rattle.std.proofs.Common.{◌≡◌, ◌⊎◌, Bool, true, false, refl, sym, subst, inl, inr}
use Rattle.std.specs.Prelude.{Result, Ok, Err, IfErr, IsTrue}
use Rattle.program_io.specs.declared.status.Status.{Status}
use Rattle.program_io.specs.declared.status.Status.TheVariants.{WriteFault, NoMemory}
use Rattle.command_files.proofs.replacing.output_unless.Goals as goal

either : {A : Type 0} (looks : Bool) (result : Result A Status) → (IsTrue looks → result ≡ Err WriteFault) → (looks ≡ false → IfErr result (λ status. status ≡ NoMemory)) → IfErr result (λ status. (status ≡ WriteFault) ⊎ (status ≡ NoMemory))
either {A} true result kept replaced = subst (λ (r : Result A Status). IfErr r (λ status. (status ≡ WriteFault) ⊎ (status ≡ NoMemory))) (sym (kept refl)) (inl refl)
either false (Ok file) kept replaced = tt
either false (Err status) kept replaced = inr (replaced refl)

pub returns-then-has_head : goal.returns-then-has_head
returns-then-has_head g c = either _ c.output_over.result c.output_over.ensures.kept c.output_over.ensures.replaced
