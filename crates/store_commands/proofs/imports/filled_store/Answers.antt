use Rattle.std.proofs.Common.{List, ℕ, sym, subst, ◌∙◌}
use Rattle.std.specs.Prelude.{All, IfErr, IfOk}
use Rattle.heap_model.specs.Files.{HasNoFault}
use Rattle.store_commands.specs.Imports.{IsFilled, IsWhy}
use Rattle.store_commands.proofs.imports.filled_store.Goals as goal

pub filled_with-requires : goal.filled_with-requires
filled_with-requires g c = subst (All HasNoFault) (sym (c.deref.ensures.value ∙ c.in-Ok.ensures.same)) c.in-Ok.ensures.good

pub returns-in-Ok-clause-filled : goal.returns-in-Ok-clause-filled
returns-in-Ok-clause-filled g c =
    subst (λ (files : List (List ℕ)). IfOk c.filled_with.result (λ made. IsFilled c.args.choice files made.0 made.1)) (c.deref.ensures.value ∙ c.in-Ok.ensures.same) c.filled_with.ensures.filled

pub returns-in-Ok-clause-why : goal.returns-in-Ok-clause-why
returns-in-Ok-clause-why g c =
    subst (λ (files : List (List ℕ)). IfErr c.filled_with.result (IsWhy c.args.choice files)) (c.deref.ensures.value ∙ c.in-Ok.ensures.same) c.filled_with.ensures.why

pub returns-in-Err-clause-why : goal.returns-in-Err-clause-why
returns-in-Err-clause-why g c = c.in-Err.ensures.why c.args.choice
