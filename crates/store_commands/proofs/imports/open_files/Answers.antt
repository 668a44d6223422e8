use Rattle.std.specs.Prelude.{All}
use Rattle.std.proofs.Common.{◌≡◌, ◌∙◌, ◌++◌, ◌∷◌, [], List, ℕ, take, sym, ap, subst}
use Rattle.std.proofs.lemmas.List.{take_all, take_more}
use Rattle.std.proofs.lemmas.List.Elements.{All-push}
use Rattle.heap_model.specs.Files.{HasNoFault}
use Rattle.store_commands.proofs.imports.open_files.Goals as goal

pub loop-index-preserved : goal.loop-index-preserved
loop-index-preserved g c =
    let files = c.args.files.now in
    let more = take_more files c.loop-index.index [] c.loop-index-test.true in
    record {
      same = c.in-Ok-push.ensures.items
          ∙ ap (λ (files : List (List ℕ)). files ++ c.in-Ok.file ∷ []) c.loop-index.invariant.same
          ∙ ap (λ (file : List ℕ). take c.loop-index.index c.args.files.now ++ file ∷ []) c.in-Ok.ensures.opened
          ∙ sym more;
      good = subst (All HasNoFault) (sym more) (All-push HasNoFault (take c.loop-index.index files) _ c.loop-index.invariant.good c.in-Ok.ensures.good);
    }

pub returns-clause-good : goal.returns-clause-good
returns-clause-good g c = subst (All HasNoFault) (take_all c.loop-index.index c.args.files.now c.loop-index-test.false) c.loop-index.invariant.good
