-- `exact_of` refuses values only if no file has them, or if an allocation failed.
use Rattle.palmheap_c.proofs.Words.{ℕ, List, inl, inr, refl, subst, Database, IsNoExactFile, given_by, named_database}
use Rattle.std.proofs.Common.{Option}
use Rattle.palmheap_c.proofs.writing.exact_of.Goals as goal

pub returns-in-Err-NoFile-clause-err : goal.returns-in-Err-NoFile-clause-err
returns-in-Err-NoFile-clause-err c =
    let none = c.list_exact.ensures.none (let what = c.in-Err-NoFile.is in cc) in
    inl (
      refl,
      inr (inr (inr (inl (
          subst (λ (after : List ℕ). IsNoExactFile (named_database (given_by c.args.given.now))
          after c.args.given.now.order.now) c.after_name.ensures
          (subst (λ (d : Database (Option (List ℕ))). IsNoExactFile d c.after_name.result.now
          c.args.given.now.order.now) c.requires.database none))))),
    )

pub returns-in-Err-OutOfMemory-clause-err : goal.returns-in-Err-OutOfMemory-clause-err
returns-in-Err-OutOfMemory-clause-err c =
    inr (inr (refl, c.list_exact.ensures.short (let what = c.in-Err-OutOfMemory.is in cc)))
