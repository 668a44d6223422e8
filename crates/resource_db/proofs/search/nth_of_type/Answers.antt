use Rattle.resource_db.proofs.Words.{ℕ, ◌+◌, sym, ap, ◌∙◌, arith, has_type, counted_more, counted_same}
use Rattle.std.proofs.lemmas.Bool.{eq-eqb, ne_eqb}
use Rattle.db_format.specs.Entries.{resource_of}
use Rattle.resource_db.proofs.search.nth_of_type.Goals as goal
use Rattle.resource_db.proofs.search.nth_of_type.Goals.{then-resource-kind+else-passed-nth, else-resource-kind}

pub loop-index-preserved : goal.loop-index-preserved
loop-index-preserved c =
    let was = c.loop-index.invariant in
    elim c.if-resource-kind.branch [
      | then-resource-kind+else-passed-nth w ↦
          let more = counted_more (has_type c.args.kind) c.args.resources.now.entries c.loop-index.index (resource_of c.resource.result) c.resource.ensures (eq-eqb c.resource.result.kind c.args.kind w.if-resource-kind.true) in
          (w.passed-is ∙ ap (λ (n : ℕ). n + 1) was.0 ∙ sym more, omega (arith, w.passed-is, was.1, w.if-passed-nth.false))
      | else-resource-kind w ↦
          let same = counted_same (has_type c.args.kind) c.args.resources.now.entries c.loop-index.index (resource_of c.resource.result) c.resource.ensures (ne_eqb c.resource.result.kind c.args.kind w.if-resource-kind.false) in
          (w.passed-is ∙ was.0 ∙ sym same, omega (arith, w.passed-is, was.1))
    ]
