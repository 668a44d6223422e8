use Rattle.record_db.proofs.Words.{ℕ, ◌+◌, sym, ap, ◌∙◌, is_of, counted_more, counted_same}
use Rattle.db_format.specs.Entries.{record_of}
use Rattle.record_db.proofs.search.count_of.Goals as goal
use Rattle.record_db.proofs.search.count_of.Goals.{then-has_category, else-has_category}

pub loop-index-preserved : goal.loop-index-preserved
loop-index-preserved c = elim c.if-has_category.branch [
  | then-has_category w ↦
      w.count-is ∙ ap (λ (n : ℕ). n + 1) c.loop-index.invariant
      ∙ sym (counted_more (is_of c.args.category) c.args.records.now.entries c.loop-index.index (record_of c.record.result) c.record.ensures (sym c.has_category.ensures ∙ w.if-has_category.true))
  | else-has_category w ↦
      w.count-is ∙ c.loop-index.invariant
      ∙ sym (counted_same (is_of c.args.category) c.args.records.now.entries c.loop-index.index (record_of c.record.result) c.record.ensures (sym c.has_category.ensures ∙ w.if-has_category.false))
]
