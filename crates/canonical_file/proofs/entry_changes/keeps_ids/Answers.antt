-- `keeps_ids` returns whether these IDs, one for each record of a file, are the IDs in the file, by
-- the laws of GivenLaws.
use Rattle.std.proofs.Common.{◌≡◌, ℕ, List, length, get_or, refl, sym, ap, subst, ◌∙◌, arith, inl, inr}
use Rattle.std.proofs.lemmas.Bool.{cases_lt}
use Rattle.std.proofs.lemmas.List.{ext_get_or, nil_from_length}
use Rattle.heap_model.specs.Database.{database_in}
use Rattle.heap_model.specs.Store.{unique_ids}
use Rattle.file_ids.proofs.GivenLaws.{no_ids, id_count, id_there}
use Rattle.canonical_file.proofs.entry_changes.keeps_ids.Goals as goal

pub returns-then-has_resources : goal.returns-then-has_resources
returns-then-has_resources g c =
    let none = no_ids c.args.file.now (sym c.has_resources.ensures ∙ c.if-has_resources.true) in
    let empty : length c.args.ids.now ≡ 0 = c.requires ∙ ap length none in
    (λ _. nil_from_length c.args.ids.now empty ∙ sym none, λ _. refl)

pub bounds-ids-index : goal.bounds-ids-index
bounds-ids-index g c =
    let count = id_count c.args.file.now (sym c.has_resources.ensures ∙ c.if-has_resources.false) in
    let same = c.requires in
    omega arith

pub returns-then-ids-index : goal.returns-then-ids-index
returns-then-ids-index g c =
    let is = id_there c.args.file.now c.loop-index.index _
    (sym c.has_resources.ensures ∙ c.if-has_resources.false) (omega arith) c.record_id.ensures.is in
    (λ yes. absurd cc, λ same. absurd (c.if-ids-index.true (ap (λ (xs : List ℕ). get_or xs c.loop-index.index 0) same ∙ is)))

pub loop-index-preserved : goal.loop-index-preserved
loop-index-preserved g c = λ k below.
    let ids : List ℕ = c.args.ids.now in
    let known : List ℕ = unique_ids (database_in c.args.file.now) in
    let is = id_there c.args.file.now c.loop-index.index _
    (sym c.has_resources.ensures ∙ c.if-has_resources.false) (omega arith) c.record_id.ensures.is in
    elim (cases_lt k c.loop-index.index) [
      | inl less ↦ c.loop-index.invariant k less
      | inr past ↦
          let here : c.loop-index.index ≡ k = omega arith in
          subst (λ (n : ℕ). get_or ids n 0 ≡ get_or known n 0) here (c.if-ids-index.false ∙ sym is)
    ]

pub returns : goal.returns
returns g c =
    let known : List ℕ = unique_ids (database_in c.args.file.now) in
    let count = id_count c.args.file.now (sym c.has_resources.ensures ∙ c.if-has_resources.false) in
    let same = c.requires in
    (λ _. ext_get_or 0 c.args.ids.now known same (λ k inside. c.loop-index.invariant k (omega arith)), λ _. refl)
