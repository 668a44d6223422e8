use Rattle.std.proofs.Common.{◌≡◌, ◌+◌, ℕ, List, None, ap, sym, ◌∙◌, refl}
use Rattle.std.specs.BTreeMap.{btree_map_len, get_by}
use Rattle.std.specs.Cmp.Lexicographic.{slice_cmp}
use Rattle.std.specs.Ordering.{nat_cmp}
use Rattle.script_lines.specs.Numbering.{with_next}
use Rattle.script_lines.specs.Views.{numbering}
use Rattle.script_lines.proofs.LabelLaws.{same_numbering, updated_at_text, with_label_absent}
use Rattle.script_lines.proofs.label.Labels.number.Goals as goal

-- the map has the new label's number besides what it had
pub returns-in-Ok-clause-labels : goal.returns-in-Ok-clause-labels
returns-in-Ok-clause-labels g c =
    let old = numbering c.args.self.now in
    let word = c.args.word.now in
    let map = c.args.self.now.numbers in
    let spelled = c.in_ok-label.label.items in
    let same : spelled ≡ word = c.in_ok-label.ensures.items in
    let next : c.len-number.result ≡ old.count = c.len-number.ensures.len in
    let absent : get_by (λ key. slice_cmp nat_cmp spelled key.items) map ≡ None = ap (λ (l : List ℕ). get_by (λ key. slice_cmp nat_cmp l key.items) map) same ∙ sym c.in_default.ensures.value in
    let none : c.in-Ok.field-0 ≡ None = c.in-Ok.ensures.old ∙ absent in
    let more : btree_map_len c.insert.new.map ≡ old.count + 1 = rw none at c.in-Ok.ensures.len in
    same_numbering (numbering (record { numbers = c.insert.new.map })) (with_next old word)
    (λ other. updated_at_text (λ key. key.items) spelled map c.insert.new.map _ c.in-Ok.ensures.updates other ∙ rw (same, next) refl)
    more
    ∙ sym (with_label_absent old word (sym c.in_default.ensures.value))
