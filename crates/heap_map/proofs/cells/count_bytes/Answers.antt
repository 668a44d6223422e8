-- `count_bytes` adds to each count the number of these bytes in the cell, by the laws of CellLaws.
use Rattle.heap_map.proofs.Laws.{◌≡◌, ◌<◌, ◌+◌, ◌-◌, ◌/◌, ◌∙◌, ℕ, length, get_or, set, ap, sym, inl, inr, arith, slice_index, cases_eq, get_or-set_same, get_or-set_other, in_cell, cells_order, cells_within, cell_counted}
use Rattle.heap_map.proofs.cells.count_bytes.Goals as goal

pub loop-k-preserved : goal.loop-k-preserved
loop-k-preserved c =
    let counts = c.loop-k.counts in
    let i = c.loop-k.k in
    let more : ℕ = get_or counts i 0 + (c.min.result - c.max.result) in
    let within = cells_within _ _ _
    (length c.args.counts.now) c.requires.positive c.requires.some c.requires.inside in
    let len : length counts ≡ length c.args.counts.now = c.loop-k.auto.counts in
    let here : i < length counts = omega arith in
    record {
      inside = λ j low high. elim (cases_eq j i) [
        | inl e ↦
            let was : get_or counts i 0 ≡ slice_index c.args.counts.now i =
            c.loop-k.invariant.outside i (inr (omega arith)) in
            let part : c.min.result - c.max.result ≡ in_cell c.args.size i c.args.from c.args.to =
            omega (arith, c.min.ensures, c.max.ensures) in
            let sum : more ≡ slice_index c.args.counts.now i
            + in_cell c.args.size i c.args.from c.args.to = omega (arith, was, part) in
            ap (λ (n : ℕ). get_or (set counts i more) n 0) e ∙ get_or-set_same counts i more 0 here
            ∙ sum ∙ ap (λ (n : ℕ). slice_index c.args.counts.now n
            + in_cell c.args.size n c.args.from c.args.to) (sym e)
        | inr ne ↦
            get_or-set_other counts i j more 0 ne ∙ c.loop-k.invariant.inside j low (omega arith)
      ];
      outside = λ j side. elim side [
        | inl low ↦ get_or-set_other counts i j more 0 (λ e. omega arith)
            ∙ c.loop-k.invariant.outside j (inl low)
        | inr high ↦ get_or-set_other counts i j more 0 (λ e. omega arith)
            ∙ c.loop-k.invariant.outside j (inr (omega arith))
      ];
    }

pub returns : goal.returns
returns c = λ k below.
    let order = cells_order c.args.size c.args.from c.args.to c.requires.positive c.requires.some in
    cell_counted _ k _ _ (slice_index c.args.counts.now k)
    (slice_index c.loop-k.counts k) c.requires.positive c.requires.some (λ side. elim side [
      | inl low ↦ c.loop-k.invariant.outside k (inl low)
      | inr high ↦ c.loop-k.invariant.outside k (inr (omega arith))
    ]) (λ low high. c.loop-k.invariant.inside k low (omega arith))
