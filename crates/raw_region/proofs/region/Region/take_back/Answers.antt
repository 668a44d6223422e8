use Rattle.std.proofs.Common.{◌≡◌, ℕ, ◌-◌, ◌*◌, ◌/◌, ◌<◌, ◌^◌, ap, subst, sym, ◌∙◌, length, List, arith}
use Rattle.std.specs.Prelude.{Some, MatchOption}
use denote.RawPtr.{Ptr, ◌+ₚ◌}
use Rattle.raw_region.specs.declared.gapped.Gapped.{Gapped}
use Rattle.heap_model.specs.Memory.{Memory, Lent, Misses, without}
use Rattle.raw_region.specs.Parts.{PartOut, IsOut}
use Rattle.raw_region.specs.Holes.{KnowsLents, count_at}
use Rattle.core.specs.List.{refill}
use Rattle.bit_sets.specs.Sets.{IsInSet, RemovesNumber}
use Rattle.raw_region.specs.Marks.{BeginsAt, HasRoomForMarks, KnowsMarks}
use Rattle.raw_region.proofs.GapWrites.{refill_all}
use Rattle.raw_region.proofs.MarkLaws.{in_set_inside, marks_fewer, out_begins, even_at}
use Rattle.raw_region.proofs.HoleLaws.{count_of, others_missed, start_of, knows_without}
use Rattle.raw_region.proofs.region.Region.take_back.Goals as goal

pub filled_in-requires-clause-place : goal.filled_in-requires-clause-place
filled_in-requires-clause-place c =
    let g = c.self.inside.run in let r = c.part.inside.run in let at = c.args.at in
    let p : PartOut = record { bytes = r.bytes; start = r.ptr } in
    let out : IsOut g.lents at p = subst (λ (x : List Lent × PartOut). IsOut x.0 at x.1) (λ i. (ap (λ (m : Memory). m.lents) (sym c.self.view_is) i, sym c.part.view_is i)) c.requires.out in
    let s = start_of g.ptr g.len g.lents at p c.self.invariant.2.0 out in
    let e = c.replace-others.ensures.value in
    let inside = s.1 in let many = r.ok.0 in let size = ap (λ (x : Gapped). x.len) e in
    (s.0 ∙ ap (λ (x : Gapped). x.ptr +ₚ at) (sym e), omega (arith, inside, many, size))

pub filled_in-requires-clause-hole : goal.filled_in-requires-clause-hole
filled_in-requires-clause-hole c =
    let g = c.self.inside.run in let r = c.part.inside.run in let at = c.args.at in
    let p : PartOut = record { bytes = r.bytes; start = r.ptr } in
    let out : IsOut g.lents at p = subst (λ (x : List Lent × PartOut). IsOut x.0 at x.1) (λ i. (ap (λ (m : Memory). m.lents) (sym c.self.view_is) i, sym c.part.view_is i)) c.requires.out in
    let e = c.replace-others.ensures.value in
    let apart = c.self.invariant.2.1 in (
      ap (λ (x : Gapped). count_at at x.lents) e ∙ count_of g.lents at p apart out ∙ ap (λ (n : ℕ). Some n) (sym r.ok.0),
      subst (λ (x : Gapped × ℕ). Misses (without at x.0.lents) at x.1) (λ i. (sym e i, sym r.ok.0 i)) (others_missed g.lents at p apart out),
    )

pub remove-requires-clause-there : goal.remove-requires-clause-there
remove-requires-clause-there c =
    let g = c.self.inside.run in let r = c.part.inside.run in let at = c.args.at in
    let p : PartOut = record { bytes = r.bytes; start = r.ptr } in
    let out : IsOut g.lents at p = subst (λ (x : List Lent × PartOut). IsOut x.0 at x.1) (λ i. (ap (λ (m : Memory). m.lents) (sym c.self.view_is) i, sym c.part.view_is i)) c.requires.out in
    let begins = out_begins g.lents at p out in
    let even = (even_at g.lents at c.self.invariant.3.even begins).1 in
    let same : at ≡ 8 * (at / 8) = omega (arith, even) in
    subst (λ (l : List ℕ). IsInSet l (at / 8)) (sym c.deref_mut.ensures.value) ((c.self.invariant.3.bits (at / 8)).1 (subst (λ (n : ℕ). BeginsAt n g.lents) same begins))

pub remove-requires-clause-room : goal.remove-requires-clause-room
remove-requires-clause-room c = in_set_inside c.deref_mut.result.now (c.args.at / 8) (remove-requires-clause-there c)

pub invariant_of-self : goal.invariant_of-self
invariant_of-self c =
    let g = c.self.inside.run in let r = c.part.inside.run in let at = c.args.at in let marks = c.self.inside.marks in
    let p : PartOut = record { bytes = r.bytes; start = r.ptr } in
    let out : IsOut g.lents at p = subst (λ (x : List Lent × PartOut). IsOut x.0 at x.1) (λ i. (ap (λ (m : Memory). m.lents) (sym c.self.view_is) i, sym c.part.view_is i)) c.requires.out in
    let after = c.replace-none.ensures.after in let f = c.filled_in.ensures in let e = c.replace-others.ensures.value in
    let inv = c.self.invariant in
    let ptr : g.ptr ≡ c.replace-none.new.dest.ptr = sym (ap (λ (x : Gapped). x.ptr) after ∙ f.0 ∙ ap (λ (x : Gapped). x.ptr) e) in
    let len : g.len ≡ c.replace-none.new.dest.len = sym (ap (λ (x : Gapped). x.len) after ∙ f.1 ∙ ap (λ (x : Gapped). x.len) e) in
    let lents : without at g.lents ≡ c.replace-none.new.dest.lents = sym (ap (λ (x : Gapped). x.lents) after ∙ f.3 ∙ ap (λ (x : Gapped). without at x.lents) e) in
    let value = c.deref_mut.ensures.value in
    let items : length marks.items ≡ marks.len = ap length (sym value) ∙ c.deref_mut.ensures.len in
    let many : length c.remove.new.set ≡ length marks.items = c.remove.ensures.len ∙ ap length value in
    let removed = c.remove.ensures.removes in
    let removes : RemovesNumber marks.items c.remove.new.set (at / 8) = subst (λ (l : List ℕ). RemovesNumber l c.remove.new.set (at / 8)) value removed in
    let filled : c.remove.new.set ≡ refill marks.len marks.items c.remove.new.set = sym (refill_all marks.len marks.items c.remove.new.set (many ∙ items) items) in
    let k : KnowsMarks c.remove.new.set g.len (c.self.inside.count - 1) (without at g.lents) =
    marks_fewer marks.items c.remove.new.set g.len c.self.inside.count at g.lents inv.3 inv.2.1 (out_begins g.lents at p out) many removes in
    subst (λ (x : Ptr × ℕ × List Lent × List ℕ). (c.self.inside.len ≡ x.1) × (c.self.inside.len < 2 ^ 63) × KnowsLents x.0 x.1 x.2 × KnowsMarks x.3 x.1 (c.self.inside.count - 1) x.2 × HasRoomForMarks x.1 marks.cap
    × MatchOption c.self.inside.lease (c.self.inside.len ≡ 0) (λ lease. (0 < lease.size) × (lease.alloc ≡ c.self.inside.alloc) × (lease.ptr ≡ x.0) × (lease.size ≡ c.self.inside.len)))
    (λ i. (ptr i, len i, lents i, filled i)) (inv.0, inv.1, knows_without g.ptr g.len at g.lents inv.2, k, inv.4, inv.5)
