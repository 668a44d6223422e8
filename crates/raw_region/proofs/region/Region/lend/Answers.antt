use Rattle.std.proofs.Common.{◌≡◌, ℕ, ◌+◌, ◌<◌, ◌^◌, ap, sym, subst, ◌∙◌, List, ◌∷◌, length, arith}
use Rattle.std.specs.Prelude.{MatchOption, vec_capacity}
use denote.RawPtr.{Ptr}
use Rattle.heap_model.specs.Memory.{Memory, Lent, Misses, NoneBegins}
use Rattle.raw_region.specs.declared.gapped.Gapped.{Gapped}
use Rattle.raw_region.specs.Holes.{KnowsLents, lent_at}
use Rattle.raw_region.specs.Marks.{HasRoomForMarks, KnowsMarks}
use Rattle.raw_region.proofs.HoleLaws.{knows_more}
use Rattle.raw_region.proofs.MarkLaws.{few_lent, marks_more}
use Rattle.raw_region.proofs.region.Region.lend.Goals as goal

pub overflow_add-self : goal.overflow_add-self
overflow_add-self c =
    let g = c.self.inside.run in
    let few = few_lent g.ptr g.len g.lents c.self.invariant.2 in
    let many = c.self.invariant.3.many in
    let most = g.ok.1 in
    record { fits = omega (arith, few, many, most) }

pub invariant_of-self : goal.invariant_of-self
invariant_of-self c =
    let g = c.self.inside.run in let at = c.args.at in let n = c.args.n in let marks = c.self.inside.marks in
    let inv = c.self.invariant in
    let e = c.replace-whole.ensures.value in
    let cut = c.cut_out-others.ensures.others in
    let after = c.replace-none.ensures.after in
    let ptr : g.ptr ≡ c.replace-none.new.dest.ptr = sym (ap (λ (x : Gapped). x.ptr) after ∙ cut.0 ∙ ap (λ (x : Gapped). x.ptr) e) in
    let len : g.len ≡ c.replace-none.new.dest.len = sym (ap (λ (x : Gapped). x.len) after ∙ cut.1 ∙ ap (λ (x : Gapped). x.len) e) in
    let lents : lent_at g.ptr at n ∷ g.lents ≡ c.replace-none.new.dest.lents = sym (ap (λ (x : Gapped). x.lents) after ∙ cut.3 ∙ ap (λ (x : Gapped). lent_at x.ptr at n ∷ x.lents) e) in
    let view : Memory = c.args.self.now in
    let same = sym (ap (λ (m : Memory). m.lents) c.self.view_is) in
    let misses : Misses g.lents at n = subst (λ (l : List Lent). Misses l at n) same c.requires.within.misses in
    let begins : NoneBegins at g.lents = subst (λ (l : List Lent). NoneBegins at l) same c.requires.begins in
    let all = ap (λ (m : Memory). length m.bytes) c.self.view_is in
    let inside = c.requires.within.inside in let ok = g.ok.0 in
    let place = c.requires.place in
    let most = inv.3.few in let len_new = c.add.ensures.len in
    let k : KnowsMarks c.add.new.marks.items g.len (c.self.inside.count + 1) (lent_at g.ptr at n ∷ g.lents) =
    marks_more marks.items c.add.new.marks.items g.len c.self.inside.count g.lents (lent_at g.ptr at n) inv.3 (omega (arith, most, len_new, inside, ok, all)) place.0 c.add.ensures.adds in
    let room : HasRoomForMarks g.len (vec_capacity c.add.new.marks) = λ some. let was = inv.4 some in let kept = c.add.ensures.capacity in omega (arith, was, kept) in
    subst (λ (x : Ptr × ℕ × List Lent). (c.self.inside.len ≡ x.1) × (c.self.inside.len < 2 ^ 63) × KnowsLents x.0 x.1 x.2 × KnowsMarks c.add.new.marks.items x.1 (c.self.inside.count + 1) x.2
    × HasRoomForMarks x.1 (vec_capacity c.add.new.marks)
    × MatchOption c.self.inside.lease (c.self.inside.len ≡ 0) (λ lease. (0 < lease.size) × (lease.alloc ≡ c.self.inside.alloc) × (lease.ptr ≡ x.0) × (lease.size ≡ c.self.inside.len)))
    (λ i. (ptr i, len i, lents i)) (inv.0, inv.1, knows_more g.ptr g.len g.lents at n inv.2 (omega (arith, inside, ok, all)) misses begins, k, room, inv.5)
