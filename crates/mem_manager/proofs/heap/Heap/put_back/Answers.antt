-- The body of a lent name gets the bytes of its loan.
use Rattle.mem_manager.proofs.Laws.{◌≢◌, subst, sym, ◌≡◌, owner_under, Memory, OnLoan, PutsBack, IsOutUnder, out_held, out_there, out_whole, out_changes, out_leaves, out_is_lent, out_unmoved, placed, lent_owned, callers_bytes}
use Rattle.mem_manager.proofs.StepWords.{managed_changed}
use Rattle.mem_manager.proofs.heap.Heap.put_back.Goals as goal

-- what is out of the heap's value under the loan's name is out of its region
opened : {inside value : Memory} {loan seen : OnLoan} → inside ≡ value → loan ≡ seen
    → IsOutUnder value seen.name.0 seen.part → IsOutUnder inside loan.name.0 loan.part
opened view same out =
    subst (λ (x : Memory × OnLoan). IsOutUnder x.0 x.1.name.0 x.1.part)
    (λ i. (sym view i, sym same i)) out

pub chunk-found-requires : goal.chunk-found-requires
chunk-found-requires c = record { there = out_held c.loan.inside.name.0 c.loan.inside.part c.self.invariant.heap (opened c.self.view_is c.loan.view_is c.requires) }

pub take_back-requires-clause-out : goal.take_back-requires-clause-out
take_back-requires-clause-out c =
    out_there c.loan.inside.part c.self.invariant.heap c.chunk-found.ensures
    (opened c.self.view_is c.loan.view_is c.requires)

pub take_back-requires-clause-whole : goal.take_back-requires-clause-whole
take_back-requires-clause-whole c =
    out_whole c.loan.inside.part c.self.invariant.heap c.chunk-found.ensures
    (opened c.self.view_is c.loan.view_is c.requires)

pub invariant_of-self : goal.invariant_of-self
invariant_of-self c =
    let part = c.loan.inside.part in let was_found = c.chunk-found.ensures in
    let h = c.self.invariant.heap in
    let many = out_whole part h was_found (opened c.self.view_is c.loan.view_is c.requires) in
    managed_changed c.self.invariant c.take_back.ensures.heap
    (out_changes part.bytes h.accepted was_found many c.take_back.ensures.made)

pub returns : goal.returns
returns c =
    let h = c.self.invariant.heap in let f = c.chunk-found.ensures in
    let bytes = c.loan.inside.part.bytes in
    let out = opened c.self.view_is c.loan.view_is c.requires in
    let many = out_whole c.loan.inside.part h f out in
    let ch = out_changes bytes h.accepted f many c.take_back.ensures.made in
    let owner = lent_owned c.loan.inside.name.0 h
    (out_is_lent c.self.inside.space c.loan.inside.name.0 c.loan.inside.part out) in record {
      back = subst (λ (l : OnLoan). PutsBack c.args.self.now c.take_back.new.self l) c.loan.view_is
          (rw (← c.self.view_is) (record {
            bytes = callers_bytes bytes h.accepted f owner ch;
            leaves =
                out_leaves c.self.inside.space bytes h.accepted f many c.take_back.ensures.made;
            unmoved = out_unmoved h.accepted f ch;
            at = c.chunk-found.result.place.0;
            placed = placed h.accepted f;
            rest = c.take_back.ensures.rest;
          }));
      owned = subst (λ (x : Memory × OnLoan). owner_under x.0.bytes x.1.name.0 ≢ 0)
          (λ i. (c.self.view_is i, c.loan.view_is i)) owner;
    }
