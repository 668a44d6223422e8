-- A name loses its chunk, and with it the slot and what is remembered of the name.
use Rattle.mem_manager.proofs.Laws.{subst, sym, ℕ, ◌≡◌, Memory, IsFound, Found, IsLent, keeps_others, here_of, gives_back, managed_freed, gone_moves_nothing, leaves_gone}
use Rattle.mem_manager.proofs.StepWords.{one_of, same_lents}
use Rattle.mem_manager.proofs.heap.Heap.give_back.Goals as goal

viewed : {inside value : Memory} (name : ℕ) (found : Found) → inside ≡ value
    → IsFound value.bytes name found → IsFound inside.bytes name found
viewed name found view f = subst (λ (m : Memory). IsFound m.bytes name found) (sym view) f

pub give_back-requires-clause-found : goal.give_back-requires-clause-found
give_back-requires-clause-found c =
    one_of (viewed c.args.name.0 c.args.found c.self.view_is c.requires.found)

pub invariant_of-self : goal.invariant_of-self
invariant_of-self c =
    let f = viewed c.args.name.0 c.args.found c.self.view_is c.requires.found in
    let slot = rw c.region-2.ensures.same at c.freed_slot-self-inside.ensures in
    let apart = rw c.region.ensures.same at c.used_without-self-inside.ensures.apart in
    managed_freed c.self.invariant c.give_back.ensures.heap slot c.used_without-self-inside.ensures.fewer apart c.forget.ensures (gives_back c.self.invariant.heap.accepted f c.give_back.ensures.gone)

pub returns-clause-leaves : goal.returns-clause-leaves
returns-clause-leaves c =
    rw (← c.self.view_is) (leaves_gone (gives_back c.self.invariant.heap.accepted (viewed c.args.name.0 c.args.found c.self.view_is c.requires.found) c.give_back.ensures.gone))

pub returns-clause-unmoved : goal.returns-clause-unmoved
returns-clause-unmoved c =
    rw (← c.self.view_is) (gone_moves_nothing (gives_back c.self.invariant.heap.accepted (viewed c.args.name.0 c.args.found c.self.view_is c.requires.found) c.give_back.ensures.gone))

pub returns-clause-loan : goal.returns-clause-loan
returns-clause-loan c =
    let f = viewed c.args.name.0 c.args.found c.self.view_is c.requires.found in
    let other = rw (← c.self.view_is) at c.requires.other in
    let here : IsLent c.self.inside.space c.args.name.0 → ⊥ =
    here_of {name = c.args.name} c.self.invariant.heap f other in
    rw (← c.self.view_is) (keeps_others c.self.inside.space c.give_back.new.self (same_lents c.give_back.ensures.rest) (gives_back c.self.invariant.heap.accepted f c.give_back.ensures.gone) here)
