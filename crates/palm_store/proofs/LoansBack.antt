-- Bytes that are out of a store stay out during calls, and are then back as before.
use Rattle.palm_store.proofs.Words.{◌≡◌, length, sym, ap, subst, ◌∙◌, Memory, KeepsLoan, place_of, Name, OnLoan, IsOutUnder, TakesOutOfStore, PutsBackInStore}
use Rattle.std.specs.Prelude.{Some}
use Rattle.mem_manager.proofs.OutLaws.{out_stays, back_restores}

-- The loan's part is out still after calls that keep it. It may have other bytes, but as many.
pub still_out : (old out done : Memory) (name : Name) (loan other : OnLoan) → TakesOutOfStore old out name loan → done.lents ≡ out.lents → KeepsLoan out done → other.name ≡ loan.name → other.part.start ≡ loan.part.start → length other.part.bytes ≡ length loan.part.bytes → IsOutUnder done other.name.0 other.part
still_out old out done name loan other takes same keeps named start long =
    subst (λ (n : Name). IsOutUnder done n.0 other.part) (sym (named ∙ takes.name_is)) (out_stays out done name.0 loan.part other.part takes.out same (keeps name.0 (length loan.part.bytes) takes.is_lent).1 start long)

-- Once it is back after these calls, what is lent is what was lent before it was taken out.
pub all_back : (old out done new : Memory) (name : Name) (loan other : OnLoan) → TakesOutOfStore old out name loan → done.lents ≡ out.lents → KeepsLoan out done → other.name ≡ loan.name → PutsBackInStore done new other → new.lents ≡ old.lents
all_back old out done new name loan other takes same keeps named back =
    let placed = subst (λ (n : Name). place_of done.bytes n.0 ≡ Some back.at) (named ∙ takes.name_is) back.placed in
    back_restores old out done new name.0 takes.at (length loan.part.bytes) back.at loan.part.start (ap (λ (m : Memory). m.lents) takes.rest) takes.there same (keeps name.0 (length loan.part.bytes) takes.is_lent).1 placed (ap (λ (m : Memory). m.lents) back.rest)
