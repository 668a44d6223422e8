-- The walk over lifted chunks mends each of them.
use Rattle.heap_compact.proofs.Words.{◌≡◌, ℕ, ◌+◌, ◌<◌, ◌≤◌, List, [], ◌∷◌, ◌++◌, refl, sym, subst, ◌∙◌, append_assoc, arith, append-nil, Chunk, size_of, total, carried, Lift, Lifting, IsCarried, MendsOne, AreCarried, MendsAll, MendedUpTo, Walks, total-append, Spelled-size}
use Rattle.heap_compact.proofs.CarriedLaws.{carried_size}
use Rattle.heap_compact.proofs.MendLaws.{next_of}

pub walk_start : (image : List ℕ) (gap start end : ℕ) → Walks image image gap start start end
walk_start image gap start end u done rest l e = record {
  front = [];
  back = rest;
  parts = refl;
  lifting = subst (λ (cs : List Chunk). Lifting u image cs rest start) (sym (append-nil done)) l;
  ends = e;
}

pub some_size : {gap : ℕ} {u : Lift gap} {image : List ℕ} {done : List Chunk} {c : Chunk} {rest : List Chunk} {at : ℕ} → Lifting u image done (c ∷ rest) at → 8 ≤ size_of c
some_size {gap} {image} {c} {at} l =
    let least = (Spelled-size image at (carried gap c) (next_of l).spelled).0 in
    omega (arith, least, carried_size gap c)

module _ {first image : List ℕ} {gap start at end : ℕ} (w : Walks first image gap start at end) where
  -- the walk has passed one more chunk
  pub walk_more : {new : List ℕ} {next : ℕ} → at < end → MendsOne image new gap at next
      → Walks first new gap start next end
  walk_more {new} {next} more mends u done rest l e = one_more s.back s.parts s.lifting s.ends where
    s : MendedUpTo u image done rest at end
    s = w u done rest l e

    one_more : (back : List Chunk) → rest ≡ s.front ++ back → Lifting u image (done ++ s.front) back at → end ≡ at + total back → MendedUpTo u new done rest next end
    one_more [] parts k ends = absurd (omega (arith, ends, more))
    one_more (c ∷ back) parts k ends =
        let m = mends u (done ++ s.front) c back k in record {
          front = s.front ++ c ∷ [];
          back = back;
          parts = parts ∙ sym (append_assoc s.front (c ∷ []) back);
          lifting = rw (append_assoc done s.front (c ∷ [])) at m;
          ends = omega (arith, ends, k.there, m.there, total-append (done ++ s.front) (c ∷ []));
        }

  -- what the walk has come to
  pub walk_state : AreCarried first gap start end → AreCarried image gap at end
  walk_state a =
      let s = w a.lift a.done a.rest a.lifting a.ends in
      record { lift = a.lift; done = a.done ++ s.front; rest = _; lifting = s.lifting; ends = s.ends }

  -- at its end all are mended
  pub walk_done : end ≤ at → MendsAll first image gap start end
  walk_done past u done rest l e = no_more s.back s.parts s.lifting s.ends where
    s : MendedUpTo u image done rest at end
    s = w u done rest l e

    no_more : (back : List Chunk) → rest ≡ s.front ++ back → Lifting u image (done ++ s.front) back at → end ≡ at + total back → Lifting u image (done ++ rest) [] end
    no_more [] parts k ends =
        let stop : at ≡ end = omega (arith, ends, past) in
        subst (λ (n : ℕ). Lifting u image (done ++ rest) [] n) stop (rw (← (parts ∙ append-nil s.front)) at k)
    no_more (c ∷ back) parts k ends = absurd (omega (arith, ends, past, some_size k))

module _ {image : List ℕ} {gap at end : ℕ} (a : AreCarried image gap at end) (more : at < end) where
  pub walk_next : IsCarried image gap at
  walk_next = next a.rest a.lifting a.ends where
    next : (rest : List Chunk) → Lifting a.lift image a.done rest at → end ≡ at + total rest
        → IsCarried image gap at
    next [] l e = absurd (omega (arith, e, more))
    next (c ∷ rest) l e = record { lift = a.lift; done = a.done; chunk = c; rest = rest; lifting = l }

  -- the walk goes on, and not beyond its end
  pub walk_on : {new : List ℕ} {next : ℕ} → MendsOne image new gap at next
      → (at < next) × (next ≤ end)
  walk_on {next} mends = on a.rest a.lifting a.ends where
    on : (rest : List Chunk) → Lifting a.lift image a.done rest at → end ≡ at + total rest
        → (at < next) × (next ≤ end)
    on [] l e = absurd (omega (arith, e, more))
    on (c ∷ rest) l e =
        let is = (mends a.lift a.done c rest l).there in let both = total-append a.done (c ∷ []) in
        (omega (arith, l.there, is, both, some_size l), omega (arith, l.there, is, both, e))
