-- Equal memories have equal parts, and a part of a range that may be written may be written.
use Rattle.heap_compact.proofs.Words.{◌≡◌, ℕ, ◌+◌, ◌≤◌, List, ap, subst, sym, Memory, Lent, IsWithin, Misses, part_within}

pub same_slid : {m n : Memory} → m ≡ n → m.slid ≡ n.slid
same_slid e = ap (λ (m : Memory). m.slid) e

pub within_misses : {m : Memory} {at n : ℕ} {lents : List Lent} (there k : ℕ) → IsWithin m at n
    → lents ≡ m.lents → at ≤ there → there + k ≤ at + n → Misses lents there k
within_misses {m} {at} {n} there k w same low high =
    subst (λ x. Misses x there k) (sym same) (part_within m at n _ k w low high).misses
