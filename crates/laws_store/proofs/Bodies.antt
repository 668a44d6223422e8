-- What a heap of bytes holds are bytes.
use Rattle.laws_store.proofs.Words.{◌≡◌, ℕ, ◌+◌, ◌-◌, List, length, Option, Some, None, refl, subst, arith, AreBytes, HeapAccepted, LiveChunk, held, bytes_of, bytes_under, held_finds, finds_body}
use Rattle.laws_store.proofs.Numbers.{AreBytes-slice}

pub held_bytes : (image : List ℕ) (name : ℕ) → HeapAccepted image → AreBytes image
    → AreBytes (bytes_under image name)
unfolding bytes_under
held_bytes image name heap b = by (held image name) refl where
  by : (o : Option LiveChunk) → held image name ≡ o → AreBytes (bytes_of o)
  by None e = λ k. omega arith
  by (Some live) e =
      let found = held_finds image name live heap e in
      let f = found.finds in
      subst (λ xs. AreBytes xs) (finds_body image name live found.chunk found.at heap f).bytes
      (AreBytes-slice (found.at + 8) (found.at + 8 + length live.bytes - (found.at + 8)) image b)
