-- The walk over a stretch sums up its room.
use Rattle.heap_compact.proofs.Words.{◌≡◌, ℕ, ◌+◌, ◌<◌, ◌≤◌, List, [], ◌∷◌, ◌++◌, length, refl, sym, ap, subst, ◌∙◌, append_assoc, arith, append-nil, sum_by-append, sum_by-cons, Chunk, size_of, total, free_size, Spelled, SpelledAll, HeapAccepted, room_of, header_of, size_by, HasHeader, Header, Memory, Misses, HoldsHeap, Stretch, free_by, StretchIs, IsStretch, Summed, SumsUpTo, HasRoomOf, Spelled-size, Spelled-unique, total-append, SpelledAll-split, size_by-header_of, row_misses, middle_of, heap_in_parts, free_of, free_within}

-- the chunks of the stretch, as they are spelled
mid_spelled : {image : List ℕ} {before mid after : List Chunk} {stretch : Stretch} → HeapAccepted image → StretchIs image before mid after stretch → SpelledAll image stretch.start mid (stretch.start + total mid) × (stretch.start + total mid ≤ length image)
mid_spelled {before} {mid} {after} h s =
    let m = middle_of _ before mid after _ (heap_in_parts _ _ h s.whole.chunks) s.from in
    (m.spelled, m.inside)

-- what stands where the walk has come
record Next (image : List ℕ) (mid : List Chunk) (start at room : ℕ) : Type 0 where
  summed : Summed mid start at room
  chunk : Chunk
  later : List Chunk
  rest_is : summed.rest ≡ chunk ∷ later
  spelled : Spelled image at chunk
  inside : at + size_of chunk ≤ length image

next_of : (image : List ℕ) {mid : List Chunk} {start at room : ℕ} → SpelledAll image start mid (start + total mid) → start + total mid ≤ length image → at < start + total mid → Summed mid start at room → Next image mid start at room
next_of image {mid} {start} {at} {room} s inside low w = by_rest w.rest refl where
  split : (rest : List Chunk) → w.rest ≡ rest → SpelledAll image at rest (start + total mid)
  split rest e = subst (λ n. SpelledAll image n rest (start + total mid)) (sym w.there) (SpelledAll-split _ _ _ rest _ (subst (λ cs. SpelledAll image start cs (start + total mid)) (w.parts ∙ ap (λ cs. w.front ++ cs) e) s)).1

  by_rest : (rest : List Chunk) → w.rest ≡ rest → Next image mid start at room
  by_rest [] e = absurd (let ends = split [] e in omega arith)
  by_rest (c ∷ later) e =
      let here = (split (c ∷ later) e).0 in
      record { summed = w; chunk = c; later = later; rest_is = e; spelled = here; inside = (Spelled-size _ at c here).1 }

module _ {image : List ℕ} {stretch : Stretch} {at room : ℕ} (h : HeapAccepted image) (w : SumsUpTo image stretch at room) (low : at < stretch.end) where
  next_at : {before mid after : List Chunk} → StretchIs image before mid after stretch
      → Next image mid stretch.start at room
  next_at {before} {mid} {after} s =
      let m = mid_spelled h s in let to = s.to in
      next_of image m.0 m.1 (omega arith) (w before mid after s)

  pub summed_chunk : IsStretch image stretch → (c : Chunk) × Spelled image at c
  summed_chunk s = let n = next_at s.is in (n.chunk, n.spelled)

  -- the room so far is no more than what was passed
  pub summed_fits : {header : Header} → IsStretch image stretch → HasHeader image at header
      → (room ≤ at) × (at + size_by header ≤ length image)
  summed_fits {header} s found =
      let n = next_at s.is in let there = n.summed.there in
      let sums = n.summed.sums in let within = free_within n.summed.front in
      let inside = (Spelled-size image at found.chunk found.spelled).1 in
      let size : size_by header ≡ size_of found.chunk = ap size_by found.header_is ∙ size_by-header_of found.chunk in
      (omega arith, omega arith)

  pub summed_more : {size more : ℕ} {header : Header} → HasHeader image at header → size ≡ size_by header → more ≡ free_by header → SumsUpTo image stretch (at + size) (room + more)
  summed_more {size} {more} {header} found size_is more_is before mid after s =
      let n = next_at s in
      let same : header ≡ header_of n.chunk = found.header_is
      ∙ ap header_of (Spelled-unique image at found.chunk n.chunk found.spelled n.spelled) in
      let taken : size ≡ size_of n.chunk = size_is ∙ ap size_by same ∙ size_by-header_of n.chunk in
      let gained : more ≡ free_size n.chunk = more_is ∙ ap free_by same ∙ free_of n.chunk in
      let there = n.summed.there in let sums = n.summed.sums in
      let all = total-append n.summed.front (n.chunk ∷ []) in
      let rooms = sum_by-append free_size n.summed.front (n.chunk ∷ []) in
      let one = sum_by-cons free_size n.chunk [] in let none : room_of [] ≡ 0 = refl in record {
        front = n.summed.front ++ n.chunk ∷ [];
        rest = n.later;
        parts = n.summed.parts ∙ ap (λ (cs : List Chunk). n.summed.front ++ cs) n.rest_is
            ∙ sym (append_assoc n.summed.front (n.chunk ∷ []) n.later);
        there = omega arith;
        sums = omega arith;
      }

pub summed_misses : {m : Memory} {stretch : Stretch} {at room : ℕ} → HoldsHeap m → IsStretch m.bytes stretch → SumsUpTo m.bytes stretch at room → at < stretch.end → Misses m.lents at 8
summed_misses {m} {at} h s w low =
    let n = next_at h.accepted w low s.is in
    row_misses m s.before n.summed.front n.chunk n.later s.after at h.accepted h.lent
    (s.is.whole.chunks ∙ ap (λ cs. s.before ++ (cs ++ s.after)) (n.summed.parts ∙ ap (λ cs. n.summed.front ++ cs) n.rest_is)) (omega (arith, n.summed.there, s.is.from))

pub summed_all : {image : List ℕ} {stretch : Stretch} {at room : ℕ} → HeapAccepted image
    → SumsUpTo image stretch at room → stretch.end ≤ at → HasRoomOf image stretch room
summed_all {image} {stretch} {at} {room} h w past before mid after s =
    let k = w before mid after s in
    by_rest k k.rest refl (mid_spelled h s).0 where
      by_rest : (k : Summed mid stretch.start at room) (rest : List Chunk) → k.rest ≡ rest
          → SpelledAll image stretch.start mid (stretch.start + total mid) → room ≡ room_of mid
      by_rest k [] e spelled = k.sums ∙ ap room_of (sym (append-nil k.front) ∙ ap (λ cs. k.front ++ cs) (sym e) ∙ sym k.parts)
      by_rest k (c ∷ rest) e spelled =
          let parts = k.parts ∙ ap (λ (cs : List Chunk). k.front ++ cs) e in
          let later = (SpelledAll-split image stretch.start k.front (c ∷ rest) (stretch.start + total mid) (subst (λ cs. SpelledAll image stretch.start cs (stretch.start + total mid)) parts spelled)).1 in
          let least = (Spelled-size image _ c later.0).0 in
          let all = ap total parts ∙ total-append k.front (c ∷ rest) in let there = k.there in
          let to = s.to in absurd (omega arith)
