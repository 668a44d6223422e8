-- Resizing, dropping or packing a chunk touches no lent part, and each stays a body.
use Rattle.heap_compact.proofs.Words.{◌≡◌, ◌≢◌, ℕ, zero, suc, ◌+◌, ◌-◌, ◌≤◌, List, [], ◌∷◌, ◌++◌, refl, sym, ap, subst, ◌∙◌, arith, inl, inr, append_assoc, Memory, Lent, IsAmong, MissesOne, IsWithin, Chunk, free, movable, fixed, need, size_of, total, chunks_of, AnyPlaced, gap, merged, with_length, AllFree, LentHere, IsLentBody, LendsOther, HoldsHeap, LiveChunk, NamedHere, Found, IsOne, RunBehind, Resizes, IsDroppable, MovesDown, IsBehindRoom, PackedOne, packed_one, length-sized_to, total-append, gap_total, each_of, each_to, lent_chunk, run_apart, all_free_loose, apart, in_front, one, behind, stays_here, none_lent, run_within, replaced_lends, loose_lends, one_body_within, run_facts, found_size}

-- ---- a chunk that isn't lent, and what is free after it

-- its first bytes may be read and written
pub front_within : {m : Memory} {found : Found} {n : ℕ} → HoldsHeap m → IsOne m.bytes found
    → LendsOther m found.place.0 → n ≤ found.length → IsWithin m found.place.0 n
front_within {m} {found} {n} h f other few =
    let start : found.place.0 + 0 ≡ found.place.0 = omega arith in
    subst (λ k. IsWithin m k n) start (one_body_within m _ 0 n h.accepted h.lent f other (omega (arith, few)))

pub regrown_within : {m : Memory} {found : Found} {more : ℕ} → HoldsHeap m → (r : RunBehind m.bytes found more) → LendsOther m found.place.0 → IsWithin m (found.place.0 - 8) (need found.length + more)
regrown_within {m} {found} {more} h r other =
    let inside = (run_facts _ _ _ h.accepted r).inside in
    record { inside = inside; misses = each_to (IsLentBody m.bytes) _ m.lents h.lent go } where
      go : (lent : Lent) → IsAmong lent m.lents → IsLentBody m.bytes lent
          → MissesOne (found.place.0 - 8) (need found.length + more) lent
      go lent is x =
          let o = each_of (λ w. w.at ≢ found.place.0) lent m.lents other is in
          let f = r.one.finds in let p = lent_chunk m.bytes lent x in
          let size = found_size m.bytes found r.one in
          let t = total-append f.before (r.one.chunk ∷ []) in
          let e = f.chunks ∙ ap (λ cs. f.before ++ r.one.chunk ∷ cs) r.parts
          ∙ sym (append_assoc f.before (r.one.chunk ∷ []) (r.run ++ r.rest)) in
          elim (apart _ r.one.chunk f.after p.before p.chunk p.after (sym f.chunks ∙ p.chunks)) [
            | in_front k ↦ elim (run_apart (f.before ++ r.one.chunk ∷ []) r.run r.rest p.before p.chunk p.after (sym e ∙ p.chunks) (all_free_loose r.run r.all_free) p.is.one) [
              | inl j ↦ absurd (omega (arith, j, k, t, p.is.fits))
              | inr j ↦ inl (omega (arith, j, t, p.is.there, f.there, size, r.sums))
            ]
            | one t2 s ↦ absurd (o (omega (arith, t2, p.is.there, f.there, r.one.behind_header)))
            | behind k ↦ inr (omega (arith, k, p.is.there, f.there, p.is.fits))
          ] where
            m_chunks : List Chunk
            m_chunks = chunks_of m.bytes

not_among : (lent : Lent) (at : ℕ) (c : Chunk) (run : List Chunk) → AllFree run → lent.at ≢ at + 8
    → AnyPlaced (LentHere lent) at (c ∷ run) → ⊥
not_among lent at c run f o x = elim x [
  | inl here ↦ o (stays_here lent at c here).there
  | inr rest ↦ none_lent lent (at + size_of c) run (all_free_loose run f) rest
]

-- ---- a chunk without locks that is dropped over room

pub dropped_within : {m : Memory} {at room size slot : ℕ} → HoldsHeap m
    → IsDroppable m.bytes at room size slot → IsWithin m (at - room) (room + size)
dropped_within {m} {at} {room} {size} {slot} h d =
    let pair : List Chunk = free room ∷ movable d.bytes 0 d.owner slot ∷ [] in
    let sizes : total pair ≡ room + size = omega (arith, d.takes) in
    subst (λ n. IsWithin m (at - room) n) sizes (run_within m _ pair _ _ h.accepted h.lent d.chunks (omega (arith, d.there)) tt)

pub dropped_holds : {old new : Memory} {at room size slot : ℕ} → HoldsHeap old → new.lents ≡ old.lents → IsDroppable old.bytes at room size slot → MovesDown old.bytes new.bytes at room size slot → HoldsHeap new
dropped_holds {old} {new} {room} {slot} h same d moves =
    let v : Chunk = movable d.bytes 0 d.owner slot in let b = moves d in
    record { accepted = b.frame.accepted; lent = loose_lends old new d.before (free room ∷ v ∷ []) (v ∷ free room ∷ []) d.after h.lent same d.chunks (record { frame = b.frame; layout = ap merged b.exact }) (omega arith) tt }

-- ---- a chunk with room in front of it that is packed

packed_keeps : (room : ℕ) (c : Chunk) (lent : Lent) (at : ℕ) → AnyPlaced (LentHere lent) at (gap room ++ c ∷ []) → AnyPlaced (LentHere lent) at (packed_one room c)
packed_keeps zero (free size) lent at x = elim x [ inl here ↦ absurd here | inr none ↦ absurd none ]
packed_keeps (suc room) (free size) lent at x = elim x [ inl here ↦ absurd here | inr more ↦ elim more [ inl here ↦ absurd here | inr none ↦ absurd none ] ]
packed_keeps zero (movable bytes zero owner slot) lent at x = elim x [ inl here ↦ absurd here | inr none ↦ absurd none ]
packed_keeps (suc room) (movable bytes zero owner slot) lent at x = elim x [ inl here ↦ absurd here | inr more ↦ elim more [ inl here ↦ absurd here | inr none ↦ absurd none ] ]
packed_keeps room (movable bytes (suc lock) owner slot) lent at x = x
packed_keeps room (fixed bytes owner) lent at x = x

packed_total : (room : ℕ) (c : Chunk) → total (packed_one room c) ≡ total (gap room ++ c ∷ [])
packed_total room (free size) = let a = gap_total (room + size) in let b = total-append (gap room) (free size ∷ []) in let g = gap_total room in omega (arith, a, b, g)
packed_total room (movable bytes zero owner slot) = let b = total-append (gap room) (movable bytes 0 owner slot ∷ []) in omega (arith, b)
packed_total room (movable bytes (suc lock) owner slot) = refl
packed_total room (fixed bytes owner) = refl

pub packed_holds : {old new : Memory} {at room size moved room_then : ℕ} {b : IsBehindRoom old.bytes at room} → HoldsHeap old → new.lents ≡ old.lents → PackedOne b new.bytes size moved room_then → HoldsHeap new
packed_holds {old} {new} {room} {b} h same p =
    let chunks = b.chunks ∙ ap (λ cs. b.before ++ cs) (sym (append_assoc (gap room) (b.chunk ∷ []) b.after)) in
    let x = p.becomes in record {
      accepted = x.frame.accepted;
      lent = replaced_lends old new b.before _ (packed_one room b.chunk) b.after h.lent same chunks
          (record { frame = x.frame; layout = ap merged x.exact }) (packed_total room b.chunk)
          (λ lent is y. packed_keeps room b.chunk lent _ y);
    }

-- ---- a resized chunk

pub resized_holds : {old new : Memory} {found : Found} (count : ℕ) {more : ℕ} → HoldsHeap old → new.lents ≡ old.lents → (r : RunBehind old.bytes found more) → LendsOther old found.place.0 → Resizes old.bytes new.bytes found count more
    → total (with_length count r.one.chunk ∷ gap (size_of r.one.chunk + more - need count)) ≡ total (r.one.chunk ∷ r.run) → HoldsHeap new
resized_holds {old} {new} {found} count {more} h same r other x sizes =
    let f = r.one.finds in record {
      accepted = (x r).frame.accepted;
      lent = replaced_lends old new f.before (r.one.chunk ∷ r.run) (with_length count r.one.chunk ∷ gap (size_of r.one.chunk + more - need count)) r.rest h.lent same
          (f.chunks ∙ ap (λ (cs : List Chunk). f.before ++ r.one.chunk ∷ cs) r.parts) (x r) sizes
          (λ lent is y.
          let o = each_of (λ w. w.at ≢ found.place.0) lent old.lents other is in
          let low = r.one.behind_header in
          absurd (not_among lent _ _ r.run r.all_free (λ e. o (omega (arith, e, f.there, low))) y));
    }

pub resized_total : (count : ℕ) {more : ℕ} (c : Chunk) (run : List Chunk) → total run ≡ more → (size_of (with_length count c) ≡ need count) × (need count ≤ size_of c + more) → total (with_length count c ∷ gap (size_of c + more - need count)) ≡ total (c ∷ run)
resized_total count {more} c run sums both =
    omega (arith, gap_total (size_of c + more - need count), sums, both.0, both.1)

pub length_size : (count name at : ℕ) (live : LiveChunk) (c : Chunk) → NamedHere name live at c
    → size_of (with_length count c) ≡ need count
length_size count name at live (free size) n = absurd n
length_size count name at live (movable bytes lock owner slot) n = ap need (length-sized_to _ _)
length_size count name at live (fixed bytes owner) n = ap need (length-sized_to bytes count)
