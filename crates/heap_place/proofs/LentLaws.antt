-- What is lent is missed by what is done to a chunk that is found, and stays a body.
use Rattle.heap_place.proofs.Words.{◌≡◌, ◌≢◌, ℕ, zero, suc, ◌+◌, ◌-◌, ◌≤◌, ◌<◌, ◌%◌, ◌^◌, List, [], ◌∷◌, ◌++◌, length, drop, refl, sym, ap, subst, ◌∙◌, arith, inl, inr, append_assoc, length-take, length-drop, Bool, true, false, if◌then◌else◌, IsTrue, ◌⊎◌, slice_range, Memory, Lent, EachLent, IsAmong, Misses, IsWithin, without, Chunk, free, movable, fixed, fixed_lock, need, size_of, total, HeapAccepted, AnyPlaced, area_start, LiveChunk, NamedHere, chunks_of, Alters, IsSpot, merged, freed, with_lock, with_owner, with_bytes, LentHere, IsLentBody, LendsBodies, LendsOther, HoldsHeap, stays_put, length-overwritten, total-append, named_size, part_within, each_to, altered_lends, lent_chunk, run_apart, all_free_loose, apart, in_front, one, behind, found_within, body_within, run_within, header_misses, other_lends, relocked_lends, reowned_lends, same_lends, loose_lends, becomes_lent, named_not_free, exchanges_parts, AnyPlaced-mid, Found, IsOne, IsFreeChunk, Fills, SameChunks, Becomes, still_within, same_lock, same_length}
use Rattle.heap_place.proofs.FoundLaws.{finds_middle}
use Rattle.heap_place.proofs.KeepLaws.{free_there}
use Rattle.heap_place.specs.Relocation.{with_name}

-- its header
pub one_within : (m : Memory) (found : Found) → HeapAccepted m.bytes → LendsBodies m
    → IsOne m.bytes found → IsWithin m (found.place.0 - 8) 8
one_within m found h l f = found_within m _ f.live f.chunk _ h l f.finds

other_at : (m : Memory) {found : Found} → IsOne m.bytes found → LendsOther m found.place.0
    → LendsOther m (found.place.0 - 8 + 8)
other_at m {found} f other = let e : found.place.0 ≡ found.place.0 - 8 + 8 = omega arith in rw e at other

-- and a part of its body
pub one_body_within : (m : Memory) (found : Found) (k n : ℕ) → HeapAccepted m.bytes → LendsBodies m → (f : IsOne m.bytes found) → LendsOther m found.place.0 → k + n ≤ found.length → IsWithin m (found.place.0 + k) n
one_body_within m found k n h l f other fits =
    let e : found.place.0 - 8 + 8 + k ≡ found.place.0 + k = omega arith in
    subst (λ j. IsWithin m j n) e (body_within m _ f.live f.chunk _ k n h l f.finds (other_at m f other) (omega arith))

-- ---- what is lent stays a body

-- one that isn't lent is changed, and takes as much
pub one_altered_lends : (old new : Memory) (found : Found) (change : Chunk → Chunk) → HeapAccepted old.bytes → LendsBodies old → new.lents ≡ old.lents → (f : IsOne old.bytes found) → Alters old.bytes new.bytes (found.place.0 - 8) change → size_of (change f.chunk) ≡ size_of f.chunk → LendsOther old found.place.0 → LendsBodies new
one_altered_lends old new found change h l same f x sizes other =
    other_lends old new _ _ _ _ (λ c. change c ∷ []) h l same f.finds x (omega arith) (other_at old f other)

pub relocked_holds : {old new : Memory} {found : Found} (lock : ℕ) → HoldsHeap old → new.lents ≡ old.lents → (f : IsOne old.bytes found) → Alters old.bytes new.bytes (found.place.0 - 8) (with_lock lock)
    → (0 < lock) ⊎ LendsOther old found.place.0 → HoldsHeap new
relocked_holds {old} {new} lock h same f x stays_put = record {
  accepted = x.frame.accepted;
  lent = relocked_lends old new _ f.live f.chunk _ lock h.accepted h.lent same f.finds x
      (elim stays_put [ inl some ↦ inl some | inr other ↦ inr (other_at old f other) ]);
}

pub reowned_holds : {old new : Memory} {found : Found} (owner : ℕ) → HoldsHeap old → new.lents ≡ old.lents → (f : IsOne old.bytes found) → Alters old.bytes new.bytes (found.place.0 - 8) (with_owner owner)
    → (0 < found.lock → 0 < owner) → HoldsHeap new
reowned_holds {old} {new} owner h same f x owned = record {
  accepted = x.frame.accepted;
  lent = reowned_lends old new _ _ _ _ _ h.accepted h.lent same f.finds x (λ some. owned (omega arith));
}

pub freed_holds : {old new : Memory} {found : Found} → HoldsHeap old → new.lents ≡ old.lents → (f : IsOne old.bytes found) → Alters old.bytes new.bytes (found.place.0 - 8) freed → LendsOther old found.place.0 → HoldsHeap new
freed_holds {old} {new} {found} h same f x other = record { accepted = x.frame.accepted; lent = one_altered_lends old new found freed h.accepted h.lent same f x refl other }

bytes_size : (name at k : ℕ) (live : LiveChunk) (c : Chunk) (part : List ℕ) → NamedHere name live at c → k + length part ≤ length live.bytes → size_of (with_bytes k part c) ≡ size_of c
bytes_size name at k live (free size) part n fits = refl
bytes_size name at k live (movable bytes lock owner slot) part n fits =
    let same : length bytes ≡ length live.bytes = same_length n.1 in
    ap need (length-overwritten bytes k part (omega arith))
bytes_size name at k live (fixed bytes owner) part n fits =
    let same : length bytes ≡ length live.bytes = same_length n.1 in
    ap need (length-overwritten bytes k part (omega arith))

pub one_written_lends : (old new : Memory) (found : Found) (k : ℕ) (part : List ℕ) → HeapAccepted old.bytes → LendsBodies old → new.lents ≡ old.lents → (f : IsOne old.bytes found) → Alters old.bytes new.bytes (found.place.0 - 8) (with_bytes k part) → k + length part ≤ found.length → LendsOther old found.place.0 → LendsBodies new
one_written_lends old new found k part h l same f x fits other =
    one_altered_lends old new _ _ h l same f x (bytes_size _ _ k _ _ part f.finds.named (omega arith)) other

-- so the new memory holds a heap too
pub written_holds : (old new : Memory) (found : Found) (k : ℕ) (part : List ℕ) → HoldsHeap old → new.lents ≡ old.lents → (f : IsOne old.bytes found) → Alters old.bytes new.bytes (found.place.0 - 8) (with_bytes k part) → k + length part ≤ found.length → LendsOther old found.place.0 → HoldsHeap new
written_holds old new found k part h same f x fits other = record { accepted = x.frame.accepted; lent = one_written_lends old new found k part h.accepted h.lent same f x fits other }

-- ---- free chunks

-- a part of one
free_part : {m : Memory} {at size : ℕ} (there n : ℕ) → HoldsHeap m → IsFreeChunk m.bytes at size
    → at ≤ there → there + n ≤ at + size → IsWithin m there n
free_part {m} {at} {size} there n h f low high = part_within m at _ _ n (run_within m _ (free size ∷ []) f.after at h.accepted h.lent f.chunks f.there tt) (omega arith) (omega arith)

-- its two words
pub words_within : {m : Memory} {at size : ℕ} → HoldsHeap m → IsFreeChunk m.bytes at size
    → IsWithin m at 8
words_within {at} h f = let least = (free_there _ _ _ h.accepted f).header_fits in free_part at 8 h f (omega arith) (omega arith)

pub first_within : {m : Memory} {at size : ℕ} → HoldsHeap m → IsFreeChunk m.bytes at size
    → IsWithin m at 4
first_within {m} {at} h f = part_within m at 8 at 4 (words_within h f) (omega arith) (omega arith)

pub second_within : {m : Memory} {at size : ℕ} → HoldsHeap m → IsFreeChunk m.bytes at size
    → IsWithin m (at + 4) 4
second_within {m} {at} h f = part_within m at 8 _ 4 (words_within h f) (omega arith) (omega arith)

-- the body of what is made of it, once its header is written
pub body_still : {old new : Memory} {at : ℕ} (count : ℕ) → HoldsHeap old → IsFreeChunk old.bytes at (need count) → new.lents ≡ old.lents → length new.bytes ≡ length old.bytes → IsWithin new (at + 8) count
body_still {old} {new} count h f same len = still_within old new _ _ (free_part _ _ h f (omega arith) (omega arith)) same len

pub filled_holds : {old new : Memory} {at size : ℕ} {c : Chunk} → HoldsHeap old → new.lents ≡ old.lents → (f : IsFreeChunk old.bytes at size) → Fills old.bytes new.bytes at size c → size_of c ≡ size → HoldsHeap new
filled_holds {old} {new} {size} {c} h same f x sizes = record { accepted = (x f).frame.accepted; lent = loose_lends old new _ (free size ∷ []) (c ∷ []) f.after h.lent same f.chunks (x f) (omega arith) tt }

pub length-slice : (l : List ℕ) (at n : ℕ) → at + n ≤ length l
    → length (slice_range l at (at + n)) ≡ n
length-slice l at n within =
    let a = length-take (at + n - at) (drop at l) in let b = length-drop at l in
    omega arith

pub becomes_holds : {old new : Memory} → HoldsHeap old → new.lents ≡ old.lents
    → Becomes old.bytes new.bytes (chunks_of old.bytes) → HoldsHeap new
becomes_holds {old} {new} h same b = record { accepted = b.frame.accepted; lent = same_lends old new h.lent same b }

pub linked_holds : {old new : Memory} → HoldsHeap old → new.lents ≡ old.lents
    → SameChunks old.bytes new.bytes → HoldsHeap new
linked_holds h same s = becomes_holds h same (record { frame = s.frame; layout = ap merged s.chunks })

-- a walk over a stretch, or any chunks in a row
pub row_misses : (m : Memory) (before front : List Chunk) (c : Chunk) (later after : List Chunk) (at : ℕ) → HeapAccepted m.bytes → LendsBodies m → chunks_of m.bytes ≡ before ++ ((front ++ c ∷ later) ++ after) → at ≡ area_start m.bytes + total before + total front → Misses m.lents at 8
row_misses m before front c later after at h l e there =
    let t = total-append before front in
    header_misses m _ c _ at h l (e ∙ sym (append_assoc before front (c ∷ (later ++ after)) ∙ ap (λ cs. before ++ cs) (sym (append_assoc front (c ∷ later) after)))) (omega arith)

pub name_size : (owner slot : ℕ) (c : Chunk) → size_of (with_name owner slot c) ≡ size_of c
name_size owner slot (free size) = refl
name_size owner slot c = refl

-- one without locks isn't lent
pub loose_other : (m : Memory) (found : Found) → LendsBodies m → (f : IsOne m.bytes found)
    → found.lock ≡ 0 → LendsOther m found.place.0
loose_other m found l f unlocked = each_to _ (λ x. x.at ≢ found.place.0) _ l go where
  loose : (c : Chunk) → NamedHere found.name.0 f.live (found.place.0 - 8) c → IsTrue (stays_put c)
      → ⊥
  loose (free size) n = λ s. n
  loose (movable bytes zero owner slot) n = λ s. absurd cc
  loose (movable bytes (suc lock) owner slot) n = λ s.
      let e : suc lock ≡ f.live.lock = same_lock n.1 in
      omega arith
  loose (fixed bytes owner) n = λ s.
      let e : fixed_lock ≡ f.live.lock = same_lock n.1 in omega arith

  go : (lent : Lent) → IsAmong lent m.lents → IsLentBody m.bytes lent → lent.at ≢ found.place.0
  go lent is x = λ same.
      let p = lent_chunk m.bytes lent x in
      let size = named_size found.name.0 f.live (found.place.0 - 8) f.chunk f.finds.named in
      elim (apart f.finds.before f.chunk f.finds.after p.before p.chunk p.after (sym f.finds.chunks ∙ p.chunks)) [
        | in_front k ↦ omega arith
        | one t s ↦ loose f.chunk f.finds.named (subst (λ x. IsTrue (stays_put x)) (sym s) p.is.one)
        | behind k ↦ omega arith
      ]

pub other_still : (old new : Memory) (place : ℕ) → new.lents ≡ old.lents → LendsOther old place
    → LendsOther new place
other_still old new place same o = subst (λ x. EachLent (λ y. y.at ≢ place) x) (sym same) o

-- nor is what stands in room
pub spot_other : (m : Memory) (at room : ℕ) → LendsBodies m → IsSpot m.bytes at room → 0 < room
    → LendsOther m (at + 8)
spot_other m at room l s some = each_to (IsLentBody m.bytes) (λ x. x.at ≢ at + 8) m.lents l go where
  go : (lent : Lent) → IsAmong lent m.lents → IsLentBody m.bytes lent → lent.at ≢ at + 8
  go lent is x = λ same.
      let p = lent_chunk m.bytes lent x in
      elim (run_apart s.before s.run s.after p.before p.chunk p.after (sym s.chunks ∙ p.chunks) (all_free_loose s.run s.all_free) p.is.one) [
        | inl k ↦ omega arith
        | inr k ↦ omega arith
      ]

-- the very same chunks
pub placed_lends : (old new : Memory) → LendsBodies old → new.lents ≡ old.lents → chunks_of new.bytes ≡ chunks_of old.bytes → area_start new.bytes ≡ area_start old.bytes → LendsBodies new
placed_lends old new l same e s =
    subst (λ x. EachLent (IsLentBody new.bytes) x) (sym same)
    (each_to (IsLentBody old.bytes) (IsLentBody new.bytes) old.lents l (λ lent is x.
    subst (λ n. AnyPlaced (LentHere lent) n (chunks_of new.bytes)) (sym s) (rw (← e) at x)))

-- a body is lent
lent_there : (at : ℕ) (lent : Lent) (name : ℕ) (live : LiveChunk) (c : Chunk) → NamedHere name live at c → 0 < live.lock → lent.at ≡ at + 8 → lent.count ≡ length live.bytes → LentHere lent at c
lent_there at lent name live (free size) n some there count = absurd n
lent_there at lent name live (movable bytes zero owner slot) n some there count = let e = same_lock n.1 in absurd (omega arith)
lent_there at lent name live (movable bytes (suc lock) owner slot) n some there count = (there, count ∙ sym (same_length n.1))
lent_there at lent name live (fixed bytes owner) n some there count = (there, count ∙ sym (same_length n.1), n.2)

-- and stays so if all of its bytes are written
bytes_lent_here : (at : ℕ) (lent : Lent) (name : ℕ) (live : LiveChunk) (c : Chunk) (part : List ℕ) → NamedHere name live at c → length part ≡ length live.bytes → LentHere lent at c → LentHere lent at (with_bytes 0 part c)
bytes_lent_here at lent name live (free size) part n many here = absurd here
bytes_lent_here at lent name live (movable bytes zero owner slot) part n many here = absurd here
bytes_lent_here at lent name live (movable bytes (suc lock) owner slot) part n many here =
    let e : length bytes ≡ length live.bytes = same_length n.1 in
    (here.0, here.1 ∙ sym (length-overwritten bytes 0 part (omega arith)))
bytes_lent_here at lent name live (fixed bytes owner) part n many here =
    let e : length bytes ≡ length live.bytes = same_length n.1 in
    (here.0, here.1 ∙ sym (length-overwritten bytes 0 part (omega arith)), here.2)

-- the other lent bodies stay, where the bytes of one that isn't lent are others
pub others_lend : (old : Memory) {new : List ℕ} {found : Found} (part : List ℕ) → HeapAccepted old.bytes → LendsBodies old → (f : IsOne old.bytes found) → Alters old.bytes new (found.place.0 - 8) (with_bytes 0 part) → length part ≡ found.length → LendsOther old found.place.0
    → EachLent (IsLentBody new) old.lents
others_lend old {new} {found} part h l f x many other =
    let size = bytes_size found.name.0 _ 0 f.live f.chunk part f.finds.named (omega arith) in
    let there : found.place.0 ≡ found.place.0 - 8 + 8 = omega arith in
    other_lends old (record old { bytes = new }) _ f.live f.chunk _
    (λ c. with_bytes 0 part c ∷ []) h l refl f.finds x (omega arith) (rw there at other)

pub lending_lends : (old new : Memory) (found : Found) (lent : Lent) (part : List ℕ) → HeapAccepted old.bytes → LendsBodies old → LendsOther old found.place.0 → new.lents ≡ lent ∷ old.lents → (f : IsOne old.bytes found) → 0 < found.lock → Alters old.bytes new.bytes (found.place.0 - 8) (with_bytes 0 part) → length part ≡ found.length → lent.at ≡ found.place.0 → lent.count ≡ found.length → LendsBodies new
lending_lends old new found lent part h l other is f some x many there count =
    let n = f.count in
    let b = (exchanges_parts _ new.bytes _ (λ c. with_bytes 0 part c ∷ []) f.finds.before f.chunk _ h (named_not_free found.name.0 (found.place.0 - 8) f.live f.chunk f.finds.named) f.finds.chunks f.finds.there).0 x in
    let here =
    subst (λ j. LentHere lent j (with_bytes 0 part f.chunk)) f.finds.there
    (bytes_lent_here _ lent found.name.0 f.live f.chunk part f.finds.named (many ∙ n)
    (lent_there _ lent _ f.live f.chunk f.finds.named (omega arith) (omega arith) (count ∙ n))) in
    subst (λ y. EachLent (IsLentBody new.bytes) y) (sym is) (
      becomes_lent _ _ (f.finds.before ++ (with_bytes 0 part f.chunk ∷ f.finds.after)) lent b (AnyPlaced-mid (LentHere lent) (area_start old.bytes) f.finds.before (with_bytes 0 part f.chunk) f.finds.after here),
      others_lend old part h l f x many other,
    )

-- ---- and taken back

each_less_by : (P : Lent → Type 0) (c : Bool) (at : ℕ) (l : Lent) (ls : List Lent) → P l
    → EachLent P ls → EachLent P (without at ls) → EachLent P (if c then ls else l ∷ without at ls)
each_less_by P true at l ls first others rest = others
each_less_by P false at l ls first others rest = (first, rest)

each_less : (P : Lent → Type 0) (at : ℕ) (lents : List Lent) → EachLent P lents
    → EachLent P (without at lents)
each_less P at [] each = tt
each_less P at (l ∷ ls) each = each_less_by P _ at l ls each.0 each.1 (each_less P at ls each.1)

-- each lent body stays one where bytes of a chunk are written, and all but one are still lent
pub back_lends : (old new : Memory) (found : Found) (part : List ℕ) → HeapAccepted old.bytes → LendsBodies old → new.lents ≡ without found.place.0 old.lents → (f : IsOne old.bytes found) → Alters old.bytes new.bytes (found.place.0 - 8) (with_bytes 0 part) → length part ≡ found.length → LendsBodies new
back_lends old new found part h l is f x many =
    let n = f.count in
    let size = bytes_size found.name.0 (found.place.0 - 8) 0 f.live f.chunk part f.finds.named (omega arith) in
    let all =
    altered_lends old (record old { bytes = new.bytes }) _ f.live f.chunk _ (λ c. with_bytes 0 part c ∷ []) h l refl f.finds x (omega arith)
    (λ lent among here. inl (bytes_lent_here (found.place.0 - 8) lent found.name.0 f.live f.chunk part f.finds.named (many ∙ n) here)) in
    subst (λ y. EachLent (IsLentBody new.bytes) y) (sym is) (each_less (IsLentBody new.bytes) found.place.0 old.lents all)

-- where a lent body begins
pub found_markable : (image : List ℕ) (found : Found) → HeapAccepted image → IsOne image found
    → ((0 < found.place.0) × (found.place.0 % 8 ≡ 0)) × (found.place.0 < 2 ^ 32)
found_markable image found h f =
    let m = finds_middle h f.finds in ((omega arith, omega arith), omega arith)
