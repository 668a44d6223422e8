-- An image whose chunks have slid: what it holds, which chunks stay, and how much room it has are
-- as they were; which chunks have moved; and what packing has moved.
use Rattle.laws_heap.proofs.Words.{◌≡◌, ℕ, zero, suc, ◌+◌, ◌-◌, ◌<◌, ◌≤◌, Bool, true, false, List, [], ◌∷◌, ◌++◌, length, Option, Some, None, refl, sym, ap, subst, ◌∙◌, arith, inl, inr, ◌↔◌, ◌==◌, count_by, if◌then◌else◌, IsSome, is_none, eq-eqb, cases_eq, nat_tests, u32_at, Chunk, free, movable, fixed, need, total, IsSlot, slots_of, area_start, BodyHere, IsBody, HeapAccepted, EveryPlaced, AnyPlaced, LiveChunk, chunks_of, held, free_slots, NoRun, Short, NoneStays, place_under, place_of, MovesNothing, MovesOneStretch, is_there, moved_from, moved_bytes, layout_of, Becomes, gap, is_movable_as, Packed, Slid, packed_behind, packed, moved_behind, moved_by_packing, WholeStretch, SlidesOneStretch, OpensBehind, opened}
use Rattle.laws_heap.specs.Laws.{SlidAlike}
use Rattle.laws_heap.proofs.Tests.{none_some}
use Rattle.laws_heap.proofs.Placed.{TakesBytes, SpelledAll-takes, AnyPlaced-left, AnyPlaced-right}
use Rattle.laws_heap.proofs.Slots.{every_slot}
use Rattle.laws_heap.proofs.Bodies.{IsBody-low}
use Rattle.laws_heap.proofs.Meanings.{slot_place, empty_unheld, held-is}
use Rattle.laws_heap.proofs.FoundChunks.{read_heap, finds_held, in_slot}
use Rattle.laws_heap.proofs.Lives.{live_placed, place_replaced}
use Rattle.laws_heap.proofs.AlteredChunks.{finds_place}
use Rattle.laws_heap.proofs.SameLayouts.{rooms-layout, becomes_held, becomes_place, becomes_free, becomes_no_run, becomes_body, count_alike, frame_slots}
use Rattle.laws_heap.proofs.Exchanges.{layout_takes, ChangesName}
use Rattle.laws_heap.proofs.Packings.{packed_slid, packed_once}
use Rattle.laws_heap.proofs.StretchNumbers.{stretch-layout, slid_stretch}
use Rattle.laws_heap.proofs.Slides.{slid_live, slid_place, slid_free, slid_rooms, slid_merged, slid_middle, no_run-packed, opened_slid}

-- ---- the slots

-- a slot is empty where it names nothing
pub slot_unheld : (image : List ℕ) (slot : ℕ) → HeapAccepted image → IsSlot image slot
    → (u32_at image slot ≡ 0) ↔ (held image slot ≡ None)
slot_unheld image slot h s = (
  λ e. held-is image (chunks_of image) slot (read_heap image h)
      ∙ empty_unheld image (chunks_of image) slot (read_heap image h) s e,
  λ e. by_place (u32_at image slot) refl e,
) where
  by_place : (place : ℕ) → u32_at image slot ≡ place → held image slot ≡ None → place ≡ 0
  by_place zero there none = refl
  by_place (suc n) there none =
      let f = in_slot image slot (suc n) h s there (omega arith) in
      absurd (none_some (held image slot) f.live none (finds_held image slot f.live _ _ h f.finds))

same_test : (x : ℕ) (o : Option LiveChunk) → (x ≡ 0) ↔ (o ≡ None) → (x == 0) ≡ is_none o
same_test zero None both = refl
same_test zero (Some live) both = absurd (none_some (Some live) live (both.0 refl) refl)
same_test (suc n) None both = absurd (let e : suc n ≡ 0 = both.1 refl in omega arith)
same_test (suc n) (Some live) both = grind (arith, nat_tests)

-- the number of empty slots is the number of slots that name nothing
pub free_slots_held : (image : List ℕ) → HeapAccepted image
    → free_slots image ≡ count_by (λ slot. is_none (held image slot)) (slots_of image)
free_slots_held image h =
    count_alike (λ slot. u32_at image slot == 0) (λ slot. is_none (held image slot)) _
    (every_slot (λ slot. (u32_at image slot == 0) ≡ is_none (held image slot)) image
    (λ slot s. same_test (u32_at image slot) (held image slot) (slot_unheld image slot h s)))

-- where the same is held, as many slots are empty
pub slots_follow : (old new : List ℕ) → HeapAccepted old → HeapAccepted new
    → slots_of new ≡ slots_of old → ((name : ℕ) → held new name ≡ held old name)
    → free_slots new ≡ free_slots old
slots_follow old new was is listed same =
    free_slots_held new is
    ∙ ap (count_by (λ slot. is_none (held new slot))) listed
    ∙ count_alike (λ slot. is_none (held new slot)) (λ slot. is_none (held old slot)) (slots_of old)
    (every_slot (λ slot. is_none (held new slot) ≡ is_none (held old slot)) old
    (λ slot s. ap is_none (same slot)))
    ∙ sym (free_slots_held old was)

-- ---- chunks that have slid

takes_bytes : (image : List ℕ) → HeapAccepted image
    → EveryPlaced TakesBytes (area_start image) (chunks_of image)
takes_bytes image h = SpelledAll-takes image _ _ (length image) (read_heap image h).tiles.area

pub slid_alike : (old new : List ℕ) (cs : List Chunk) → HeapAccepted old → Becomes old new cs
    → Slid (chunks_of old) cs → SlidAlike old new
unfolding held
slid_alike old new cs h b s = record {
  holds = holds;
  stays = λ name live e locked some. becomes_place old new cs name b
      ∙ slid_place (area_start old) (chunks_of old) cs name live s e locked;
  free_bytes = becomes_free old new cs b ∙ slid_free (chunks_of old) cs s;
  slots = slots_follow old new h b.frame.accepted (frame_slots old new b.frame) holds;
  room = rooms-layout new ∙ slid_rooms (area_start old) (area_start new) (chunks_of old)
      (layout_of new) (takes_bytes old h) (layout_takes new b.frame.accepted) slid;
  stretch = λ name. stretch-layout new name
      ∙ slid_stretch (is_movable_as name) (area_start old) (area_start new) (chunks_of old)
      (layout_of new) (λ size. refl) (takes_bytes old h) (layout_takes new b.frame.accepted) slid;
} where
  holds : (name : ℕ) → held new name ≡ held old name
  holds name = becomes_held old new cs name b ∙ slid_live (area_start old) (chunks_of old) cs name s

  slid : Slid (chunks_of old) (layout_of new)
  slid = rw (← b.layout) at (slid_merged (chunks_of old) cs s)

-- ---- a heap that is packed

pub packed_alike : (old new : List ℕ) → HeapAccepted old → Becomes old new (packed (chunks_of old))
    → SlidAlike old new
packed_alike old new h b = slid_alike old new _ h b (packed_slid (chunks_of old))

-- it is one alone
pub packed_chunks : (cs : List Chunk) (image : List ℕ) → HeapAccepted image
    → Packed (chunks_of image) → Slid cs (chunks_of image) → chunks_of image ≡ packed cs
packed_chunks cs image h p s = packed_once _ cs (chunks_of image) (takes_bytes image h) p s

pub packed_layout : (cs : List Chunk) (image : List ℕ) → HeapAccepted image
    → Packed (layout_of image) → Slid cs (layout_of image) → layout_of image ≡ packed cs
packed_layout cs image h p s = packed_once _ cs (layout_of image) (layout_takes image h) p s

-- it has a run of the size exactly if the old one was not short of them
pub packed_runs : (old new : List ℕ) (size : ℕ) → HeapAccepted old
    → Becomes old new (packed (chunks_of old)) → 0 < size
    → NoRun (chunks_of new) size ↔ Short old size
packed_runs old new size h b some =
    let runs = becomes_no_run old new (packed (chunks_of old)) size b in
    let rooms = no_run-packed (area_start old) (chunks_of old) size some (takes_bytes old h) in
    (λ n. rooms.0 (runs.0 n), λ s. runs.1 (rooms.1 s))

-- ---- what packing has moved

-- a body is where its name is placed
pub body_placed : (image : List ℕ) (slot place : ℕ) → HeapAccepted image
    → IsBody (area_start image) (chunks_of image) slot place → 0 < place
    → place_of image slot ≡ Some place
body_placed image slot place h b some =
    let s = slot_place image (chunks_of image) slot place (read_heap image h) b in
    let f = in_slot image slot place h s.0 s.1 some in
    let low = f.behind_header in
    let e : place - 8 + 8 ≡ place = omega arith in
    finds_place image slot f.live _ (place - 8) h f.finds ∙ ap some_place e where
      some_place : ℕ → Option ℕ
      some_place n = Some n

any_gap : (P : ℕ → Chunk → Type 0) (low room at : ℕ) (cs : List Chunk) → low + room ≡ at
    → AnyPlaced P at cs → AnyPlaced P low (gap room ++ cs)
any_gap P low zero at cs there h = rw (let e : at ≡ low = omega arith in e) at h
any_gap P low (suc n) at cs there h = inr (subst (λ (k : ℕ). AnyPlaced P k cs) (sym there) h)

-- it stays in its place if no room was before it
same_there : (low room at : ℕ) → low + room ≡ at → (low + 8 == at + 8) ≡ (room == 0)
same_there low zero at there = eq-eqb (low + 8) (at + 8) (omega arith) ∙ sym (eq-eqb 0 0 refl)
same_there low (suc n) at there = grind (arith, nat_tests)

moved_rest : (new : List ℕ) (low room at : ℕ) (cs : List Chunk) → low + room ≡ at
    → ((slot place : ℕ) → IsBody low (packed_behind room cs) slot place
    → place_of new slot ≡ Some place) → moved_from at cs new ≡ moved_behind room cs
moved_rest new low room at [] there placed = refl
moved_rest new low room at (free size ∷ cs) there placed =
    moved_rest new low (room + size) (at + size) cs (omega arith) placed
moved_rest new low room at (movable bytes zero owner slot ∷ cs) there placed =
    let size : ℕ = need (length bytes) in
    let here = ap (λ o. is_there o (at + 8)) (placed slot (low + 8) (inl (refl, refl)))
    ∙ same_there low room at there in
    let rest = moved_rest new (low + size) room (at + size) cs (omega arith)
    (λ other place b. placed other place (inr b)) in
    ap (λ b. (if b then 0 else size) + moved_from (at + size) cs new) here
    ∙ ap (λ n. (if room == 0 then 0 else size) + n) rest
moved_rest new low room at (movable bytes (suc count) owner slot ∷ cs) there placed =
    let size : ℕ = need (length bytes) in
    let c : Chunk = movable bytes (suc count) owner slot in
    let here : is_there (place_of new slot) (at + 8) ≡ true =
    ap (λ o. is_there o (at + 8)) (placed slot (at + 8) (any_gap (BodyHere slot (at + 8)) low room
    at (c ∷ packed_behind 0 cs) there (inl (refl, refl)))) ∙ eq-eqb (at + 8) (at + 8) refl in
    let rest =
    moved_rest new (at + size) 0 (at + size) cs (omega arith) (λ other place b. placed other place
    (any_gap (BodyHere other place) low room at (c ∷ packed_behind 0 cs) there (inr b))) in
    let e : 0 + moved_from (at + size) cs new ≡ moved_behind 0 cs = omega arith in
    ap (λ b. (if b then 0 else size) + moved_from (at + size) cs new) here ∙ e
moved_rest new low room at (fixed bytes owner ∷ cs) there placed =
    let size : ℕ = need (length bytes) in
    moved_rest new (at + size) 0 (at + size) cs (omega arith)
    (λ other place b. placed other place (any_gap (BodyHere other place) low room at
    (fixed bytes owner ∷ packed_behind 0 cs) there (inr b)))

body_behind : (image : List ℕ) (cs : List Chunk) (slot place : ℕ)
    → IsBody (area_start image) cs slot place → 0 < place
body_behind image cs slot place body = let low = IsBody-low _ cs slot place body in omega arith

-- each body of an image's chunks is where its name is placed
becomes_placed : (old new : List ℕ) (cs : List Chunk) → Becomes old new cs → (slot place : ℕ)
    → IsBody (area_start old) cs slot place → place_of new slot ≡ Some place
becomes_placed old new cs b slot place body = body_placed new slot place b.frame.accepted
    ((becomes_body old new cs slot place b).1 body) (body_behind old cs slot place body)

pub packed_moved : (old new : List ℕ) → Becomes old new (packed (chunks_of old))
    → moved_bytes old new ≡ moved_by_packing (chunks_of old)
packed_moved old new b = moved_rest new (area_start old) 0 (area_start old) (chunks_of old)
    (omega arith) (becomes_placed old new (packed (chunks_of old)) b)

-- of chunks that are where they were nothing has moved
none_moved : (new : List ℕ) (at : ℕ) (cs : List Chunk)
    → ((slot place : ℕ) → IsBody at cs slot place → place_of new slot ≡ Some place)
    → moved_from at cs new ≡ 0
none_moved new at [] placed = refl
none_moved new at (free size ∷ cs) placed =
    none_moved new (at + size) cs (λ slot place b. placed slot place (inr b))
none_moved new at (movable bytes lock owner slot ∷ cs) placed =
    let here = ap (λ o. is_there o (at + 8)) (placed slot (at + 8) (inl (refl, refl)))
    ∙ eq-eqb (at + 8) (at + 8) refl in
    let rest = none_moved new _ cs (λ other place b. placed other place (inr b)) in
    let e : 0 + moved_from (at + need (length bytes)) cs new ≡ 0 = omega (arith, rest) in
    ap (λ b.
    (if b then 0 else need (length bytes)) + moved_from (at + need (length bytes)) cs new) here ∙ e
none_moved new at (fixed bytes owner ∷ cs) placed =
    none_moved new (at + need (length bytes)) cs (λ slot place b. placed slot place (inr b))

-- an image has moved nothing of itself
pub unmoved_bytes : (image : List ℕ) → HeapAccepted image → moved_bytes image image ≡ 0
unmoved_bytes image h = none_moved image (area_start image) (chunks_of image) (λ slot place body.
    body_placed image slot place h body (body_behind image (chunks_of image) slot place body))

moved_at : (new : List ℕ) (at there : ℕ) (cs : List Chunk) → at ≡ there
    → moved_from at cs new ≡ moved_from there cs new
moved_at new at there cs e = ap (λ (n : ℕ). moved_from n cs new) e

moved_both : (new : List ℕ) (at : ℕ) (xs ys : List Chunk)
    → moved_from at (xs ++ ys) new ≡ moved_from at xs new + moved_from (at + total xs) ys new
moved_both new at [] ys =
    let here = moved_at new at (at + 0) ys (omega arith) in
    omega (arith, here)
moved_both new at (free size ∷ xs) ys =
    let ih = moved_both new (at + size) xs ys in
    let here = moved_at new (at + size + total xs) (at + (size + total xs)) ys (omega arith) in
    omega (arith, ih, here)
moved_both new at (movable bytes lock owner slot ∷ xs) ys =
    let size : ℕ = need (length bytes) in
    let ih = moved_both new (at + size) xs ys in
    let here = moved_at new (at + size + total xs) (at + (size + total xs)) ys (omega arith) in
    omega (arith, ih, here)
moved_both new at (fixed bytes owner ∷ xs) ys =
    let size : ℕ = need (length bytes) in
    let ih = moved_both new (at + size) xs ys in
    let here = moved_at new (at + size + total xs) (at + (size + total xs)) ys (omega arith) in
    omega (arith, ih, here)

-- if only some chunks were packed, packing them moves what has moved, and nothing else has moved
pub one_packed_moved : (old new : List ℕ) (before mid after : List Chunk)
    → chunks_of old ≡ before ++ (mid ++ after) → Becomes old new (before ++ (packed mid ++ after))
    → moved_bytes old new ≡ moved_by_packing mid
one_packed_moved old new before mid after e b =
    let start : ℕ = area_start old in
    let placed = becomes_placed old new (before ++ (packed mid ++ after)) b in
    let one = none_moved new start before (λ slot place body. placed slot place
    (AnyPlaced-left (BodyHere slot place) start before (packed mid ++ after) body)) in
    let two = moved_rest new _ 0 (start + total before) mid (omega arith) (λ slot place body.
    placed slot place (AnyPlaced-right (BodyHere slot place) start before (packed mid ++ after)
    (AnyPlaced-left (BodyHere slot place) (start + total before) (packed mid) after body))) in
    let sizes : total (packed mid) ≡ total mid = (packed_slid mid).sizes in
    let three = none_moved new (start + total before + total mid) after (λ slot place body.
    placed slot place
    (AnyPlaced-right (BodyHere slot place) start before (packed mid ++ after) (AnyPlaced-right
    (BodyHere slot place) (start + total before) (packed mid) after (rw (← sizes) at body)))) in
    let parts = moved_both new start before (mid ++ after) in
    let inner = moved_both new (start + total before) mid after in
    let sum : moved_from start (before ++ (mid ++ after)) new ≡ moved_by_packing mid =
    omega (arith, one, two, three, parts, inner) in
    ap (λ cs. moved_from start cs new) e ∙ sum

-- no more than there is
one_within : (stays_there : Bool) (size : ℕ) → (if stays_there then 0 else size) ≤ size
one_within true size = omega arith
one_within false size = omega arith

pub moved_within : (room : ℕ) (cs : List Chunk) → moved_behind room cs ≤ total cs
moved_within room [] = omega arith
moved_within room (free size ∷ cs) = let ih = moved_within (room + size) cs in omega arith
moved_within room (movable bytes zero owner slot ∷ cs) =
    let ih = moved_within room cs in
    let one = one_within (room == 0) (need (length bytes)) in
    omega (arith, ih, one)
moved_within room (movable bytes (suc count) owner slot ∷ cs) =
    let ih = moved_within 0 cs in
    omega arith
moved_within room (fixed bytes owner ∷ cs) = let ih = moved_within 0 cs in omega arith

-- ---- which chunks have moved

-- one name alone has changed, and is where it was, or is new
pub changes_move_nothing : (old new : List ℕ) (name : ℕ) (now : Option LiveChunk) (there : Option ℕ)
    → ChangesName old new name now there
    → (IsSome (held old name) → IsSome (held new name) → there ≡ place_of old name)
    → MovesNothing old new
changes_move_nothing old new name now there c same = λ other was is. elim (cases_eq other name) [
  | inl e ↦
      let here = ap (place_of new) e ∙ c.place in
      here ∙ same (rw e at was) (rw e at is) ∙ ap (place_of old) (sym e)
  | inr apart ↦ c.places other apart
]

pub nothing_moves_one : (old new : List ℕ) → MovesNothing old new → MovesOneStretch old new
nothing_moves_one old new m = record {
  before = [];
  mid = [];
  after = chunks_of old;
  chunks = refl;
  none_stays = tt;
  others = λ name none was is. m name was is;
}

-- chunks of one stretch move, and then none
pub moves_then_nothing : (old mid new : List ℕ) → MovesOneStretch old mid
    → ((name : ℕ) → IsSome (held old name) → IsSome (held new name) → IsSome (held mid name))
    → MovesNothing mid new → MovesOneStretch old new
moves_then_nothing old mid new m live n = record {
  before = m.before;
  mid = m.mid;
  after = m.after;
  chunks = m.chunks;
  none_stays = m.none_stays;
  others =
      λ name none was is. n name (live name was is) is ∙ m.others name none was (live name was is);
}

-- one stretch has slid
pub slides_alike : (old new : List ℕ) → HeapAccepted old → SlidesOneStretch old new
    → SlidAlike old new
slides_alike old new h s = slid_alike old new (s.before ++ (s.others ++ s.after)) h s.becomes
    (rw (← s.chunks) at (slid_middle s.before s.mid s.others s.after s.slid))

pub slides_move_one : (old new : List ℕ) → SlidesOneStretch old new → MovesOneStretch old new
slides_move_one old new s = record {
  before = s.before;
  mid = s.mid;
  after = s.after;
  chunks = s.chunks;
  none_stays = s.none_stays;
  others = λ name none was is.
      let here : ℕ = area_start old + total s.before in
      let gone =
      live_placed here s.others name (slid_live here s.mid s.others name s.slid ∙ none) in
      becomes_place old new (s.before ++ (s.others ++ s.after)) name s.becomes
      ∙ place_replaced (area_start old) s.before s.mid s.others s.after name s.slid.sizes (gone
      ∙ sym (live_placed here s.mid name none))
      ∙ ap (λ (cs : List Chunk). place_under (area_start old) cs name) (sym s.chunks);
}

-- a stretch is packed
pub packs_one : (old new : List ℕ) (before mid after : List Chunk)
    → chunks_of old ≡ before ++ (mid ++ after) → NoneStays mid
    → Becomes old new (before ++ (packed mid ++ after)) → SlidesOneStretch old new
packs_one old new before mid after e n b = record {
  before = before;
  mid = mid;
  others = packed mid;
  after = after;
  chunks = e;
  none_stays = n;
  slid = packed_slid mid;
  becomes = b;
}

-- room is opened after one of its chunks
pub opens_one : (old new : List ℕ) (at : ℕ) (before front : List Chunk) (bytes : List ℕ)
    (owner slot : ℕ) (back after : List Chunk)
    → WholeStretch old before (front ++ movable bytes 0 owner slot ∷ back) after
    → at ≡ area_start old + total before + total front → OpensBehind old new at
    → SlidesOneStretch old new
opens_one old new at before front bytes owner slot back after w there o = record {
  before = before;
  mid = front ++ movable bytes 0 owner slot ∷ back;
  others = opened front (movable bytes 0 owner slot) back;
  after = after;
  chunks = w.chunks;
  none_stays = w.none_stays;
  slid = opened_slid front bytes owner slot back w.none_stays;
  becomes = o before front bytes owner slot back after w there;
}

-- ---- a stretch has slid, and then one name changes that stood for nothing

pub same_moved : (one other : List ℕ) (at : ℕ) (cs : List Chunk)
    → ((slot place : ℕ) → IsBody at cs slot place → place_of one slot ≡ place_of other slot)
    → moved_from at cs one ≡ moved_from at cs other
same_moved one other at [] same = refl
same_moved one other at (free size ∷ cs) same =
    same_moved one other (at + size) cs (λ slot place b. same slot place (inr b))
same_moved one other at (movable bytes lock owner slot ∷ cs) same =
    let size : ℕ = need (length bytes) in
    let rest = same_moved one other _ cs (λ other_slot place b. same other_slot place (inr b)) in
    ap (λ o. (if is_there o (at + 8) then 0 else size) + moved_from (at + size) cs one) (same slot
    (at + 8) (inl (refl, refl)))
    ∙ ap (λ n. (if is_there (place_of other slot) (at + 8) then 0 else size) + n) rest
same_moved one other at (fixed bytes owner ∷ cs) same =
    same_moved one other (at + need (length bytes)) cs (λ slot place b. same slot place (inr b))

-- a body's name is held
body_held : (image : List ℕ) (slot place : ℕ) → HeapAccepted image
    → IsBody (area_start image) (chunks_of image) slot place → held image slot ≡ None → ⊥
body_held image slot place h b none =
    let s = slot_place image (chunks_of image) slot place (read_heap image h) b in
    let f = in_slot image slot place h s.0 s.1 (body_behind image (chunks_of image) slot place b) in
    none_some (held image slot) f.live none (finds_held image slot f.live _ _ h f.finds)

-- as many bytes have moved as in the sliding
pub moved_with : (old mid new : List ℕ) (name : ℕ) (now : Option LiveChunk) (there : Option ℕ)
    → HeapAccepted old → SlidesOneStretch old mid → held mid name ≡ None
    → ChangesName mid new name now there → moved_bytes old new ≡ moved_bytes old mid
moved_with old mid new name now there h s none ch =
    same_moved new mid (area_start old) (chunks_of old) (λ slot place body.
    ch.places slot (λ same. body_held old slot place h body
    (sym ((slides_alike old mid h s).holds slot) ∙ ap (held mid) same ∙ none)))
