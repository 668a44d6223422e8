-- A stretch can be packed, and then its room can be opened after one of its chunks.
use Rattle.heap_compact.proofs.Words.{◌≡◌, ℕ, zero, suc, ◌+◌, ◌-◌, ◌<◌, ◌≤◌, List, [], ◌∷◌, ◌++◌, length, refl, sym, ap, subst, ◌∙◌, append_assoc, arith, append-nil, sum_by-cons, u32_at, Chunk, free, movable, fixed, need, total, free_size, IsSlot, area_start, Memory, HoldsHeap, IsHeap, HeapAccepted, chunks_of, NoneStays, stays_put, room_of, SameFrame, gap, merged, IsRoom, WritesPlain, packed, lives, EndsStaying, WholeStretch, opened, OpensBehind, Stretch, HasFreeBehind, BecomesExactly, IsRun, Packs, LeavesLastRoom, last_room, KeepsApart, StretchIs, IsStretch, IsAmongAt, HasRoomOf, OpensExactly, IsTrue, total-append, SpelledAll-split, SpelledAll-end, AnyPlaced-mid, gap_free, gap_total, lives-append, lives_total, lives_twice, none_stays-append, stretch_packed, room_of-middle, one_stretch, heap_in_parts}
use Rattle.laws_heap.proofs.Layouts.{IsNotFree}
use Rattle.heap_compact.proofs.ExactLaws.{exactly_start, exactly_becomes, exactly_then}
use Rattle.heap_place.proofs.RoomLaws.{live_keeps}
use Rattle.heap_compact.proofs.DropLaws.{gap_some, gap_none}

-- ---- a stretch is packed

abbrev pub stretch_run : {image : List ℕ} {before mid after : List Chunk} {stretch : Stretch}
    → StretchIs image before mid after stretch → IsRun image stretch.start stretch.end
stretch_run {before} {mid} {after} s = record { before = before; mid = mid; after = _; chunks = s.whole.chunks; from = s.from; to = s.to }

-- of a chunk that is among its own
pub among_stretch : {image : List ℕ} {at name count : ℕ} {stretch : Stretch}
    → IsAmongAt image at name count stretch → IsStretch image stretch
among_stretch {name} a = record { before = a.before; mid = a.front ++ movable a.bytes 0 a.owner name ∷ a.back; after = _; is = a.is }

-- all room of chunks of which none stays is at their end
pub loose_lives : (cs : List Chunk) → NoneStays cs → NoneStays (lives cs)
loose_lives [] n = tt
loose_lives (free size ∷ cs) n = loose_lives cs n
loose_lives (movable bytes zero owner slot ∷ cs) n = loose_lives cs n
loose_lives (movable bytes (suc count) owner slot ∷ cs) n = absurd n
loose_lives (fixed bytes owner ∷ cs) n = absurd n

last_loose : (room : ℕ) (cs : List Chunk) → NoneStays cs → last_room room cs ≡ room + room_of cs
last_loose room [] n = let none : room_of [] ≡ 0 = refl in omega arith
last_loose room (free size ∷ cs) n = let e = sum_by-cons free_size (free size) cs in let ih = last_loose (room + size) cs n in omega (arith, e, ih)
last_loose room (movable bytes zero owner slot ∷ cs) n = let e = sum_by-cons free_size (movable bytes 0 owner slot) cs in let ih = last_loose room cs n in omega (arith, e, ih)
last_loose room (movable bytes (suc count) owner slot ∷ cs) n = absurd n
last_loose room (fixed bytes owner ∷ cs) n = absurd n

-- the room that is left of a stretch
pub room_left : {image : List ℕ} (stretch : Stretch) {room : ℕ}
    → LeavesLastRoom image stretch.start stretch.end room → HasRoomOf image stretch room
room_left stretch leaves before mid after s =
    omega (arith, leaves (stretch_run s), last_loose 0 mid s.whole.none_stays)

-- chunks with one that stays at their end end with it, and it keeps others apart
stay_live : (c : Chunk) → IsTrue (stays_put c) → IsNotFree c
stay_live (free size) stay = cc
stay_live (movable bytes lock owner slot) stay = tt
stay_live (fixed bytes owner) stay = tt

end_split : (c : Chunk) (cs : List Chunk) → EndsStaying (c ∷ cs)
    → (front : List Chunk) × (last : Chunk) × (c ∷ cs ≡ front ++ last ∷ []) × IsNotFree last
end_split c [] stay = ([], c, refl, stay_live c stay)
end_split c (d ∷ cs) stay = let e = end_split d _ stay in (c ∷ e.0, e.1, ap (λ xs. c ∷ xs) e.2, e.3)

staying_keeps : (cs : List Chunk) → EndsStaying cs → KeepsApart cs
staying_keeps [] stay = λ others. refl
staying_keeps (c ∷ cs) stay = let e = end_split c cs stay in subst KeepsApart (sym e.2) (live_keeps e.0 e.1 e.3)

-- so do live ones after them
lives_keep : (before mid : List Chunk) → KeepsApart before → KeepsApart (before ++ lives mid)
lives_keep before [] k = subst KeepsApart (sym (append-nil before)) k
lives_keep before (free size ∷ mid) k = lives_keep before mid k
lives_keep before (movable bytes lock owner slot ∷ mid) k =
    subst KeepsApart (append_assoc before (movable bytes lock owner slot ∷ []) (lives mid)) (lives_keep (before ++ movable bytes lock owner slot ∷ []) mid (live_keeps before (movable bytes lock owner slot) tt))
lives_keep before (fixed bytes owner ∷ mid) k = subst KeepsApart (append_assoc before (fixed bytes owner ∷ []) (lives mid)) (lives_keep (before ++ fixed bytes owner ∷ []) mid (live_keeps before (fixed bytes owner) tt))

-- the room of a packed stretch is a run of its own at its end
pub packed_end : {old new : List ℕ} {before mid after : List Chunk} {stretch : Stretch} {room : ℕ} → StretchIs old before mid after stretch → BecomesExactly old new (before ++ (packed mid ++ after)) → room ≡ room_of mid → IsRoom new (stretch.end - room) room
packed_end {new} {before} {mid} {after} {room} s b is =
    let front : List Chunk = before ++ lives mid in
    let parts : chunks_of new ≡ front ++ (gap room ++ after) =
    b.exact ∙ ap (λ cs. before ++ (cs ++ after)) (stretch_packed mid s.whole.none_stays ∙ ap (λ n. lives mid ++ gap n) (sym is)) ∙ ap (λ cs. before ++ cs) (append_assoc (lives mid) (gap room) after)
    ∙ sym (append_assoc before (lives mid) (gap room ++ after)) in
    let both = total-append before (lives mid) in record {
      before = front;
      run = gap room;
      after = after;
      chunks = parts;
      all_free = gap_free room;
      there = omega (arith, exactly_start b, lives_total mid, both, s.from, s.to, is);
      sums = sym (gap_total room);
      front = ap merged parts ∙ lives_keep before mid (staying_keeps before s.whole.in_front) (gap room ++ after);
    }

-- ---- the same chunks in other parts

pub regroup : (before xs ys after : List Chunk) (v f : Chunk) → before ++ (((xs ++ v ∷ ys) ++ f ∷ []) ++ after) ≡ (before ++ (xs ++ v ∷ [])) ++ (ys ++ f ∷ after)
regroup before xs ys after v f =
    ap (λ cs. before ++ cs) (append_assoc (xs ++ v ∷ ys) (f ∷ []) after ∙ append_assoc xs (v ∷ ys) (f ∷ after) ∙ sym (append_assoc xs (v ∷ []) (ys ++ f ∷ after)))
    ∙ sym (append_assoc before (xs ++ v ∷ []) (ys ++ f ∷ after))

regroup_open : (before xs ys after : List Chunk) (v f : Chunk)
    → (before ++ (xs ++ v ∷ [])) ++ f ∷ (ys ++ after) ≡ before ++ ((xs ++ v ∷ f ∷ ys) ++ after)
regroup_open before xs ys after v f =
    append_assoc before (xs ++ v ∷ []) (f ∷ (ys ++ after)) ∙ ap (λ cs. before ++ cs) (append_assoc xs (v ∷ []) (f ∷ (ys ++ after)) ∙ sym (append_assoc xs (v ∷ f ∷ ys) after))

regroup_around : (before xs ys gaps after : List Chunk) (v : Chunk)
    → before ++ (((xs ++ v ∷ ys) ++ gaps) ++ after) ≡ (before ++ xs) ++ v ∷ (ys ++ (gaps ++ after))
regroup_around before xs ys gaps after v =
    ap (λ cs. before ++ cs) (append_assoc (xs ++ v ∷ ys) gaps after ∙ append_assoc xs (v ∷ ys) (gaps ++ after)) ∙ sym (append_assoc before xs (v ∷ (ys ++ (gaps ++ after))))

opened_alike : {before front : List Chunk} (c : Chunk) (back : List Chunk) {after others fore : List Chunk} (d : Chunk) (rear : List Chunk) {later : List Chunk} → before ≡ others → front ≡ fore → c ∷ back ≡ d ∷ rear → after ≡ later → others ++ (opened fore d rear ++ later) ≡ before ++ (opened front c back ++ after)
opened_alike c back d rear e f g k =
    let one : c ≡ d = cc in let rest : back ≡ rear = cc in
    rw (e, f, one, rest, k) refl

-- ---- room is opened in a packed stretch

-- The chunk that was found is one of the stretch; the stretch is packed, with all of its room at
-- its end.
pub record StretchPacked (old mid : List ℕ) (at name count : ℕ) (stretch : Stretch) (room : ℕ) : Type 0 where
  pub accepted : HeapAccepted old
  pub among : IsAmongAt old at name count stretch
  pub packs : Packs old mid stretch.start stretch.end
  pub leaves : LeavesLastRoom old stretch.start stretch.end room

abbrev pub pack_facts : {old : Memory} {mid : List ℕ} {at name count : ℕ} {stretch : Stretch} {room : ℕ} → HoldsHeap old → IsAmongAt old.bytes at name count stretch
    → Packs old.bytes mid stretch.start stretch.end → LeavesLastRoom old.bytes stretch.start stretch.end room → StretchPacked old.bytes mid at name count stretch room
pack_facts heap among packs leaves = record { accepted = heap.accepted; among = among; packs = packs; leaves = leaves }

module _ {old mid : List ℕ} {at name count : ℕ} {stretch : Stretch} {room : ℕ} (p : StretchPacked old mid at name count stretch room) where
  open p use {accepted as h, among as a, packs, leaves}

  abbrev v : Chunk
  v = movable a.bytes 0 a.owner name

  abbrev fore : List Chunk
  fore = lives a.front

  abbrev rear : List Chunk
  rear = lives a.back

  packed_image : BecomesExactly old mid (a.before ++ (packed (a.front ++ v ∷ a.back) ++ a.after))
  packed_image = packs (stretch_run a.is)

  pub packed_frame : SameFrame old mid
  packed_frame = packed_image.frame

  all_room : room ≡ room_of (a.front ++ v ∷ a.back)
  all_room =
      let loose = last_loose 0 (a.front ++ v ∷ a.back) a.is.whole.none_stays in
      omega (arith, leaves (stretch_run a.is), loose)

  room_is : room ≡ room_of (a.front ++ a.back)
  room_is = let middle = room_of-middle a.front v a.back in omega (arith, all_room, middle)

  packed_is : packed (a.front ++ v ∷ a.back) ≡ (fore ++ v ∷ rear) ++ gap room
  packed_is =
      stretch_packed (a.front ++ v ∷ a.back) a.is.whole.none_stays ∙ ap (λ (cs : List Chunk). cs ++ gap (room_of (a.front ++ v ∷ a.back))) (lives-append a.front (v ∷ a.back)) ∙ ap (λ (n : ℕ). (fore ++ v ∷ rear) ++ gap n) (sym all_room)

  pub chunks_then : chunks_of mid ≡ a.before ++ (((fore ++ v ∷ rear) ++ gap room) ++ a.after)
  chunks_then = packed_image.exact ∙ ap (λ (cs : List Chunk). a.before ++ (cs ++ a.after)) packed_is

  heap_then : IsHeap mid ((a.before ++ fore) ++ v ∷ (rear ++ (gap room ++ a.after)))
  heap_then = heap_in_parts _ _ packed_frame.accepted (chunks_then ∙ regroup_around _ _ rear _ _ v)

  pub starts : area_start mid ≡ area_start old
  starts = exactly_start packed_image

  tied_then : IsSlot mid name × (u32_at mid name ≡ area_start mid + total (a.before ++ fore) + 8)
  tied_then =
      (heap_then.tied name (area_start mid + total (a.before ++ fore) + 8) (omega arith)).1
      (AnyPlaced-mid _ _ _ v _ (refl, refl))

  pub slot_then : IsSlot mid name
  slot_then = tied_then.0

  pub place_is : u32_at mid name ≡ stretch.start + total fore + 8
  place_is =
      omega (arith, tied_then.1, a.is.from, total-append a.before fore, starts)

  pub ends : stretch.end ≡ stretch.start + total fore + need (length a.bytes) + total rear + room
  ends =
      let parts = ap total (lives-append a.front (v ∷ a.back)) ∙ total-append fore (v ∷ rear) in
      omega (arith, a.is.to, lives_total (a.front ++ v ∷ a.back), parts, all_room)

  inside : stretch.end ≤ length old
  inside =
      let heap = heap_in_parts _ _ h a.is.whole.chunks in
      let one = SpelledAll-split old (area_start old) a.before _ (length old) heap.tiles.area in
      let two = SpelledAll-split old _ (a.front ++ v ∷ a.back) a.after (length old) one.1 in
      let last = SpelledAll-end old _ a.after (length old) two.1 in
      omega (arith, a.is.from, a.is.to, last)

  -- what is worked out fits
  pub record OpenNumbers : Type 0 where
    pub behind_header : 8 ≤ u32_at mid name
    pub inside : u32_at mid name - 8 + need count ≤ stretch.end
    pub within : room ≤ stretch.end
    pub most : stretch.end ≤ 16777208
    pub from : stretch.start ≤ u32_at mid name - 8

  pub numbers : OpenNumbers
  numbers =
      record { behind_header = omega (arith, place_is); inside = omega (arith, place_is, ends, ap need a.many); within = omega (arith, ends); most = omega (arith, inside, h.1.tiles.head.most); from = omega (arith, place_is) }

  abbrev pub room_behind : (start : ℕ) → 0 < room → start ≡ u32_at mid name - 8 + need count
      → HasFreeBehind mid start (stretch.end - room) room
  room_behind start some start_is =
      let many = ap need a.many in let one = total-append a.before (fore ++ v ∷ []) in
      let two = total-append fore (v ∷ []) in record {
        before = a.before ++ (fore ++ v ∷ []);
        mid = rear;
        after = a.after;
        chunks = chunks_then ∙ ap (λ (g : List Chunk). a.before ++ (((fore ++ v ∷ rear) ++ g) ++ a.after)) (gap_some room some) ∙ regroup a.before fore rear a.after v (free room);
        live = lives_twice a.back;
        loose = loose_lives a.back ((none_stays-append a.front _).0 a.is.whole.none_stays).1;
        from = omega (arith, start_is, place_is, one, two, starts, a.is.from, many);
        to = omega (arith, start_is, place_is, ends, many);
      }

  -- so it is with any parts
  pub record OpensRoom (new : List ℕ) : Type 0 where
    pub opened_behind : OpensBehind old new at
    pub exact : OpensExactly old new at
    pub frame : SameFrame old new
    pub plain : WritesPlain old new

  whole_opened : (new : List ℕ)
      → BecomesExactly old new (a.before ++ (opened a.front v a.back ++ a.after)) → OpensRoom new
  whole_opened new b = record {
    opened_behind = λ before front bytes owner slot back after whole there. rw (parts before front bytes owner slot back after whole there) at (exactly_becomes b);
    exact = λ before front bytes owner slot back after whole there. b.exact ∙ parts before front bytes owner slot back after whole there;
    frame = b.frame;
    plain = b.plain;
  } where
    parts : (before front : List Chunk) (bytes : List ℕ) (owner slot : ℕ) (back after : List Chunk) → WholeStretch old before (front ++ movable bytes 0 owner slot ∷ back) after → at ≡ area_start old + total before + total front
        → a.before ++ (opened a.front v a.back ++ a.after) ≡ before ++ (opened front (movable bytes 0 owner slot) back ++ after)
    parts before front bytes owner slot back after whole there =
        let alike = one_stretch _ _ _ _ back _ _ _ v _ _ _ h whole there a.is.whole a.there in
        opened_alike _ back v _ alike.in_front alike.first_part alike.rest alike.behind

  pub opened_some : (new : List ℕ) → 0 < room → BecomesExactly mid new ((a.before ++ (fore ++ v ∷ [])) ++ free room ∷ (rear ++ a.after)) → OpensRoom new
  opened_some new some b =
      let g : free room ∷ [] ≡ gap (room_of (a.front ++ a.back)) = sym (gap_some room some) ∙ ap gap room_is in
      let e : (a.before ++ (fore ++ v ∷ [])) ++ free room ∷ (rear ++ a.after) ≡ a.before ++ (opened a.front v a.back ++ a.after) =
      regroup_open _ fore rear _ v _ ∙ ap (λ (cs : List Chunk). a.before ++ ((fore ++ v ∷ (cs ++ rear)) ++ a.after)) g in
      whole_opened new (exactly_then packed_image (rw e at b))

  pub opened_none : room ≡ 0 → OpensRoom mid
  opened_none none =
      let g : [] ≡ gap (room_of (a.front ++ a.back)) = sym (gap_none (sym room_is ∙ none)) in
      let e : packed (a.front ++ v ∷ a.back) ≡ opened a.front v a.back =
      packed_is ∙ ap (λ (cs : List Chunk). (fore ++ v ∷ rear) ++ cs) (gap_none none)
      ∙ append-nil (fore ++ v ∷ rear) ∙ ap (λ (cs : List Chunk). fore ++ v ∷ (cs ++ rear)) g in
      whole_opened mid (rw e at packed_image)
