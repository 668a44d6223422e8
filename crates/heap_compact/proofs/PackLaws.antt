-- Packing one more chunk keeps what is known while a run is packed.
use Rattle.heap_compact.proofs.Words.{inl, inr, cond, ◌≡◌, ℕ, zero, suc, ◌+◌, ◌-◌, ◌^◌, ◌<◌, ◌≤◌, List, [], ◌∷◌, ◌++◌, length, refl, sym, ap, subst, ◌∙◌, append_assoc, arith, ◌==◌, ◌⊎◌, IsSome, append-nil, u32_bytes, overwritten, Chunk, free, movable, fixed, need, size_of, total, Spelled, area_start, HeapAccepted, chunks_of, packed_behind, packed, moved_behind, moved_by_packing, gap, header_of, size_by, HasHeader, IsWritableHeader, Header, Memory, Misses, HoldsHeap, NoneStays, BecomesExactly, IsRun, Packs, last_room, packed_one, room_after, moved_one, HeaderStays, slot_by, IsBehindRoom, PackedOne, PacksOne, IsDroppable, MovesDown, Packing, PacksUpTo, KeepsFree, IsFreeChunk, SameChunks, Before, total-append, Spelled-size, SpelledAll-split, SpelledAll-end, cases_eq, header_misses, loose_misses, part_misses, heap_in_parts, gap_total, size_by-header_of, free_header}
use Rattle.std.specs.Prelude.{Some}
use Rattle.laws_heap.proofs.Accepted.{heap_of_read}
use Rattle.laws_heap.proofs.Tests.{cond-false}
use Rattle.std.proofs.lemmas.Bool.Decides.{nat_tests}
use Rattle.chunk_format.specs.declared.header.Header.TheVariants as headers
use Rattle.heap_compact.proofs.MendLaws.{header_there}
use Rattle.heap_compact.proofs.ExactLaws.{exactly_itself, exactly_then, exactly_start, exactly_linked}
use Rattle.heap_compact.proofs.DropLaws.{JoinFacts, gap_some, gap_none, join_facts, joined}

-- ---- by the kind of a chunk

-- the header is not a free chunk's
abbrev IsNotFree : Header → Type 0
IsNotFree header = (n : ℕ) → header ≡ headers.Free n → ⊥

moved_some : (room size : ℕ) → 0 < room → cond {A = ℕ} (room == 0) 0 size ≡ size
moved_some room size some = cond-false (room == 0) _ _ (grind (arith, nat_tests))

moved_none : {room : ℕ} (size : ℕ) → room ≡ 0 → cond {A = ℕ} (room == 0) 0 size ≡ 0
moved_none size none = ap (λ (k : ℕ). cond {A = ℕ} (k == 0) 0 size) none

loose_named : (c : Chunk) {slot : ℕ} → (HeaderStays (header_of c) → ⊥) → slot_by (header_of c) ≡ Some slot → (bytes : List ℕ) × (owner : ℕ) × (c ≡ movable bytes 0 owner slot)
loose_named (free n) goes e = absurd cc
loose_named (movable bytes zero owner named) {slot} goes e =
    let same : named ≡ slot = cc in (bytes, owner, ap (λ n. movable bytes 0 owner n) same)
loose_named (movable bytes (suc count) owner named) goes e = absurd (goes (omega arith))
loose_named (fixed bytes owner) goes e = absurd (goes tt)

some_slot : (header : Header) → IsSome (slot_by header) → (slot : ℕ) × (slot_by header ≡ Some slot)
some_slot (headers.Free size) some = absurd cc
some_slot (headers.Movable length lock owner slot) some = (slot, refl)
some_slot (headers.Fixed length owner) some = absurd cc

-- a chunk that doesn't stay and isn't free names a slot
pub slot_there : (header : Header) → IsNotFree header → (HeaderStays header → ⊥)
    → IsSome (slot_by header)
slot_there (headers.Free size) isnt goes = absurd (isnt size refl)
slot_there (headers.Movable length lock owner slot) isnt goes = refl
slot_there (headers.Fixed length owner) isnt goes = absurd (goes tt)

staying_one : (c : Chunk) {header : Header} → header ≡ header_of c → HeaderStays header → (room : ℕ)
    → (packed_one room c ≡ gap room ++ c ∷ []) × ((moved_one room c ≡ 0) × (room_after room c ≡ 0))
staying_one (free n) e stay room = absurd (subst HeaderStays e stay)
staying_one (movable bytes zero owner slot) e stay room = let k = subst HeaderStays e stay in absurd (omega (arith, k))
staying_one (movable bytes (suc count) owner slot) e stay room = (refl, (refl, refl))
staying_one (fixed bytes owner) e stay room = (refl, (refl, refl))

-- ---- the chunk after a room

-- it is packed, once its kind is known
packed_as : {old new : List ℕ} {at room : ℕ} (b : IsBehindRoom old at room) (c : Chunk) {size moved room_then : ℕ} → b.chunk ≡ c → BecomesExactly old new (b.before ++ (packed_one room c ++ b.after)) → size ≡ size_of c → moved ≡ moved_one room c → room_then ≡ room_after room c → PackedOne b new size moved room_then
packed_as {room} b c e becomes size_is moved_is room_is = record {
  becomes = rw (← e) at becomes;
  size_is = size_is ∙ ap size_of (sym e);
  moved_is = moved_is ∙ ap (moved_one room) (sym e);
  room_is = room_is ∙ ap (room_after room) (sym e);
}

module _ {old : List ℕ} {at room : ℕ} (h : HeapAccepted old) (b : IsBehindRoom old at room) where
  pub behind_spelled : Spelled old at b.chunk
  behind_spelled =
      let heap = heap_in_parts _ _ h b.chunks in
      let one = SpelledAll-split old (area_start old) b.before _ (length old) heap.tiles.area in
      let two = SpelledAll-split old _ (gap room) (b.chunk ∷ b.after) (length old) one.1 in
      subst (λ (n : ℕ). Spelled old n b.chunk) (omega (arith, b.there, gap_total room)) two.1.0

  behind_header : {header : Header} → HasHeader old at header → header ≡ header_of b.chunk
  behind_header found = header_there b.chunk behind_spelled found

  -- the chunks, once its kind is known
  pub with_chunk : (d : Chunk) → b.chunk ≡ d → chunks_of old ≡ b.before ++ (gap room ++ d ∷ b.after)
  with_chunk d is = b.chunks ∙ ap (λ (x : Chunk). b.before ++ (gap room ++ x ∷ b.after)) is

  -- ---- a free one

  module _ {n size : ℕ} (found : HasHeader old at (headers.Free n)) (e : size ≡ n) where
    is_free : b.chunk ≡ free size
    is_free = free_header n b.chunk (behind_header found) ∙ ap free (sym e)

    joins : JoinFacts old b.before size b.after at room (at - room)
    joins = join_facts _ size _ room _ h (with_chunk _ is_free) b.there refl

    pub join_writable : IsWritableHeader (at - room) (headers.Free (room + size))
    join_writable =
        let f = joins in let least : 8 ≤ size = f.is_free.header_fits in
        (omega (arith, least), omega (arith, f.middle.whole, f.sizes), omega (arith, f.middle.inside, f.middle.most, f.sizes))

    module _ {new : List ℕ} (is : new ≡ overwritten old (at - room) (u32_bytes (2 ^ 31 + (room + size)))) (written : HasHeader new (at - room) (headers.Free (room + size))) where
      pub packed_free : PackedOne b new size 0 (room + size)
      packed_free = packed_as b (free size) is_free (joined joins is written).0 refl refl refl

      pub free_keeps : KeepsFree (Before (at - room)) old new
      free_keeps = (joined joins is written).1

  -- ---- one that names a slot and has no lock

  module _ {header : _} {slot size : ℕ} (found : HasHeader old at header) (goes : HeaderStays header → ⊥) (names : slot_by header ≡ Some slot) (size_is : size ≡ size_by header) where
    pub loose : (bytes : List ℕ) × (owner : ℕ) × (b.chunk ≡ movable bytes 0 owner slot)
    loose = let e = behind_header found in loose_named _ (rw e at goes) (sym (ap slot_by e) ∙ names)

    abbrev v : Chunk
    v = movable loose.0 0 loose.1 slot

    pub takes : size ≡ size_of v
    takes = size_is ∙ ap size_by (behind_header found ∙ ap header_of loose.2)

    abbrev pub droppable : 0 < room → IsDroppable old at room size slot
    droppable some = record {
      before = b.before;
      bytes = loose.0;
      owner = loose.1;
      after = b.after;
      chunks = with_chunk v loose.2 ∙ ap (λ (g : List Chunk). b.before ++ (g ++ v ∷ b.after)) (gap_some room some);
      there = b.there;
      takes = takes;
    }

    pub packed_movable : {new : List ℕ} → 0 < room → MovesDown old new at room size slot
        → PackedOne b new size size room
    packed_movable {new} some down =
        packed_as b v loose.2 (subst (λ (g : List Chunk). BecomesExactly old new (b.before ++ v ∷ (g ++ b.after))) (sym (gap_some room some)) (down (droppable some)))
        takes (takes ∙ sym (moved_some room (size_of v) some)) refl

  -- ---- one that stays where it is

  -- it may not move
  staying : {header : Header} {size : ℕ} → HasHeader old at header → HeaderStays header
      → size ≡ size_by header → PackedOne b old size 0 0
  staying found stay size_is =
      let e = behind_header found in let s = staying_one b.chunk e stay room in
      let chunks = b.chunks ∙ ap (λ (cs : List Chunk). b.before ++ cs) (sym (append_assoc (gap room) (b.chunk ∷ []) b.after)) ∙ ap (λ (cs : List Chunk). b.before ++ (cs ++ b.after)) (sym s.0) in
      packed_as b b.chunk refl (exactly_itself h chunks) (size_is ∙ ap size_by e ∙ size_by-header_of b.chunk) (sym s.1.0) (sym s.1.1)

  -- it has no room in front of it
  without_room : {header : Header} {size : ℕ} → HasHeader old at header → IsNotFree header
      → (HeaderStays header → ⊥) → size ≡ size_by header → room ≡ 0 → PackedOne b old size 0 0
  without_room {header} found isnt goes size_is none =
      let named = some_slot header (slot_there header isnt goes) in
      let l = loose found goes named.1 size_is in let w : Chunk = movable l.0 0 l.1 named.0 in
      let g = gap_none none in
      let chunks = with_chunk w l.2 ∙ ap (λ (k : List Chunk). b.before ++ (k ++ w ∷ b.after)) g
      ∙ ap (λ (k : List Chunk). b.before ++ w ∷ (k ++ b.after)) (sym g) in
      packed_as b w l.2 (exactly_itself h chunks) (takes found goes named.1 size_is) (sym (moved_none _ none)) (sym none)

  pub packed_kept : {header : Header} {size : ℕ} → HasHeader old at header → IsNotFree header
      → size ≡ size_by header
      → HeaderStays header ⊎ ((HeaderStays header → ⊥) × (room ≡ 0)) → PackedOne b old size 0 0
  packed_kept found isnt size_is why = elim why [
    | inl stay ↦ staying found stay size_is
    | inr none ↦ without_room found isnt none.0 size_is none.1
  ]

-- the room in front of it
pub room_in_front : {image : List ℕ} {at room : ℕ} → IsBehindRoom image at room
    → (room ≤ at) × (0 < room → IsFreeChunk image (at - room) room)
room_in_front {room} b =
    let there = b.there in (
      omega (arith, there),
      λ some. record { before = b.before; after = _ ∷ b.after; chunks = b.chunks ∙ ap (λ g. b.before ++ (g ++ b.chunk ∷ b.after)) (gap_some room some); there = omega (arith, there) },
    )

-- and then links were written
pub kept_linked : {old mid new : List ℕ} {at room : ℕ} {b : IsBehindRoom old at room} {size moved room_then : ℕ} → PackedOne b mid size moved room_then → SameChunks mid new → PackedOne b new size moved room_then
kept_linked p s =
    record { becomes = exactly_linked p.becomes s; size_is = p.size_is; moved_is = p.moved_is; room_is = p.room_is }

-- ---- all of them

pub packing_start : {old : List ℕ} (start end : ℕ) → HeapAccepted old
    → PacksUpTo old old start end start 0 0
packing_start start end h = λ run.
    record { done = []; rest = _; becomes = exactly_itself h run.chunks; packs = refl; there = omega arith; ends = run.to; moved_is = omega arith; room_is = refl }

-- after a chunk that is packed: what is packed and what is left of the chunks
record Behind {old : List ℕ} {start end : ℕ} (run : IsRun old start end) (new : List ℕ) (at moved room : ℕ) (done : List Chunk) (c : Chunk) (rest : List Chunk) (size more room_then : ℕ) : Type 0 where
  pub becomes : BecomesExactly old new (run.before ++ (done ++ (packed_one room c ++ (rest ++ run.after))))
  pub packs : done ++ packed_behind room (c ∷ rest) ≡ packed run.mid
  pub there : at ≡ start + total done + room
  pub ends : end ≡ at + total (c ∷ rest)
  pub sum : moved + moved_behind room (c ∷ rest) ≡ moved_by_packing run.mid
  pub rooms : last_room room (c ∷ rest) ≡ last_room 0 run.mid
  pub size_is : size ≡ size_of c
  pub moved_is : more ≡ moved_one room c
  pub room_is : room_then ≡ room_after room c

module _ {old : List ℕ} {start end : ℕ} {run : IsRun old start end} {new : List ℕ} {at moved room : ℕ} {done : List Chunk} where
  -- it stays
  stayed : {c : Chunk} {rest : List Chunk} {size more room_then : ℕ}
      → Behind run new at moved room done c rest size more room_then
      → packed_one room c ≡ gap room ++ c ∷ [] → packed_behind room (c ∷ rest) ≡ gap room ++ c ∷ packed_behind 0 rest → moved_behind room (c ∷ rest) ≡ moved_behind 0 rest → last_room room (c ∷ rest) ≡ last_room 0 rest → moved_one room c ≡ 0 → room_after room c ≡ 0
      → Packing run new (at + size) (moved + more) room_then
  stayed {c} {rest} {room_then} b one packs moves rooms none_moved none =
      let behind : List Chunk = gap room ++ c ∷ [] in let two = total-append (gap room) (c ∷ []) in
      let no_room : room_then ≡ 0 = b.room_is ∙ none in
      let same = ap (λ (k : ℕ). moved_behind k rest) no_room in
      let left : BecomesExactly old new (run.before ++ (done ++ (behind ++ (gap room_then ++ (rest ++ run.after))))) =
      subst (λ (k : ℕ). BecomesExactly old new (run.before ++ (done ++ (behind ++ (gap k ++ (rest ++ run.after)))))) (sym no_room) (rw one at b.becomes) in
      record {
        done = done ++ behind;
        rest = rest;
        becomes = rw (← (append_assoc done behind (gap room_then ++ (rest ++ run.after)))) at left;
        packs = ap (λ (k : ℕ). (done ++ behind) ++ packed_behind k rest) no_room ∙ append_assoc done _ (packed_behind 0 rest) ∙ ap (λ (cs : List Chunk). done ++ cs) (append_assoc (gap room) (c ∷ []) (packed_behind 0 rest) ∙ sym packs) ∙ b.packs;
        there = omega (arith, b.there, b.size_is, no_room, total-append done behind, two, gap_total room);
        ends = omega (arith, b.ends, b.size_is);
        moved_is = omega (arith, b.sum, moves, b.moved_is, none_moved, same);
        room_is = ap (λ (k : ℕ). last_room k rest) no_room ∙ sym rooms ∙ b.rooms;
      }

  -- one more is packed
  grown : (c : Chunk) {rest : List Chunk} {size more room_then : ℕ} → Behind run new at moved room done c rest size more room_then → Packing run new (at + size) (moved + more) room_then
  grown (free n) {rest} b =
      let same = ap (λ (k : ℕ). moved_behind k rest) b.room_is in record {
        done = done;
        rest = rest;
        becomes = rw (← b.room_is) at b.becomes;
        packs = ap (λ (k : ℕ). done ++ packed_behind k rest) b.room_is ∙ b.packs;
        there = omega (arith, b.there, b.size_is, b.room_is);
        ends = omega (arith, b.ends, b.size_is);
        moved_is = omega (arith, b.sum, b.moved_is, same);
        room_is = ap (λ (k : ℕ). last_room k rest) b.room_is ∙ b.rooms;
      }
  grown (movable bytes zero owner slot) {rest} {room_then} b =
      let v : Chunk = movable bytes 0 owner slot in let same : room_then ≡ room = b.room_is in
      let rest_same = ap (λ (k : ℕ). moved_behind k rest) same in record {
        done = done ++ v ∷ [];
        rest = rest;
        becomes = rw (← (append_assoc done (v ∷ []) (gap room_then ++ (rest ++ run.after)))) at (rw (← same) at b.becomes);
        packs = append_assoc done _ (packed_behind room_then rest) ∙ ap (λ (k : ℕ). done ++ v ∷ packed_behind k rest) same ∙ b.packs;
        there = omega (arith, b.there, b.size_is, same, total-append done (v ∷ []));
        ends = omega (arith, b.ends, b.size_is);
        moved_is = omega (arith, b.sum, b.moved_is, rest_same);
        room_is = ap (λ (k : ℕ). last_room k rest) same ∙ b.rooms;
      }
  grown (movable bytes (suc count) owner slot) b =
      stayed b refl refl refl refl refl refl
  grown (fixed bytes owner) b = stayed b refl refl refl refl refl refl

-- at the end all are packed
pub record AllPacked {old : List ℕ} {start end : ℕ} (run : IsRun old start end) (image : List ℕ) (moved room : ℕ) : Type 0 where
  pub becomes : BecomesExactly old image (run.before ++ (packed run.mid ++ run.after))
  pub moved_is : moved ≡ moved_by_packing run.mid
  pub room_is : room ≡ last_room 0 run.mid

module _ {old image : List ℕ} {start end : ℕ} {run : IsRun old start end} {at moved room : ℕ} (k : Packing run image at moved room) where
  -- the next chunk, after the room
  abbrev next_behind : (c : Chunk) (rest : List Chunk) → k.rest ≡ c ∷ rest
      → IsBehindRoom image at room
  next_behind c rest is = record {
    before = run.before ++ k.done;
    chunk = c;
    after = rest ++ run.after;
    chunks = k.becomes.exact ∙ ap (λ (cs : List Chunk). run.before ++ (k.done ++ (gap room ++ (cs ++ run.after)))) is ∙ sym (append_assoc run.before k.done (gap room ++ c ∷ (rest ++ run.after)));
    there = omega (arith, run.from, total-append run.before k.done, exactly_start k.becomes, k.there);
  }

  one_packed : {new : List ℕ} {size more room_then : ℕ} (rest : List Chunk) → k.rest ≡ rest → at < end → PacksOne image new at room size more room_then → Packing run new (at + size) (moved + more) room_then
  one_packed [] is on p = absurd (omega (arith, k.ends, ap total is, on))
  one_packed {new} (c ∷ rest) is on p =
      let one = p (next_behind c rest is) in
      let e = append_assoc run.before k.done (packed_one room c ++ (rest ++ run.after)) in
      grown c record {
        becomes = exactly_then k.becomes (rw e at one.becomes);
        packs = ap (λ (cs : List Chunk). k.done ++ packed_behind room cs) (sym is) ∙ k.packs;
        there = k.there;
        ends = k.ends ∙ ap (λ (cs : List Chunk). at + total cs) is;
        sum = ap (λ (cs : List Chunk). moved + moved_behind room cs) (sym is) ∙ k.moved_is;
        rooms = ap (last_room room) (sym is) ∙ k.room_is;
        size_is = one.size_is;
        moved_is = one.moved_is;
        room_is = one.room_is;
      }

  next_one : (rest : List Chunk) → k.rest ≡ rest → at < end → IsBehindRoom image at room
  next_one [] is on = absurd (omega (arith, k.ends, ap total is, on))
  next_one (c ∷ rest) is on = next_behind c rest is

  all_packed : (rest : List Chunk) → k.rest ≡ rest → end ≤ at → AllPacked run image moved room
  all_packed [] is past =
      let packs : k.done ++ gap room ≡ packed run.mid = ap (λ (cs : List Chunk). k.done ++ packed_behind room cs) (sym is) ∙ k.packs in
      let e : k.done ++ (gap room ++ run.after) ≡ packed run.mid ++ run.after = sym (append_assoc k.done (gap room) run.after) ∙ ap (λ (cs : List Chunk). cs ++ run.after) packs in
      record {
        becomes = rw e at (rw is at k.becomes);
        moved_is = omega (arith, k.moved_is, ap (moved_behind room) is);
        room_is = ap (last_room room) (sym is) ∙ k.room_is;
      }
  all_packed (c ∷ rest) is past =
      let least = (Spelled-size _ at c (behind_spelled k.becomes.frame.accepted (next_behind c rest is))).0 in
      absurd (omega (arith, k.ends, ap total is, past, least))

-- ---- for the calls

moved_low : (room size : ℕ) → cond {A = ℕ} (room == 0) 0 size ≤ size
moved_low room size = elim (cases_eq room 0) [ inl none ↦ let e = moved_none size none in omega arith | inr some ↦ let e = moved_some room size (omega arith) in omega arith ]

moved_few : (room : ℕ) (cs : List Chunk) → moved_behind room cs ≤ total cs
moved_few room [] = omega arith
moved_few room (free size ∷ cs) = let few = moved_few (room + size) cs in omega arith
moved_few room (movable bytes zero owner slot ∷ cs) =
    let few = moved_few room cs in let low = moved_low room (need (length bytes)) in omega arith
moved_few room (movable bytes (suc count) owner slot ∷ cs) = let few = moved_few 0 cs in omega arith
moved_few room (fixed bytes owner ∷ cs) = let few = moved_few 0 cs in omega arith

-- the walk goes on, and not beyond its end; no more moves than there is
pub record GoesOn (start end at moved size more : ℕ) : Type 0 where
  pub on : 0 < size
  pub within : at + size ≤ end
  pub few : start + (moved + more) ≤ end

module _ {old image : List ℕ} {start end at moved room : ℕ} (w : PacksUpTo old image start end at moved room) where
  pub packing_next : IsRun old start end → at < end → IsBehindRoom image at room
  packing_next run on = next_one (w run) (w run).rest refl on

  pub packing_more : {new : List ℕ} {size more room_then : ℕ} → at < end → PacksOne image new at room size more room_then → PacksUpTo old new start end (at + size) (moved + more) room_then
  packing_more on p run = one_packed (w run) (w run).rest refl on p

  pub packing_on : {new : List ℕ} {size more room_then : ℕ} → IsRun old start end → at < end
      → PacksOne image new at room size more room_then → GoesOn start end at moved size more
  packing_on run on p =
      let b = packing_next run on in
      let least = (Spelled-size _ at _ (behind_spelled (w run).becomes.frame.accepted b)).0 in
      let next = packing_more on p run in let few = moved_few 0 run.mid in
      record { on = omega (arith, least, (p b).size_is); within = omega (arith, next.ends); few = omega (arith, next.moved_is, few, run.to) }

  -- the room after what is packed
  pub room_packed : IsRun old start end
      → (room ≤ at) × (0 < room → IsFreeChunk image (at - room) room)
  room_packed run =
      let k = w run in (
        omega (arith, k.there),
        λ some. record {
          before = run.before ++ k.done;
          after = k.rest ++ run.after;
          chunks = k.becomes.exact ∙ ap (λ (g : List Chunk). run.before ++ (k.done ++ (g ++ (k.rest ++ run.after)))) (gap_some room some) ∙ sym (append_assoc run.before k.done (free room ∷ (k.rest ++ run.after)));
          there = omega (arith, k.there, run.from, total-append run.before k.done, exactly_start k.becomes);
        },
      )

  pub packing_done : end ≤ at → (run : IsRun old start end) → AllPacked run image moved room
  packing_done past run = all_packed (w run) (w run).rest refl past

-- ---- all chunks of an image

abbrev pub run_whole : {old : List ℕ} {start end : ℕ} → HeapAccepted old → start ≡ area_start old
    → end ≡ length old → IsRun old start end
run_whole {old} h from to =
    let heap = heap_of_read _ _ h.1 in
    let last = SpelledAll-end old (area_start old) (chunks_of old) (length old) heap.tiles.area in
    record { before = []; mid = chunks_of old; after = []; chunks = sym (append-nil (chunks_of old)); from = omega (arith, from); to = omega (arith, from, to, last) }

pub compacted : {old new : List ℕ} {start end : ℕ} → HeapAccepted old → start ≡ area_start old
    → end ≡ length old → Packs old new start end → BecomesExactly old new (packed (chunks_of old))
compacted {old} {new} h from to p =
    subst (λ cs. BecomesExactly old new cs) (append-nil (packed (chunks_of old))) (p (run_whole h from to))

-- the header after room misses what is lent
pub behind_misses : {m : Memory} {at room : ℕ} → HoldsHeap m → IsBehindRoom m.bytes at room
    → Misses m.lents at 8
behind_misses {m} {at} {room} h b =
    let t = total-append b.before (gap room) in
    header_misses m _ _ _ at h.accepted h.lent (b.chunks ∙ sym (append_assoc b.before (gap room) (b.chunk ∷ b.after))) (omega (arith, b.there, t, gap_total room))

gap_loose : (room n : ℕ) → NoneStays (gap room ++ free n ∷ [])
gap_loose zero n = tt
gap_loose (suc room) n = tt

pub join_misses : {m : Memory} {at room n : ℕ} → HoldsHeap m → IsBehindRoom m.bytes at room
    → HasHeader m.bytes at (headers.Free n) → Misses m.lents (at - room) 8
join_misses {m} {at} {room} {n} h b found =
    let least : 8 ≤ n = (joins h.accepted b found refl).is_free.header_fits in
    let t = total-append (gap room) (free n ∷ []) in
    let e = with_chunk h.accepted b (free n) (is_free h.accepted b found refl)
    ∙ ap (λ cs. b.before ++ cs) (sym (append_assoc (gap room) (free n ∷ []) b.after)) in
    let lent = loose_misses m _ _ b.after _ h.lent e (omega (arith, b.there)) (gap_loose room n) in
    part_misses m.lents (at - room) _ (at - room) 8 lent (omega arith) (omega (arith, t, least))
