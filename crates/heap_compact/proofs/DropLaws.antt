-- A movable chunk moves down over the free chunk before it, and a free chunk is joined with it.
use Rattle.heap_compact.proofs.Words.{◌≡◌, ◌≢◌, ℕ, zero, suc, ◌+◌, ◌-◌, ◌^◌, ◌<◌, ◌≤◌, List, [], ◌∷◌, ◌++◌, length, take, drop, refl, sym, ap, subst, ◌∙◌, append_assoc, arith, inl, inr, length-take, length-drop, cases_eq, ◌↔◌, u32_at, u32_bytes, overwritten, Chunk, free, movable, need, size_of, slot_named, total, IsFree, Spelled, SpelledAll, IsSlot, area_start, TablesLie, BodyHere, IsBody, IsHeap, HeapAccepted, chunks_of, gap, HasHeader, Reslots, with_slot_at, BecomesExactly, IsDroppable, MovesDown, KeepsFree, Before, u32_at-written, total-append, Spelled-same, SpelledAll-split, IsBody-low, IsBody-high, AnyPlaced-mid, AnyPlaced-split, AnyPlaced-left, AnyPlaced-right, SlotFacts, slot_facts, free_hold_none, IsBeside, slot_beside, replaced_heap, kept_directory, WroteWithin, wrote_part, wrote_word, wrote_wider, wrote_then, wrote_none, wrote_apart, WroteArea, area_replaces, wrote_slots, area_slots, beside_same, beside_word, table_kept, chunks_of-tiled, free_plain, replaced_plain, Carries, Carries-within, slid_down, heap_in_parts, Middle, middle_of, gap_free, gap_total, has_free, keeps_replaced, outside_apart}
use Rattle.laws_heap.proofs.FreeChunks.{free_replaced}
use Rattle.chunk_format.specs.declared.header.Header.TheVariants as headers
use Rattle.heap_compact.proofs.CarriedLaws.{IsLive-carried_down}
use Rattle.heap_place.proofs.RoomLaws.{free_push}
use Rattle.heap_compact.proofs.ExactLaws.{exactly_heap}

-- ---- a chunk that goes down

-- where it is, and its slot
pub record DropFacts {old : List ℕ} {at room size slot : ℕ} (d : IsDroppable old at room size slot) (to : ℕ) : Type 0 where
  pub accepted : HeapAccepted old
  pub heap : IsHeap old (d.before ++ ((free room ∷ movable d.bytes 0 d.owner slot ∷ []) ++ d.after))
  pub middle : Middle old d.before (free room ∷ movable d.bytes 0 d.owner slot ∷ []) d.after to
  pub to_is : to ≡ area_start old + total d.before
  pub at_is : at ≡ to + room
  pub spelled : Spelled old at (movable d.bytes 0 d.owner slot)
  pub is_free : IsFree old to room
  pub own : IsSlot old slot
  pub held : u32_at old slot ≡ at + 8
  pub facts : SlotFacts old slot
  pub beside : IsBeside slot to (to + total (free room ∷ movable d.bytes 0 d.owner slot ∷ []))
  pub inside : to + room + need (length d.bytes) ≤ length old

pub drop_facts : {old : List ℕ} {at room size slot : ℕ} (to : ℕ) → HeapAccepted old
    → (d : IsDroppable old at room size slot) → to ≡ at - room → DropFacts d to
drop_facts {old} {at} {room} {slot} to h d e =
    let c : Chunk = movable d.bytes 0 d.owner slot in let heap = heap_in_parts _ _ h d.chunks in
    let to_is : to ≡ area_start old + total d.before = omega (arith, d.there, e) in
    let at_is : at ≡ to + room = omega (arith, d.there, e) in
    let m = middle_of _ d.before (free room ∷ c ∷ []) d.after _ heap to_is in
    let here : IsBody (area_start old) (d.before ++ free room ∷ c ∷ d.after) slot (at + 8) =
    AnyPlaced-right _ _ d.before _ (inr (inl (refl, omega (arith, d.there)))) in
    let tied = (heap.tied slot (at + 8) (omega arith)).1 here in record {
      accepted = h;
      heap = heap;
      middle = m;
      to_is = to_is;
      at_is = at_is;
      spelled = subst (λ (n : ℕ). Spelled old n c) (sym at_is) m.spelled.1.0;
      is_free = m.spelled.0;
      own = tied.0;
      held = tied.1;
      facts = slot_facts _ _ _ heap.tiles tied.0;
      beside = slot_beside _ d.before (free room ∷ c ∷ []) d.after _ _ heap.tiles tt to_is tied.0;
      inside = omega (arith, m.inside);
    }

module _ {old : List ℕ} {at room size slot to : ℕ} {d : IsDroppable old at room size slot} (f : DropFacts d to) where
  abbrev c : Chunk
  c = movable d.bytes 0 d.owner slot

  abbrev was : List Chunk
  was = d.before ++ free room ∷ c ∷ d.after

  abbrev is : List Chunk
  is = d.before ++ c ∷ free room ∷ d.after

  abbrev end : ℕ
  end = to + total (free room ∷ c ∷ [])

  -- the ties, where it is down
  module _ (new : List ℕ) (own : u32_at new slot ≡ to + 8) (others : (other : ℕ) → IsSlot old other → other ≢ slot → u32_at new other ≡ u32_at old other) where
    -- what was elsewhere is held by another slot
    elsewhere : (name place : ℕ) → 0 < place → IsBody (area_start old) was name place
        → place ≢ at + 8 → IsSlot old name × (u32_at new name ≡ place)
    elsewhere name place some b apart =
        let s = (f.heap.tied name place some).1 b in
        let isnt : name ≢ slot = λ same. apart (sym s.1 ∙ ap (u32_at old) same ∙ f.held) in
        (s.0, others name s.0 isnt ∙ s.1)

    -- the other chunks are where they were
    still : (name place : ℕ) → name ≢ slot → IsBody (area_start old) was name place
        → IsBody (area_start old) is name place
    still name place isnt b = elim (AnyPlaced-split _ (area_start old) d.before _ b) [
      | inl front ↦ AnyPlaced-left (BodyHere name place) (area_start old) d.before _ front
      | inr rest ↦ elim rest [
        | inl none ↦ absurd none
        | inr more ↦ elim more [
          | inl mine ↦ absurd (isnt (sym mine.0))
          | inr behind ↦
              let e : area_start old + total d.before + room + size_of c ≡ area_start old + total d.before + size_of c + room = omega arith in
              AnyPlaced-right _ (area_start old) d.before _ (inr (inr (rw e at behind)))
        ]
      ]
    ]

    down_ties : (name place : ℕ) → 0 < place
        → ((IsSlot old name × (u32_at new name ≡ place)) ↔ IsBody (area_start old) is name place)
    down_ties name place some = (forth, back) where
      forth : IsSlot old name × (u32_at new name ≡ place) → IsBody (area_start old) is name place
      forth s = elim (cases_eq name slot) [
        | inl same ↦
            AnyPlaced-mid _ _ _ c _ (sym same, omega (arith, f.to_is, own, ap (u32_at new) same, s.1))
        | inr isnt ↦ still name _ isnt ((f.heap.tied name place some).0 (s.0, sym (others name s.0 isnt) ∙ s.1))
      ]

      back : IsBody (area_start old) is name place → IsSlot old name × (u32_at new name ≡ place)
      back b = elim (AnyPlaced-split _ _ _ _ b) [
        | inl front ↦
            let high = IsBody-high (area_start old) d.before name place front in
            elsewhere name _ some (AnyPlaced-left _ _ _ _ front) (λ e. omega (arith, high, f.to_is, f.at_is, e))
        | inr rest ↦ elim rest [
          | inl mine ↦
              (rw mine.0 at f.own, ap (u32_at new) (sym mine.0) ∙ own ∙ omega (arith, f.to_is, mine.1))
          | inr more ↦ elim more [
            | inl none ↦ absurd none
            | inr behind ↦
                let low = IsBody-low _ _ name _ behind in
                let e : area_start old + total d.before + size_of c + room ≡ area_start old + total d.before + room + size_of c = omega arith in
                elsewhere name _ some (AnyPlaced-right _ _ d.before _ (inr (inr (rw e at behind))))
                (λ e. omega (arith, low, f.to_is, f.at_is, e))
          ]
        ]
      ]

  -- its bytes are slid, its header names the slot, and the header of the room after it is written
  module _ {slid head hole : List ℕ} (slid_is : slid ≡ overwritten old to (take (at + size - at) (drop at old))) (head_is : head ≡ with_slot_at slid to slot) (hole_is : hole ≡ overwritten head (to + size) (u32_bytes (2 ^ 31 + room))) where
    least : 8 ≤ room
    least = f.is_free.header_fits

    slid_wrote : WroteWithin old slid to (to + size)
    slid_wrote =
        let part : List ℕ = take (at + size - at) (drop at old) in
        let many : length part ≡ size = simp (length-take, length-drop) (omega (arith, f.inside, d.takes, f.at_is)) in
        subst (λ (n : ℕ). WroteWithin old slid to (to + n)) many (wrote_part old _ to part slid_is (omega (arith, many, f.inside, d.takes)))

    head_wrote : WroteWithin slid head to (to + 8)
    head_wrote =
        let word = wrote_word slid _ (to + 4) _ head_is (omega (arith, f.inside, slid_wrote.len)) in
        wrote_wider _ _ _ _ to (to + 8) word (omega arith) (omega arith)

    hole_wrote : WroteWithin head hole (to + size) (to + size + 4)
    hole_wrote = wrote_word head _ _ _ hole_is (omega (arith, f.inside, d.takes, least, slid_wrote.len, head_wrote.len))

    len : length hole ≡ length old
    len = hole_wrote.len ∙ head_wrote.len ∙ slid_wrote.len

    all_wrote : WroteWithin old hole to end
    all_wrote =
        wrote_then old slid hole to end (wrote_wider _ _ _ _ to end slid_wrote (omega arith) (omega (arith, d.takes)))
        (wrote_then slid head hole to end (wrote_wider _ _ _ _ to end head_wrote (omega arith) (omega arith)) (wrote_wider _ _ _ _ to end hole_wrote (omega arith) (omega (arith, d.takes, least))))

    pub drop_table : TablesLie hole × IsSlot hole slot
    drop_table = table_kept _ _ d.before (free room ∷ c ∷ []) d.after _ _ f.heap.tiles tt f.to_is all_wrote f.own

    -- it is spelled with its slot again
    spelled_down : Reslots slid head to slot → Spelled head to c
    spelled_down reslots =
        let s : Spelled old at c = f.spelled in
        let part : ℕ → List ℕ = λ n. take (n + size - n) (drop n old) in
        let slid_2 : slid ≡ overwritten old to (part (to + room)) = slid_is ∙ ap (λ (n : ℕ). overwritten old to (part n)) f.at_is in
        let down : Carries room to (to + size) slid old = rw (← slid_2) at (slid_down old to room size (omega (arith, f.inside, d.takes))) in
        let carry = Carries-within _ _ _ to _ _ _ down (omega arith) (omega (arith, d.takes)) in
        let live = IsLive-carried_down carry (omega (arith, f.inside, slid_wrote.len)) (rw f.at_is at s.1) in
        reslots d.bytes 0 d.owner (slot_named to s.0) (s.0, live, s.2, s.3, refl)

    dropped : {new : List ℕ} → Reslots slid head to slot → HasHeader hole (to + size) (headers.Free room) → new ≡ overwritten hole slot (u32_bytes (to + 8))
        → BecomesExactly old new is × KeepsFree (Before to) old new
    dropped {new} reslots rest new_is =
        let four = wrote_word hole _ slot (to + 8) new_is (omega (arith, f.facts.inside, len)) in
        let w : WroteArea old new to end = record { mid = hole; slot = slot; area = all_wrote; word = four; is_slot = inr f.own; there = omega (arith, f.to_is); fits = omega arith } in
        let c_hole = Spelled-same head hole to c (wrote_apart _ _ _ _ to (to + size_of c) hole_wrote (inl (omega (arith, d.takes)))) hole_wrote.len (spelled_down reslots) in
        let c_new = Spelled-same hole new to c (beside_same _ _ _ to end to (to + size_of c) four f.beside (omega arith) (omega arith) (omega (arith, f.inside, len))) four.len c_hole in
        let f_hole : IsFree hole (to + size) room = has_free _ _ _ rest in
        let f_new = Spelled-same hole new (to + size) (free room) (beside_same _ _ _ to end (to + size) (to + size + room) four f.beside (omega arith) (omega (arith, d.takes)) (omega (arith, f.inside, d.takes, len))) four.len f_hole in
        let spelled : SpelledAll new to (c ∷ free room ∷ []) end = (c_new, (rw d.takes at f_new, omega arith)) in
        let r = area_replaces _ _ d.before (free room ∷ c ∷ [])
        (c ∷ free room ∷ []) d.after _ f.heap.tiles tt f.to_is f.middle.inside w spelled in
        let others : (other : ℕ) → IsSlot old other → other ≢ slot → u32_at new other ≡ u32_at old other =
        λ other o ne. area_slots _ _ d.before (free room ∷ c ∷ []) d.after _ _ f.heap.tiles tt f.to_is w o (λ e. ne (sym e)) in
        let own : u32_at new slot ≡ to + 8 = ap (λ (bs : List ℕ). u32_at bs slot) new_is ∙ u32_at-written (to + 8) slot hole (omega (arith, f.facts.inside, len)) (omega (arith, f.inside, f.middle.most)) in
        let heap : IsHeap new (d.before ++ ((c ∷ free room ∷ []) ++ d.after)) = replaced_heap _ _ _ _ _ _ _ f.heap r record {
          ties = down_ties new own others;
          callers = (tt, (tt, tt));
          directory = kept_directory _ _ _ _ _ _ _ f.heap r (λ m. elim m [ inl none ↦ absurd none | inr more ↦ elim more [ inl mine ↦ inl mine | inr none ↦ absurd none ] ]);
        } in
        let at_hole : u32_at new (to + size) ≡ 2 ^ 31 + room = beside_word _ _ _ to end (to + size) four f.beside (omega arith) (omega (arith, d.takes, least)) (omega (arith, f.inside, d.takes, least, len))
        ∙ ap (λ (bs : List ℕ). u32_at bs (to + size)) hole_is ∙ u32_at-written (2 ^ 31 + room) (to + size) head (omega (arith, f.inside, d.takes, least, slid_wrote.len, head_wrote.len)) (omega (arith, f.inside, f.middle.most)) in
        let plain = replaced_plain _ _ _ _ _ _ _ (chunks_of-tiled _ _ f.heap.tiles) heap r (λ there h. elim h [
          | inl none ↦ absurd none
          | inr more ↦ free_plain new (to + size_of c) room [] (rw d.takes at at_hole) (omega (arith, f.inside, f.middle.most)) (λ there none. absurd none) there more
        ]) in (
          exactly_heap r.head heap plain,
          λ there low b. keeps_replaced _ _ _ _ _ _ _ f.accepted (chunks_of-tiled _ _ f.heap.tiles) heap r there (outside_apart _ d.before (free room ∷ c ∷ []) d.after _ there f.heap f.to_is (inl low)) b,
        )

-- every such chunk goes down
pub all_dropped : {old slid head hole new : List ℕ} {at room size slot : ℕ} → HeapAccepted old → slid ≡ overwritten old (at - room) (take (at + size - at) (drop at old)) → head ≡ with_slot_at slid (at - room) slot → hole ≡ overwritten head (at - room + size) (u32_bytes (2 ^ 31 + room))
    → Reslots slid head (at - room) slot → HasHeader hole (at - room + size) (headers.Free room)
    → new ≡ overwritten hole slot (u32_bytes (at - room + 8))
    → MovesDown old new at room size slot × ((d : IsDroppable old at room size slot) → KeepsFree (Before (at - room)) old new)
all_dropped h slid_is head_is hole_is reslots rest new_is = (
  λ d. (dropped (drop_facts _ h d refl) slid_is head_is hole_is reslots rest new_is).0,
  λ d. (dropped (drop_facts _ h d refl) slid_is head_is hole_is reslots rest new_is).1,
)

-- ---- a free chunk that is joined

pub gap_some : (room : ℕ) → 0 < room → gap room ≡ free room ∷ []
gap_some zero some = absurd (omega arith)
gap_some (suc more) some = refl

pub gap_none : {room : ℕ} → room ≡ 0 → gap room ≡ []
gap_none none = ap gap none

pub record JoinFacts (old : List ℕ) (before : List Chunk) (size : ℕ) (after : List Chunk) (at room to : ℕ) : Type 0 where
  pub accepted : HeapAccepted old
  pub heap : IsHeap old (before ++ ((gap room ++ free size ∷ []) ++ after))
  pub middle : Middle old before (gap room ++ free size ∷ []) after to
  pub sizes : total (gap room ++ free size ∷ []) ≡ room + size
  pub to_is : to ≡ area_start old + total before
  pub is_free : IsFree old at size

pub join_facts : {old : List ℕ} (before : List Chunk) (size : ℕ) (after : List Chunk) {at : ℕ} (room to : ℕ) → HeapAccepted old → chunks_of old ≡ before ++ (gap room ++ free size ∷ after) → at ≡ area_start old + total before + room → to ≡ at - room → JoinFacts old before size after at room to
join_facts {old} before size after {at} room to h chunks there e =
    let heap = heap_in_parts _ _ h (chunks ∙ ap (λ cs. before ++ cs) (sym (append_assoc (gap room) (free size ∷ []) after))) in
    let to_is : to ≡ area_start old + total before = omega (arith, there, e) in
    let m = middle_of _ before (gap room ++ free size ∷ []) after _ heap to_is in
    let a = total-append (gap room) (free size ∷ []) in let b = gap_total room in
    let parts = SpelledAll-split old to (gap room) (free size ∷ []) _ m.spelled in
    let here : to + total (gap room) ≡ at = omega (arith, b, there, e) in
    record { accepted = h; heap = heap; middle = m; sizes = omega (arith, a, b); to_is = to_is; is_free = rw here at parts.1.0 }

pub joined : {old new : List ℕ} {before : List Chunk} {size : ℕ} {after : List Chunk} {at room to : ℕ} → JoinFacts old before size after at room to → new ≡ overwritten old to (u32_bytes (2 ^ 31 + (room + size))) → HasHeader new to (headers.Free (room + size))
    → BecomesExactly old new (before ++ (gap (room + size) ++ after)) × KeepsFree (Before to) old new
joined {old} {new} {before} {size} {after} {room} {to} f is header =
    let mid : List Chunk = gap room ++ free size ∷ [] in
    let least : 8 ≤ size = f.is_free.header_fits in
    let word = wrote_word old _ to (2 ^ 31 + (room + size)) is (omega (arith, f.middle.inside, f.sizes, least)) in
    let all = wrote_wider _ _ _ _ to (to + total mid) word (omega arith) (omega (arith, f.sizes, least)) in
    let w : WroteArea old new to (to + total mid) = record { mid = new; slot = to; area = all; word = wrote_none new to (to + 4); is_slot = inl refl; there = omega (arith, f.to_is); fits = omega (arith, f.sizes, least) } in
    let spelled : SpelledAll new to (free (room + size) ∷ []) (to + total mid) = (has_free _ _ _ header, omega (arith, f.sizes)) in
    let none = free_hold_none mid (free_push (gap room) size (gap_free room)) in
    let r = area_replaces _ _ before mid (free (room + size) ∷ []) after _ f.heap.tiles none f.to_is f.middle.inside w spelled in
    let slots = wrote_slots _ _ before mid after _ f.heap.tiles none f.to_is all in
    let heap = free_replaced _ _ _ _ _ _ _ f.heap r slots (free_push (gap room) size (gap_free room)) tt in
    let g = sym (gap_some (room + size) (omega (arith, least))) in
    let written = ap (λ bs. u32_at bs to) is ∙ u32_at-written (2 ^ 31 + (room + size)) to old (omega (arith, f.middle.inside, f.sizes, least)) (omega (arith, f.middle.inside, f.sizes, f.middle.most)) in
    let plain = replaced_plain _ _ _ _ _ _ _ (chunks_of-tiled _ _ f.heap.tiles) heap r (free_plain new to (room + size) [] written (omega (arith, f.middle.inside, f.sizes, f.middle.most)) (λ there none. absurd none)) in
    let exact = exactly_heap r.head heap plain in
    let was : chunks_of old ≡ before ++ (mid ++ after) = chunks_of-tiled _ _ f.heap.tiles in (
      subst (λ (cs : List Chunk). BecomesExactly old new (before ++ (cs ++ after))) g exact,
      λ there low b. keeps_replaced _ _ _ _ _ _ _ f.accepted was heap r there (outside_apart _ before mid after _ there f.heap f.to_is (inl low)) b,
    )
