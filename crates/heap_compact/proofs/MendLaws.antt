-- Mending one more chunk keeps what is known while chunks are lifted.
use Rattle.heap_compact.proofs.Words.{◌≡◌, ◌≢◌, ℕ, ◌+◌, ◌-◌, ◌%◌, ◌^◌, ◌<◌, ◌≤◌, List, [], ◌∷◌, ◌++◌, length, refl, sym, ap, subst, ◌∙◌, append_assoc, arith, inl, inr, cases_eq, cases_lt, u32_at, u32_bytes, overwritten, Chunk, free, movable, fixed, need, size_of, total, Spelled, IsSlot, TablesLie, area_start, Tiles, BodyHere, IsHeap, header_of, size_by, HasHeader, Reslots, with_slot_at, Header, carried, all_carried, Lift, Lifting, u32_at-written, total-append, Spelled-size, Spelled-same, words_then, Spelled-unique, SpelledAll-split, SlotFacts, slot_facts, IsBeside, slot_beside, slot_alike, start_listed, IsBody-low, IsBody-high, EveryPlaced-split, AnyPlaced-mid, AnyPlaced-split, head_tables, head_slots, same_directory, replaced_tiles, WroteWithin, wrote_word, wrote_wider, WroteArea, area_replaces, area_slots, beside_same, table_kept, total_whole}
use Rattle.chunk_format.specs.declared.header.Header.TheVariants as headers
use Rattle.heap_compact.proofs.CarriedLaws.{carried_total}

-- ---- whose body lies in some bytes

-- a slot that holds a place among the bytes of a chunk holds the place of that chunk
whose : {old : List ℕ} (front : List Chunk) (c : Chunk) (back : List Chunk) {at slot : ℕ} → IsHeap old (front ++ c ∷ back) → at ≡ area_start old + total front → IsSlot old slot → at < u32_at old slot → u32_at old slot ≤ at + size_of c → BodyHere slot (u32_at old slot) at c
whose {old} front c back {slot} h there s low high =
    let place : ℕ = u32_at old slot in let P : ℕ → Chunk → Type 0 = BodyHere slot place in
    elim (AnyPlaced-split P _ _ _ ((h.tied slot place (omega arith)).0 (s, refl))) [
      | inl early ↦ let up = IsBody-high _ front slot place early in absurd (omega (arith, up, low, there))
      | inr rest ↦ elim rest [
        | inl here ↦ subst (λ (n : ℕ). BodyHere slot (u32_at old slot) n c) (sym there) here
        | inr late ↦ let down = IsBody-low _ _ _ _ late in absurd (omega (arith, down, high, there))
      ]
    ]

-- ---- the lists of chunks, with one more that is mended

-- where the next chunk lies in the old heap and in the image
pub record NextOf {gap : ℕ} (u : Lift gap) (image : List ℕ) (done : List Chunk) (c : Chunk) (rest : List Chunk) (at : ℕ) : Type 0 where
  pub was : ℕ
  pub was_is : was ≡ area_start u.old + total (u.before ++ done)
  pub at_is : at ≡ was + gap
  pub start_is : area_start u.old + total u.before ≤ was
  pub heap : IsHeap u.old ((u.before ++ done) ++ c ∷ (rest ++ free gap ∷ u.after))
  pub grown : IsHeap u.old (u.before ++ ((done ++ c ∷ []) ++ (rest ++ free gap ∷ u.after)))
  pub there : at ≡ area_start image + total (u.before ++ free gap ∷ done)
  pub tiles : Tiles image ((u.before ++ free gap ∷ done) ++ carried gap c ∷ (all_carried gap rest ++ u.after))
  pub spelled : Spelled image at (carried gap c)
  pub whole : at % 8 ≡ 0
  pub most : length image ≤ 16777208
  pub starts : area_start image ≡ area_start u.old
  pub inside : at + size_of (carried gap c) ≤ length image
  pub least : 8 ≤ gap

-- the tiles, with a chunk among those that are mended
grown_tiles : {image : List ℕ} (before done : List Chunk) (c : Chunk) (others : List Chunk) (gap : ℕ) → Tiles image ((before ++ free gap ∷ done) ++ c ∷ others) → Tiles image (before ++ free gap ∷ ((done ++ c ∷ []) ++ others))
grown_tiles {image} before done c others gap t =
    subst (λ cs. Tiles image (before ++ free gap ∷ cs)) (sym (append_assoc done _ others))
    (rw (append_assoc before (free gap ∷ done) (c ∷ others)) at t)

module _ {gap : ℕ} {u : Lift gap} {image : List ℕ} {done : List Chunk} {c : Chunk} {rest : List Chunk} {at : ℕ} (l : Lifting u image done (c ∷ rest) at) where
  abbrev others : List Chunk
  others = all_carried gap rest ++ u.after

  abbrev front : List Chunk
  front = u.before ++ free gap ∷ done

  pub next_of : NextOf u image done c rest at
  next_of =
      let both = total-append u.before done in let more = total-append u.before (free gap ∷ done) in
      let starts = start_listed u.old image l.tables in
      let at_is : at ≡ area_start image + total front = omega (arith, l.there, more, starts) in
      let tiles : Tiles image (front ++ carried gap c ∷ others) =
      rw (← (append_assoc u.before (free gap ∷ done) (carried gap c ∷ others))) at l.tiles in
      let parts = SpelledAll-split image (area_start image) front _ (length image) tiles.area in
      let spelled : Spelled image at (carried gap c) = rw (← at_is) at parts.1.0 in
      let units = total_whole image (area_start image) front _ parts.0 in
      let in_front = (SpelledAll-split image _ u.before (free gap ∷ done) _ parts.0).1 in record {
        was = area_start u.old + total (u.before ++ done);
        was_is = refl;
        at_is = omega (arith, l.there, both);
        start_is = omega (arith, both);
        heap = rw (← (append_assoc u.before done (c ∷ (rest ++ free gap ∷ u.after)))) at l.heap;
        grown = rw (← (append_assoc done (c ∷ []) (rest ++ free gap ∷ u.after))) at l.heap;
        there = at_is;
        tiles = tiles;
        spelled = spelled;
        whole = omega (arith, at_is, units);
        most = l.tiles.head.most;
        starts = starts;
        inside = (Spelled-size image at (carried gap c) spelled).1;
        least = in_front.0.header_fits;
      }

  -- the next one is mended then
  grown_there : at + size_of c ≡ area_start u.old + total u.before + gap + total (done ++ c ∷ [])
  grown_there = let more = total-append done (c ∷ []) in omega (arith, l.there, more)

  -- a slot that holds a place among its bytes is its own
  whose_next : (slot : ℕ) → IsSlot u.old slot → at < u32_at u.old slot + gap
      → u32_at u.old slot + gap ≤ at + size_of c → BodyHere slot (u32_at u.old slot) next_of.was c
  whose_next slot s beyond high =
      let n = next_of in
      whose _ c _ n.heap n.was_is s (omega (arith, beyond, n.at_is)) (omega (arith, high, n.at_is))

  -- ---- a chunk that needs no mending

  pub step_kept : carried gap c ≡ c → ((slot place n : ℕ) → BodyHere slot place n c → ⊥)
      → Lifting u image (done ++ c ∷ []) rest (at + size_of c)
  step_kept same no_body = record {
    heap = next_of.grown;
    there = grown_there;
    tiles = grown_tiles u.before done c others gap (rw same at next_of.tiles);
    len = l.len;
    tables = l.tables;
    slots = l.slots;
    directory = l.directory;
    lifted = λ slot s low high. elim (cases_lt at (u32_at u.old slot + gap)) [
      | inl beyond ↦ absurd (no_body slot (u32_at u.old slot) next_of.was (whose_next slot s beyond high))
      | inr within ↦ l.lifted slot s low within
    ];
    kept = λ slot s out. l.kept slot s (elim out [ inl low ↦ inl low | inr beyond ↦ inr (omega (arith, beyond)) ]);
    plain = l.plain;
    front = l.front;
    back = rw (let next : at + total (c ∷ rest) ≡ at + size_of c + total rest = omega arith in next) at l.back;
  }

-- ---- a movable chunk

-- what may be written, and where
pub record Mendable {gap : ℕ} (u : Lift gap) (image : List ℕ) (done : List Chunk) (bytes : List ℕ) (lock owner slot : ℕ) (rest : List Chunk) (at : ℕ) : Type 0 where
  pub next : NextOf u image done (movable bytes lock owner slot) rest at
  pub own : IsSlot u.old slot
  pub held : u32_at u.old slot ≡ next.was + 8
  pub is_slot : IsSlot image slot
  pub facts : SlotFacts image slot
  pub beside : IsBeside slot at (at + need (length bytes))
  pub area : area_start image ≤ at
  pub unwound : (slot + gap) % 2 ^ 25 ≡ slot + gap

module _ {gap : ℕ} {u : Lift gap} {image : List ℕ} {done : List Chunk} {bytes : List ℕ} {lock owner slot : ℕ} {rest : List Chunk} {at : ℕ} (l : Lifting u image done (movable bytes lock owner slot ∷ rest) at) where
  abbrev c : Chunk
  c = movable bytes lock owner slot

  -- its slot, and what it holds
  own_slot : IsSlot u.old slot × (u32_at u.old slot ≡ (next_of l).was + 8)
  own_slot =
      let n = next_of l in let here = AnyPlaced-mid _ _ _ c _ (refl, omega (arith, n.was_is)) in
      (n.heap.tied slot (n.was + 8) (omega arith)).1 here

  mendable : Mendable u image done bytes lock owner slot rest at
  mendable =
      let n = next_of l in let is_slot = slot_alike _ image _ l.slots own_slot.0 in
      let facts = slot_facts _ _ _ n.tiles is_slot in
      let size : at + total (carried gap c ∷ []) ≡ at + need (length bytes) = omega arith in
      record {
        next = n;
        own = own_slot.0;
        held = own_slot.1;
        is_slot = is_slot;
        facts = facts;
        beside = rw size at (slot_beside _ (front l) (carried gap c ∷ []) (others l) _ _ n.tiles tt n.there is_slot);
        area = omega (arith, n.there);
        unwound = omega (arith, facts.inside, n.at_is, n.inside, n.most);
      }

  -- its header names the slot
  module _ {mid : List ℕ} (mid_is : mid ≡ with_slot_at image at slot) where
    head_wrote : WroteWithin image mid at (at + 8)
    head_wrote =
        let word = wrote_word image _ (at + 4) _ mid_is (omega (arith, mendable.next.inside)) in
        wrote_wider _ _ _ _ at (at + 8) word (omega arith) (omega arith)

    -- and leaves the table where it is
    mended_table : TablesLie mid × IsSlot mid slot
    mended_table =
        let wider = wrote_wider _ _ _ _ at (at + total (carried gap c ∷ [])) head_wrote (omega arith) (omega arith) in
        table_kept _ mid (front l) (carried gap c ∷ []) (others l) _ _ mendable.next.tiles tt mendable.next.there wider mendable.is_slot

    step_mended : {new : List ℕ} → Reslots image mid at slot → new ≡ overwritten mid slot (u32_bytes (at + 8)) → Lifting u new (done ++ c ∷ []) rest (at + need (length bytes))
    step_mended {new} reslots new_is =
        let m = mendable in let there = m.next.there in
        let inside : at + need (length bytes) ≤ length image = m.next.inside in
        let word = wrote_word mid _ slot _ new_is (omega (arith, m.facts.inside, head_wrote.len)) in
        let w : WroteArea image new at (at + total (carried gap c ∷ [])) = record {
          mid = mid;
          slot = slot;
          area = wrote_wider _ _ _ _ at _ head_wrote (omega arith) (omega arith);
          word = word;
          is_slot = inr m.is_slot;
          there = m.area;
          fits = omega arith;
        } in
        let spelled_mid : Spelled mid at c = reslots bytes lock owner _ m.next.spelled in
        let spelled_new = Spelled-same mid new at c (beside_same _ _ _ at (at + need (length bytes)) at (at + need (length bytes)) word m.beside (omega arith) (omega arith) (omega (arith, inside, head_wrote.len))) word.len spelled_mid in
        let r = area_replaces _ _ (front l) (carried gap c ∷ []) (c ∷ [])
        (others l) _ m.next.tiles tt there (omega (arith, inside)) w (spelled_new, omega arith) in
        let tiles = replaced_tiles _ _ _ _ _ _ _ m.next.tiles r in
        let slots : (other : ℕ) → IsSlot u.old other → other ≢ slot → u32_at new other ≡ u32_at image other =
        λ other o ne. area_slots _ _ (front l) (carried gap c ∷ []) (others l) _ _ m.next.tiles tt there w (slot_alike _ image _ l.slots o) (λ e. ne (sym e)) in
        let own : u32_at new slot ≡ at + 8 = ap (λ (bs : List ℕ). u32_at bs slot) new_is ∙ u32_at-written (at + 8) slot mid (omega (arith, m.facts.inside, head_wrote.len)) (omega (arith, inside, m.next.most)) in
        let in_front = EveryPlaced-split (λ there d. u32_at new there ≡ u32_at image there)
        (area_start image) u.before (free gap ∷ done) r.front.words in
        let behind = EveryPlaced-split (λ there d. u32_at new there ≡ u32_at image there)
        (at + total (carried gap c ∷ [])) (all_carried gap rest) u.after r.back.words in
        let sizes = carried_total gap rest in
        let was : at + total (c ∷ rest) ≡ at + need (length bytes) + total rest = omega arith in
        let is : at + total (carried gap c ∷ []) + total (all_carried gap rest)
        ≡ at + need (length bytes) + total rest = omega (arith, sizes) in
        record {
          heap = m.next.grown;
          there = grown_there l;
          tiles = grown_tiles u.before done c (others l) gap tiles;
          len = r.head.len ∙ l.len;
          tables = head_tables _ _ r.head ∙ l.tables;
          slots = head_slots _ _ r.head ∙ l.slots;
          directory = same_directory _ _ r.head ∙ l.directory;
          lifted = λ other o low high. elim (cases_eq other slot) [
            | inl is ↦ let e = ap (u32_at u.old) is in ap (u32_at new) is ∙ own ∙ omega (arith, m.held, m.next.at_is, e)
            | inr isnt ↦ slots other o isnt ∙ elim (cases_lt at (u32_at u.old other + gap)) [
              | inl beyond ↦ absurd (isnt (sym (whose_next l other o beyond high).0))
              | inr within ↦ l.lifted other o low within
            ]
          ];
          kept = λ other o out. elim (cases_eq other slot) [
            | inl is ↦ let e = ap (u32_at u.old) is in absurd (elim out [ inl low ↦ omega (arith, low, m.held, m.next.start_is, e) | inr beyond ↦ omega (arith, beyond, m.held, m.next.at_is, e) ])
            | inr isnt ↦ slots other o isnt ∙ l.kept other o (elim out [ inl low ↦ inl low | inr beyond ↦ inr (omega (arith, beyond)) ])
          ];
          plain = subst (λ (k : ℕ). u32_at new (k + total u.before) ≡ u32_at image (k + total u.before)) m.next.starts in_front.1.0 ∙ l.plain;
          front = words_then u.old image new _ u.before l.front (rw m.next.starts at in_front.0);
          back = words_then u.old image new _ u.after (rw was at l.back) (rw is at behind.1);
        }

-- ---- the header that is read

pub header_there : {image : List ℕ} {at : ℕ} (c : Chunk) {h : Header} → Spelled image at c
    → HasHeader image at h → h ≡ header_of c
header_there {image} {at} c s found = found.header_is ∙ ap header_of (Spelled-unique image at found.chunk c found.spelled s)

-- of a movable chunk whose header was read: its slot may be written, and then its place
pub record CanMend (image : List ℕ) (at slot : ℕ) : Type 0 where
  pub low : slot < 2 ^ 24
  pub even : slot % 2 ≡ at % 2
  pub inside : at + 8 ≤ length image
  pub small : length image < 2 ^ 24
  pub is_slot : IsSlot image slot
  pub table : (mid : List ℕ) → mid ≡ with_slot_at image at slot → TablesLie mid × IsSlot mid slot

-- what it takes to mend the chunk: its slot is less far up than its header says
pub record Mends {gap : ℕ} (u : Lift gap) (image : List ℕ) (done : List Chunk) (c : Chunk) (rest : List Chunk) (at size named : ℕ) : Type 0 where
  pub up : gap ≤ named
  pub can : CanMend image at (named - gap)
  pub step : (mid new : List ℕ) → mid ≡ with_slot_at image at (named - gap) → Reslots image mid at (named - gap) → new ≡ overwritten mid (named - gap) (u32_bytes (at + 8)) → Lifting u new (done ++ c ∷ []) rest (at + size)

pub mends : {gap : ℕ} {u : Lift gap} {image : List ℕ} {done : List Chunk} (c : Chunk) {rest : List Chunk} {at size : ℕ} {header : Header} {count lock owner named : ℕ} → Lifting u image done (c ∷ rest) at → HasHeader image at header → size ≡ size_by header → header ≡ headers.Movable count lock owner named → Mends u image done c rest at size named
mends (free n) l found size_is is = let e = header_there (free n) (next_of l).spelled found in absurd cc
mends (fixed bytes v) l found size_is is = let e = header_there (fixed bytes v) (next_of l).spelled found in absurd cc
mends {gap} {u} {image} {done} (movable bytes k v slot) {rest} {at} {size} {named} l found size_is is =
    let m = mendable l in
    let e = header_there (carried gap (movable bytes k v slot)) m.next.spelled found in
    let d : named ≡ (slot + gap) % 2 ^ 25 = cc in let up : named ≡ slot + gap = d ∙ m.unwound in
    let takes : need (length bytes) ≡ size = sym (size_is ∙ ap size_by e) in
    let back : named - gap ≡ slot = omega (arith, up) in record {
      up = omega (arith, up);
      can = subst (λ (n : ℕ). CanMend image at n) (sym back) record {
        low = omega (arith, m.facts.inside, m.next.most);
        even = omega (arith, m.facts.whole, m.next.whole);
        inside = omega (arith, m.next.inside);
        small = omega (arith, m.next.most);
        is_slot = m.is_slot;
        table = λ mid mid_is. mended_table l mid_is;
      };
      step = λ mid new. subst (λ n. mid ≡ with_slot_at image at n → Reslots image mid at n → new ≡ overwritten mid n (u32_bytes (at + 8)) → Lifting u new (done ++ movable bytes k v slot ∷ []) rest (at + size)) (sym back)
          (λ mid_is reslots new_is. rw takes at (step_mended l mid_is reslots new_is));
    }

pub stepped_kept : {gap : ℕ} {u : Lift gap} {image : List ℕ} {done : List Chunk} (c : Chunk) {rest : List Chunk} {at size : ℕ} {header : Header} → Lifting u image done (c ∷ rest) at → HasHeader image at header → size ≡ size_by header → ((count lock owner slot : ℕ) → header ≡ headers.Movable count lock owner slot → ⊥)
    → Lifting u image (done ++ c ∷ []) rest (at + size)
stepped_kept {u} {image} {done} (free more) {rest} {at} l found size_is not_movable =
    let e = header_there (free more) (next_of l).spelled found in
    subst (λ k. Lifting u image (done ++ free more ∷ []) rest (at + k)) (sym (size_is ∙ ap size_by e)) (step_kept l refl (λ slot place n b. b))
stepped_kept {u} {image} {done} (fixed bytes v) {rest} {at} l found size_is not_movable =
    let e = header_there (fixed bytes v) (next_of l).spelled found in
    subst (λ k. Lifting u image (done ++ fixed bytes v ∷ []) rest (at + k))
    (sym (size_is ∙ ap size_by e)) (step_kept l refl (λ slot place n b. b))
stepped_kept {gap} (movable bytes k v slot) l found size_is not_movable =
    let e = header_there (carried gap (movable bytes k v slot)) (next_of l).spelled found in
    absurd (not_movable (length bytes) k v ((slot + gap) % 2 ^ 25) e)
