-- What a write within some bytes leaves as it was.
use Rattle.laws_heap.proofs.Words.{◌≡◌, ◌≢◌, ℕ, ◌+◌, ◌-◌, ◌≤◌, List, [], ◌∷◌, ◌++◌, length, refl, sym, ap, subst, ◌∙◌, append_assoc, arith, inl, inr, append-nil, ◌⊎◌, u32_at, u32_bytes, overwritten, Chunk, free, movable, size_of, total, SpelledAll, Table, IsSlot, TablesLie, table_end, area_start, AnyPlaced, TableHere, Tiles}
use Rattle.laws_heap.proofs.Frames.{SameBetween, SameBetween-within, SameBetween-then, length-overwritten, overwritten-below, overwritten-above, u32_at-same, length-u32_bytes}
use Rattle.laws_heap.proofs.Chunks.{total-append, SpelledAll-split, SpelledAll-end, SpellsAgain, spells_same}
use Rattle.laws_heap.proofs.Slots.{slot_facts, slots_apart, HoldNoSlots, no_table_here, IsBeside, slot_beside, spells_beside, tiled_table, tables_lie}
use Rattle.laws_heap.proofs.Replacements.{SameHead, Replaces, SameSlots, head_next, head_tables, slot_there, beside_chain}
use Rattle.laws_heap.proofs.Tables.{SameChain, same_further}
use Rattle.laws_heap.proofs.Placed.{AnyPlaced-split}

-- only bytes from one offset up to another were written
pub record WroteWithin (old new : List ℕ) (low high : ℕ) : Type 0 where
  pub len : length new ≡ length old
  pub below : SameBetween 0 low old new
  pub above : SameBetween high (length old) old new

pub wrote_none : (old : List ℕ) (low high : ℕ) → WroteWithin old old low high
wrote_none old low high = record {
  len = refl;
  below = record { same = λ k l h. refl };
  above = record { same = λ k l h. refl };
}

pub wrote_part : (old new : List ℕ) (at : ℕ) (part : List ℕ) → new ≡ overwritten old at part
    → at + length part ≤ length old → WroteWithin old new at (at + length part)
wrote_part old new at part is inside =
    subst (λ image. WroteWithin old image at (at + length part)) (sym is) record {
      len = length-overwritten old at part inside;
      below = overwritten-below old at part inside;
      above = overwritten-above old at part (length old) inside;
    }

pub wrote_word : (old new : List ℕ) (at word : ℕ) → new ≡ overwritten old at (u32_bytes word)
    → at + 4 ≤ length old → WroteWithin old new at (at + 4)
wrote_word old new at word is inside =
    let four = length-u32_bytes word in
    subst (λ n. WroteWithin old new at (at + n)) four (wrote_part old new at _ is (omega arith))

pub wrote_wider : (old new : List ℕ) (low high lower higher : ℕ) → WroteWithin old new low high
    → lower ≤ low → high ≤ higher → WroteWithin old new lower higher
wrote_wider old new low high lower higher w a b = record {
  len = w.len;
  below = SameBetween-within 0 low 0 lower old new w.below (omega arith) (omega arith);
  above = SameBetween-within high _ higher (length old) old new w.above (omega arith) (omega arith);
}

pub wrote_then : (old mid new : List ℕ) (low high : ℕ) → WroteWithin old mid low high
    → WroteWithin mid new low high → WroteWithin old new low high
wrote_then old mid new low high a b = record {
  len = b.len ∙ a.len;
  below = SameBetween-then 0 low old mid new a.below b.below;
  above = SameBetween-then high (length old) old mid new a.above (rw a.len at b.above);
}

-- bytes apart from those are the same
pub wrote_apart : (old new : List ℕ) (low high start end : ℕ) → WroteWithin old new low high
    → (end ≤ low) ⊎ ((high ≤ start) × (end ≤ length old)) → SameBetween start end old new
wrote_apart old new low high start end w apart = elim apart [
  | inl below ↦ SameBetween-within 0 low start end old new w.below (omega arith) below
  | inr above ↦ SameBetween-within high (length old) start end old new w.above above.0 above.1
]

pub wrote_word_apart : (old new : List ℕ) (low high at : ℕ) → WroteWithin old new low high
    → (at + 4 ≤ low) ⊎ ((high ≤ at) × (at + 4 ≤ length old)) → u32_at new at ≡ u32_at old at
wrote_word_apart old new low high at w apart = sym (u32_at-same at old new at (at + 4)
    (wrote_apart old new low high at (at + 4) w apart) (omega arith) (omega arith))

-- ---- writes among the chunks, and to a slot

-- first among the chunks, from one offset up to another, and then the word of a slot
pub record WroteArea (old new : List ℕ) (low high : ℕ) : Type 0 where
  pub mid : List ℕ
  pub slot : ℕ
  pub area : WroteWithin old mid low high
  pub word : WroteWithin mid new slot (slot + 4)
  pub is_slot : (slot ≡ low) ⊎ IsSlot old slot
  pub there : area_start old ≤ low
  pub fits : low + 4 ≤ high

-- chunks next to those that were written are spelled again
area_again : (old new : List ℕ) (front cs back : List Chunk) (at low high : ℕ)
    → Tiles old (front ++ (cs ++ back)) → at ≡ area_start old + total front
    → (w : WroteArea old new low high) → (at + total cs ≤ low) ⊎ (high ≤ at)
    → SpellsAgain old new at cs
area_again old new front cs back at low high t there w apart = by_slot w.is_slot where
  inside : at + total cs ≤ length old
  inside =
      let all = SpelledAll-end old (area_start old) (front ++ (cs ++ back)) (length old) t.area in
      let first = total-append front (cs ++ back) in
      let second = total-append cs back in
      omega arith

  first : SameBetween at (at + total cs) old w.mid
  first = wrote_apart old w.mid low high at (at + total cs) w.area
      (elim apart [ inl below ↦ inl below | inr above ↦ inr (above, inside) ])

  len : length new ≡ length old
  len = w.word.len ∙ w.area.len

  fits : low + 4 ≤ high
  fits = w.fits

  spelled : SpelledAll old at cs (at + total cs)
  spelled =
      let behind = (SpelledAll-split old _ front (cs ++ back) (length old) t.area).1 in
      subst (λ n. SpelledAll old n cs (n + total cs)) (sym there)
      (SpelledAll-split old (area_start old + total front) cs back (length old) behind).0

  second : w.slot ≡ low → SameBetween at (at + total cs) w.mid new
  second is =
      let mid_len = w.area.len in
      let four = fits in
      let end = inside in
      wrote_apart w.mid new w.slot (w.slot + 4) at (at + total cs) w.word
      (elim apart [ inl below ↦ inl (omega arith) | inr above ↦ inr (omega arith, omega arith) ])

  by_slot : (w.slot ≡ low) ⊎ IsSlot old w.slot → SpellsAgain old new at cs
  by_slot (inl is) = spells_same old new at cs
      (SameBetween-then at (at + total cs) old w.mid new first (second is)) len spelled
  by_slot (inr s) =
      let mid_len = w.area.len in
      let end = inside in
      spells_beside old new front cs back at w.slot t there s
      (λ k from to out. first.same k from to ∙ elim out [
        | inl below ↦ w.word.below.same k (omega arith) below
        | inr above ↦ w.word.above.same k above (omega arith)
      ]) len

-- the words before the chunks are as they were, slots aside
pub record HeadWords (old new : List ℕ) : Type 0 where
  pub words : SameBetween 0 16 old new
  pub padding : SameBetween (table_end old) (area_start old) old new

area_words : (old new : List ℕ) (cs : List Chunk) (low high : ℕ) → Tiles old cs
    → WroteArea old new low high → low ≤ length old → HeadWords old new
area_words old new cs low high t w inside = by_slot w.is_slot where
  there : area_start old ≤ low
  there = w.there

  len : length w.mid ≡ length old
  len = w.area.len

  head : (start end : ℕ) → end ≤ area_start old
      → (end ≤ w.slot) ⊎ ((w.slot + 4 ≤ start) × (end ≤ length w.mid))
      → SameBetween start end old new
  head start end before apart = SameBetween-then start end old w.mid new
      (wrote_apart old w.mid low high start end w.area (inl (omega arith)))
      (wrote_apart w.mid new w.slot (w.slot + 4) start end w.word apart)

  by_slot : (w.slot ≡ low) ⊎ IsSlot old w.slot → HeadWords old new
  by_slot (inl is) = record {
    words = head 0 16 (omega arith) (inl (omega arith));
    padding = head (table_end old) (area_start old) (omega arith) (inl (omega arith));
  }
  by_slot (inr s) =
      let facts = slot_facts old cs w.slot t s in
      let low_slot = facts.low in
      record {
        words = head 0 16 (omega arith) (inl (omega arith));
        padding = head (table_end old) (area_start old) (omega arith) (elim facts.in_head [
          | inl first ↦ inr (first, omega arith)
          | inr later ↦ inl (omega arith)
        ]);
      }

pub area_replaces : (old new : List ℕ) (before mid others after : List Chunk) (at : ℕ)
    → Tiles old (before ++ (mid ++ after)) → HoldNoSlots mid → at ≡ area_start old + total before
    → at + total mid ≤ length old → WroteArea old new at (at + total mid)
    → SpelledAll new at others (at + total mid) → Replaces old new before mid others after at
area_replaces old new before mid others after at t none there inside w spelled =
    let front_behind = sym (append_assoc before mid after)
    ∙ ap (λ cs. (before ++ mid) ++ cs) (sym (append-nil after)) in
    let sum = total-append before mid in
    let front = area_again old new [] before (mid ++ after) (area_start old) at (at + total mid) t
    (omega arith) w (inl (omega arith)) in
    let back = area_again old new (before ++ mid) after [] (at + total mid) at (at + total mid)
    (rw front_behind at t) (omega arith) w (inr (omega arith)) in
    let words = area_words old new _ at (at + total mid) t w (omega arith) in
    let len : length new ≡ length old = w.word.len ∙ w.area.len in
    record {
      there = there;
      head = record {
        len = len;
        words = words.words;
        padding = words.padding;
        further = same_further old new (before ++ (mid ++ after)) t len
            (head_next old new words.words words.padding)
            (beside_chain old new before mid after at there t.area none front back);
      };
      front = front;
      back = back;
      none = none;
      spelled = spelled;
    }

-- ---- writes within chunks that are no tables, whatever is spelled there now

-- where a table among chunks that are spelled has its words
table_inside : (image : List ℕ) (at end : ℕ) (table : Table) (cs : List Chunk)
    → AnyPlaced (TableHere table) at cs → SpelledAll image at cs end
    → (at + 8 ≤ table.place) × (table.place + 4 ≤ end)
table_inside image at end table [] t s = absurd t
table_inside image at end table (c ∷ cs) t s =
    let ends = SpelledAll-end image (at + size_of c) cs end s.1 in
    elim t [
      | inl own ↦ by c own ends
      | inr later ↦
          let r = table_inside image (at + size_of c) end table cs later s.1 in let low = r.0 in
          (omega arith, r.1)
    ] where
      by : (d : Chunk) → TableHere table at d → end ≡ at + size_of d + total cs
          → (at + 8 ≤ table.place) × (table.place + 4 ≤ end)
      by (free size) own e = absurd own
      by (movable bytes lock owner named) own e = absurd own
      by _ own e = let place = own.1 in let len = own.2 in (omega arith, omega arith)

pub wrote_chain : (old new : List ℕ) (before mid after : List Chunk) (at : ℕ)
    → Tiles old (before ++ (mid ++ after)) → HoldNoSlots mid → at ≡ area_start old + total before
    → WroteWithin old new at (at + total mid) → SameChain old new (before ++ (mid ++ after))
wrote_chain old new before mid after at t none there w table g =
    let start : ℕ = area_start old in
    let first = SpelledAll-split old start before (mid ++ after) (length old) t.area in
    let second = SpelledAll-split old (start + total before) mid after (length old) first.1 in
    elim (AnyPlaced-split (TableHere table) start before (mid ++ after) g) [
      | inl front ↦
          let r = table_inside old start (start + total before) table before front first.0 in
          let low = r.0 in
          let high = r.1 in (
            wrote_word_apart old new at (at + total mid) (table.place - 8) w (inl (omega arith)),
            wrote_word_apart old new at (at + total mid) table.place w (inl (omega arith)),
          )
      | inr rest ↦ elim (AnyPlaced-split (TableHere table) (start + total before) mid after rest) [
        | inl here ↦ absurd (no_table_here table (start + total before) mid none here)
        | inr back ↦
            let r = table_inside old _ (length old) table after back second.1 in
            let low = r.0 in
            let high = r.1 in (
              wrote_word_apart old new at (at + total mid) (table.place - 8) w
                  (inr (omega arith, omega arith)),
              wrote_word_apart old new at (at + total mid) table.place w (inr (omega arith, high)),
            )
      ]
    ]

-- the head is as it was, with all tables
pub wrote_head : (old new : List ℕ) (before mid after : List Chunk) (at : ℕ)
    → Tiles old (before ++ (mid ++ after)) → HoldNoSlots mid → at ≡ area_start old + total before
    → WroteWithin old new at (at + total mid) → SameHead old new
wrote_head old new before mid after at t none there w =
    let words = wrote_apart old new at (at + total mid) 0 16 w (inl (omega arith)) in
    let padding = wrote_apart old new at _ (table_end old) (area_start old) w (inl (omega arith)) in
    record {
      len = w.len;
      words = words;
      padding = padding;
      further =
          same_further old new (before ++ (mid ++ after)) t w.len (head_next old new words padding)
          (wrote_chain old new before mid after at t none there w);
    }

-- so a slot can be written next
pub table_kept : (old new : List ℕ) (before mid after : List Chunk) (at slot : ℕ)
    → Tiles old (before ++ (mid ++ after)) → HoldNoSlots mid → at ≡ area_start old + total before
    → WroteWithin old new at (at + total mid) → IsSlot old slot → TablesLie new × IsSlot new slot
table_kept old new before mid after at slot t none there w s =
    let same = wrote_head old new before mid after at t none there w in (
      tables_lie old new w.len (head_tables old new same)
          (tiled_table old (before ++ (mid ++ after)) t),
      slot_there old new slot same s,
    )

-- ---- what slots hold

-- where only bytes of chunks that hold no slots were written
pub wrote_slot : (old new : List ℕ) (before mid after : List Chunk) (at slot : ℕ)
    → Tiles old (before ++ (mid ++ after)) → HoldNoSlots mid → at ≡ area_start old + total before
    → WroteWithin old new at (at + total mid) → IsSlot old slot → u32_at new slot ≡ u32_at old slot
wrote_slot old new before mid after at slot t none there w s =
    let inside = (slot_facts old (before ++ (mid ++ after)) slot t s).inside in
    wrote_word_apart old new at (at + total mid) slot w (elim (slot_beside old before mid after at
    slot t none there s) [ inl front ↦ inl front | inr back ↦ inr (omega arith, inside) ])

pub wrote_slots : (old new : List ℕ) (before mid after : List Chunk) (at : ℕ)
    → Tiles old (before ++ (mid ++ after)) → HoldNoSlots mid → at ≡ area_start old + total before
    → WroteWithin old new at (at + total mid) → SameSlots old new
wrote_slots old new before mid after at t none there w =
    record { same = λ slot s. wrote_slot old new before mid after at slot t none there w s }

-- and one slot: the words of the others
pub area_slots : (old new : List ℕ) (before mid after : List Chunk) (at slot : ℕ)
    → Tiles old (before ++ (mid ++ after)) → HoldNoSlots mid → at ≡ area_start old + total before
    → (w : WroteArea old new at (at + total mid)) → IsSlot old slot → w.slot ≢ slot
    → u32_at new slot ≡ u32_at old slot
area_slots old new before mid after at slot t none there w s other =
    wrote_word_apart w.mid new w.slot (w.slot + 4) slot w.word (apart w.is_slot)
    ∙ wrote_slot old w.mid before mid after at slot t none there w.area s where
      inside : slot + 4 ≤ length w.mid
      inside =
          let facts = slot_facts old (before ++ (mid ++ after)) slot t s in
          let end = facts.inside in let len = w.area.len in
          omega arith

      apart : ((w.slot ≡ at) ⊎ IsSlot old w.slot)
          → (slot + 4 ≤ w.slot) ⊎ ((w.slot + 4 ≤ slot) × (slot + 4 ≤ length w.mid))
      apart (inl is) = elim (slot_beside old before mid after at slot t none there s) [
        | inl front ↦ inl (omega arith)
        | inr back ↦ inr (let fits = w.fits in omega arith, inside)
      ]
      apart (inr o) =
          elim (slots_apart old (before ++ (mid ++ after)) slot w.slot t s o (λ e. other (sym e))) [
            | inl below ↦ inl below
            | inr above ↦ inr (above, inside)
          ]

-- ---- a slot that is written next to some bytes

-- these are as they were
pub beside_same : (mid new : List ℕ) (slot low high start end : ℕ)
    → WroteWithin mid new slot (slot + 4) → IsBeside slot low high → low ≤ start → end ≤ high
    → end ≤ length mid → SameBetween start end mid new
beside_same mid new slot low high start end w beside from to inside =
    wrote_apart mid new slot (slot + 4) start end w
    (elim beside [ inl front ↦ inr (omega arith, inside) | inr back ↦ inl (omega arith) ])

pub beside_word : (mid new : List ℕ) (slot low high at : ℕ) → WroteWithin mid new slot (slot + 4)
    → IsBeside slot low high → low ≤ at → at + 4 ≤ high → at + 4 ≤ length mid
    → u32_at new at ≡ u32_at mid at
beside_word mid new slot low high at w beside from to inside =
    sym (u32_at-same at mid new at (at + 4) (beside_same mid new slot low high at
    (at + 4) w beside from to inside) (omega arith) (omega arith))
