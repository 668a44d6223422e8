-- Rows of slots, one for each table along the chain.
use Rattle.std.proofs.Common.{true, Option, Some, None, max, min, ◌≡◌, ◌≢◌, ℕ, zero, suc, ◌+◌, ◌-◌, ◌*◌, ◌/◌, ◌%◌, ◌^◌, ◌<◌, ◌≤◌, List, [], ◌∷◌, ◌++◌, length, refl, sym, ap, subst, ◌∙◌, arith, append_assoc, length-append, inl, inr}
use Rattle.std.proofs.lemmas.List.{append-nil}
use Rattle.std.proofs.lemmas.Bool.{cases_lt, eqb-true}
use Rattle.std.specs.Prelude.{◌⊎◌, ◌==◌, IfSome, IfNone}
use Rattle.heap_model.specs.Bytes.{u32_at}
use Rattle.heap_model.specs.Chunk.{Chunk, free, movable, fixed, total, IsLive, Spelled}
use Rattle.heap_model.specs.Slots.{Table, Tables, tables_of, table_at, tables_within, slots_in_row, slots_further, slots_of, slots_total, slot_count, first_next, further_tables, area_start, IsSlot, StandsIn, StandsBehind}
use Rattle.heap_model.specs.Space.{free_slots}
use Rattle.heap_model.specs.Placed.{AnyPlaced}
use Rattle.heap_model.specs.Heap.{TableHere, IsChain, Tiles}
use Rattle.laws_heap.proofs.Chunks.{SpelledAll-split}
use Rattle.laws_heap.proofs.Placed.{AnyPlaced-parts}
use Rattle.laws_heap.proofs.Slots.{row_parts, length-slots_in_row, row_slot, stands_split, stands_slot, same_slot, slot_facts}
use Rattle.laws_heap.proofs.SlotNumbers.{slots_few}
use Rattle.laws_heap.proofs.Tables.{ChainStep, chain_step}
use Rattle.laws_heap.proofs.ChainReads.{table_read, chain_read, tables_few}
use Rattle.chunk_format.specs.Header.{HasLive}
use Rattle.master_table.specs.declared.slots.Row.{Row}
use Rattle.master_table.specs.declared.table.EmptySlot.{EmptySlot}
use Rattle.master_table.proofs.CountLaws.{none_free, some_free}
use Rattle.master_table.specs.Table.{IsTiled, IsFirstEmpty, UsedBefore, StartsAt, StartsFurther, EndsAt, EndsFurther, IsLastStart, IsRow, row_start, row_end, tables_from, Behind}

-- ---- the first

pub first_row : (image : List ℕ) (row : Row) → IsTiled image → row.first ≡ 16 → row.count ≡ slot_count image → row.before ≡ 0 → row.next ≡ first_next image → row.place ≡ 0 → IsRow image row
unfolding slots_of further_tables
first_row image row t first count before next place = record {
  front = [];
  parts = ap (λ (n : ℕ). slots_in_row 16 n ++ slots_further (tables_from image (first_next image))) (sym count) ∙ ap (λ (n : ℕ). slots_in_row n row.count ++ slots_further (tables_from image (first_next image))) (sym first) ∙ ap (λ (w : ℕ). slots_in_row row.first row.count ++ slots_further (tables_from image w)) (sym next);
  before = sym before;
  some = let head = t.1.head.some_slot in omega (arith, count, head);
  chain = λ chunks u. subst (λ (w : ℕ). IsChain image chunks w (tables_from image w)) (sym next) u.chain;
  passed = [];
  tables = ap (λ (w : ℕ). tables_from image w) (sym next);
  numbers = omega (arith, before, count);
  start = inl (refl, place, before);
}

-- ---- the numbers of a row

pub row_slots : (image : List ℕ) (row : Row) (k : ℕ) → IsRow image row → k < row.count → StandsBehind image (row.first + 4 * k) (row.before + k)
row_slots image row k r below =
    let more : ℕ = row.count - k - 1 in
    let e : row.count ≡ k + suc more = omega arith in
    let far : List ℕ = slots_further (tables_from image row.next) in
    let slot : ℕ = row.first + 4 * k in
    let parts : slots_in_row row.first row.count ≡ slots_in_row row.first k ++ slot ∷ slots_in_row (slot + 4) more = ap (slots_in_row row.first) e ∙ row_parts row.first k more in
    let many = length-append r.front (slots_in_row row.first k) in
    let row_many = length-slots_in_row row.first k in
    let in_front = r.before in
    record {
      front = r.front ++ slots_in_row row.first k;
      rest = slots_in_row (slot + 4) more ++ far;
      parts = r.parts ∙ ap (λ (xs : List ℕ). r.front ++ (xs ++ far)) parts ∙ ap (λ (xs : List ℕ). r.front ++ xs) (append_assoc (slots_in_row row.first k) (slot ∷ slots_in_row (slot + 4) more) far) ∙ sym (append_assoc r.front (slots_in_row row.first k) (slot ∷ (slots_in_row (slot + 4) more ++ far)));
      before = omega (arith, many, row_many, in_front);
    }

pub row_number : (image : List ℕ) (row : Row) (slot number : ℕ) → IsRow image row → row.first ≤ slot → slot < row.first + 4 * row.count → (slot - row.first) % 4 ≡ 0 → number ≡ row.before + (slot - row.first) / 4 → StandsBehind image slot number
row_number image row slot number r low high whole is =
    let k : ℕ = (slot - row.first) / 4 in
    let there : row.first + 4 * k ≡ slot = omega arith in
    subst (λ (n : ℕ). StandsBehind image slot n) (sym is) (subst (λ (s : ℕ). StandsBehind image s (row.before + k)) there (row_slots image row k r (omega arith)))

pub row_at : (image : List ℕ) (row : Row) (slot number : ℕ) → IsRow image row → row.before ≤ number → number < row.before + row.count → slot ≡ row.first + 4 * (number - row.before) → StandsBehind image slot number
row_at image row slot number r from below is =
    let k : ℕ = number - row.before in
    let e : row.before + k ≡ number = omega arith in
    subst (λ (s : ℕ). StandsBehind image s number) (sym is) (subst (λ (n : ℕ). StandsBehind image (row.first + 4 * k) n) e (row_slots image row k r (omega arith)))

-- a number outside, or between
pub row_none : (row : Row) (slot : ℕ) → (slot < row.first) ⊎ ((row.first + 4 * row.count ≤ slot) ⊎ ((slot - row.first) % 4 ≢ 0)) → StandsIn (slots_in_row row.first row.count) slot → ⊥
row_none row slot out h =
    let r = row_slot row.first row.count slot h in
    let below = r.1 in
    let there = r.2 in
    elim out [ inl low ↦ absurd (omega arith) | inr more ↦ elim more [ inl high ↦ absurd (omega arith) | inr apart ↦ absurd (omega arith) ] ]

-- no word of a row, by the words that its offset is after the first, where that is no less than how many there are
pub row_no_index : (row : Row) (slot bytes index : ℕ) → (row.first ≤ slot → row.first + bytes ≡ slot) → (bytes % 4 ≡ 0 → 4 * index ≡ bytes) → row.count ≤ index → StandsIn (slots_in_row row.first row.count) slot → ⊥
row_no_index row slot bytes index after whole high h =
    let r = row_slot row.first row.count slot h in
    let below = r.1 in
    let there = r.2 in
    let far = after (omega (arith, there)) in
    let is = whole (omega (arith, there, far)) in
    absurd (omega (arith, there, far, is, below, high))

-- they are small
pub record RowBounds (image : List ℕ) (row : Row) : Type 0 where
  pub ends : row.first + 4 * row.count ≤ length image
  pub numbers : row.before + row.count ≤ length image
  pub total : row.before + row.count ≤ slots_total image
  pub small : length image < 2 ^ 24

pub row_bounds : (image : List ℕ) (row : Row) → IsTiled image → IsRow image row → RowBounds image row
row_bounds image row t r =
    let some = r.some in
    let last = row_slots image row (row.count - 1) r (omega (arith, some)) in
    let inside = (slot_facts image t.0 (row.first + 4 * (row.count - 1)) t.1 (stands_slot image (row.first + 4 * (row.count - 1)) (row.before + (row.count - 1)) last)).inside in
    let far : List ℕ = slots_further (tables_from image row.next) in
    let all : slots_total image ≡ length (r.front ++ (slots_in_row row.first row.count ++ far)) = ap length r.parts in
    let one = length-append r.front (slots_in_row row.first row.count ++ far) in
    let two = length-append (slots_in_row row.first row.count) far in
    let many = length-slots_in_row row.first row.count in
    let in_front = r.before in
    let few = slots_few image t.0 t.1 in
    let most = t.1.head.most in
    record { ends = omega (arith, inside, some); numbers = omega (arith, all, one, two, many, in_front, few); total = omega (arith, all, one, two, many, in_front); small = omega (arith, most) }

-- a word of a row, by the words that its offset is after the first
pub row_index : (image : List ℕ) (row : Row) (slot bytes index : ℕ) → IsTiled image → IsRow image row → (row.first ≤ slot → row.first + bytes ≡ slot) → (slot < row.first → row.first + bytes ≡ slot + 2 ^ 32) → (bytes % 4 ≡ 0 → 4 * index ≡ bytes) → (bytes % 4 ≢ 0 → 2 ^ 30 ≤ index) → index < row.count → StandsBehind image slot (row.before + index)
row_index image row slot bytes index t r after wraps whole broken below =
    let b = row_bounds image row t r in
    let ends = b.ends in
    let small = b.small in
    elim (cases_lt 0 (bytes % 4)) [
      | inl part ↦ let many = broken (λ none. absurd (omega (arith, none, part))) in absurd (omega (arith, many, below, ends, small))
      | inr none ↦
          let is = whole (omega (arith, none)) in
          elim (cases_lt slot row.first) [
            | inl low ↦ let far = wraps low in absurd (omega (arith, far, is, below, ends, small))
            | inr high ↦
                let far = after high in
                let there : row.first + 4 * index ≡ slot = omega (arith, far, is) in
                subst (λ (s : ℕ). StandsBehind image s (row.before + index)) there (row_slots image row index r below)
          ]
    ]

pub row_small : (image : List ℕ) (row : Row) → IsTiled image → IsRow image row → row_end row < 2 ^ 32
row_small image row t r = let b = row_bounds image row t r in let numbers = b.numbers in let small = b.small in omega (arith, numbers, small)

-- ---- the slots of tables one after the other

pub slots_append : (ts us : List Table) → slots_further (ts ++ us) ≡ slots_further ts ++ slots_further us
slots_append [] us = refl
slots_append (t ∷ ts) us = ap (λ (xs : List ℕ). slots_in_row (t.place + 4) t.count ++ xs) (slots_append ts us) ∙ sym (append_assoc (slots_in_row (t.place + 4) t.count) (slots_further ts) (slots_further us))

pub slots_pushed : (ts : List Table) (t : Table) → length (slots_further (ts ++ t ∷ [])) ≡ length (slots_further ts) + t.count
slots_pushed ts t =
    let all = ap length (slots_append ts (t ∷ [])) in
    let sums = length-append (slots_further ts) (slots_further (t ∷ [])) in
    let own = ap length (append-nil (slots_in_row (t.place + 4) t.count)) in
    let many = length-slots_in_row (t.place + 4) t.count in
    omega (arith, all, sums, own, many)

one_more : (image : List ℕ) (ts : List Table) (t : Table) (end before count : ℕ) → end ≡ slot_count image + length (slots_further ts) → before ≡ end → count ≡ t.count → before + count ≡ slot_count image + length (slots_further (ts ++ t ∷ []))
one_more image ts t end before count numbers is same = let more = slots_pushed ts t in omega (arith, more, numbers, is, same)

-- ---- the next row

-- a table is at the place that a word `next` leads to
pub record TableStands (image : List ℕ) (next count : ℕ) : Type 0 where
  pub bytes : List ℕ
  pub live : IsLive image (next - 8) bytes 15 0 0
  pub low : 8 ≤ next
  pub long : length bytes ≡ 4 + 4 * count
  pub some : 0 < count
  pub inside : next + 4 ≤ length image

pub table_there : (image : List ℕ) (cs : List Chunk) (table : Table) → Tiles image cs → AnyPlaced (TableHere table) (area_start image) cs → TableStands image table.place table.count
table_there image cs table t h =
    let p = AnyPlaced-parts (TableHere table) (area_start image) cs h in
    by p.chunk (area_start image + total p.before) p.holds (SpelledAll-split image (area_start image) p.before (p.chunk ∷ p.after) (length image) (subst (λ (ds : List Chunk). Tiles image ds) p.parts t).area).1.0 where
      by : (c : Chunk) (at : ℕ) → TableHere table at c → Spelled image at c → TableStands image table.place table.count
      by (free size) at h s = absurd h
      by (movable bytes lock owner slot) at h s = absurd h
      by (fixed bytes owner) at h s =
          let place = h.1 in
          let long = h.2 in
          let e : at ≡ table.place - 8 = omega arith in
          let inside = s.inside in
          record { bytes = bytes; live = subst (λ (n : ℕ). IsLive image n bytes 15 0 0) e (subst (λ (v : ℕ). IsLive image at bytes 15 v 0) h.0 s); low = omega arith; long = long; some = h.3; inside = omega arith }

pub record NextStands (image : List ℕ) (next : ℕ) : Type 0 where
  pub step : (cs : List Chunk) → Tiles image cs → ChainStep image cs next
  pub count : ℕ
  pub is : count ≡ (table_at image next).count
  pub stands : TableStands image next count

pub next_stands : (image : List ℕ) (row : Row) → IsTiled image → IsRow image row → row.next ≢ 0 → NextStands image row.next
next_stands image row t r used =
    let fits = t.1.head.a_chunk_fits in
    let step : (cs : List Chunk) → Tiles image cs → ChainStep image cs row.next = λ cs u. chain_step image cs row.next (let f = u.head.a_chunk_fits in omega (arith, f)) (omega arith) (r.chain cs u) in
    record { step = step; count = (table_at image row.next).count; is = refl; stands = table_there image t.0 (table_at image row.next) t.1 (step t.0 t.1).first }

pub has_live : (image : List ℕ) (next : ℕ) → NextStands image next → HasLive image (next - 8)
has_live image next n = record { bytes = n.stands.bytes; lock = 15; owner = 0; h_offset = 0; is = n.stands.live }

pub row_behind : (image : List ℕ) (row other : Row) → IsTiled image → (r : IsRow image row) → (n : NextStands image row.next) → other.first ≡ row.next + 4 → other.count ≡ n.count → other.before ≡ row.before + row.count → other.next ≡ u32_at image row.next → other.place ≡ row.next → Behind image row other
row_behind image row other t r n first count before next place = record {
  is_row = record {
    front = r.front ++ slots_in_row row.first row.count;
    parts = r.parts ∙ ap (λ (xs : List ℕ). r.front ++ (slots_in_row row.first row.count ++ xs)) tables ∙ sym (append_assoc r.front (slots_in_row row.first row.count) (slots_in_row other.first other.count ++ slots_further (tables_from image other.next)));
    before = let many = length-append r.front (slots_in_row row.first row.count) in let own = length-slots_in_row row.first row.count in let front = r.before in omega (arith, many, own, front, before);
    some = let some = n.stands.some in omega (arith, some, count);
    chain = λ cs u. subst (λ (w : ℕ). IsChain image cs w (tables_from image w)) (sym next) (n.step cs u).chain;
    passed = r.passed ++ table_at image row.next ∷ [];
    tables = next_table ∙ sym (append_assoc r.passed (table_at image row.next ∷ []) (tables_from image other.next));
    numbers = one_more image r.passed (table_at image row.next) (row.before + row.count) other.before other.count r.numbers before (count ∙ n.is);
    start = inr record { front = r.passed; table = table_at image row.next; parts = refl; there = sym place; count = before ∙ r.numbers };
  };
  start = before;
  fewer = let is = ap length (n.step t.0 t.1).is in let same = ap (λ (w : ℕ). length (tables_from image w)) next in omega (arith, is, same);
} where
  next_table : further_tables image ≡ r.passed ++ table_at image row.next ∷ tables_from image other.next
  next_table = r.tables ∙ ap (λ (ts : List Table). r.passed ++ ts) (n.step t.0 t.1).is ∙ ap (λ (w : ℕ). r.passed ++ table_at image row.next ∷ tables_from image w) (sym next)

  tables : slots_further (tables_from image row.next) ≡ slots_in_row other.first other.count ++ slots_further (tables_from image other.next)
  tables =
      ap slots_further (n.step t.0 t.1).is
      ∙ ap (λ (k : ℕ). slots_in_row (row.next + 4) k ++ slots_further (tables_from image (u32_at image row.next))) (sym n.is ∙ sym count)
      ∙ ap (λ (k : ℕ). slots_in_row k other.count ++ slots_further (tables_from image (u32_at image row.next))) (sym first)
      ∙ ap (λ (w : ℕ). slots_in_row other.first other.count ++ slots_further (tables_from image w)) (sym next)

-- ---- a search along the rows

-- a slot is none of those before a row
pub record Searched (image : List ℕ) (row : Row) (slot : ℕ) : Type 0 where
  pub is_row : IsRow image row
  pub none : StandsIn is_row.front slot → ⊥

pub searched_first : (image : List ℕ) (row : Row) (slot : ℕ) → IsTiled image → (r : IsRow image row) → row_start row ≡ 0 → Searched image row slot
searched_first image row slot t r start = record { is_row = r; none = λ h. none r.front (let before = r.before in omega (arith, before, start)) h } where
  none : (xs : List ℕ) → length xs ≡ 0 → StandsIn xs slot → ⊥
  none [] e h = h
  none (x ∷ xs) e h = absurd (omega arith)

same_front : (xs us ys vs : List ℕ) → xs ++ us ≡ ys ++ vs → length xs ≡ length ys → xs ≡ ys
same_front [] us [] vs e len = refl
same_front [] us (y ∷ ys) vs e len = absurd (omega arith)
same_front (x ∷ xs) us [] vs e len = absurd (omega arith)
same_front (x ∷ xs) us (y ∷ ys) vs e len =
    let here : x ≡ y = cc in
    let more : xs ++ us ≡ ys ++ vs = cc in
    let rest = same_front xs us ys vs more (omega arith) in
    cc

pub searched_more : (image : List ℕ) (row other : Row) (slot : ℕ) → (s : Searched image row slot) → (StandsIn (slots_in_row row.first row.count) slot → ⊥) → Behind image row other → Searched image other slot
searched_more image row other slot s none b = record {
  is_row = b.is_row;
  none = λ h.
      let far : List ℕ = slots_further (tables_from image row.next) in
      let long = length-append s.is_row.front (slots_in_row row.first row.count) in
      let own = length-slots_in_row row.first row.count in
      let before = s.is_row.before in
      let there = b.is_row.before in
      let start = b.start in
      let same : b.is_row.front ≡ s.is_row.front ++ slots_in_row row.first row.count =
      same_front b.is_row.front _ (s.is_row.front ++ slots_in_row row.first row.count) far (sym b.is_row.parts ∙ s.is_row.parts ∙ sym (append_assoc s.is_row.front (slots_in_row row.first row.count) far)) (omega (arith, long, own, before, there, start)) in
      elim (stands_split s.is_row.front (slots_in_row row.first row.count) slot (subst (λ (xs : List ℕ). StandsIn xs slot) same h)) [ inl front ↦ s.none front | inr mine ↦ none mine ];
}

-- no table comes from the word 0
none_from : (n : ℕ) (image : List ℕ) → tables_within n image 0 ≡ []
none_from zero image = refl
none_from (suc n) image = refl

-- the last row ends the list
last_parts : (image : List ℕ) (row : Row) → (r : IsRow image row) → row.next ≡ 0 → slots_of image ≡ r.front ++ slots_in_row row.first row.count
last_parts image row r last =
    r.parts ∙ ap (λ (w : ℕ). r.front ++ (slots_in_row row.first row.count ++ slots_further (tables_from image w))) last
    ∙ ap (λ (ts : List Table). r.front ++ (slots_in_row row.first row.count ++ slots_further ts)) (none_from (length image) image) ∙ ap (λ (xs : List ℕ). r.front ++ xs) (append-nil (slots_in_row row.first row.count))

pub last_end : (image : List ℕ) (row : Row) → IsRow image row → row.next ≡ 0 → row_end row ≡ slots_total image
last_end image row r last =
    let all = ap length (last_parts image row r last) in
    let sums = length-append r.front (slots_in_row row.first row.count) in
    let own = length-slots_in_row row.first row.count in
    let before = r.before in
    omega (arith, all, sums, own, before)

pub searched_all : (image : List ℕ) (row : Row) (slot : ℕ) → Searched image row slot → row.next ≡ 0 → (StandsIn (slots_in_row row.first row.count) slot → ⊥) → IsSlot image slot → ⊥
searched_all image row slot s last none is = elim (stands_split s.is_row.front (slots_in_row row.first row.count) slot (subst (λ (xs : List ℕ). StandsIn xs slot) (last_parts image row s.is_row last) is.listed)) [ inl front ↦ s.none front | inr mine ↦ none mine ]

-- the result of the last row
pub last_number : (image : List ℕ) (row : Row) (slot : ℕ) (r : Option ℕ) → Searched image row slot → (row.next == 0) ≡ true → IfNone r (StandsIn (slots_in_row row.first row.count) slot → ⊥) → IfNone r (IsSlot image slot → ⊥)
last_number image row slot None s last none = searched_all image row slot s (eqb-true row.next 0 last) none
last_number image row slot (Some number) s last none = tt

pub last_empty : (image : List ℕ) (row : Row) (from : ℕ) (r : Option EmptySlot) → IsRow image row → (row.next == 0) ≡ true → IfSome r (λ slot. IsFirstEmpty image slot.name.0 slot.before) → IfNone r (UsedBefore image (max from (row_end row))) → (r ≡ None → free_slots image ≡ 0) × (free_slots image ≡ 0 → r ≡ None)
last_empty image row from None is last some none = (λ e. none_free image (max from (row_end row)) (let end = last_end image row is (eqb-true row.next 0 last) in omega arith) none, λ e. refl)
last_empty image row from (Some slot) is last some none = (λ e. absurd cc, λ e. absurd (some_free image slot.name.0 slot.before some.stands some.empty e))

-- ---- a number that is known to be no greater

-- the offset of a slot of the first table, by its number
first_slot : (image : List ℕ) (slot number : ℕ) → IsTiled image → StandsBehind image slot number → number < slot_count image → slot ≡ 16 + 4 * number
first_slot image slot number t s below = same_slot image slot (16 + 4 * number) number s (row_at image row (16 + 4 * number) number (first_row image row t refl refl refl refl refl) (omega arith) (omega arith) (omega arith)) where
  row : Row
  row = record { place = 0; first = 16; count = slot_count image; before = 0; next = first_next image }

pub least_of : (image : List ℕ) (slot number : ℕ) → IsTiled image → StandsBehind image slot number → (least : ℕ) → least ≤ (slot - 16) / 4 → least ≤ slot_count image → least ≤ number
least_of image slot number t s least low most = elim (cases_lt number (slot_count image)) [
  | inl below ↦ (let there = first_slot image slot number t s below in omega arith)
  | inr above ↦ omega arith
]

pub exact_of : (image : List ℕ) (slot number : ℕ) → IsTiled image → StandsBehind image slot number → number < slot_count image → (least : ℕ) → least ≡ min ((slot - 16) / 4) (slot_count image) → least ≡ number
exact_of image slot number t s below least is = let there = first_slot image slot number t s below in omega arith

-- ---- the row of a table that is known

rest_chain : (image : List ℕ) (cs : List Chunk) (next : ℕ) (front : List Table) (table : Table) (rest : List Table) → IsChain image cs next (front ++ table ∷ rest) → IsChain image cs table.place (table ∷ rest)
rest_chain image cs next [] table rest chain = (refl, chain.1, chain.2)
rest_chain image cs next (t ∷ front) table rest chain = rest_chain image cs (u32_at image t.place) front table rest chain.2

few_after : (image : List ℕ) (cs : List Chunk) (front : List Table) (table : Table) (rest : List Table) → Tiles image cs → further_tables image ≡ front ++ table ∷ rest → suc (length rest) ≤ length image
few_after image cs front table rest t parts =
    let few = tables_few image cs t in
    let all = ap length parts in
    let sums = length-append front (table ∷ rest) in
    omega (arith, few, all, sums)

-- it is there, and those after it are the ones that its word `next` leads to
pub record StartStands (image : List ℕ) (place : ℕ) (table : Table) (rest : List Table) : Type 0 where
  pub next : NextStands image place
  pub table_is : table_at image place ≡ table
  pub rest_is : tables_from image (u32_at image place) ≡ rest

pub start_stands : (image : List ℕ) (place before : ℕ) → IsTiled image → (s : StartsFurther image place before) → StartStands image place s.table s.rest
start_stands image place before t s = subst (λ (n : ℕ). StartStands image n s.table s.rest) s.there record {
  next = record { step = step; count = (table_at image s.table.place).count; is = refl; stands = table_there image t.0 (table_at image s.table.place) t.1 (step t.0 t.1).first };
  table_is = read t.0 t.1;
  rest_is = rest_read t.0 t.1;
} where
  chain : (cs : List Chunk) → Tiles image cs → IsChain image cs s.table.place (s.table ∷ s.rest)
  chain cs u = rest_chain image cs (first_next image) s.front s.table s.rest (subst (λ (ts : List Table). IsChain image cs (first_next image) ts) s.parts u.chain)

  read : (cs : List Chunk) → Tiles image cs → table_at image s.table.place ≡ s.table
  read cs u = table_read image s.table (area_start image) cs (length image) u.area (chain cs u).1

  rest_read : (cs : List Chunk) → Tiles image cs → tables_from image (u32_at image s.table.place) ≡ s.rest
  rest_read cs u = let few = few_after image cs s.front s.table s.rest u s.parts in chain_read image cs (length image) (u32_at image s.table.place) (length image) s.rest u.area (chain cs u).2 (omega (arith, few))

  step : (cs : List Chunk) → Tiles image cs → ChainStep image cs s.table.place
  step cs u = record {
    first = subst (λ (x : Table). AnyPlaced (TableHere x) (area_start image) cs) (sym (read cs u)) (chain cs u).1;
    chain = subst (λ (ts : List Table). IsChain image cs (u32_at image s.table.place) ts) (sym (rest_read cs u)) (chain cs u).2;
    is = chain_read image cs (length image) s.table.place (length image) (s.table ∷ s.rest) u.area (chain cs u) (few_after image cs s.front s.table s.rest u s.parts)
        ∙ ap (λ (x : Table). x ∷ s.rest) (sym (read cs u)) ∙ ap (λ (ts : List Table). table_at image s.table.place ∷ ts) (sym (rest_read cs u));
  }

pub start_row : (image : List ℕ) (row : Row) (place before : ℕ) → (s : StartsFurther image place before) → (st : StartStands image place s.table s.rest) → row.place ≡ place → row.first ≡ place + 4 → row.count ≡ st.next.count → row.before ≡ before → row.next ≡ u32_at image place → IsRow image row
unfolding slots_of
start_row image row place before s st place_is first count before_is next = record {
  front = slots_in_row 16 (slot_count image) ++ slots_further s.front;
  parts = ap (λ (ts : List Table). slots_in_row 16 (slot_count image) ++ slots_further ts) s.parts
      ∙ ap (λ (xs : List ℕ). slots_in_row 16 (slot_count image) ++ xs) (slots_append s.front (s.table ∷ s.rest) ∙ ap (λ (xs : List ℕ). slots_further s.front ++ xs) own)
      ∙ sym (append_assoc (slots_in_row 16 (slot_count image)) (slots_further s.front) (slots_in_row row.first row.count ++ slots_further (tables_from image row.next)));
  before = let sums = length-append (slots_in_row 16 (slot_count image)) (slots_further s.front) in let many = length-slots_in_row 16 (slot_count image) in let at = s.count in omega (arith, sums, many, at, before_is);
  some = let some = st.next.stands.some in omega (arith, some, count);
  chain = λ cs u. subst (λ (w : ℕ). IsChain image cs w (tables_from image w)) (sym next) (st.next.step cs u).chain;
  passed = s.front ++ s.table ∷ [];
  tables = s.parts ∙ ap (λ (ts : List Table). s.front ++ s.table ∷ ts) behind ∙ sym (append_assoc s.front (s.table ∷ []) (tables_from image row.next));
  numbers = one_more image s.front s.table before row.before row.count s.count before_is table_count;
  start = inr record { front = s.front; table = s.table; parts = refl; there = s.there ∙ sym place_is; count = before_is ∙ s.count };
} where
  table_count : row.count ≡ s.table.count
  table_count = count ∙ st.next.is ∙ ap (λ (x : Table). x.count) st.table_is

  behind : s.rest ≡ tables_from image row.next
  behind = sym st.rest_is ∙ ap (λ (w : ℕ). tables_from image w) (sym next)

  own : slots_in_row (s.table.place + 4) s.table.count ++ slots_further s.rest ≡ slots_in_row row.first row.count ++ slots_further (tables_from image row.next)
  own =
      ap (λ (k : ℕ). slots_in_row (k + 4) s.table.count ++ slots_further s.rest) s.there
      ∙ ap (λ (k : ℕ). slots_in_row k s.table.count ++ slots_further s.rest) (sym first)
      ∙ ap (λ (k : ℕ). slots_in_row row.first k ++ slots_further s.rest) (sym table_count)
      ∙ ap (λ (ts : List Table). slots_in_row row.first row.count ++ slots_further ts) behind

-- a table that is known and isn't the first
pub further_start : (image : List ℕ) (place before : ℕ) → StartsAt image place before → place ≢ 0 → StartsFurther image place before
further_start image place before s some = elim s [ inl first ↦ absurd (some first.0) | inr further ↦ further ]

pub first_start : (image : List ℕ) (place before : ℕ) → IsTiled image → StartsAt image place before → place ≡ 0 → before ≡ 0
first_start image place before t s none = elim s [ inl first ↦ first.1 | inr further ↦ (let low = (start_stands image place before t further).next.stands.low in absurd (omega (arith, low, none))) ]

-- the start of a row's table
pub row_starts : (image : List ℕ) (row : Row) → IsRow image row → StartsAt image row.place row.before
row_starts image row r = elim r.start [
  | inl first ↦ inl (first.1, first.2)
  | inr e ↦ inr record {
    front = e.front;
    table = e.table;
    rest = tables_from image row.next;
    parts = r.tables ∙ ap (λ (ts : List Table). ts ++ tables_from image row.next) e.parts ∙ append_assoc e.front (e.table ∷ []) (tables_from image row.next);
    there = e.there;
    count = e.count;
  }
]

-- it is the last table's if no word `next` leads on
pub row_ends : (image : List ℕ) (row : Row) → IsRow image row → row.next ≡ 0 → EndsAt image (further_tables image) row.place row.before
row_ends image row r last = subst (λ (ts : List Table). EndsAt image ts row.place row.before) (sym all) r.start where
  all : further_tables image ≡ r.passed
  all = r.tables ∙ ap (λ (w : ℕ). r.passed ++ tables_from image w) last ∙ ap (λ (ts : List Table). r.passed ++ ts) (none_from (length image) image) ∙ append-nil r.passed

-- ---- if the tables are the same, or one more

pub starts_still : (old new : List ℕ) (place before : ℕ) → tables_of new ≡ tables_of old → StartsAt old place before → StartsAt new place before
starts_still old new place before same s = elim s [
  | inl first ↦ inl first
  | inr f ↦ inr record {
    front = f.front;
    table = f.table;
    rest = f.rest;
    parts = ap (λ (t : Tables). t.further) same ∙ f.parts;
    there = f.there;
    count = f.count ∙ ap (λ (t : Tables). t.count + length (slots_further f.front)) (sym same);
  }
]

pub starts_gained : (old new : List ℕ) (more : List Table) (place before : ℕ) → slot_count new ≡ slot_count old → further_tables new ≡ further_tables old ++ more → StartsAt old place before → StartsAt new place before
starts_gained old new more place before count further s = elim s [
  | inl first ↦ inl first
  | inr f ↦ inr record {
    front = f.front;
    table = f.table;
    rest = f.rest ++ more;
    parts = further ∙ ap (λ (ts : List Table). ts ++ more) f.parts ∙ append_assoc f.front (f.table ∷ f.rest) more;
    there = f.there;
    count = f.count ∙ ap (λ (n : ℕ). n + length (slots_further f.front)) (sym count);
  }
]
