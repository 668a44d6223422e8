-- A right chain of tables is the one that is read, whatever list it was known by; and its last word
-- `next`.
use Rattle.laws_heap.proofs.Words.{◌≡◌, ℕ, zero, suc, ◌+◌, ◌-◌, ◌*◌, ◌/◌, ◌%◌, ◌^◌, ◌<◌, ◌≤◌, List, [], ◌∷◌, length, refl, sym, ap, subst, ◌∙◌, arith, inl, inr, length-append, ◌⊎◌, u32_at, Chunk, free, movable, fixed, need, size_of, total, body_length, Spelled, SpelledAll, AnyPlaced, Table, table_at, table_then, tables_within, slot_count, slots_in_row, slots_further, slots_of, further_tables, first_next, area_start, TableHere, IsTablePlace, IsChain, Tiles, last_in}
use Rattle.laws_heap.proofs.Chunks.{Spelled-size, SpelledAll-end}
use Rattle.laws_heap.proofs.Slots.{length-slots_in_row}
use Rattle.laws_heap.proofs.SlotNumbers.{some_place, slots_few}

-- ---- where a table's body is

-- among chunks that are spelled from a multiple of 8 on
pub record TableLies (start end place : ℕ) : Type 0 where
  pub low : start + 8 ≤ place
  pub high : place + 8 ≤ end
  pub whole : place % 8 ≡ 0

pub table_lies : (image : List ℕ) (start end : ℕ) (table : Table) (cs : List Chunk)
    → SpelledAll image start cs end → start % 8 ≡ 0 → AnyPlaced (TableHere table) start cs
    → TableLies start end table.place
table_lies image start end table [] s whole t = absurd t
table_lies image start end table (c ∷ cs) s whole t =
    let size = Spelled-size image start c s.0 in
    let eights = size.2 in
    let ends = SpelledAll-end image (start + size_of c) cs end s.1 in
    elim t [
      | inl own ↦ here c own ends
      | inr later ↦
          let rest = table_lies image (start + size_of c) end table cs s.1 (omega arith) later in
          let low = rest.low in
          record { low = omega arith; high = rest.high; whole = rest.whole }
    ] where
      here : (d : Chunk) → TableHere table start d → end ≡ start + size_of d + total cs
          → TableLies start end table.place
      here (free size) own e = absurd own
      here (movable bytes lock owner slot) own e = absurd own
      here (fixed bytes owner) own e =
          let place = own.1 in let len = own.2 in let some = own.3 in
          record { low = omega arith; high = omega arith; whole = omega arith }

pub spelled_whole : (image : List ℕ) (at : ℕ) (cs : List Chunk) (end : ℕ)
    → SpelledAll image at cs end → at % 8 ≡ 0 → end % 8 ≡ 0
spelled_whole image at [] end s whole = subst (λ (n : ℕ). n % 8 ≡ 0) s whole
spelled_whole image at (c ∷ cs) end s whole =
    let size = (Spelled-size image at c s.0).2 in
    spelled_whole image (at + size_of c) cs end s.1 (omega arith)

-- ---- which table is read there

live_length : (n : ℕ) → need n < 2 ^ 24 → body_length ((need n - 8 - n) * 2 ^ 24 + need n) ≡ n
live_length n fits = omega arith

abbrev table_of : ℕ → ℕ → Table
table_of place count = record { place = place; count = count }

read_here : (image : List ℕ) (table : Table) (at : ℕ) (c : Chunk) → Spelled image at c
    → TableHere table at c → table_at image table.place ≡ table
read_here image table at (free size) s t = absurd t
read_here image table at (movable bytes lock owner slot) s t = absurd t
read_here image table at (fixed bytes owner) s t =
    let place = t.1 in
    let len = t.2 in
    let header : table.place - 8 ≡ at = omega arith in
    let many = ap (λ k. body_length (u32_at image k)) header ∙ ap body_length s.first_word
    ∙ live_length (length bytes) s.size_fits in
    let e : (4 + 4 * table.count - 4) / 4 ≡ table.count = omega arith in
    let count = ap (λ n. (n - 4) / 4) (many ∙ len) ∙ e in
    ap (table_of table.place) count

pub table_read : (image : List ℕ) (table : Table) (at : ℕ) (cs : List Chunk) (end : ℕ)
    → SpelledAll image at cs end → AnyPlaced (TableHere table) at cs
    → table_at image table.place ≡ table
table_read image table at [] end s t = absurd t
table_read image table at (c ∷ cs) end s t = elim t [
  | inl own ↦ read_here image table at c s.0 own
  | inr later ↦ table_read image table (at + size_of c) cs end s.1 later
]

-- the chain from a word on is the one that is read
pub chain_read : (image : List ℕ) (cs : List Chunk) (end next n : ℕ) (tables : List Table)
    → SpelledAll image (area_start image) cs end → IsChain image cs next tables → length tables ≤ n
    → tables_within n image next ≡ tables
chain_read image cs end next zero [] s chain most = refl
chain_read image cs end next zero (t ∷ tables) s chain most = absurd (omega arith)
chain_read image cs end next (suc n) [] s chain most =
    ap (λ w. table_then (tables_within n image) image w) chain
chain_read image cs end next (suc n) (t ∷ tables) s chain most =
    let low = some_place image t (area_start image) cs chain.1 in
    let w : ℕ = t.place - 1 in
    let some : t.place ≡ suc w = omega arith in
    ap (λ (p : ℕ). table_then (tables_within n image) image p) (chain.0 ∙ some)
    ∙ ap (λ (p : ℕ). table_at image p ∷ tables_within n image (u32_at image p)) (sym some)
    ∙ ap (λ x. x ∷ tables_within n image (u32_at image t.place)) (table_read _ t _ cs end s chain.1)
    ∙ ap (λ ts. t ∷ ts) (chain_read image cs end (u32_at image t.place) n tables s chain.2
    (omega arith))

-- ---- how many tables there are

each_has_slots : (image : List ℕ) (cs : List Chunk) (next : ℕ) (tables : List Table)
    → IsChain image cs next tables → length tables ≤ length (slots_further tables)
each_has_slots image cs next [] chain = omega arith
each_has_slots image cs next (t ∷ tables) chain =
    let rest = each_has_slots image cs (u32_at image t.place) tables chain.2 in
    let both = length-append (slots_in_row (t.place + 4) t.count) (slots_further tables) in
    let row = length-slots_in_row (t.place + 4) t.count in
    let some = some_count (area_start image) cs chain.1 in
    omega arith where
      some_here : (at : ℕ) (c : Chunk) → TableHere t at c → 0 < t.count
      some_here at (free size) h = absurd h
      some_here at (movable bytes lock owner slot) h = absurd h
      some_here at (fixed bytes owner) h = h.3

      some_count : (at : ℕ) (ds : List Chunk) → AnyPlaced (TableHere t) at ds → 0 < t.count
      some_count at [] h = absurd h
      some_count at (d ∷ ds) h =
          elim h [ inl own ↦ some_here at d own | inr later ↦ some_count (at + size_of d) ds later ]

-- one more is fewer than an image has bytes
pub tables_few : (image : List ℕ) (cs : List Chunk) → Tiles image cs
    → length (further_tables image) + 1 ≤ length image
unfolding slots_of
tables_few image cs t =
    let most = slots_few image cs t in
    let first = t.head.some_slot in
    let row = length-slots_in_row 16 (slot_count image) in
    let both =
    length-append (slots_in_row 16 (slot_count image)) (slots_further (further_tables image)) in
    let further = each_has_slots image cs (first_next image) (further_tables image) t.chain in
    omega arith

-- ---- the last word `next`

-- it is 0
pub last_none : (image : List ℕ) (cs : List Chunk) (word : ℕ) (tables : List Table)
    → IsChain image cs (u32_at image word) tables → u32_at image (last_in word tables) ≡ 0
last_none image cs word [] chain = chain
last_none image cs word (t ∷ tables) chain = last_none image cs t.place tables chain.2

-- a table has its body there
pub record ChainTable (image : List ℕ) (cs : List Chunk) (tables : List Table) (word : ℕ) : Type 0 where
  pub table : Table
  pub place : table.place ≡ word
  pub listed : IsTablePlace tables word
  pub there : AnyPlaced (TableHere table) (area_start image) cs

-- it is the first one, or a table's
pub last_there : (image : List ℕ) (cs : List Chunk) (word next : ℕ) (tables : List Table)
    → IsChain image cs next tables
    → (last_in word tables ≡ word) ⊎ ChainTable image cs tables (last_in word tables)
last_there image cs word next [] chain = inl refl
last_there image cs word next (t ∷ tables) chain =
    elim (last_there image cs t.place (u32_at image t.place) tables chain.2) [
      | inl is ↦ inr record { table = t; place = sym is; listed = inl (sym is); there = chain.1 }
      | inr later ↦ inr record {
        table = later.table;
        place = later.place;
        listed = inr later.listed;
        there = later.there;
      }
    ]

-- a table of a chain stands among the chunks
pub chain_table : (image : List ℕ) (cs : List Chunk) (next : ℕ) (tables : List Table) (place : ℕ)
    → IsChain image cs next tables → IsTablePlace tables place → ChainTable image cs tables place
chain_table image cs next [] place chain h = absurd h
chain_table image cs next (t ∷ tables) place chain h = elim h [
  | inl is ↦ record { table = t; place = is; listed = inl is; there = chain.1 }
  | inr later ↦
      let r = chain_table image cs (u32_at image t.place) tables place chain.2 later in
      record { table = r.table; place = r.place; listed = inr r.listed; there = r.there }
]
