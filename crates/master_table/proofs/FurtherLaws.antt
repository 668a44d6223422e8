-- The further tables: a walk along them, and the slots of one.
use Rattle.std.proofs.Common.{◌≡◌, ◌≢◌, ℕ, zero, suc, ◌+◌, ◌-◌, ◌*◌, ◌/◌, ◌<◌, ◌≤◌, List, [], ◌∷◌, ◌++◌, length, replicate, refl, sym, ap, subst, ◌∙◌, arith, inl, inr}
use Rattle.std.specs.Prelude.{◌%◌, ◌^◌, slice_index}
use Rattle.std.proofs.lemmas.Bool.{cases_lt}
use Rattle.heap_model.specs.Bytes.{u32_at}
use Rattle.heap_model.specs.Chunk.{Chunk}
use Rattle.heap_model.specs.Slots.{Table, Tables, tables_of, table_at, first_next, further_tables, slot_count, slots_in_row, slots_further, slots_of, IsSlot, StandsIn}
use Rattle.heap_model.specs.Heap.{IsTablePlace, IsChain, Tiles}
use Rattle.laws_heap.proofs.Slots.{stands_left, stands_right, row_stands}
use Rattle.laws_heap.proofs.Tables.{ChainStep, chain_step}
use Rattle.chunk_format.specs.Header.{HasLive}
use Rattle.master_table.specs.declared.slots.TableStart.{TableStart}
use Rattle.master_table.specs.Table.{IsTiled, IsStart, tables_from}
use Rattle.master_table.specs.Known.{Remembered, KnowsNone, HasLongTable, KnowsTables, RemembersPlace, IsEntry, IsWordOf}
use Rattle.master_table.proofs.RowLaws.{TableStands, table_there, starts_still}

-- ---- a walk

-- a word `next` of the chain: each table that it leads to is a further table
pub record WalksTables (image : List ℕ) (next : ℕ) : Type 0 where
  pub chain : (chunks : List Chunk) → Tiles image chunks → IsChain image chunks next (tables_from image next)
  pub within : (place : ℕ) → IsTablePlace (tables_from image next) place → IsTablePlace (further_tables image) place

pub walk_first : (image : List ℕ) (next : ℕ) → next ≡ first_next image → WalksTables image next
unfolding further_tables
walk_first image next is = record {
  chain = λ chunks t. subst (λ (w : ℕ). IsChain image chunks w (tables_from image w)) (sym is) t.chain;
  within = λ place h. subst (λ (w : ℕ). IsTablePlace (tables_from image w) place) is h;
}

-- the table that it leads to, and the word of that one
pub record WalkStep (image : List ℕ) (next word : ℕ) : Type 0 where
  pub here : IsTablePlace (further_tables image) next
  pub walks : WalksTables image word
  pub fewer : length (tables_from image word) < length (tables_from image next)

pub step_of : (image : List ℕ) (next : ℕ) → WalksTables image next → next ≢ 0 → (cs : List Chunk) → Tiles image cs → ChainStep image cs next
step_of image next w used cs t = chain_step image cs next (let fits = t.head.a_chunk_fits in omega (arith, fits)) (omega arith) (w.chain cs t)

pub walk_on : (image : List ℕ) (next word : ℕ) → IsTiled image → WalksTables image next → next ≢ 0 → word ≡ u32_at image next → WalkStep image next word
walk_on image next word t w used is =
    let step = step_of image next w used t.0 t.1 in
    let same : tables_from image next ≡ table_at image next ∷ tables_from image word = step.is ∙ ap (λ (n : ℕ). table_at image next ∷ tables_from image n) (sym is) in
    let long = ap length same in
    record {
      here = w.within next (subst (λ (ts : List Table). IsTablePlace ts next) (sym same) (inl refl));
      walks = record {
        chain = λ cs u. subst (λ (n : ℕ). IsChain image cs n (tables_from image n)) (sym is) (step_of image next w used cs u).chain;
        within = λ place h. w.within place (subst (λ (ts : List Table). IsTablePlace ts place) (sym same) (inr h));
      };
      fewer = omega (arith, long);
    }

-- ---- one table

-- the table is there
stands_there : (image : List ℕ) (cs : List Chunk) (next : ℕ) (tables : List Table) (place : ℕ) → Tiles image cs → IsChain image cs next tables → IsTablePlace tables place → (count : ℕ) × TableStands image place count
stands_there image cs next [] place t chain h = absurd h
stands_there image cs next (table ∷ tables) place t chain h = elim h [
  | inl is ↦ (table.count, subst (λ (n : ℕ). TableStands image n table.count) is (table_there image cs table t chain.1))
  | inr later ↦ stands_there image cs (u32_at image table.place) tables place t chain.2 later
]

pub further_stands : (image : List ℕ) (place : ℕ) → IsTiled image → IsTablePlace (further_tables image) place → (count : ℕ) × TableStands image place count
further_stands image place t h = stands_there image t.0 (first_next image) (further_tables image) place t.1 t.1.chain h

pub table_live : (image : List ℕ) (place count : ℕ) → TableStands image place count → HasLive image (place - 8)
table_live image place count s = record { bytes = s.bytes; lock = 15; owner = 0; h_offset = 0; is = s.live }

-- it has 15 slots or more
long_there : (image : List ℕ) (cs : List Chunk) (next : ℕ) (tables : List Table) (place : ℕ) → Tiles image cs → IsChain image cs next tables → IsTablePlace tables place → ((count : ℕ) → TableStands image place count → 15 ≤ count) → HasLongTable tables place
long_there image cs next [] place t chain h long = absurd h
long_there image cs next (table ∷ tables) place t chain h long = elim h [
  | inl is ↦ inl (is, long table.count (subst (λ (n : ℕ). TableStands image n table.count) is (table_there image cs table t chain.1)))
  | inr later ↦ inr (long_there image cs (u32_at image table.place) tables place t chain.2 later long)
]

pub further_long : (image : List ℕ) (place : ℕ) → IsTiled image → IsTablePlace (further_tables image) place → ((count : ℕ) → TableStands image place count → 15 ≤ count) → HasLongTable (further_tables image) place
further_long image place t h long = long_there image t.0 (first_next image) (further_tables image) place t.1 t.1.chain h long

-- its first 15 slots
long_slots : (tables : List Table) (place k : ℕ) → HasLongTable tables place → k < 15 → StandsIn (slots_further tables) (place + 4 + 4 * k)
long_slots [] place k h below = absurd h
long_slots (table ∷ tables) place k h below = elim h [
  | inl own ↦
      let long = own.1 in
      subst (λ (n : ℕ). StandsIn (slots_further (table ∷ tables)) (n + 4 + 4 * k)) own.0
      (stands_left (slots_in_row (table.place + 4) table.count) (slots_further tables) (table.place + 4 + 4 * k) (row_stands (table.place + 4) table.count k (omega (arith, long, below))))
  | inr later ↦ stands_right (slots_in_row (table.place + 4) table.count) (slots_further tables) (place + 4 + 4 * k) (long_slots tables place k later below)
]

pub word_is_slot : (image : List ℕ) (known : Remembered) (place slot : ℕ) → KnowsTables image known → IsEntry known.places place → IsWordOf place slot → IsSlot image slot
unfolding slots_of
word_is_slot image known place slot knows entry w =
    let some = w.some in
    let behind = w.behind in
    let near = w.near in
    let whole = w.whole in
    let is = entry.1 in
    let long : HasLongTable (further_tables image) place = subst (λ (p : ℕ). HasLongTable (further_tables image) p) (sym is) (knows.entries entry.0 (omega (arith, is, some))) in
    let k : ℕ = (slot - place) / 4 - 1 in
    let there : place + 4 + 4 * k ≡ slot = omega arith in
    record {
      listed = subst (λ (s : ℕ). StandsIn (slots_in_row 16 (slot_count image) ++ slots_further (further_tables image)) s) there
          (stands_right (slots_in_row 16 (slot_count image)) (slots_further (further_tables image)) (place + 4 + 4 * k) (long_slots (further_tables image) place k long (omega arith)));
    }

-- a word is a slot of the table in an entry, if its distance from the table's first slot is less than 15 words
word_after : (place slot bytes words : ℕ) → 64 ≤ slot → (place ≤ slot - 4 → place + bytes ≡ slot - 4) → (slot - 4 < place → slot - 4 < bytes) → (bytes % 4 ≡ 0 → 4 * words ≡ bytes) → (bytes % 4 ≢ 0 → 2 ^ 30 ≤ words) → words < 15 → IsWordOf place slot
word_after place slot bytes words far after before whole broken few = elim (cases_lt 0 (bytes % 4)) [
  | inl part ↦ let many = broken (λ none. absurd (omega (arith, none, part))) in absurd (omega (arith, many, few))
  | inr none ↦
      let is = whole (omega (arith, none)) in
      elim (cases_lt (slot - 4) place) [
        | inl apart ↦ let more = before apart in absurd (omega (arith, more, is, few, far))
        | inr behind ↦
            let there = after behind in
            record {
              some = omega (arith, there, is, few, far);
              behind = omega (arith, there, far);
              near = omega (arith, there, is, few, far);
              whole = omega (arith, there, is, far);
            }
      ]
]

pub slot_after : (image inside : List ℕ) (known : Remembered) (entry slot bytes words : ℕ) → inside ≡ known.places → 64 ≤ slot → (slice_index inside entry ≤ slot - 4 → slice_index inside entry + bytes ≡ slot - 4) → (slot - 4 < slice_index inside entry → slot - 4 < bytes) → (bytes % 4 ≡ 0 → 4 * words ≡ bytes) → (bytes % 4 ≢ 0 → 2 ^ 30 ≤ words) → words < 15 → KnowsTables image known → IsSlot image slot
slot_after image inside known entry slot bytes words view far after before whole broken few knows =
    word_is_slot image known (slice_index inside entry) slot knows (entry, ap (λ (ps : List ℕ). slice_index ps entry) view)
    (word_after (slice_index inside entry) slot bytes words far after before whole broken few)

-- ---- what is remembered

pub none_in_zeros : (n : ℕ) → KnowsNone (replicate n 0)
none_in_zeros zero entry = refl
none_in_zeros (suc n) zero = refl
none_in_zeros (suc n) (suc entry) = none_in_zeros n entry

pub knows_none : (known : Remembered) (image : List ℕ) → KnowsNone known.places → IsStart image known.latest → KnowsTables image known
knows_none known image none latest = record { entries = λ entry some. (let zero_there = none entry in absurd (omega (arith, zero_there, some))); latest = latest }

pub knows_more : (image : List ℕ) (old new : Remembered) (place : ℕ) → KnowsTables image old → RemembersPlace old new place → HasLongTable (further_tables image) place → KnowsTables image new
knows_more image old new place knows more here = record {
  entries = λ entry some. elim (more.entries entry) [
    | inl same ↦ subst (λ (p : ℕ). HasLongTable (further_tables image) p) (sym same) (knows.entries entry (subst (λ (p : ℕ). 0 < p) same some))
    | inr is ↦ subst (λ (p : ℕ). HasLongTable (further_tables image) p) (sym is) here
  ];
  latest = subst (λ (s : TableStart). IsStart image s) (sym more.latest) knows.latest;
}

-- with another start
pub knows_later : (image : List ℕ) (old new : Remembered) → KnowsTables image old → new.places ≡ old.places → IsStart image new.latest → KnowsTables image new
knows_later image old new knows same latest = record {
  entries = subst (λ (ps : List ℕ). (entry : ℕ) → 0 < slice_index ps entry → HasLongTable (further_tables image) (slice_index ps entry)) (sym same) knows.entries;
  latest = latest;
}

-- if the tables are the same
pub knows_still : (old new : List ℕ) (known : Remembered) → tables_of new ≡ tables_of old → KnowsTables old known → KnowsTables new known
knows_still old new known same knows = record {
  entries = λ entry some. subst (λ (ts : List Table). HasLongTable ts (slice_index known.places entry)) (sym (ap (λ (t : Tables). t.further) same)) (knows.entries entry some);
  latest = starts_still old new known.latest.place known.latest.before same knows.latest;
}
