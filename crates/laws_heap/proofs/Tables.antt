-- The chain of tables: it is as it was where its tables are spelled as they were.
use Rattle.laws_heap.proofs.Words.{Bool, true, false, cond, ◌≡◌, ℕ, zero, suc, ◌+◌, ◌-◌, ◌*◌, ◌/◌, ◌%◌, ◌<◌, ◌≤◌, List, [], ◌∷◌, length, take, drop, replicate, refl, sym, ap, subst, ◌∙◌, arith, inl, inr, length-take, length-drop, ◌⊎◌, ◌==◌, u32_at, Chunk, free, movable, fixed, size_of, seen, IsLive, Spelled, SpelledAll, AnyPlaced, Table, table_at, table_then, tables_within, is_chained, behind_table, first_next, further_tables, slot_count, table_end, area_start, TableHere, IsChain, Tiles}
use Rattle.laws_heap.proofs.Frames.{u32_at-part, u32_at-front}

-- what stands after the first table: a word, or nothing
pub behind_case : (image : List ℕ) → (behind_table image ≡ 0) ⊎ (behind_table image ≡ 4)
behind_case image = by (is_chained image) where
  by : (b : Bool) → (cond {A = ℕ} b 4 0 ≡ 0) ⊎ (cond {A = ℕ} b 4 0 ≡ 4)
  by true = inr refl
  by false = inl refl

pub chained_behind : (image : List ℕ) → is_chained image ≡ true → behind_table image ≡ 4
chained_behind image is = ap (λ (b : Bool). cond {A = ℕ} b 4 0) is

-- ---- the words of a table

seen_word : (body : List ℕ) → 4 ≤ length body → u32_at (seen 15 0 body) 0 ≡ u32_at body 0
unfolding seen
seen_word body most = u32_at-front body (replicate (length body - 4) 0) most

-- its word `next` is the first of its value
pub table_next : (image : List ℕ) (at : ℕ) (bytes : List ℕ) → 4 ≤ length bytes
    → IsLive image at bytes 15 0 0 → u32_at image (at + 8) ≡ u32_at bytes 0
table_next image at bytes most s =
    let inside = s.inside in
    let body : List ℕ = take (at + 8 + length bytes - (at + 8)) (drop (at + 8) image) in
    let many : length body ≡ length bytes = simp (length-take, length-drop) (omega arith) in
    sym (u32_at-part _ _ _ most) ∙ sym (seen_word body (omega arith)) ∙ ap (λ x. u32_at x 0) s.body

-- the word of its header that has its size, and its word `next`, are as they were
abbrev pub SameTable : List ℕ → List ℕ → Table → Type 0
SameTable old new table = (u32_at new (table.place - 8) ≡ u32_at old (table.place - 8))
    × (u32_at new table.place ≡ u32_at old table.place)

pub same_table : (old new : List ℕ) (table : Table) (at : ℕ) (c : Chunk) → TableHere table at c
    → Spelled old at c → Spelled new at c → SameTable old new table
same_table old new table at (free size) t s n = absurd t
same_table old new table at (movable bytes lock owner slot) t s n = absurd t
same_table old new table at (fixed bytes owner) t s n =
    let place = t.1 in
    let len = t.2 in
    let was : IsLive old at bytes 15 0 0 = subst (λ (v : ℕ). IsLive old at bytes 15 v 0) t.0 s in
    let is : IsLive new at bytes 15 0 0 = subst (λ (v : ℕ). IsLive new at bytes 15 v 0) t.0 n in
    let header : table.place - 8 ≡ at = omega arith in
    let first : u32_at new at ≡ u32_at old at = is.first_word ∙ sym was.first_word in
    let next = table_next new at _ (omega arith) is ∙ sym (table_next old at _ (omega arith) was) in
    (rw (← header) at first, rw place at next)

-- among chunks that are spelled in both images
pub spelled_table : (old new : List ℕ) (table : Table) (at : ℕ) (cs : List Chunk) (end last : ℕ)
    → AnyPlaced (TableHere table) at cs → SpelledAll old at cs end → SpelledAll new at cs last
    → SameTable old new table
spelled_table old new table at [] end last t s n = absurd t
spelled_table old new table at (c ∷ cs) end last t s n = elim t [
  | inl own ↦ same_table old new table at c own s.0 n.0
  | inr later ↦ spelled_table old new table (at + size_of c) cs end last later s.1 n.1
]

-- ---- the chain

-- each table among these chunks is as it was
abbrev pub SameChain : List ℕ → List ℕ → List Chunk → Type 0
SameChain old new cs =
    (table : Table) → AnyPlaced (TableHere table) (area_start old) cs → SameTable old new table

same_within : (old new : List ℕ) (cs : List Chunk) (n next : ℕ) → SameChain old new cs
    → IsChain old cs next (tables_within n old next)
    → tables_within n new next ≡ tables_within n old next
same_within old new cs zero next same chain = refl
same_within old new cs (suc n) zero same chain = refl
same_within old new cs (suc n) (suc before) same chain =
    let place : ℕ = suc before in
    let words = same (table_at old place) chain.1 in
    ap (λ w. record { place = place; count = (w % 16777216 - 8 - w / 16777216 - 4) / 4 }
    ∷ tables_within n new (u32_at new place)) words.0
    ∙ ap (λ (w : ℕ). table_at old place ∷ tables_within n new w) words.1
    ∙ ap (λ ts. table_at old place ∷ ts) (same_within old new cs n (u32_at old place) same chain.2)

pub same_further : (old new : List ℕ) (cs : List Chunk) → Tiles old cs → length new ≡ length old
    → first_next new ≡ first_next old → SameChain old new cs
    → further_tables new ≡ further_tables old
unfolding further_tables
same_further old new cs t len next same = ap (λ n. tables_within n new (first_next new)) len
    ∙ ap (λ w. tables_within (length old) new w) next
    ∙ same_within old new cs (length old) (first_next old) same t.chain

-- it goes on in an image where its tables stand among the chunks
pub chain_stays : (old new : List ℕ) (cs ds : List Chunk) (next : ℕ) (tables : List Table)
    → SameChain old new cs → ((table : Table) → AnyPlaced (TableHere table) (area_start old) cs
    → AnyPlaced (TableHere table) (area_start new) ds) → IsChain old cs next tables
    → IsChain new ds next tables
chain_stays old new cs ds next [] same stand chain = chain
chain_stays old new cs ds next (table ∷ tables) same stand chain = (
  chain.0,
  stand table chain.1,
  rw (← (same table chain.1).1) at (chain_stays old new cs ds
      (u32_at old table.place) tables same stand chain.2),
)

-- the first word `next` is what it was
pub next_same : (old new : List ℕ) → u32_at new 0 ≡ u32_at old 0 → slot_count new ≡ slot_count old
    → (is_chained old ≡ true → u32_at new (table_end old) ≡ u32_at old (table_end old))
    → first_next new ≡ first_next old
next_same old new magic count word =
    ap (λ (m : ℕ). cond (m == 0x50484932) (u32_at new (table_end new)) 0) magic
    ∙ ap (λ (n : ℕ). cond (is_chained old) (u32_at new (16 + 4 * n)) 0) count
    ∙ by_case (is_chained old) refl where
      by_case : (b : Bool) → is_chained old ≡ b
          → cond b (u32_at new (table_end old)) 0 ≡ cond b (u32_at old (table_end old)) 0
      by_case true is = word is
      by_case false is = refl

-- ---- an image that is no chain

within_none : (n : ℕ) (image : List ℕ) → tables_within n image 0 ≡ []
within_none zero image = refl
within_none (suc n) image = refl

pub no_next : (image : List ℕ) → is_chained image ≡ false → first_next image ≡ 0
no_next image plain = ap (λ (b : Bool). cond b (u32_at image (table_end image)) 0) plain

pub no_further : (image : List ℕ) → is_chained image ≡ false → further_tables image ≡ []
unfolding further_tables
no_further image plain = ap (λ w. tables_within (length image) image w) (no_next image plain)
    ∙ within_none (length image) image

pub no_chain : (image : List ℕ) (cs : List Chunk) → is_chained image ≡ false
    → IsChain image cs (first_next image) (further_tables image)
no_chain image cs plain = subst (λ ts. IsChain image cs (first_next image) ts)
    (sym (no_further image plain)) (no_next image plain)

pub none_behind : (image : List ℕ) → is_chained image ≡ false → behind_table image ≡ 0
none_behind image plain = ap (λ (b : Bool). cond {A = ℕ} b 4 0) plain

-- ---- the chain from a word `next` on

more_fuel : (image : List ℕ) (cs : List Chunk) (n next : ℕ)
    → IsChain image cs next (tables_within n image next)
    → tables_within (suc n) image next ≡ tables_within n image next
more_fuel image cs zero next chain = ap (λ w. table_then (tables_within 0 image) image w) chain
more_fuel image cs (suc n) zero chain = refl
more_fuel image cs (suc n) (suc before) chain = ap (λ ts. table_at image (suc before) ∷ ts)
    (more_fuel image cs n (u32_at image (suc before)) chain.2)

-- its first table, and the chain after it
pub record ChainStep (image : List ℕ) (cs : List Chunk) (next : ℕ) : Type 0 where
  pub first : AnyPlaced (TableHere (table_at image next)) (area_start image) cs
  pub chain : IsChain image cs (u32_at image next)
      (tables_within (length image) image (u32_at image next))
  pub is : tables_within (length image) image next
      ≡ table_at image next ∷ tables_within (length image) image (u32_at image next)

pub chain_step : (image : List ℕ) (cs : List Chunk) (next : ℕ) → 0 < length image → 0 < next
    → IsChain image cs next (tables_within (length image) image next) → ChainStep image cs next
chain_step image cs zero some used chain = absurd (omega arith)
chain_step image cs (suc before) some used chain =
    let m : ℕ = length image - 1 in
    let long : length image ≡ suc m = omega arith in
    let w : ℕ = u32_at image (suc before) in
    let c : IsChain image cs (suc before) (tables_within (suc m) image (suc before)) =
    rw long at chain in
    let more = more_fuel image cs m w c.2 in
    record {
      first = c.1;
      chain = subst (λ n. IsChain image cs w (tables_within n image w)) (sym long)
          (subst (λ ts. IsChain image cs w ts) (sym more) c.2);
      is = ap (λ n. tables_within n image (suc before)) long ∙ ap (λ ts. table_at image (suc before)
          ∷ ts) (sym more ∙ ap (λ n. tables_within n image w) (sym long));
    }
