-- The walk along the chain takes away the marks of its tables, up to its end or the first bad
-- table.
use Rattle.heap_check.proofs.Words.{◌≡◌, ◌≢◌, ℕ, ◌+◌, ◌*◌, ◌/◌, ◌%◌, ◌≤◌, List, [], ◌∷◌, ◌++◌, length, refl, sym, ap, subst, ◌∙◌, arith, inl, inr, length-append, cases_eq, u32_at, SpelledAll, Table, slot_count, slots_in_row, slots_further, slots_of, slots_total, area_start, first_next, further_tables, IsHead, IsChain, IsTablePlace, chunks_of, SpelledAll-end, length-slots_in_row, IsInSet, Bodies, Chain, Leads, IsBadTable, Marks, IsManagersAt, FoundBodies, Followed, Takes, TakesTable, IsNoTable}
use Rattle.heap_check.proofs.TableLaws.{table_facts, table_body}
use Rattle.heap_check.proofs.LeadsLaws.{place_or, places_split, places_left, places_right, leads_push, leads_chain, leads_read, tables_fit}

-- the walk has come to this word `next`
pub record HasFollowed (image : List ℕ) (chain : Chain) (next : ℕ) (marks : List ℕ) : Type 0 where
  pub met : List Table
  pub tables : chain.tables ≡ length met
  pub slots : chain.slots ≡ slot_count image + length (slots_further met)
  pub leads : Leads image (chunks_of image) (first_next image) met next
  pub marked : Marks marks (λ place. IsManagersAt image place × (IsTablePlace met place → ⊥))

pub followed_none : (image : List ℕ) (chain : Chain) (next : ℕ) (marks : List ℕ) → chain.tables ≡ 0
    → chain.slots ≡ slot_count image → next ≡ first_next image → Marks marks (IsManagersAt image)
    → HasFollowed image chain next marks
followed_none image chain next marks no_tables slots is marked = record {
  met = [];
  tables = no_tables;
  slots = omega (arith, slots);
  leads = sym is;
  marked = λ word. (λ has. ((marked word).0 has, λ h. h), λ both. (marked word).1 both.0);
}

-- what was met fits into the image
pub followed_fits : (image : List ℕ) (chain : Chain) (next : ℕ) (marks : List ℕ)
    → SpelledAll image (area_start image) (chunks_of image) (length image)
    → HasFollowed image chain next marks
    → 8 * chain.tables + 4 * chain.slots ≤ length image + 4 * slot_count image
followed_fits image chain next marks s f =
    let fit = tables_fit image (chunks_of image) (first_next image) f.met next f.leads in
    let end = SpelledAll-end image (area_start image) (chunks_of image) (length image) s in
    let tables = f.tables in
    let slots = f.slots in
    omega (arith, fit, end, tables, slots)

-- a table that was marked was not met
pub table_met_first : (image : List ℕ) (met : List Table) (place : ℕ) (marks : List ℕ)
    → Marks marks (λ place. IsManagersAt image place × (IsTablePlace met place → ⊥)) → place % 4 ≡ 0
    → IsInSet marks (place / 4) → IsTablePlace met place → ⊥
table_met_first image met place marks marked whole has listed =
    let e : place ≡ 4 * (place / 4) = omega arith in
    ((marked (place / 4)).0 has).1 (subst (λ (n : ℕ). IsTablePlace met n) e listed)

marks_taken : (image : List ℕ) (met : List Table) (table : Table) (old new : List ℕ)
    → table.place % 4 ≡ 0 → Takes (table.place / 4) old new
    → Marks old (λ place. IsManagersAt image place × (IsTablePlace met place → ⊥))
    → Marks new (λ place. IsManagersAt image place × (IsTablePlace (met ++ table ∷ []) place → ⊥))
marks_taken image met table old new whole takes marked word =
    elim (cases_eq word (table.place / 4)) [
      | inl own ↦
          let here : table.place ≡ 4 * word = omega arith in (
            λ has. absurd (takes.gone (subst (λ (n : ℕ). IsInSet new n) own has)),
            λ both. absurd (both.1 (places_right met (table ∷ []) (4 * word) (inl here))),
          )
      | inr other ↦ (
        λ has. let was = (marked word).0 ((takes.others word other).0 has) in (
          was.0,
          λ listed. elim (places_split met (table ∷ []) (4 * word) listed) [
            | inl earlier ↦ was.1 earlier
            | inr last ↦ elim last [ inl is ↦ other (omega arith) | inr none ↦ none ]
          ],
        ),
        λ both. (takes.others word other).1 ((marked word).1
            (both.0, λ listed. both.1 (places_left met (table ∷ []) (4 * word) listed))),
      )
    ]

-- one table more
pub followed_more : (image : List ℕ) (old new : Chain) (next count word : ℕ)
    (before_marks after_marks : List ℕ)
    → SpelledAll image (area_start image) (chunks_of image) (length image)
    → HasFollowed image old next before_marks → TakesTable image next before_marks after_marks count
    → new.tables ≡ old.tables + 1 → new.slots ≡ old.slots + count → word ≡ u32_at image next
    → HasFollowed image new word after_marks
followed_more image old new next count word before_marks after_marks s f takes tables slots is =
    let table : Table = record { place = next; count = count } in
    let facts = table_facts image (area_start image) (chunks_of image) (length image) table s
    (omega arith) takes.table in
    let whole = facts.whole in
    let fours : next % 4 ≡ 0 = omega arith in
    let many = length-append f.met (table ∷ []) in
    let row = further_push f.met table in
    let was_tables = f.tables in
    let was_slots = f.slots in
    record {
      met = f.met ++ table ∷ [];
      tables = omega (arith, tables, was_tables, many);
      slots = omega (arith, slots, was_slots, row);
      leads = subst (λ (w : ℕ). Leads image (chunks_of image) (first_next image)
          (f.met ++ table ∷ []) w) (sym is) (leads_push image (chunks_of image)
          (first_next image) f.met next table f.leads refl takes.table
          (table_met_first image f.met next before_marks f.marked fours takes.takes.was));
      marked = marks_taken image f.met table before_marks after_marks fours takes.takes f.marked;
    } where
      further_push : (met : List Table) (table : Table)
          → length (slots_further (met ++ table ∷ [])) ≡ length (slots_further met) + table.count
      further_push [] table = let row = length-slots_in_row (table.place + 4) table.count in
          let parts = length-append (slots_in_row (table.place + 4) table.count) [] in
          omega (arith, row, parts)
      further_push (t ∷ ts) table =
          let rest = further_push ts table in
          let parts =
          length-append (slots_in_row (t.place + 4) t.count) (slots_further (ts ++ table ∷ [])) in
          let others = length-append (slots_in_row (t.place + 4) t.count) (slots_further ts) in
          omega (arith, rest, parts, others)

-- there is room for it
pub followed_bound : (image : List ℕ) (chain : Chain) (next count : ℕ)
    (before_marks after_marks : List ℕ) → IsHead image
    → SpelledAll image (area_start image) (chunks_of image) (length image)
    → HasFollowed image chain next before_marks
    → TakesTable image next before_marks after_marks count
    → 8 * (chain.tables + 1) + 4 * (chain.slots + count) ≤ 2 * length image
followed_bound image chain next count before_marks after_marks h s f takes =
    let more : Chain = record { tables = chain.tables + 1; slots = chain.slots + count } in
    let fit = followed_fits image more (u32_at image next) after_marks s (followed_more image chain
    more next count (u32_at image next) before_marks after_marks s f takes refl refl refl) in
    let fits = h.a_chunk_fits in
    omega arith

-- a table lies within the image
pub table_inside : (image : List ℕ) (next count : ℕ) (before_marks after_marks : List ℕ)
    → SpelledAll image (area_start image) (chunks_of image) (length image)
    → TakesTable image next before_marks after_marks count → next + 8 ≤ length image
table_inside image next count before_marks after_marks s takes =
    (table_facts image (area_start image) (chunks_of image)
    (length image) record { place = next; count = count } s (omega arith) takes.table).inside

-- if no table follows
pub followed_bad : (image : List ℕ) (bodies : Bodies) (chain : Chain) (next : ℕ) (marks : List ℕ)
    → FoundBodies image bodies → HasFollowed image chain next marks → next ≢ 0
    → IsNoTable image next marks → IsBadTable image chain.tables
followed_bad image bodies chain next marks found f more none = record {
  area = found.spelled;
  tables = f.met;
  count = sym f.tables;
  next = next;
  leads = f.leads;
  more = more;
  no_other = λ table here is. elim (place_or f.met next) [
    | inl listed ↦ listed
    | inr new ↦
        let facts = table_facts image (area_start image) (chunks_of image)
        (length image) table found.spelled (omega arith) here in
        let whole = facts.whole in
        let e : next ≡ 4 * (next / 4) = omega arith in
        absurd (none table here is ((f.marked (next / 4)).1 (
          subst (λ (n : ℕ). IsManagersAt image n) (is ∙ e)
              (table_body table (area_start image) (chunks_of image) here),
          λ listed. new (subst (λ (n : ℕ). IsTablePlace f.met n) (sym e) listed),
        )))
  ];
}

-- at the end all tables were met
pub followed_all : (image : List ℕ) (chain : Chain) (next : ℕ) (marks : List ℕ) → IsHead image
    → SpelledAll image (area_start image) (chunks_of image) (length image)
    → HasFollowed image chain next marks → next ≡ 0 → Followed image chain marks
unfolding slots_of further_tables
followed_all image chain next marks h s f none =
    let leads : Leads image (chunks_of image) (first_next image) f.met 0 =
    subst (λ (w : ℕ). Leads image (chunks_of image) (first_next image) f.met w) none f.leads in
    let fit = tables_fit image (chunks_of image) (first_next image) f.met next f.leads in
    let end = SpelledAll-end image (area_start image) (chunks_of image) (length image) s in
    let all : further_tables image ≡ f.met = leads_read image (chunks_of image) (length image)
    (first_next image) f.met s (omega (arith, fit, end)) leads in
    let total_slots : slots_total image ≡ slot_count image + length (slots_further f.met) =
    length-append (slots_in_row 16 (slot_count image)) (slots_further (further_tables image))
    ∙ ap (λ (n : ℕ). n + length (slots_further (further_tables image)))
    (length-slots_in_row 16 (slot_count image))
    ∙ ap (λ (ts : List Table). slot_count image + length (slots_further ts)) all in
    record {
      chain = subst (λ (ts : List Table). IsChain image (chunks_of image) (first_next image) ts)
          (sym all)
          (leads_chain image (chunks_of image) (first_next image) f.met next f.leads none);
      tables = f.tables ∙ ap (λ (ts : List Table). length ts) (sym all);
      slots = f.slots ∙ sym total_slots;
      marked = subst (λ (ts : List Table). Marks marks
          (λ place. IsManagersAt image place × (IsTablePlace ts place → ⊥))) (sym all) f.marked;
    }
