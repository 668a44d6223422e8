-- Tables along a chain: they are other chunks each, so they fit, and they are the chain once its
-- last word is 0.
use Rattle.heap_check.proofs.Words.{◌≡◌, ℕ, zero, suc, ◌+◌, ◌-◌, ◌*◌, ◌/◌, ◌%◌, ◌≤◌, Bool, true, false, cond, List, [], ◌∷◌, ◌++◌, length, refl, sym, ap, subst, ◌∙◌, arith, inl, inr, length-append, ◌⊎◌, ◌==◌, count_by, sum_by, cases_eq, eq-eqb, sum_by-cons, u32_at, Chunk, free, movable, fixed, need, size_of, total, SpelledAll, AnyPlaced, Table, table_at, table_then, tables_within, slots_in_row, slots_further, area_start, TableHere, IsChain, IsTablePlace, is_table_place, true_or_false, cond-true, cond-false, Decides-place, length-slots_in_row, chain_length, Leads, ManagersBody, is_managers}
use Rattle.heap_check.proofs.TableLaws.{TableFacts, table_facts}

-- ---- places of tables

pub place_or : (tables : List Table) (place : ℕ)
    → IsTablePlace tables place ⊎ (IsTablePlace tables place → ⊥)
place_or [] place = inr (λ h. h)
place_or (t ∷ ts) place = elim (cases_eq t.place place) [
  | inl is ↦ inl (inl is)
  | inr apart ↦ elim (place_or ts place) [
    | inl later ↦ inl (inr later)
    | inr none ↦ inr (λ h. elim h [ inl is ↦ apart is | inr later ↦ none later ])
  ]
]

pub places_split : (xs ys : List Table) (place : ℕ) → IsTablePlace (xs ++ ys) place
    → IsTablePlace xs place ⊎ IsTablePlace ys place
places_split [] ys place h = inr h
places_split (x ∷ xs) ys place h = elim h [
  | inl is ↦ inl (inl is)
  | inr later ↦
      elim (places_split xs ys place later) [ inl left ↦ inl (inr left) | inr right ↦ inr right ]
]

pub places_left : (xs ys : List Table) (place : ℕ) → IsTablePlace xs place
    → IsTablePlace (xs ++ ys) place
places_left [] ys place h = absurd h
places_left (x ∷ xs) ys place h =
    elim h [ inl is ↦ inl is | inr later ↦ inr (places_left xs ys place later) ]

pub places_right : (xs ys : List Table) (place : ℕ) → IsTablePlace ys place
    → IsTablePlace (xs ++ ys) place
places_right [] ys place h = h
places_right (x ∷ xs) ys place h = inr (places_right xs ys place h)

not_place : (tables : List Table) (place : ℕ) → (IsTablePlace tables place → ⊥)
    → is_table_place tables place ≡ false
not_place tables place none = elim (true_or_false (is_table_place tables
    place)) [ inl is ↦ absurd (none ((Decides-place tables place).0 is)) | inr isnt ↦ isnt ]

-- ---- one table more

pub leads_push : (image : List ℕ) (cs : List Chunk) (next : ℕ) (tables : List Table) (last : ℕ)
    (table : Table) → Leads image cs next tables last → last ≡ table.place
    → AnyPlaced (TableHere table) (area_start image) cs → (IsTablePlace tables table.place → ⊥)
    → Leads image cs next (tables ++ table ∷ []) (u32_at image table.place)
leads_push image cs next [] last table leads is here none = (leads ∙ is, here, λ h. h, refl)
leads_push image cs next (t ∷ ts) last table leads is here none = (
  leads.0,
  leads.1,
  λ h. elim (places_split ts (table ∷ []) t.place h) [
    | inl later ↦ leads.2 later
    | inr own ↦ elim own [ inl same ↦ none (inl (sym same)) | inr nowhere ↦ nowhere ]
  ],
  leads_push image cs (u32_at image t.place) ts last table leads.3 is here (λ h. none (inr h)),
)

-- ---- the whole chain

pub leads_chain : (image : List ℕ) (cs : List Chunk) (next : ℕ) (tables : List Table) (last : ℕ)
    → Leads image cs next tables last → last ≡ 0 → IsChain image cs next tables
leads_chain image cs next [] last leads none = leads ∙ none
leads_chain image cs next (t ∷ ts) last leads none =
    (leads.0, leads.1, leads_chain image cs (u32_at image t.place) ts last leads.3 none)

abbrev table_of : ℕ → ℕ → Table
table_of place count = record { place = place; count = count }

-- the table that is read at a place is the one that stands there
table_read : (image : List ℕ) (table : Table) → TableFacts image table
    → table_at image table.place ≡ table
table_read image table f =
    let first = f.live.first_word in
    let fits = f.live.size_fits in
    let long = f.long in
    let count : (u32_at image (table.place - 8) % 16777216 - 8
    - u32_at image (table.place - 8) / 16777216 - 4) / 4 ≡ table.count = omega arith in
    ap (table_of table.place) count

pub leads_read : (image : List ℕ) (cs : List Chunk) (n next : ℕ) (tables : List Table)
    → SpelledAll image (area_start image) cs (length image) → length tables ≤ n
    → Leads image cs next tables 0 → tables_within n image next ≡ tables
leads_read image cs zero next [] s most leads = refl
leads_read image cs zero next (t ∷ ts) s most leads = absurd (omega arith)
leads_read image cs (suc n) next [] s most leads =
    ap (λ (w : ℕ). table_then (tables_within n image) image w) leads
leads_read image cs (suc n) next (t ∷ ts) s most leads =
    let f = table_facts image (area_start image) cs (length image) t s (omega arith) leads.1 in
    let low = f.low in
    let before : ℕ = t.place - 1 in
    let more : suc before ≡ t.place = omega arith in
    let there : next ≡ suc before = leads.0 ∙ sym more in
    ap (λ (w : ℕ). table_then (tables_within n image) image w) there
    ∙ ap (λ (w : ℕ). table_at image w ∷ tables_within n image (u32_at image w)) more
    ∙ ap (λ (x : Table). x ∷ tables_within n image (u32_at image t.place)) (table_read image t f)
    ∙ ap (λ (xs : List Table). t ∷ xs)
    (leads_read image cs n (u32_at image t.place) ts s (omega arith) leads.3)

-- a chain leads to 0, and no table stands twice in it
place_chain : (image : List ℕ) (cs : List Chunk) (next : ℕ) (tables : List Table) (place : ℕ)
    → IsChain image cs next tables → IsTablePlace tables place
    → (rest : List Table) × IsChain image cs place rest × (length rest ≤ length tables)
place_chain image cs next [] place chain h = absurd h
place_chain image cs next (t ∷ ts) place chain h = elim h [
  | inl is ↦
      (t ∷ ts, subst (λ (w : ℕ). IsChain image cs w (t ∷ ts)) (chain.0 ∙ is) chain, omega arith)
  | inr later ↦ let r = place_chain image cs (u32_at image t.place) ts place chain.2 later in
      let shorter = r.2 in (r.0, r.1, omega arith)
]

pub chain_leads_on : (image : List ℕ) (cs : List Chunk) (next : ℕ) (tables : List Table)
    → IsChain image cs next tables → Leads image cs next tables 0
chain_leads_on image cs next [] chain = chain
chain_leads_on image cs next (t ∷ ts) chain = (
  chain.0,
  chain.1,
  λ again.
      let r = place_chain image cs (u32_at image t.place) ts t.place chain.2 again in
      let shorter = r.2 in
      let long = chain_length image cs t.place (t ∷ ts) r.0
      (subst (λ (w : ℕ). IsChain image cs w (t ∷ ts)) chain.0 chain) r.1 in
      absurd (omega arith),
  chain_leads_on image cs (u32_at image t.place) ts chain.2,
)

-- ---- what the manager's fixed chunks weigh that aren't among some tables

abbrev weight_left : (Chunk → ℕ) → (ℕ → Bool) → ℕ → Chunk → ℕ
weight_left weigh met at (free size) = 0
weight_left weigh met at (movable bytes lock owner slot) = 0
weight_left weigh met at (fixed bytes owner) =
    cond (owner == 0) (cond (met (at + 8)) 0 (weigh (fixed bytes owner))) 0

abbrev pub unmet : (Chunk → ℕ) → (ℕ → Bool) → ℕ → List Chunk → ℕ
unmet weigh met at [] = 0
unmet weigh met at (c ∷ cs) = weight_left weigh met at c + unmet weigh met (at + size_of c) cs

cond_less : (own was is : Bool) (weight : ℕ) → (was ≡ true → is ≡ true)
    → cond own (cond is 0 weight) 0 ≤ cond own (cond was 0 weight) 0
cond_less false was is weight more = omega arith
cond_less true true is weight more = let e : cond {A = ℕ} is 0 weight ≡ 0 =
    cond-true is 0 weight (more refl) in omega arith
cond_less true false true weight more = omega arith
cond_less true false false weight more = omega arith

weight_less : (weigh : Chunk → ℕ) (met more : ℕ → Bool) (at : ℕ) (c : Chunk)
    → ((place : ℕ) → met place ≡ true → more place ≡ true)
    → weight_left weigh more at c ≤ weight_left weigh met at c
weight_less weigh met more at (free size) also = omega arith
weight_less weigh met more at (movable bytes lock owner slot) also = omega arith
weight_less weigh met more at (fixed bytes owner) also = cond_less (owner == 0) (met (at + 8))
    (more (at + 8)) (weigh (fixed bytes owner)) (also (at + 8))

unmet_less : (weigh : Chunk → ℕ) (met more : ℕ → Bool) (at : ℕ) (cs : List Chunk)
    → ((place : ℕ) → met place ≡ true → more place ≡ true)
    → unmet weigh more at cs ≤ unmet weigh met at cs
unmet_less weigh met more at [] also = omega arith
unmet_less weigh met more at (c ∷ cs) also = let here = weight_less weigh met more at c also in
    let rest = unmet_less weigh met more (at + size_of c) cs also in omega (arith, here, rest)

-- one table more is met
record MeetsTable (weigh : Chunk → ℕ) (met more : ℕ → Bool) (table : Table)
    (weight : ℕ) : Type 0 where
  also : (place : ℕ) → met place ≡ true → more place ≡ true
  was : met table.place ≡ false
  is : more table.place ≡ true
  weighs : (bytes : List ℕ) (owner : ℕ) → length bytes ≡ 4 + 4 * table.count
      → weight ≤ weigh (fixed bytes owner)

table_weighs : (weigh : Chunk → ℕ) (met more : ℕ → Bool) (table : Table) (weight at : ℕ) (c : Chunk)
    → MeetsTable weigh met more table weight → TableHere table at c
    → weight_left weigh more at c + weight ≤ weight_left weigh met at c
table_weighs weigh met more table weight at (free size) m own = absurd own
table_weighs weigh met more table weight at (movable bytes lock owner slot) m own = absurd own
table_weighs weigh met more table weight at (fixed bytes owner) m own =
    let mine : (owner == 0) ≡ true = eq-eqb owner 0 own.0 in
    let was : met (at + 8) ≡ false = ap met own.1 ∙ m.was in
    let is : more (at + 8) ≡ true = ap more own.1 ∙ m.is in
    let weighs = m.weighs bytes owner own.2 in
    let after : cond {A = ℕ} (owner == 0) (cond (more (at + 8)) 0 (weigh (fixed bytes owner))) 0
    ≡ 0 = cond-true (owner == 0) _ 0 mine ∙ cond-true (more (at + 8)) 0 _ is in
    let before : cond {A = ℕ} (owner == 0) (cond (met (at + 8)) 0 (weigh (fixed bytes owner))) 0
    ≡ weigh (fixed bytes owner) =
    cond-true (owner == 0) _ 0 mine ∙ cond-false (met (at + 8)) 0 _ was in
    omega (arith, weighs, after, before)

meets_table : (weigh : Chunk → ℕ) (met more : ℕ → Bool) (table : Table) (weight at : ℕ)
    (cs : List Chunk) → MeetsTable weigh met more table weight → AnyPlaced (TableHere table) at cs
    → unmet weigh more at cs + weight ≤ unmet weigh met at cs
meets_table weigh met more table weight at [] m h = absurd h
meets_table weigh met more table weight at (c ∷ cs) m h = elim h [
  | inl own ↦ let here = table_weighs weigh met more table weight at c m own in
      let rest = unmet_less weigh met more (at + size_of c) cs m.also in omega (arith, here, rest)
  | inr later ↦ let here = weight_less weigh met more at c m.also in let rest = meets_table weigh
      met more table weight (at + size_of c) cs m later in omega (arith, here, rest)
]

-- so tables along a chain weigh no more than all the manager's fixed chunks
pub tables_weigh : (weigh : Chunk → ℕ) (weight : Table
    → ℕ) (image : List ℕ) (cs : List Chunk) (next : ℕ) (tables : List Table) (last : ℕ)
    → ((table : Table) (bytes : List ℕ) (owner : ℕ) → length bytes ≡ 4 + 4 * table.count
    → weight table ≤ weigh (fixed bytes owner)) → Leads image cs next tables last
    → sum_by weight tables + unmet weigh (is_table_place tables) (area_start image) cs
    ≤ unmet weigh (is_table_place []) (area_start image) cs
tables_weigh weigh weight image cs next [] last weighs leads = omega arith
tables_weigh weigh weight image cs next (t ∷ ts) last weighs leads =
    let rest = tables_weigh weigh weight image cs (u32_at image t.place) ts last weighs leads.3 in
    let own = meets_table weigh (is_table_place ts) (is_table_place (t ∷ ts)) t (weight t)
    (area_start image) cs record {
      also = λ place is. (Decides-place (t ∷ ts) place).1 (inr ((Decides-place ts place).0 is));
      was = not_place ts t.place leads.2;
      is = (Decides-place (t ∷ ts) t.place).1 (inl refl);
      weighs = weighs t;
    } leads.1 in
    let sums = sum_by-cons weight t ts in
    omega (arith, rest, own, sums)

-- ---- in bytes

abbrev table_bytes : Table → ℕ
table_bytes table = 8 + 4 * table.count

bytes_most : (at : ℕ) (cs : List Chunk) → unmet size_of (is_table_place []) at cs ≤ total cs
bytes_most at [] = omega arith
bytes_most at (free size ∷ cs) = let rest = bytes_most (at + size) cs in omega (arith, rest)
bytes_most at (movable bytes lock owner slot ∷ cs) = let rest =
    bytes_most (at + need (length bytes)) cs in omega (arith, rest)
bytes_most at (fixed bytes owner ∷ cs) = let rest = bytes_most (at + need (length bytes)) cs in
    let here = most (owner == 0) (need (length bytes)) in omega (arith, rest, here) where
      most : (b : Bool) (weight : ℕ) → cond b weight 0 ≤ weight
      most true weight = omega arith
      most false weight = omega arith

bytes_sum : (tables : List Table)
    → sum_by table_bytes tables ≡ 8 * length tables + 4 * length (slots_further tables)
bytes_sum [] = refl
bytes_sum (t ∷ ts) =
    let rest = bytes_sum ts in
    let sums = sum_by-cons table_bytes t ts in
    let parts = length-append (slots_in_row (t.place + 4) t.count) (slots_further ts) in
    let row = length-slots_in_row (t.place + 4) t.count in
    omega (arith, rest, sums, parts, row)

pub tables_fit : (image : List ℕ) (cs : List Chunk) (next : ℕ) (tables : List Table) (last : ℕ)
    → Leads image cs next tables last
    → 8 * length tables + 4 * length (slots_further tables) ≤ total cs
tables_fit image cs next tables last leads =
    let weigh = tables_weigh size_of table_bytes image cs next tables last
    (λ table bytes owner long. omega arith) leads in
    let most = bytes_most (area_start image) cs in
    let sum = bytes_sum tables in
    omega (arith, weigh, most, sum)

-- ---- by their number

abbrev one_table : Table → ℕ
one_table table = 1

abbrev one_chunk : Chunk → ℕ
one_chunk c = 1

ones : (tables : List Table) → sum_by one_table tables ≡ length tables
ones [] = refl
ones (t ∷ ts) = let rest = ones ts in let sums = sum_by-cons one_table t ts in
    omega (arith, rest, sums)

all_managers : (at : ℕ) (cs : List Chunk)
    → unmet one_chunk (is_table_place []) at cs ≡ count_by is_managers cs
all_managers at [] = refl
all_managers at (free size ∷ cs) = let rest = all_managers (at + size) cs in
    let sums = sum_by-cons (λ (x : Chunk). cond (is_managers x) 1 0) (free size) cs in
    omega (arith, rest, sums)
all_managers at (movable bytes lock owner slot ∷ cs) = let rest =
    all_managers (at + need (length bytes)) cs in let sums =
    sum_by-cons (λ (x : Chunk). cond (is_managers x) 1 0) (movable bytes lock owner slot) cs in
    omega (arith, rest, sums)
all_managers at (fixed bytes owner ∷ cs) = let rest = all_managers (at + need (length bytes)) cs in
    let sums = sum_by-cons (λ (x : Chunk). cond (is_managers x) 1 0) (fixed bytes owner) cs in
    omega (arith, rest, sums)

none_left : (met : ℕ → Bool) (at place : ℕ) (cs : List Chunk) → unmet one_chunk met at cs ≡ 0
    → AnyPlaced (ManagersBody place) at cs → met place ≡ true
none_left met at place [] none h = absurd h
none_left met at place (c ∷ cs) none h = elim h [
  | inl own ↦ here c (omega (arith, none)) own
  | inr later ↦ none_left met (at + size_of c) place cs (omega (arith, none)) later
] where
  here : (d : Chunk) → weight_left one_chunk met at d ≡ 0 → ManagersBody place at d
      → met place ≡ true
  here (free size) nothing own = absurd own
  here (movable bytes lock owner slot) nothing own = absurd own
  here (fixed bytes owner) nothing own = elim (true_or_false (met (at + 8))) [
    | inl is ↦ sym (ap met own.1) ∙ is
    | inr isnt ↦
        let one : cond {A = ℕ} (owner == 0) (cond (met (at + 8)) 0 1) 0 ≡ 1 =
        cond-true (owner == 0) _ 0 (eq-eqb owner 0 own.0) ∙ cond-false (met (at + 8)) 0 1 isnt in
        absurd (omega (arith, one, nothing))
  ]

-- as many tables as the manager has fixed chunks are all of these
pub all_tables : (image : List ℕ) (cs : List Chunk) (next : ℕ) (tables : List Table)
    → IsChain image cs next tables → length tables ≡ count_by is_managers cs → (place : ℕ)
    → AnyPlaced (ManagersBody place) (area_start image) cs → IsTablePlace tables place
all_tables image cs next tables chain many place body =
    let weigh = tables_weigh one_chunk one_table image cs next tables 0
    (λ table bytes owner long. omega arith) (chain_leads_on image cs next tables chain) in
    let sum = ones tables in
    let all = all_managers (area_start image) cs in
    (Decides-place tables place).0 (none_left (is_table_place tables) (area_start image) place cs
    (omega (arith, weigh, sum, all, many)) body)
