-- How much is free follows from what is held: an image's bytes after its head are free, or those of
-- chunks that names stand for.
use Rattle.laws_heap.proofs.Words.{◌≡◌, ◌≢◌, ℕ, zero, suc, ◌+◌, ◌*◌, ◌<◌, ◌≤◌, Bool, true, false, cond, List, [], ◌∷◌, ◌++◌, length, Option, Some, None, refl, sym, ap, subst, ◌∙◌, append_assoc, arith, inl, inr, ◌==◌, ◌&&◌, ◌⊎◌, cases_eq, eq-eqb, Decides-and, Decides-eqb, nat_tests, Decides, u32_at, Chunk, free, movable, fixed, need, size_of, total, SpelledAll, Table, Tables, IsSlot, tables_of, further_tables, first_next, area_start, BodyHere, TableHere, IsChain, IsTablePlace, IsKnownIfFixed, IsHeap, HeapAccepted, EveryPlaced, AnyPlaced, LiveChunk, chunks_of, live_under, held, is_fixed_name, is_table_place, free_total, free_slots, SameFrame, lives}
use Rattle.laws_heap.proofs.Tests.{cond-true, cond-false, true_or_false}
use Rattle.laws_heap.proofs.Chunks.{total-append}
use Rattle.laws_heap.proofs.Placed.{TakesBytes, AnyPlaced-mid, SpelledAll-takes}
use Rattle.laws_heap.proofs.Slots.{slot_facts, same_slots, start_listed}
use Rattle.laws_heap.proofs.Accepted.{Decides-place}
use Rattle.laws_heap.proofs.SameLayouts.{frame_slots, frame_start}
use Rattle.laws_heap.proofs.Meanings.{slot_place, held-is}
use Rattle.laws_heap.proofs.FoundChunks.{read_heap}
use Rattle.laws_heap.proofs.FixedNames.{fixed_name, fixed_live, fixed_has_name, fixed_place, fixed_test, fixed_other, table_unnamed}
use Rattle.laws_heap.proofs.Exchanges.{named_beside}
use Rattle.laws_heap.proofs.Slides.{lives_total}
use Rattle.laws_heap.proofs.SlidImages.{slots_follow}

-- ---- sums over the names below a number

abbrev pub sum_below : (ℕ → ℕ) → ℕ → ℕ
sum_below f zero = 0
sum_below f (suc n) = f n + sum_below f n

same_below : (f g : ℕ → ℕ) (n : ℕ) → ((name : ℕ) → f name ≡ g name) → sum_below f n ≡ sum_below g n
same_below f g zero same = refl
same_below f g (suc n) same = let here = same n in let rest = same_below f g n same in omega arith

none_below : (f : ℕ → ℕ) (n : ℕ) → ((name : ℕ) → f name ≡ 0) → sum_below f n ≡ 0
none_below f zero none = refl
none_below f (suc n) none = let here = none n in let rest = none_below f n none in omega arith

-- one name alone has more
apart_below : (f g : ℕ → ℕ) (one n : ℕ) → n ≤ one → ((name : ℕ) → name ≢ one → f name ≡ g name)
    → sum_below f n ≡ sum_below g n
apart_below f g one zero high same = refl
apart_below f g one (suc n) high same =
    let here = same n (omega arith) in
    let rest = apart_below f g one n (omega arith) same in
    omega arith

pub more_below : (f g : ℕ → ℕ) (one more n : ℕ) → one < n
    → ((name : ℕ) → name ≢ one → f name ≡ g name) → f one ≡ more + g one
    → sum_below f n ≡ more + sum_below g n
more_below f g one more zero low same here = absurd (omega arith)
more_below f g one more (suc n) low same here = elim (cases_eq n one) [
  | inl e ↦
      let f_here : f n ≡ more + g n = subst (λ (k : ℕ). f k ≡ more + g k) (sym e) here in
      let rest = apart_below f g one n (omega arith) same in
      omega arith
  | inr apart ↦
      let first = same n apart in
      let rest = more_below f g one more n (omega arith) same here in
      omega arith
]

-- ---- what tables take

-- of some chunks
abbrev pub table_total : List Chunk → ℕ
table_total [] = 0
table_total (free size ∷ chunks) = table_total chunks
table_total (movable bytes lock owner slot ∷ chunks) = table_total chunks
table_total (fixed bytes owner ∷ chunks) =
    cond (owner == 0) (need (length bytes)) 0 + table_total chunks

-- the one whose body is at a place, among chunks that begin at an offset
abbrev table_under : ℕ → List Chunk → ℕ → ℕ
table_under at [] place = 0
table_under at (free size ∷ chunks) place = table_under (at + size) chunks place
table_under at (movable bytes lock owner slot ∷ chunks) place =
    table_under (at + need (length bytes)) chunks place
table_under at (fixed bytes owner ∷ chunks) place = cond ((owner == 0) && ((at + 8) == place))
    (need (length bytes)) (table_under (at + need (length bytes)) chunks place)

-- the same by the list of the tables
abbrev table_listed : List Table → ℕ → ℕ
table_listed [] place = 0
table_listed (table ∷ tables) place =
    cond (table.place == place) (need (4 + 4 * table.count)) (table_listed tables place)

Decides-under : (at owner place : ℕ)
    → Decides ((owner == 0) && ((at + 8) == place)) ((owner ≡ 0) × (at + 8 ≡ place))
Decides-under at owner place = Decides-and _ _ (Decides-eqb owner 0) (Decides-eqb (at + 8) place)

not_under : (at owner place : ℕ) → ((owner ≡ 0) × (at + 8 ≡ place) → ⊥)
    → ((owner == 0) && ((at + 8) == place)) ≡ false
not_under at owner place none = elim (true_or_false ((owner == 0) && ((at + 8) == place))) [
  | inl is ↦ absurd (none ((Decides-under at owner place).0 is))
  | inr isnt ↦ isnt
]

-- none has its body before them
under_low : (at : ℕ) (cs : List Chunk) (place : ℕ) → place < at + 8 → table_under at cs place ≡ 0
under_low at [] place low = refl
under_low at (free size ∷ cs) place low = under_low (at + size) cs place (omega arith)
under_low at (movable bytes lock owner slot ∷ cs) place low = under_low _ cs place (omega arith)
under_low at (fixed bytes owner ∷ cs) place low =
    cond-false _ _ _ (not_under at owner place (λ h. let is = h.1 in omega arith))
    ∙ under_low (at + need (length bytes)) cs place (omega arith)

under_total : (bound at : ℕ) (cs : List Chunk) → at + total cs < bound
    → table_total cs ≡ sum_below (table_under at cs) bound
under_total bound at [] within = sym (none_below (table_under at []) bound (λ place. refl))
under_total bound at (free size ∷ cs) within = under_total bound (at + size) cs (omega arith)
under_total bound at (movable bytes lock owner slot ∷ cs) within = under_total _ _ cs (omega arith)
under_total bound at (fixed bytes owner ∷ cs) within =
    let rest = under_total bound (at + need (length bytes)) cs (omega arith) in
    elim (cases_eq owner 0) [
      | inl none ↦
          let nothing = under_low (at + need (length bytes)) cs (at + 8) (omega arith) in
          let size : cond (owner == 0) (need (length bytes)) 0 ≡ need (length bytes) =
          cond-true (owner == 0) (need (length bytes)) 0 (eq-eqb owner 0 none) in
          let mine : table_under at (fixed bytes owner ∷ cs) (at + 8) ≡ need (length bytes) =
          cond-true ((owner == 0) && ((at + 8) == (at + 8))) (need
          (length bytes)) _ ((Decides-under at owner (at + 8)).1 (none, refl)) in
          let sums = more_below (table_under at (fixed bytes owner ∷ cs)) (table_under
          (at + need (length bytes)) cs) (at + 8) (need (length bytes)) bound (omega arith)
          (λ place apart. cond-false _ _ _ (not_under at owner place (λ h. apart (sym h.1))))
          (omega (arith, mine, nothing)) in
          omega (arith, rest, size, sums)
      | inr some ↦
          let size = cond-false (owner == 0) (need (length bytes)) 0 (grind (arith, nat_tests)) in
          let sums = same_below (table_under at (fixed bytes owner ∷ cs))
          (table_under (at + need (length bytes)) cs) bound (λ place. cond-false
          ((owner == 0) && ((at + 8) == place)) _ _ (not_under at owner place (λ h. some h.0))) in
          omega (arith, rest, size, sums)
    ]

pub table_low : (table : Table) (at : ℕ) (cs : List Chunk) → AnyPlaced (TableHere table) at cs
    → at + 8 ≤ table.place
table_low table at [] t = absurd t
table_low table at (c ∷ cs) t = elim t [
  | inl own ↦ here c own
  | inr later ↦ let low = table_low table (at + size_of c) cs later in omega arith
] where
  here : (d : Chunk) → TableHere table at d → at + 8 ≤ table.place
  here (free size) own = absurd own
  here (movable bytes lock owner slot) own = absurd own
  here (fixed bytes owner) own = let place = own.1 in omega arith

-- what a table among the chunks takes
under_table : (table : Table) (at : ℕ) (cs : List Chunk) → EveryPlaced TakesBytes at cs
    → AnyPlaced (TableHere table) at cs → table_under at cs table.place ≡ need (4 + 4 * table.count)
under_table table at [] takes t = absurd t
under_table table at (free size ∷ cs) takes t =
    elim t [ inl own ↦ absurd own | inr later ↦ under_table table (at + size) cs takes.1 later ]
under_table table at (movable bytes lock owner slot ∷ cs) takes t = elim t [
  | inl own ↦ absurd own
  | inr later ↦ under_table table (at + need (length bytes)) cs takes.1 later
]
under_table table at (fixed bytes owner ∷ cs) takes t = elim t [
  | inl own ↦ cond-true _ _ _ ((Decides-under at owner _).1 (own.0, own.1)) ∙ ap need own.2
  | inr later ↦
      let low = table_low table (at + need (length bytes)) cs later in
      cond-false ((owner == 0) && ((at + 8) == table.place)) _ _ (not_under at owner table.place
      (λ h. let is = h.1 in omega arith))
      ∙ under_table table (at + need (length bytes)) cs takes.1 later
]

-- nothing where no table is known
under_none : (tables : List Table) (at : ℕ) (cs : List Chunk) (place : ℕ)
    → EveryPlaced (IsKnownIfFixed tables) at cs → (IsTablePlace tables place → ⊥)
    → table_under at cs place ≡ 0
under_none tables at [] place known none = refl
under_none tables at (free size ∷ cs) place known none = under_none tables _ cs place known.1 none
under_none tables at (movable bytes lock owner slot ∷ cs) place known none =
    under_none tables (at + need (length bytes)) cs place known.1 none
under_none tables at (fixed bytes owner ∷ cs) place known none =
    cond-false ((owner == 0) && ((at + 8) == place)) _ _
    (not_under at owner place (λ h. elim known.0.1 [
      | inl some ↦ (let zero_owner = h.0 in omega arith)
      | inr listed ↦ none (subst (IsTablePlace tables) h.1 listed)
    ]))
    ∙ under_none tables (at + need (length bytes)) cs place known.1 none

listed_none : (tables : List Table) (place : ℕ) → (IsTablePlace tables place → ⊥)
    → table_listed tables place ≡ 0
listed_none [] place none = refl
listed_none (t ∷ tables) place none =
    cond-false (t.place == place) _ _ (let apart : t.place ≢ place = λ e. none (inl e) in
    grind (arith, nat_tests)) ∙ listed_none tables place (λ l. none (inr l))

-- of a chain, by its list
under_listed : (image : List ℕ) (cs : List Chunk) (next : ℕ) (tables : List Table) (place : ℕ)
    → EveryPlaced TakesBytes (area_start image) cs → IsChain image cs next tables
    → IsTablePlace tables place
    → table_under (area_start image) cs place ≡ table_listed tables place
under_listed image cs next [] place takes chain listed = absurd listed
under_listed image cs next (t ∷ tables) place takes chain listed = elim (cases_eq t.place place) [
  | inl is ↦ subst (λ (n : ℕ). table_under (area_start image) cs n ≡ table_listed (t ∷ tables) n) is
      (under_table t (area_start image) cs takes chain.1 ∙ sym (cond-true (t.place == t.place)
      (need (4 + 4 * t.count)) (table_listed tables t.place) (eq-eqb t.place t.place refl)))
  | inr apart ↦
      let more : IsTablePlace tables place =
      elim listed [ inl here ↦ absurd (apart here) | inr later ↦ later ] in
      under_listed image cs (u32_at image t.place) tables place takes chain.2 more
      ∙ sym (cond-false (t.place == place) (need (4 + 4 * t.count)) _ (grind (arith, nat_tests)))
]

under_each : (image : List ℕ) (cs : List Chunk) (place : ℕ) → IsHeap image cs
    → table_under (area_start image) cs place ≡ table_listed (further_tables image) place
under_each image cs place h = elim (true_or_false (is_table_place (further_tables image) place)) [
  | inl is ↦ under_listed image cs (first_next image) (further_tables image) place
      (SpelledAll-takes image (area_start image) cs (length image) h.tiles.area) h.tiles.chain
      ((Decides-place (further_tables image) place).0 is)
  | inr isnt ↦
      let none : IsTablePlace (further_tables image) place → ⊥ = λ l. let is =
      (Decides-place (further_tables image) place).1 l in absurd (same_not is isnt) in
      under_none _ _ cs place h.fixed_are_known none ∙ sym (listed_none _ place none)
] where
  same_not : {b : Bool} → b ≡ true → b ≡ false → ⊥
  same_not e f = let g : true ≡ false = sym e ∙ f in absurd cc

-- ---- what the chunk of a name takes

abbrev taken : Option LiveChunk → ℕ
taken None = 0
taken (Some live) = need (length live.bytes)

-- each live chunk's name is below a number, and no chunk after it has that name
abbrev NamedApart : ℕ → ℕ → List Chunk → Type 0
NamedApart bound at [] = Unit {0}
NamedApart bound at (free size ∷ chunks) = NamedApart bound (at + size) chunks
NamedApart bound at (movable bytes lock owner slot ∷ chunks) =
    (slot < bound) × (live_under (at + need (length bytes)) chunks slot ≡ None)
    × NamedApart bound (at + need (length bytes)) chunks
NamedApart bound at (fixed bytes owner ∷ chunks) = ((owner ≡ 0) ⊎ ((0 < owner) × (fixed_name at
    < bound) × (live_under (at + need (length bytes)) chunks (fixed_name at) ≡ None)))
    × NamedApart bound (at + need (length bytes)) chunks

-- a first chunk of a name, which none after it has
first_taken : (bound one : ℕ) (test : ℕ → Bool) (live : LiveChunk) (rest : ℕ → Option LiveChunk)
    → one < bound → test one ≡ true → ((name : ℕ) → name ≢ one → test name ≡ false)
    → rest one ≡ None → sum_below (λ name. taken (cond (test name) (Some live) (rest name))) bound
    ≡ need (length live.bytes) + sum_below (λ name. taken (rest name)) bound
first_taken bound one test live rest low own other none =
    more_below (λ name. taken (cond (test name) (Some live) (rest name)))
    (λ name. taken (rest name)) one (need (length live.bytes)) bound low
    (λ name apart. ap taken (cond-false (test name) (Some live) (rest name) (other name apart)))
    (let here = ap taken (cond-true (test one) (Some live) (rest one) own) in
    let nothing : taken (rest one) ≡ 0 = ap taken none in
    omega arith)

lives_taken : (bound at : ℕ) (cs : List Chunk) → NamedApart bound at cs
    → total (lives cs) ≡ table_total cs + sum_below (λ name. taken (live_under at cs name)) bound
lives_taken bound at [] n =
    let none = none_below (λ name. taken (live_under at [] name)) bound (λ name. refl) in
    omega (arith, none)
lives_taken bound at (free size ∷ cs) n = lives_taken bound (at + size) cs n
lives_taken bound at (movable bytes lock owner slot ∷ cs) n =
    let rest = lives_taken bound (at + need (length bytes)) cs n.2 in
    let own = first_taken bound slot (λ name. slot == name)
    (record { bytes = bytes; lock = lock; owner = owner }) (live_under (at + need (length bytes))
    cs) n.0 (eq-eqb slot slot refl) (λ name apart. grind (arith, nat_tests)) n.1 in
    omega (arith, rest, own)
lives_taken bound at (fixed bytes owner ∷ cs) n =
    let more : ℕ → Option LiveChunk = live_under (at + need (length bytes)) cs in
    let rest = lives_taken bound (at + need (length bytes)) cs n.1 in
    elim n.0 [
      | inl none ↦
          let own = same_below (λ name. taken (cond (is_fixed_name at owner name)
          (Some (fixed_live bytes owner)) (more name))) (λ name. taken (more name)) bound
          (λ name. ap taken (cond-false (is_fixed_name at owner name) (Some (fixed_live bytes
          owner)) (more name) (ap (λ v. is_fixed_name at v name) none ∙ table_unnamed at name))) in
          let size = cond-true (owner == 0) (need (length bytes)) 0 (eq-eqb owner 0 none) in
          omega (arith, rest, own, size)
      | inr some ↦
          let named = fixed_has_name at bytes owner some.0 in
          let own = first_taken bound (fixed_name at) (is_fixed_name at owner)
          (fixed_live bytes owner) more some.1 (fixed_test at bytes owner named)
          (λ name apart. fixed_other at bytes owner name named apart) some.2 in
          let size = cond-false (owner == 0) (need (length bytes)) 0
          (let positive = some.0 in grind (arith, nat_tests)) in
          omega (arith, rest, own, size)
    ]

-- ---- of an image

ends : (image : List ℕ) (at : ℕ) (cs : List Chunk) (end : ℕ) → SpelledAll image at cs end
    → at + total cs ≡ end
ends image at [] end s = let e : at ≡ end = s in omega arith
ends image at (c ∷ cs) end s = let rest = ends image (at + size_of c) cs end s.1 in omega arith

area_total : (image : List ℕ) → HeapAccepted image
    → area_start image + total (chunks_of image) ≡ length image
area_total image h = ends image _ (chunks_of image) (length image) (read_heap image h).tiles.area

apart_from : (image : List ℕ) (before cs : List Chunk) → HeapAccepted image
    → chunks_of image ≡ before ++ cs
    → NamedApart (length image + 1) (area_start image + total before) cs
apart_from image before [] h e = tt
apart_from image before (c ∷ cs) h e = by c e
    (apart_from image (before ++ c ∷ []) cs h (e ∙ sym (append_assoc before (c ∷ []) cs))) where
      here : ℕ
      here = area_start image + total before

      within : (d : Chunk) → chunks_of image ≡ before ++ d ∷ cs → here + size_of d ≤ length image
      within d e =
          let sum = total-append before (d ∷ cs) in let all = area_total image h in
          let same = ap total e in
          omega (arith, sum, all, same)

      behind : (d : Chunk)
          → NamedApart (length image + 1) (area_start image + total (before ++ d ∷ [])) cs
          → NamedApart (length image + 1) (here + size_of d) cs
      behind d rest =
          let sum = total-append before (d ∷ []) in
          let there : area_start image + total (before ++ d ∷ []) ≡ here + size_of d =
          omega arith in
          rw there at rest

      slot_low : (slot : ℕ) → IsSlot image slot → slot < length image + 1
      slot_low slot s =
          let inside = (slot_facts _ _ slot (read_heap _ h).tiles s).inside in
          omega arith

      by : (d : Chunk) → chunks_of image ≡ before ++ d ∷ cs
          → NamedApart (length image + 1) (area_start image + total (before ++ d ∷ [])) cs
          → NamedApart (length image + 1) here (d ∷ cs)
      by (free size) e rest = behind (free size) rest
      by (movable bytes lock owner slot) e rest =
          let c : Chunk = movable bytes lock owner slot in
          let body : AnyPlaced (BodyHere slot (here + 8)) (area_start image) (chunks_of image) =
          rw (← e) at (AnyPlaced-mid (BodyHere slot (here + 8)) (area_start image) before c cs
          (refl, refl)) in
          let s = slot_place image (chunks_of image) slot (here + 8) (read_heap image h) body in (
            slot_low slot s.0,
            (named_beside image _ c cs slot _ h e (refl, refl)).back,
            behind c rest,
          )
      by (fixed bytes owner) e rest =
          let c : Chunk = fixed bytes owner in
          let inside = within c e in
          let place = fixed_place here in (
            elim (cases_eq owner 0) [
              | inl none ↦ inl none
              | inr some ↦
                  let positive : 0 < owner = omega arith in
                  inr (
                    positive,
                    omega arith,
                    (named_beside image before c cs (fixed_name here) (fixed_live bytes owner) h e
                        (fixed_has_name here bytes owner positive)).back,
                  )
            ],
            behind c rest,
          )

-- what its tables take is told by their list
table_total_listed : (image : List ℕ) → HeapAccepted image → table_total (chunks_of image)
    ≡ sum_below (table_listed (further_tables image)) (length image + 1)
table_total_listed image h =
    let all = area_total image h in
    under_total (length image + 1) (area_start image) (chunks_of image) (omega (arith, all))
    ∙ same_below (table_under (area_start image) (chunks_of image)) (table_listed
    (further_tables image)) (length image + 1) (λ place. under_each image (chunks_of image) place
    (read_heap image h))

pub tables_take : (old new : List ℕ) → HeapAccepted old → HeapAccepted new → length new ≡ length old
    → tables_of new ≡ tables_of old → table_total (chunks_of new) ≡ table_total (chunks_of old)
tables_take old new before after long same =
    table_total_listed new after
    ∙ ap (λ (n : ℕ). sum_below (table_listed (further_tables new)) (n + 1)) long
    ∙ ap (λ (t : Tables). sum_below (table_listed t.further) (length old + 1)) same
    ∙ sym (table_total_listed old before)

-- the bytes after the head are free, those of tables, or those of chunks that names stand for
area_shared : (image : List ℕ) → HeapAccepted image
    → area_start image + free_total image + table_total (chunks_of image)
    + sum_below (λ name. taken (held image name)) (length image + 1) ≡ length image
area_shared image h =
    let start : area_start image + total [] ≡ area_start image = omega arith in
    let named = lives_taken (length image + 1) (area_start image) (chunks_of image)
    (rw start at (apart_from image [] (chunks_of image) h refl)) in
    let same = same_below (λ name. taken (held image name))
    (λ name. taken (live_under (area_start image) (chunks_of image) name)) (length image + 1)
    (λ name. ap taken (held-is image (chunks_of image) name (read_heap image h))) in
    let split = lives_total (chunks_of image) in
    let all = area_total image h in
    omega (arith, named, same, split, all)

-- ---- where the same is held

pub free_follows : (old new : List ℕ) → HeapAccepted old → HeapAccepted new
    → length new ≡ length old → area_start new ≡ area_start old
    → table_total (chunks_of new) ≡ table_total (chunks_of old)
    → ((name : ℕ) → held new name ≡ held old name) → free_total new ≡ free_total old
free_follows old new before after long start takes same =
    let was = area_shared old before in
    let is = area_shared new after in
    let bound = ap (λ n. sum_below (λ name. taken (held new name)) (n + 1)) long in
    let names = same_below (λ name. taken (held new name)) (λ name. taken (held old name))
    (length old + 1) (λ name. ap taken (same name)) in
    omega (arith, was, is, long, start, takes, bound, names)

-- as much is free, and as many slots
pub free_alike : (old new : List ℕ) → HeapAccepted old → HeapAccepted new → length new ≡ length old
    → tables_of new ≡ tables_of old → ((name : ℕ) → held new name ≡ held old name)
    → (free_total new ≡ free_total old) × (free_slots new ≡ free_slots old)
free_alike old new before after long tables same = (
  free_follows old new before after long (start_listed old new tables)
      (tables_take old new before after long tables) same,
  slots_follow old new before after (same_slots old new tables) same,
)

-- the same, where a call has left the frame as it was
pub as_before : (old new : List ℕ) → HeapAccepted old → SameFrame old new
    → ((name : ℕ) → held new name ≡ held old name)
    → (free_total new ≡ free_total old) × (free_slots new ≡ free_slots old)
as_before old new h frame same = (
  free_follows old new h frame.accepted frame.len (frame_start old new frame)
      (tables_take old new h frame.accepted frame.len frame.tables) same,
  slots_follow old new h frame.accepted (frame_slots old new frame) same,
)
