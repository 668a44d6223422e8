-- A survey with one chunk more is a survey again, and at the end it is that of all chunks.
use Rattle.heap_check.proofs.Words.{◌≡◌, ℕ, ◌+◌, ◌<◌, ◌≤◌, Bool, true, false, cond, List, [], ◌∷◌, ◌++◌, length, Option, Some, None, refl, sym, ap, subst, ◌∙◌, arith, inl, inr, ◌↔◌, ◌⊎◌, count_by, Decides, false≢true, Decides-and, Decides-ltb, sum_by_push, u32_at, Chunk, free, movable, fixed, Spelled, size_of, total, is_movable, is_fixed, free_size, SpelledAll, slots_total, area_start, BodyHere, IsKnownIfFixed, NamesItsSlot, chunks_of, names_its_slot, Spelled-size, SpelledAll-end, SpelledAll-push, chunks_from-tiled, Decides-names, AnyPlaced-left, AnyPlaced-right, AnyPlaced-split, EveryPlaced-push, FirstWithout-first, FirstWithout-kept, Header, header_of, size_by, HasHeader, size_by-header_of, Survey, NoneMarked, noted_owner, movable_by, fixed_by, free_by, owner_by, names_by, callers_by, BodyBy, noted, MarkedAt, IsOwnerOf, AreNoted, IsFirstWithout, Surveys, HasSurveyed, IsSurvey, MarksBody}
use Rattle.heap_check.proofs.SlotLaws.{marks_more, none_at}

-- ---- what is read from a header is true for its chunk

pub movable_of : (c : Chunk) → movable_by (header_of c) ≡ count_by is_movable (c ∷ [])
movable_of (free size) = refl
movable_of (movable bytes lock owner slot) = refl
movable_of (fixed bytes owner) = refl

pub fixed_of : (c : Chunk) → fixed_by (header_of c) ≡ count_by is_fixed (c ∷ [])
fixed_of (free size) = refl
fixed_of (movable bytes lock owner slot) = refl
fixed_of (fixed bytes owner) = refl

pub free_of : (c : Chunk) → free_by (header_of c) ≡ free_size c
free_of (free size) = refl
free_of (movable bytes lock owner slot) = refl
free_of (fixed bytes owner) = refl

names_of : (image : List ℕ) (at : ℕ) (c : Chunk)
    → names_by image at (header_of c) ≡ names_its_slot image at c
names_of image at (free size) = refl
names_of image at (movable bytes lock owner slot) = refl
names_of image at (fixed bytes owner) = refl

Decides-known_alone : (at : ℕ) (c : Chunk)
    → Decides (callers_by (header_of c)) (IsKnownIfFixed [] at c)
Decides-known_alone at (free size) = (λ e. tt, λ h. refl)
Decides-known_alone at (movable bytes lock owner slot) = (λ e. tt, λ h. refl)
Decides-known_alone at (fixed bytes owner) =
    let d = Decides-and _ _ (Decides-ltb 0 owner) (Decides-ltb owner 15) in (
      λ e. (let both = d.0 e in (both.1, inl both.0)),
      λ h. d.1 (elim h.1 [ inl some ↦ some | inr none ↦ absurd none ], h.0),
    )

pub body_of : (slot place at : ℕ) (c : Chunk)
    → BodyBy slot place at (header_of c) ≡ BodyHere slot place at c
body_of slot place at (free size) = refl
body_of slot place at (movable bytes lock owner named) = refl
body_of slot place at (fixed bytes owner) = refl

-- a header counts for no more bytes than its chunk takes
pub counts_within : (c : Chunk) → 8 ≤ size_of c
    → movable_by (header_of c) + fixed_by (header_of c) + free_by (header_of c) ≤ size_of c
counts_within (free size) s = omega arith
counts_within (movable bytes lock owner slot) s = omega arith
counts_within (fixed bytes owner) s = omega arith

-- ---- owners

owner_low : (image : List ℕ) (at : ℕ) (c : Chunk) → Spelled image at c → owner_by (header_of c) < 16
owner_low image at (free size) s = omega arith
owner_low image at (movable bytes lock owner slot) s = s.1.owner_fits
owner_low image at (fixed bytes owner) s = s.owner_fits

-- a mark for it is none of those of slots without a chunk
noted_low : (notes : Bool) (owner : ℕ) → owner < 16 → noted_owner notes owner < 16
noted_low true owner low = low
noted_low false owner low = omega arith

owner_here : (image : List ℕ) (slot at : ℕ) (c : Chunk) → Spelled image at c
    → BodyHere slot (u32_at image slot) at c → IsOwnerOf image slot (owner_by (header_of c))
owner_here image slot at (free size) s b = absurd b
owner_here image slot at (movable bytes lock owner named) s b = record {
  at = at;
  bytes = bytes;
  lock = lock;
  spelled = subst (λ (n : ℕ). Spelled image at (movable bytes lock owner n)) b.0 s;
  place = b.1;
}
owner_here image slot at (fixed bytes owner) s b = absurd b

pub owners_more : (notes : Bool) (image : List ℕ) (at : ℕ) (header : Header) (old new : List ℕ)
    → HasHeader image at header → MarksBody notes image at header old new → AreNoted notes image old
    → AreNoted notes image new
owners_more notes image at header old new found adds was slot number s marked =
    elim (adds.each slot number s) [
      | inl here ↦
          let place : ℕ = u32_at image slot in
          let body : BodyHere slot place at found.chunk = subst (λ (X : Type 0). X)
          (ap (BodyBy slot place at) found.header_is ∙ body_of slot place at found.chunk) here.0 in (
            owner_by (header_of found.chunk),
            here.1 ∙ ap (λ (h : Header). noted_owner notes (owner_by h)) found.header_is,
            owner_here image slot at found.chunk found.spelled body,
          )
      | inr apart ↦ let old_one = was slot number s (λ none. marked (apart.1 ∙ none)) in
          (old_one.0, apart.1 ∙ old_one.1, old_one.2)
    ]

-- ---- one chunk more

pub count_push : (test : Chunk → Bool) (cs : List Chunk) (c : Chunk)
    → count_by test (cs ++ c ∷ []) ≡ count_by test cs + count_by test (c ∷ [])
count_push test cs c = let e : cond (test c) 1 0 ≡ 0 + cond (test c) 1 0 = omega arith in
    sum_by_push (λ (x : Chunk). cond (test x) 1 0) cs c ∙ ap (λ (n : ℕ). count_by test cs + n) e

pub noted_more : (P : ℕ → Chunk → Type 0) (start : ℕ) (before : List Chunk) (c : Chunk) (at : ℕ)
    (found : Option ℕ) (right : Bool) → at ≡ start + total before → Decides right (P at c)
    → IsFirstWithout P start before found
    → IsFirstWithout P start (before ++ c ∷ []) (noted found at right)
noted_more P start before c at (Some first) right e decides was =
    FirstWithout-kept P start before c first was
noted_more P start before c at None true e decides was =
    EveryPlaced-push P start before c at e was (decides.0 refl)
noted_more P start before c at None false e decides was =
    FirstWithout-first P start before c at e was (λ p. false≢true (decides.1 p))

-- what adding a chunk by its header does to a survey and to the marks
pub record Adds (notes : Bool) (image : List ℕ) (at : ℕ) (header : Header) (old new : Survey)
    (before_marks after_marks : List ℕ) : Type 0 where
  pub movable : new.movable ≡ old.movable + movable_by header
  pub fixed : new.fixed ≡ old.fixed + fixed_by header
  pub free : new.free ≡ old.free + free_by header
  pub without_slot : new.without_slot ≡ noted old.without_slot at (names_by image at header)
  pub bad_owner : new.bad_owner ≡ noted old.bad_owner at (callers_by header)
  pub marked : MarksBody notes image at header before_marks after_marks

pub surveys_more : (notes : Bool) (image : List ℕ) (before : List Chunk) (c : Chunk) (at : ℕ)
    (header : Header) (old new : Survey) (before_marks after_marks : List ℕ)
    → at ≡ area_start image + total before → header ≡ header_of c → owner_by header < 16
    → Surveys image before old before_marks
    → Adds notes image at header old new before_marks after_marks
    → Surveys image (before ++ c ∷ []) new after_marks
surveys_more notes image before c at header old new before_marks after_marks e is low was adds =
    record {
      movable = adds.movable ∙ ap (λ (n : ℕ). old.movable + n) (ap movable_by is ∙ movable_of c)
          ∙ ap (λ (n : ℕ). n + count_by is_movable (c ∷ [])) was.movable
          ∙ sym (count_push is_movable before c);
      fixed = adds.fixed ∙ ap (λ (n : ℕ). old.fixed + n) (ap fixed_by is ∙ fixed_of c)
          ∙ ap (λ (n : ℕ). n + count_by is_fixed (c ∷ [])) was.fixed
          ∙ sym (count_push is_fixed before c);
      free = adds.free ∙ ap (λ (n : ℕ). old.free + n) (ap free_by is ∙ free_of c)
          ∙ ap (λ (n : ℕ). n + free_size c) was.free ∙ sym (sum_by_push free_size before c);
      marked = λ slot k stands.
          let place : ℕ = u32_at image slot in
          let more : MarkedAt after_marks k
          ↔ (MarkedAt before_marks k ⊎ BodyBy slot place at header) =
          marks_more image (λ named. BodyBy named (u32_at image named) at header)
          (noted_owner notes (owner_by header)) before_marks after_marks
          (noted_low notes (owner_by header) low) adds.marked slot k stands in
          let here : BodyBy slot place at header
          ≡ BodyHere slot place (area_start image + total before) c = ap (BodyBy slot place at) is
          ∙ body_of slot place at c ∙ ap (λ (n : ℕ). BodyHere slot place n c) e in (
            λ marked. elim (more.0 marked) [
              | inl earlier ↦ AnyPlaced-left (BodyHere slot place) (area_start image) before
                  (c ∷ []) ((was.marked slot k stands).0 earlier)
              | inr own ↦ AnyPlaced-right (BodyHere slot place) (area_start image) before (c ∷ [])
                  (inl (coe_to here own))
            ],
            λ body. more.1 (elim (AnyPlaced-split (BodyHere slot place) (area_start image) before
                (c ∷ []) body) [
                  | inl left ↦ inl ((was.marked slot k stands).1 left)
                  | inr own ↦
                      inr (elim own [ inl b ↦ coe_to (sym here) b | inr none ↦ absurd none ])
                ]),
          );
      without_slot = subst (λ (found : Option ℕ). IsFirstWithout (NamesItsSlot image)
          (area_start image) (before ++ c ∷ []) found) (sym adds.without_slot)
          (noted_more (NamesItsSlot image) (area_start image) before c at old.without_slot
          (names_by image at header) e (subst (λ (b : Bool). Decides b (NamesItsSlot image at c))
          (sym (ap (names_by image at) is ∙ names_of image at c)) (Decides-names image at c))
          was.without_slot);
      bad_owner = subst (λ (found : Option ℕ). IsFirstWithout (IsKnownIfFixed []) (area_start image)
          (before ++ c ∷ []) found) (sym adds.bad_owner)
          (noted_more (IsKnownIfFixed []) (area_start image) before c at old.bad_owner
          (callers_by header) e (subst (λ (b : Bool). Decides b (IsKnownIfFixed [] at c))
          (sym (ap callers_by is)) (Decides-known_alone at c)) was.bad_owner);
    } where
      coe_to : {A B : Type 0} → A ≡ B → A → B
      coe_to e x = subst (λ (X : Type 0). X) e x

-- ---- the walk

pub surveys_none : (image : List ℕ) (survey : Survey) (marks : List ℕ)
    → slots_total image ≤ length marks → NoneMarked marks → survey.movable ≡ 0 → survey.fixed ≡ 0
    → survey.free ≡ 0 → survey.without_slot ≡ None → survey.bad_owner ≡ None
    → Surveys image [] survey marks
surveys_none image survey marks room none no_movable no_fixed no_free without_slot bad_owner =
    record {
      movable = no_movable;
      fixed = no_fixed;
      free = no_free;
      marked =
          λ slot k s. (λ m. absurd (none_at image marks room none slot k s m), λ body. absurd body);
      without_slot = subst (λ (found : Option ℕ). IsFirstWithout (NamesItsSlot image)
          (area_start image) [] found) (sym without_slot) tt;
      bad_owner = subst (λ (found : Option ℕ). IsFirstWithout (IsKnownIfFixed [])
          (area_start image) [] found) (sym bad_owner) tt;
    }

pub walked_more : (notes : Bool) (image : List ℕ) (at : ℕ) (header : Header) (old new : Survey)
    (before_marks after_marks : List ℕ) → HasSurveyed image at old before_marks
    → HasHeader image at header → Adds notes image at header old new before_marks after_marks
    → HasSurveyed image (at + size_by header) new after_marks
walked_more notes image at header old new before_marks after_marks was found adds =
    let c : Chunk = found.chunk in
    let size : size_by header ≡ size_of c = ap size_by found.header_is ∙ size_by-header_of c in
    let takes = Spelled-size image at c found.spelled in
    let here : at ≡ area_start image + total was.chunks =
    SpelledAll-end image (area_start image) was.chunks at was.spelled in
    let counts = was.counts in
    let within = counts_within c takes.0 in
    let low : owner_by header < 16 = subst (λ (n : ℕ). n < 16) (sym (ap owner_by found.header_is))
    (owner_low image at c found.spelled) in
    let m : new.movable ≡ old.movable + movable_by (header_of c) =
    adds.movable ∙ ap (λ (h : Header). old.movable + movable_by h) found.header_is in
    let f : new.fixed ≡ old.fixed + fixed_by (header_of c) =
    adds.fixed ∙ ap (λ (h : Header). old.fixed + fixed_by h) found.header_is in
    let s : new.free ≡ old.free + free_by (header_of c) =
    adds.free ∙ ap (λ (h : Header). old.free + free_by h) found.header_is in
    record {
      chunks = was.chunks ++ c ∷ [];
      spelled = SpelledAll-push image (area_start image) was.chunks at c
          (at + size_by header) was.spelled found.spelled (ap (λ (n : ℕ). at + n) size);
      surveys = surveys_more notes image was.chunks c at header old new before_marks after_marks
          here found.header_is low was.surveys adds;
      counts = omega arith;
      inside = omega arith;
    }

-- at the end all chunks are surveyed
pub walked_all : (image : List ℕ) (at : ℕ) (survey : Survey) (marks : List ℕ) → length image ≤ at
    → HasSurveyed image at survey marks → IsSurvey image survey marks
unfolding chunks_of
walked_all image at survey marks beyond was =
    let inside = was.inside in
    let end : at ≡ length image = omega arith in
    let spelled : SpelledAll image (area_start image) was.chunks (length image) =
    subst (λ (n : ℕ). SpelledAll image (area_start image) was.chunks n) end was.spelled in
    let all : was.chunks ≡ chunks_of image =
    sym (chunks_from-tiled image (area_start image) was.chunks spelled) in
    record {
      spelled = subst (λ (cs : List Chunk). SpelledAll image (area_start image) cs (length image))
          all spelled;
      surveys = subst (λ (cs : List Chunk). Surveys image cs survey marks) all was.surveys;
    }
