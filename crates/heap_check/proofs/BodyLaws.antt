-- A walk over the chunks counts them, and marks the bodies of the manager's fixed ones and no
-- others.
use Rattle.heap_check.proofs.Words.{◌≡◌, ℕ, ◌+◌, ◌*◌, ◌≤◌, Bool, true, false, cond, List, [], ◌∷◌, ◌++◌, length, Option, None, refl, sym, ap, subst, ◌∙◌, arith, inl, inr, ◌==◌, count_by, sum_by, Decides, Decides-ltb, sum_by_push, Chunk, free, movable, fixed, size_of, total, is_movable, is_fixed, free_size, area_start, AnyPlaced, total-append, Spelled-size, SpelledAll-end, AnyPlaced-left, AnyPlaced-right, AnyPlaced-split, HasNone, Header, header_of, size_by, HasHeader, Bodies, movable_by, fixed_by, free_by, noted, IsFirstWithout, Marks, ManagersBody, MayBe, IsManagersAt, is_managers, FoundBodies, managers_by, may_be_by, ManagersBodyBy, MarksWords}
use Rattle.chunk_format.specs.declared.header.Header.TheVariants as headers
use Rattle.heap_check.proofs.SurveyLaws.{movable_of, fixed_of, free_of, count_push, noted_more, counts_within}
use Rattle.heap_check.proofs.WalkLaws.{HasPassed, passed_more, passed_all, passed_size}

-- ---- what is read from a header is true for its chunk

managers_of : (c : Chunk) → managers_by (header_of c) ≡ count_by is_managers (c ∷ [])
managers_of (free size) = refl
managers_of (movable bytes lock owner slot) = refl
managers_of (fixed bytes owner) = let e : cond (owner == 0) 1 0 ≡ 0 + cond (owner == 0) 1 0 =
    omega arith in e

Decides-may_be : (at : ℕ) (c : Chunk) → Decides (may_be_by (header_of c)) (MayBe at c)
Decides-may_be at (free size) = (λ e. tt, λ h. refl)
Decides-may_be at (movable bytes lock owner slot) = (λ e. tt, λ h. refl)
Decides-may_be at (fixed bytes owner) = Decides-ltb owner 15

pub managers_body_of : (place at : ℕ) (c : Chunk)
    → ManagersBodyBy place at (header_of c) ≡ ManagersBody place at c
managers_body_of place at (free size) = refl
managers_body_of place at (movable bytes lock owner slot) = refl
managers_body_of place at (fixed bytes owner) = refl

-- a chunk of the manager's is a fixed one
fewer : (h : Header) (c : Chunk) → h ≡ header_of c → managers_by h ≤ fixed_by h
fewer h (free size) is = subst (λ (x : Header). managers_by x ≤ fixed_by x) (sym is) (omega arith)
fewer h (movable bytes lock owner slot) is =
    subst (λ (x : Header). managers_by x ≤ fixed_by x) (sym is) (omega arith)
fewer h (fixed bytes owner) is =
    subst (λ (x : Header). managers_by x ≤ fixed_by x) (sym is) (most (owner == 0)) where
      most : (b : Bool) → cond b 1 0 ≤ 1
      most true = omega arith
      most false = omega arith

-- ---- the chunks so far

pub record CountsBodies (image : List ℕ) (bodies : Bodies) (marks : List ℕ)
    (chunks : List Chunk) : Type 0 where
  pub movable : bodies.movable ≡ count_by is_movable chunks
  pub fixed : bodies.fixed ≡ count_by is_fixed chunks
  pub free : bodies.free ≡ sum_by free_size chunks
  pub managers : bodies.managers ≡ count_by is_managers chunks
  pub bad_owner : IsFirstWithout MayBe (area_start image) chunks bodies.bad_owner
  pub marked : Marks marks (λ place. AnyPlaced (ManagersBody place) (area_start image) chunks)
  pub counts : bodies.movable + bodies.fixed + bodies.free ≤ total chunks
  pub few : bodies.managers ≤ bodies.fixed

pub counts_none : (image : List ℕ) (bodies : Bodies) (marks : List ℕ) → HasNone marks
    → bodies.movable ≡ 0 → bodies.fixed ≡ 0 → bodies.free ≡ 0 → bodies.managers ≡ 0
    → bodies.bad_owner ≡ None → CountsBodies image bodies marks []
counts_none image bodies marks none no_movable no_fixed no_free no_managers bad_owner = record {
  movable = no_movable;
  fixed = no_fixed;
  free = no_free;
  managers = no_managers;
  bad_owner = subst (λ (found : Option ℕ). IsFirstWithout MayBe (area_start image) [] found)
      (sym bad_owner) tt;
  marked = λ word. (λ has. absurd (none word has), λ body. absurd body);
  counts = omega arith;
  few = omega arith;
}

-- what adding a chunk by its header does
pub record AddsBody (at : ℕ) (header : Header) (old new : Bodies)
    (before_marks after_marks : List ℕ) : Type 0 where
  pub movable : new.movable ≡ old.movable + movable_by header
  pub fixed : new.fixed ≡ old.fixed + fixed_by header
  pub free : new.free ≡ old.free + free_by header
  pub managers : new.managers ≡ old.managers + managers_by header
  pub bad_owner : new.bad_owner ≡ noted old.bad_owner at (may_be_by header)
  pub marked : MarksWords (λ place. ManagersBodyBy place at header) before_marks after_marks

-- marks of what holds of one of these chunks, or of one more
pub marks_push : (P : ℕ → ℕ → Chunk → Type 0) (start : ℕ) (chunks : List Chunk) (c : Chunk) (at : ℕ)
    (old new : List ℕ) → at ≡ start + total chunks → MarksWords (λ place. P place at c) old new
    → Marks old (λ place. AnyPlaced (P place) start chunks)
    → Marks new (λ place. AnyPlaced (P place) start (chunks ++ c ∷ []))
marks_push P start chunks c at old new there adds was word = (
  λ has. elim ((adds word).0 has) [
    | inl earlier ↦ AnyPlaced-left (P (4 * word)) start chunks (c ∷ []) ((was word).0 earlier)
    | inr own ↦ AnyPlaced-right (P (4 * word)) start chunks (c ∷ [])
        (inl (subst (λ (n : ℕ). P (4 * word) n c) there own))
  ],
  λ body. (adds word).1 (elim (AnyPlaced-split (P (4 * word)) start chunks (c ∷ []) body) [
    | inl left ↦ inl ((was word).1 left)
    | inr own ↦ elim own [
      | inl here ↦ inr (subst (λ (n : ℕ). P (4 * word) n c) (sym there) here)
      | inr none ↦ absurd none
    ]
  ]),
)

counts_more : (image : List ℕ) (chunks : List Chunk) (c : Chunk) (at : ℕ) (header : Header)
    (old new : Bodies) (before_marks after_marks : List ℕ) → at ≡ area_start image + total chunks
    → header ≡ header_of c → 8 ≤ size_of c → CountsBodies image old before_marks chunks
    → AddsBody at header old new before_marks after_marks
    → CountsBodies image new after_marks (chunks ++ c ∷ [])
counts_more image chunks c at header old new before_marks after_marks there is least was adds =
    let m : new.movable ≡ old.movable + movable_by (header_of c) =
    adds.movable ∙ ap (λ (h : Header). old.movable + movable_by h) is in
    let f : new.fixed ≡ old.fixed + fixed_by (header_of c) =
    adds.fixed ∙ ap (λ (h : Header). old.fixed + fixed_by h) is in
    let s : new.free ≡ old.free + free_by (header_of c) =
    adds.free ∙ ap (λ (h : Header). old.free + free_by h) is in
    let within = counts_within c least in
    let counts = was.counts in
    let few = was.few in
    let own = fewer header c is in
    let more = adds.managers in
    let fixes = adds.fixed in
    let sums = total-append chunks (c ∷ []) in
    record {
      movable = m ∙ ap (λ (n : ℕ). old.movable + n) (movable_of c)
          ∙ ap (λ (n : ℕ). n + count_by is_movable (c ∷ [])) was.movable
          ∙ sym (count_push is_movable chunks c);
      fixed = f ∙ ap (λ (n : ℕ). old.fixed + n) (fixed_of c)
          ∙ ap (λ (n : ℕ). n + count_by is_fixed (c ∷ [])) was.fixed
          ∙ sym (count_push is_fixed chunks c);
      free = s ∙ ap (λ (n : ℕ). old.free + n) (free_of c) ∙ ap (λ (n : ℕ). n + free_size c) was.free
          ∙ sym (sum_by_push free_size chunks c);
      managers = adds.managers ∙ ap (λ (n : ℕ). old.managers + n) (ap managers_by is
          ∙ managers_of c) ∙ ap (λ (n : ℕ). n + count_by is_managers (c ∷ [])) was.managers
          ∙ sym (count_push is_managers chunks c);
      bad_owner = subst (λ (found : Option ℕ). IsFirstWithout MayBe (area_start image)
          (chunks ++ c ∷ []) found) (sym adds.bad_owner) (noted_more MayBe (area_start image) chunks
          c at old.bad_owner (may_be_by header) there (subst (λ (b : Bool). Decides b (MayBe at c))
          (sym (ap may_be_by is)) (Decides-may_be at c)) was.bad_owner);
      marked = marks_push ManagersBody (area_start image) chunks c at before_marks after_marks there
          (λ word.
          let same : ManagersBodyBy (4 * word) at header ≡ ManagersBody (4 * word) at c =
          ap (ManagersBodyBy (4 * word) at) is ∙ managers_body_of (4 * word) at c in (
            λ has. elim ((adds.marked word).0 has) [
              | inl earlier ↦ inl earlier
              | inr here ↦ inr (subst (λ (X : Type 0). X) same here)
            ],
            λ either. (adds.marked word).1 (elim either [
              | inl earlier ↦ inl earlier
              | inr here ↦ inr (subst (λ (X : Type 0). X) (sym same) here)
            ]),
          )) was.marked;
      counts = omega (arith, within, counts, m, f, s, sums);
      few = omega (arith, few, own, more, fixes);
    }

pub bodies_more : (image : List ℕ) (at : ℕ) (header : Header) (old new : Bodies)
    (before_marks after_marks : List ℕ) → HasPassed image (CountsBodies image old before_marks) at
    → HasHeader image at header → AddsBody at header old new before_marks after_marks
    → HasPassed image (CountsBodies image new after_marks) (at + size_by header)
bodies_more image at header old new before_marks after_marks p f adds =
    passed_more image (CountsBodies image old before_marks)
    (CountsBodies image new after_marks) at header p f (λ chunks there was. counts_more image chunks
    f.chunk at header old new before_marks after_marks there f.header_is least was adds) where
      least : 8 ≤ size_of f.chunk
      least = (Spelled-size image at f.chunk f.spelled).0

-- all chunks are counted
pub bodies_found : (image : List ℕ) (at : ℕ) (bodies : Bodies) (marks : List ℕ) → length image ≤ at
    → HasPassed image (CountsBodies image bodies marks) at → FoundBodies image bodies
bodies_found image at bodies marks beyond p =
    let all = passed_all image (CountsBodies image bodies marks) at beyond p in
    let counts = all.holds in
    record {
      spelled = all.spelled;
      movable = counts.movable;
      fixed = counts.fixed;
      free = counts.free;
      managers = counts.managers;
      bad_owner = counts.bad_owner;
    }

pub bodies_marked : (image : List ℕ) (at : ℕ) (bodies : Bodies) (marks : List ℕ) → length image ≤ at
    → HasPassed image (CountsBodies image bodies marks) at → Marks marks (IsManagersAt image)
bodies_marked image at bodies marks beyond p =
    (passed_all image (CountsBodies image bodies marks) at beyond p).holds.marked

-- the counts stay within the image
pub bodies_fit : (image : List ℕ) (at : ℕ) (header : Header) (bodies : Bodies) (marks : List ℕ)
    → HasPassed image (CountsBodies image bodies marks) at → HasHeader image at header
    → bodies.movable + bodies.fixed + bodies.free + free_by header ≤ length image
bodies_fit image at header bodies marks p f =
    let counts = p.holds.counts in
    let there = SpelledAll-end image (area_start image) p.chunks at p.spelled in
    let size = (passed_size image at header f).1 in
    let most = free_most header in
    omega arith where
      free_most : (h : Header) → free_by h ≤ size_by h
      free_most (headers.Free size) = omega arith
      free_most (headers.Movable length lock owner slot) = omega arith
      free_most (headers.Fixed length owner) = omega arith
