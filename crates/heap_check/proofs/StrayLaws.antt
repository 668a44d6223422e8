-- The first fixed chunk of the manager's that is no table is found by the marks that are left.
use Rattle.heap_check.proofs.Words.{◌≡◌, ℕ, ◌+◌, ◌*◌, ◌/◌, ◌%◌, ◌≤◌, Bool, List, [], ◌∷◌, ◌++◌, length, Option, Some, None, refl, sym, ap, subst, ◌∙◌, arith, inl, inr, ◌↔◌, IsTrue, cases_lt, Chunk, free, movable, fixed, size_of, total, AnyPlaced, EveryPlaced, Table, area_start, first_next, further_tables, Tiles, IsTablePlace, IsKnownIfFixed, chunks_of, AnyPlaced-left, AnyPlaced-right, AnyPlaced-split, AnyPlaced-mid, HasNone, Header, header_of, size_by, HasHeader, Bodies, Chain, noted, IsFirstWithout, Marks, ManagersBody, MayBe, IsManagersAt, FoundBodies, Followed, ManagersBodyBy, IsUnmarkedBy, TakesMarks}
use Rattle.heap_check.proofs.SurveyLaws.{noted_more}
use Rattle.heap_check.proofs.WalkLaws.{HasPassed, passed_step, passed_all}
use Rattle.heap_check.proofs.BodyLaws.{managers_body_of}
use Rattle.heap_check.proofs.LeadsLaws.{place_or, all_tables}

-- ---- all of them are tables

all_met : (image : List ℕ) (bodies : Bodies) (chain : Chain) (marks : List ℕ)
    → FoundBodies image bodies → Followed image chain marks → chain.tables ≡ bodies.managers
    → (place : ℕ) → IsManagersAt image place → IsTablePlace (further_tables image) place
all_met image bodies chain marks found followed same place body =
    all_tables image (chunks_of image) (first_next image) (further_tables image) followed.chain
    (sym followed.tables ∙ same ∙ found.managers) place body

pub none_marked_left : (image : List ℕ) (bodies : Bodies) (chain : Chain) (marks : List ℕ)
    → FoundBodies image bodies → Followed image chain marks → chain.tables ≡ bodies.managers
    → HasNone marks
none_marked_left image bodies chain marks found followed same word has =
    let both = (followed.marked word).0 has in
    both.1 (all_met image bodies chain marks found followed same (4 * word) both.0)

known_here : (tables : List Table) (at : ℕ) (c : Chunk) → (ManagersBody (at + 8) at c
    → IsTablePlace tables (at + 8)) → MayBe at c → IsKnownIfFixed tables at c
known_here tables at (free size) all may = tt
known_here tables at (movable bytes lock owner slot) all may = tt
known_here tables at (fixed bytes owner) all may = (
  may,
  elim (cases_lt 0 owner) [ inl some ↦ inl some | inr none ↦ inr (all (omega arith, refl)) ],
)

known_may : (tables : List Table) (at : ℕ) (c : Chunk) → IsKnownIfFixed tables at c → MayBe at c
known_may tables at (free size) known = tt
known_may tables at (movable bytes lock owner slot) known = tt
known_may tables at (fixed bytes owner) known = known.0

every_known : (tables : List Table) (at : ℕ) (cs : List Chunk)
    → ((place : ℕ) → AnyPlaced (ManagersBody place) at cs → IsTablePlace tables place)
    → EveryPlaced MayBe at cs → EveryPlaced (IsKnownIfFixed tables) at cs
every_known tables at [] all may = tt
every_known tables at (c ∷ cs) all may = (
  known_here tables at c (λ own. all (at + 8) (inl own)) may.0,
  every_known tables (at + size_of c) cs (λ place body. all place (inr body)) may.1,
)

first_known : (tables : List Table) (at : ℕ) (cs : List Chunk) (found : Option ℕ)
    → ((place : ℕ) → AnyPlaced (ManagersBody place) at cs → IsTablePlace tables place)
    → IsFirstWithout MayBe at cs found → IsFirstWithout (IsKnownIfFixed tables) at cs found
first_known tables at cs None all first = every_known tables at cs all first
first_known tables at cs (Some there) all first = record {
  before = first.before;
  chunk = first.chunk;
  after = first.after;
  parts = first.parts;
  place = first.place;
  earlier = every_known tables at first.before (λ place body. all place
      (subst (λ (ds : List Chunk). AnyPlaced (ManagersBody place) at ds) (sym first.parts)
      (AnyPlaced-left (ManagersBody place) at first.before (first.chunk ∷ first.after) body)))
      first.earlier;
  without = λ known. first.without (known_may tables there first.chunk known);
}

pub first_of_bodies : (image : List ℕ) (bodies : Bodies) (chain : Chain) (marks : List ℕ)
    → FoundBodies image bodies → Followed image chain marks → chain.tables ≡ bodies.managers
    → IsFirstWithout (IsKnownIfFixed (further_tables image)) (area_start image)
    (chunks_of image) bodies.bad_owner
first_of_bodies image bodies chain marks found followed same =
    first_known (further_tables image) (area_start image) (chunks_of image) bodies.bad_owner
    (all_met image bodies chain marks found followed same) found.bad_owner

-- ---- marks that are taken away one by one

-- a body of the chunks before an offset is not the one after it
pub body_below : (place at : ℕ) (cs : List Chunk) → AnyPlaced (ManagersBody place) at cs
    → place ≤ at + total cs
body_below place at [] h = absurd h
body_below place at (c ∷ cs) h = elim h [
  | inl own ↦ here c own
  | inr later ↦ let below = body_below place (at + size_of c) cs later in omega (arith, below)
] where
  here : (d : Chunk) → ManagersBody place at d → place ≤ at + (size_of d + total cs)
  here (free size) own = absurd own
  here (movable bytes lock owner slot) own = absurd own
  here (fixed bytes owner) own = let there = own.1 in omega arith

-- marked is what holds of a place and of none of these chunks there, and so it is of one more
pub takes_push : (Q : ℕ → Type 0) (P : ℕ → ℕ → Chunk
    → Type 0) (start : ℕ) (chunks : List Chunk) (c : Chunk) (at : ℕ) (old new : List ℕ)
    → at ≡ start + total chunks → TakesMarks (λ place. P place at c) old new
    → Marks old (λ place. Q place × (AnyPlaced (P place) start chunks → ⊥))
    → Marks new (λ place. Q place × (AnyPlaced (P place) start (chunks ++ c ∷ []) → ⊥))
takes_push Q P start chunks c at old new there takes was word = (
  λ has.
      let both = (takes word).0 has in
      let earlier = (was word).0 both.0 in (
        earlier.0,
        λ any. elim (AnyPlaced-split (P (4 * word)) start chunks (c ∷ []) any) [
          | inl left ↦ earlier.1 left
          | inr own ↦ elim own [
            | inl here ↦ both.1 (subst (λ (n : ℕ). P (4 * word) n c) (sym there) here)
            | inr none ↦ none
          ]
        ],
      ),
  λ both. (takes word).1 (
    (was word).1
        (both.0, λ left. both.1 (AnyPlaced-left (P (4 * word)) start chunks (c ∷ []) left)),
    λ own. both.1 (AnyPlaced-right (P (4 * word)) start chunks (c ∷ [])
        (inl (subst (λ (n : ℕ). P (4 * word) n c) there own))),
  ),
)

-- the same fact of a chunk by its header
pub takes_like : (P Q : ℕ → Type 0) (old new : List ℕ) → ((place : ℕ) → P place ≡ Q place)
    → TakesMarks P old new → TakesMarks Q old new
takes_like P Q old new same takes word = (
  λ has. let both = (takes word).0 has in
      (both.0, λ q. both.1 (subst (λ (X : Type 0). X) (sym (same (4 * word))) q)),
  λ both. (takes word).1 (both.0, λ p. both.1 (subst (λ (X : Type 0). X) (same (4 * word)) p)),
)

-- ---- the walk that looks for strays

pub record NotesStrays (image : List ℕ) (first : Option ℕ) (marks : List ℕ)
    (chunks : List Chunk) : Type 0 where
  pub first_is : IsFirstWithout (IsKnownIfFixed (further_tables image))
      (area_start image) chunks first
  pub marked : Marks marks
      (λ place. (IsManagersAt image place × (IsTablePlace (further_tables image) place → ⊥))
      × (AnyPlaced (ManagersBody place) (area_start image) chunks → ⊥))

pub strays_none : (image : List ℕ) (chain : Chain) (marks : List ℕ) → Followed image chain marks
    → NotesStrays image None marks []
strays_none image chain marks followed = record {
  first_is = tt;
  marked = λ word.
      (λ has. ((followed.marked word).0 has, λ h. h), λ both. (followed.marked word).1 both.0);
}

-- a body isn't marked if it is a table's
unmarked_known : (image : List ℕ) (chunks after : List Chunk) (c : Chunk) (at : ℕ) (header : Header)
    (marks : List ℕ) → at ≡ area_start image + total chunks → at % 8 ≡ 0
    → chunks_of image ≡ chunks ++ c ∷ after → header ≡ header_of c
    → Marks marks (λ place. (IsManagersAt image place × (IsTablePlace (further_tables image) place
    → ⊥)) × (AnyPlaced (ManagersBody place) (area_start image) chunks → ⊥))
    → IsUnmarkedBy marks at header ↔ IsKnownIfFixed (further_tables image) at c
unmarked_known image chunks after c at header marks there whole parts is marked =
    by c parts is where
      mark : ℕ
      mark = (at + 8) / 4

      back : 4 * mark ≡ at + 8
      back = omega arith

      by : (d : Chunk) → chunks_of image ≡ chunks ++ d ∷ after → header ≡ header_of d
          → IsUnmarkedBy marks at header ↔ IsKnownIfFixed (further_tables image) at d
      by (free size) parts is =
          (λ h. tt, λ h. subst (λ (x : Header). IsUnmarkedBy marks at x) (sym is) tt)
      by (movable bytes lock owner slot) parts is =
          (λ h. tt, λ h. subst (λ (x : Header). IsUnmarkedBy marks at x) (sym is) tt)
      by (fixed bytes owner) parts is = (
        λ h. let u : IsUnmarkedBy marks at (header_of (fixed bytes owner)) =
            subst (λ (x : Header). IsUnmarkedBy marks at x) is h in (
              u.0,
              elim u.1 [
                | inl some ↦ inl some
                | inr unmarked ↦ elim (cases_lt 0 owner) [
                  | inl some ↦ inl some
                  | inr none ↦ elim (place_or (further_tables image) (at + 8)) [
                    | inl listed ↦ inr listed
                    | inr new ↦
                        let body : ManagersBody (at + 8) (area_start image + total chunks)
                        (fixed bytes owner) = (omega arith, omega (arith, there)) in
                        let any : IsManagersAt image (at + 8) =
                        subst (λ (ds : List Chunk). AnyPlaced (ManagersBody (at + 8))
                        (area_start image) ds) (sym parts) (AnyPlaced-mid (ManagersBody (at + 8))
                        (area_start image) chunks (fixed bytes owner) after body) in
                        let earlier : AnyPlaced (ManagersBody (at + 8)) (area_start image) chunks
                        → ⊥ = λ e. (let below = body_below (at + 8) (area_start image) chunks e in
                        omega (arith, below, there)) in
                        absurd (unmarked ((marked mark).1 (subst (λ (n : ℕ). (IsManagersAt image n
                        × (IsTablePlace (further_tables image) n → ⊥)) × (AnyPlaced (ManagersBody n)
                        (area_start image) chunks → ⊥)) (sym back) ((any, new), earlier))))
                  ]
                ]
              ],
            ),
        λ known. subst (λ (x : Header). IsUnmarkedBy marks at x) (sym is) (
          known.0,
          elim known.1 [
            | inl some ↦ inl some
            | inr listed ↦ inr (λ has. ((marked mark).0 has).0.1
                (subst (λ (n : ℕ). IsTablePlace (further_tables image) n) (sym back) listed))
          ],
        ),
      )

pub strays_more : (image : List ℕ) (at : ℕ) (header : Header) (first : Option ℕ) (known : Bool)
    (old new : List ℕ) → Tiles image (chunks_of image) → at % 8 ≡ 0
    → HasPassed image (NotesStrays image first old) at → HasHeader image at header
    → (IsTrue known ↔ IsUnmarkedBy old at header)
    → TakesMarks (λ place. ManagersBodyBy place at header) old new
    → HasPassed image (NotesStrays image (noted first at known) new) (at + size_by header)
strays_more image at header first known old new t whole p f decides takes =
    passed_step image (NotesStrays image first old)
    (NotesStrays image (noted first at known) new) at header t p f (λ chunks after there parts was.
    let like = unmarked_known image chunks after f.chunk at header old there whole parts f.header_is
    was.marked in record {
      first_is = noted_more (IsKnownIfFixed (further_tables image))
          (area_start image) chunks f.chunk at first known there
          (λ yes. like.0 (decides.0 yes), λ h. decides.1 (like.1 h)) was.first_is;
      marked = takes_push (λ place. IsManagersAt image place
          × (IsTablePlace (further_tables image) place → ⊥)) ManagersBody (area_start image) chunks
          f.chunk at old new there (takes_like (λ place. ManagersBodyBy place at header) (λ place.
          ManagersBody place at f.chunk) old new (λ place. ap (ManagersBodyBy place at) f.header_is
          ∙ managers_body_of place at f.chunk) takes) was.marked;
    })

pub strays_all : (image : List ℕ) (at : ℕ) (first : Option ℕ) (marks : List ℕ) → length image ≤ at
    → HasPassed image (NotesStrays image first marks) at → IsFirstWithout (IsKnownIfFixed
    (further_tables image)) (area_start image) (chunks_of image) first × HasNone marks
strays_all image at first marks beyond p =
    let all = (passed_all image (NotesStrays image first marks) at beyond p).holds in
    (all.first_is, λ word has. let was = (all.marked word).0 has in was.1 was.0.0)
