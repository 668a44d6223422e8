-- A walk over the chunks takes away the marks of the slots that movable chunks name.
use Rattle.heap_check.proofs.Words.{◌≡◌, ℕ, ◌+◌, ◌*◌, ◌/◌, ◌≤◌, Bool, List, [], ◌∷◌, ◌++◌, length, Option, None, refl, sym, ap, subst, ◌∙◌, arith, inl, inr, ◌↔◌, ◌⊎◌, IsTrue, u32_at, Chunk, free, movable, fixed, size_of, total, AnyPlaced, area_start, IsSlot, Tiles, BodyHere, IsBody, ManagersHere, HasDirectory, directory_of, NamesItsSlot, chunks_of, AnyPlaced-left, AnyPlaced-right, AnyPlaced-split, slot_facts, Header, header_of, size_by, HasHeader, Names, noted, IsFirstWithout, BodyBy, Marks, IsInUse, IsLeft, HoldsMarked, NamesMarkedBy, ManagersBy, TakesMarks}
use Rattle.heap_check.proofs.SurveyLaws.{noted_more, body_of}
use Rattle.heap_check.proofs.WalkLaws.{HasPassed, passed_step, passed_all}
use Rattle.heap_check.proofs.StrayLaws.{takes_push, takes_like}

-- ---- the walk

pub record NotesNames (image : List ℕ) (names : Names) (marks : List ℕ)
    (chunks : List Chunk) : Type 0 where
  pub without : IsFirstWithout (NamesItsSlot image) (area_start image) chunks names.without_slot
  pub directory : IsTrue names.directory ↔ ((directory_of image ≡ 0)
      ⊎ AnyPlaced (ManagersHere (directory_of image)) (area_start image) chunks)
  pub left : Marks marks
      (λ slot. IsInUse image slot × (IsBody (area_start image) chunks slot (u32_at image slot) → ⊥))

pub names_none : (image : List ℕ) (names : Names) (marks : List ℕ) → names.without_slot ≡ None
    → (IsTrue names.directory ↔ (directory_of image ≡ 0)) → Marks marks (IsInUse image)
    → NotesNames image names marks []
names_none image names marks none directory used = record {
  without =
      subst (λ (found : Option ℕ). IsFirstWithout (NamesItsSlot image) (area_start image) [] found)
      (sym none) tt;
  directory = (
    λ is. inl (directory.0 is),
    λ either. directory.1 (elim either [ inl is ↦ is | inr any ↦ absurd any ]),
  );
  left = λ word. (λ has. ((used word).0 has, λ h. h), λ both. (used word).1 both.0);
}

-- a body of chunks before an offset is no body of a chunk after it
body_in_front : (slot place at : ℕ) (cs : List Chunk) → AnyPlaced (BodyHere slot place) at cs
    → place ≤ at + total cs
body_in_front slot place at [] h = absurd h
body_in_front slot place at (c ∷ cs) h = elim h [
  | inl own ↦ here c own
  | inr later ↦ let below = body_in_front slot place (at + size_of c) cs later in
      omega (arith, below)
] where
  here : (d : Chunk) → BodyHere slot place at d → place ≤ at + (size_of d + total cs)
  here (free size) own = absurd own
  here (movable bytes lock owner named) own = let there = own.1 in omega arith
  here (fixed bytes owner) own = absurd own

-- the mark tells whether a chunk's slot holds its place
marked_names : (image : List ℕ) (chunks : List Chunk) (c : Chunk) (at : ℕ) (header : Header)
    (marks : List ℕ) → Tiles image (chunks_of image) → at ≡ area_start image + total chunks
    → header ≡ header_of c → Marks marks (λ slot. IsInUse image slot
    × (IsBody (area_start image) chunks slot (u32_at image slot) → ⊥))
    → NamesMarkedBy image marks at header ↔ NamesItsSlot image at c
marked_names image chunks c at header marks t there is left = by c is where
  by : (d : Chunk) → header ≡ header_of d
      → NamesMarkedBy image marks at header ↔ NamesItsSlot image at d
  by (free size) is =
      (λ h. tt, λ h. subst (λ (x : Header). NamesMarkedBy image marks at x) (sym is) tt)
  by (fixed bytes owner) is =
      (λ h. tt, λ h. subst (λ (x : Header). NamesMarkedBy image marks at x) (sym is) tt)
  by (movable bytes lock owner slot) is = (
    λ h. let held : HoldsMarked image slot (at + 8) marks =
        subst (λ (x : Header). NamesMarkedBy image marks at x) is h in
        let whole = held.0 in
        let e : 4 * (slot / 4) ≡ slot = omega arith in
        (subst (λ (n : ℕ). IsSlot image n) e ((left (slot / 4)).0 held.1).0.0, held.2),
    λ names. subst (λ (x : Header). NamesMarkedBy image marks at x) (sym is) (
        let whole = (slot_facts image (chunks_of image) slot t names.0).whole in
        let e : slot ≡ 4 * (slot / 4) = omega arith in
        let holds = names.1 in
        let used : IsInUse image slot =
        (names.0, λ none. (let bare : at + 8 ≡ 0 = sym holds ∙ none in omega arith)) in
        let first : IsBody (area_start image) chunks slot (u32_at image slot) → ⊥ =
        λ body. (let below = body_in_front slot (u32_at image slot)
        (area_start image) chunks body in omega (arith, below, holds, there)) in (
          whole,
          (left (slot / 4)).1 (subst (λ (n : ℕ). IsInUse image n
              × (IsBody (area_start image) chunks n (u32_at image n) → ⊥)) e (used, first)),
          holds,
        )),
  )

managers_of : (slot at : ℕ) (c : Chunk) → ManagersBy slot (header_of c) ≡ ManagersHere slot at c
managers_of slot at (free size) = refl
managers_of slot at (movable bytes lock owner named) = refl
managers_of slot at (fixed bytes owner) = refl

directory_more : (image : List ℕ) (chunks : List Chunk) (c : Chunk) (at : ℕ) (header : Header)
    (old new : Bool) → at ≡ area_start image + total chunks → header ≡ header_of c
    → (IsTrue new ↔ (IsTrue old ⊎ ManagersBy (directory_of image) header))
    → (IsTrue old ↔ ((directory_of image ≡ 0) ⊎ AnyPlaced (ManagersHere (directory_of image))
    (area_start image) chunks)) → (IsTrue new ↔ ((directory_of image ≡ 0)
    ⊎ AnyPlaced (ManagersHere (directory_of image)) (area_start image) (chunks ++ c ∷ [])))
directory_more image chunks c at header old new there is more was =
    let word : ℕ = directory_of image in
    let same : ManagersBy word header ≡ ManagersHere word at c =
    ap (ManagersBy word) is ∙ managers_of word at c in (
      λ yes. elim (more.0 yes) [
        | inl before ↦ elim (was.0 before) [
          | inl none ↦ inl none
          | inr any ↦
              inr (AnyPlaced-left (ManagersHere word) (area_start image) chunks (c ∷ []) any)
        ]
        | inr own ↦ inr (AnyPlaced-right (ManagersHere word) (area_start image) chunks (c ∷ [])
            (inl (subst (λ (n : ℕ). ManagersHere word n c) there
            (subst (λ (X : Type 0). X) same own))))
      ],
      λ either. more.1 (elim either [
        | inl none ↦ inl (was.1 (inl none))
        | inr any ↦
            elim (AnyPlaced-split (ManagersHere word) (area_start image) chunks (c ∷ []) any) [
              | inl left ↦ inl (was.1 (inr left))
              | inr own ↦ elim own [
                | inl here ↦ inr (subst (λ (X : Type 0). X) (sym same)
                    (subst (λ (n : ℕ). ManagersHere word n c) (sym there) here))
                | inr none ↦ absurd none
              ]
            ]
      ]),
    )

-- what a chunk by its header does
pub record AddsName (image : List ℕ) (at : ℕ) (header : Header) (old new : Names)
    (before_marks after_marks : List ℕ) : Type 0 where
  pub named : Bool
  pub decides : IsTrue named ↔ NamesMarkedBy image before_marks at header
  pub without : new.without_slot ≡ noted old.without_slot at named
  pub directory : IsTrue new.directory
      ↔ (IsTrue old.directory ⊎ ManagersBy (directory_of image) header)
  pub taken : TakesMarks (λ slot. BodyBy slot (u32_at image slot) at header) before_marks
      after_marks

pub names_more : (image : List ℕ) (at : ℕ) (header : Header) (old new : Names)
    (before_marks after_marks : List ℕ) → Tiles image (chunks_of image)
    → HasPassed image (NotesNames image old before_marks) at → HasHeader image at header
    → AddsName image at header old new before_marks after_marks
    → HasPassed image (NotesNames image new after_marks) (at + size_by header)
names_more image at header old new before_marks after_marks t p f adds =
    passed_step image (NotesNames image old before_marks)
    (NotesNames image new after_marks) at header t p f (λ chunks after there parts was.
    let like = marked_names image chunks f.chunk at header before_marks t there f.header_is
    was.left in record {
      without = subst (λ (found : Option ℕ). IsFirstWithout (NamesItsSlot image) (area_start image)
          (chunks ++ f.chunk ∷ []) found) (sym adds.without) (noted_more (NamesItsSlot image)
          (area_start image) chunks f.chunk at old.without_slot adds.named there
          (λ yes. like.0 (adds.decides.0 yes), λ h. adds.decides.1 (like.1 h)) was.without);
      directory = directory_more image chunks f.chunk at header old.directory new.directory there
          f.header_is adds.directory was.directory;
      left = takes_push (IsInUse image) (λ slot. BodyHere slot (u32_at image slot))
          (area_start image) chunks f.chunk at before_marks after_marks there
          (takes_like (λ slot. BodyBy slot (u32_at image slot) at header)
          (λ slot. BodyHere slot (u32_at image slot) at f.chunk) before_marks after_marks
          (λ slot. ap (BodyBy slot (u32_at image slot) at) f.header_is
          ∙ body_of slot (u32_at image slot) at f.chunk) adds.taken) was.left;
    })

-- at the end
pub record NamesAll (image : List ℕ) (names : Names) (marks : List ℕ) : Type 0 where
  pub without : IsFirstWithout (NamesItsSlot image) (area_start image)
      (chunks_of image) names.without_slot
  pub directory : IsTrue names.directory ↔ HasDirectory image (chunks_of image)
  pub left : Marks marks (IsLeft image)

pub names_all : (image : List ℕ) (at : ℕ) (names : Names) (marks : List ℕ) → length image ≤ at
    → HasPassed image (NotesNames image names marks) at → NamesAll image names marks
names_all image at names marks beyond p =
    let all = (passed_all image (NotesNames image names marks) at beyond p).holds in
    record {
      without = all.without;
      directory = all.directory;
      left = λ word. (
        λ has. let both = (all.left word).0 has in (both.0.0, λ holds. both.1 (holds both.0.1)),
        λ is. (all.left word).1
            ((is.0, λ none. is.1 (λ used. absurd (used none))), λ body. is.1 (λ used. body)),
      );
    }
