-- All chunks of an owner are made free: what names stand for then, and where.
use Rattle.laws_heap.proofs.Words.{◌≡◌, ◌≢◌, ℕ, ◌+◌, Bool, true, false, cond, List, [], ◌∷◌, ◌++◌, Option, Some, None, refl, sym, ap, subst, ◌∙◌, arith, inl, inr, ◌==◌, count_by, IsSome, cases_eq, eq-eqb, nat_tests, sum_by-append, sum_by-cons, Chunk, free, movable, fixed, size_of, total, is_owned_by, area_start, ManagersHere, directory_of, HeapAccepted, AnyPlaced, LiveChunk, NamedHere, not_owned, chunks_of, held, live_under, place_under, place_of, free_onto, merged, layout_of, Becomes, freed, owned_freed}
use Rattle.laws_heap.proofs.Tests.{cond-true, cond-false}
use Rattle.laws_heap.proofs.Placed.{AnyPlaced-parts, AnyPlaced-mid}
use Rattle.laws_heap.proofs.Lives.{or_else, live_under-append, live_placed}
use Rattle.laws_heap.proofs.Meanings.{held-is, held-zero, live_under-is}
use Rattle.laws_heap.proofs.FreeChunks.{or_front, or_back, live_mid, place_mid}
use Rattle.laws_heap.proofs.FixedNames.{fixed_live_is}
use Rattle.laws_heap.proofs.FoundChunks.{read_heap, Found, held_finds}
use Rattle.laws_heap.proofs.AlteredChunks.{named_live, named_place, finds_place}
use Rattle.laws_heap.proofs.Layouts.{onto_twice, merged-right, count-merged}
use Rattle.laws_heap.proofs.SameLayouts.{becomes_alike, becomes_held, becomes_place}
use Rattle.laws_heap.proofs.Exchanges.{NotBeside, named_beside}

-- ---- how many there are

abbrev pub owned : ℕ → List Chunk → ℕ
owned owner cs = count_by (is_owned_by owner) cs

pub counted_one : (owner : ℕ) (front : List Chunk) (c : Chunk) (after : List Chunk) → owned owner
    (front ++ c ∷ after) ≡ owned owner front + (cond (is_owned_by owner c) 1 0 + owned owner after)
counted_one owner front c after =
    sum_by-append (λ x. cond (is_owned_by owner x) 1 0) front (c ∷ after)
    ∙ ap (λ k. owned owner front + k) (sum_by-cons (λ x. cond (is_owned_by owner x) 1 0) c after)

-- as many in a layout
pub owned-merged : (owner : ℕ) (cs : List Chunk) → owned owner (merged cs) ≡ owned owner cs
owned-merged owner cs = count-merged (is_owned_by owner) (λ n. refl) cs

-- ---- the lists

abbrev pub freed_if : ℕ → Chunk → Chunk
freed_if owner c = cond (is_owned_by owner c) (freed c) c

pub owned_freed-append : (owner : ℕ) (xs ys : List Chunk)
    → owned_freed owner (xs ++ ys) ≡ owned_freed owner xs ++ owned_freed owner ys
owned_freed-append owner [] ys = refl
owned_freed-append owner (c ∷ xs) ys = ap (λ cs. freed_if owner c ∷ cs) (owned_freed-append _ xs ys)

freed_if-size : (owner : ℕ) (c : Chunk) → size_of (freed_if owner c) ≡ size_of c
freed_if-size owner c = by_case (is_owned_by owner c) where
  by_case : (b : Bool) → size_of (cond b (freed c) c) ≡ size_of c
  by_case true = refl
  by_case false = refl

owned_freed-total : (owner : ℕ) (cs : List Chunk) → total (owned_freed owner cs) ≡ total cs
owned_freed-total owner [] = refl
owned_freed-total owner (c ∷ cs) =
    let size = freed_if-size owner c in
    let ih = owned_freed-total owner cs in
    omega arith

onto_owned : (owner n : ℕ) (cs : List Chunk)
    → merged (owned_freed owner (free_onto n cs)) ≡ free_onto n (merged (owned_freed owner cs))
onto_owned owner n [] = refl
onto_owned owner n (free m ∷ cs) = onto_twice n m (merged (owned_freed owner cs))
onto_owned owner n (movable bytes lock own slot ∷ cs) = refl
onto_owned owner n (fixed bytes own ∷ cs) = refl

pub owned_freed-merged : (owner : ℕ) (cs : List Chunk)
    → merged (owned_freed owner (merged cs)) ≡ merged (owned_freed owner cs)
owned_freed-merged owner [] = refl
owned_freed-merged owner (free n ∷ cs) =
    onto_owned owner n (merged cs) ∙ ap (free_onto n) (owned_freed-merged owner cs)
owned_freed-merged owner (movable bytes lock own slot ∷ cs) =
    merged-right (freed_if owner (movable bytes lock own slot) ∷ []) (owned_freed owner (merged cs))
    (owned_freed owner cs) (owned_freed-merged owner cs)
owned_freed-merged owner (fixed bytes own ∷ cs) = merged-right (freed_if owner (fixed bytes own)
    ∷ []) (owned_freed owner (merged cs)) (owned_freed owner cs) (owned_freed-merged owner cs)

-- and so it is the same of two lists of one layout
pub owned_freed-layout : (owner : ℕ) (cs ds : List Chunk) → merged cs ≡ merged ds
    → merged (owned_freed owner cs) ≡ merged (owned_freed owner ds)
owned_freed-layout owner cs ds e = sym (owned_freed-merged owner cs)
    ∙ ap (λ xs. merged (owned_freed owner xs)) e ∙ owned_freed-merged owner ds

-- where none is the owner's, all stay
pub owned_freed-none : (owner : ℕ) (cs : List Chunk) → owned owner cs ≡ 0
    → owned_freed owner cs ≡ cs
owned_freed-none owner [] none = refl
owned_freed-none owner (c ∷ cs) none =
    let all = sum_by-cons (λ x. cond (is_owned_by owner x) 1 0) c cs in
    by_case (is_owned_by owner c) refl (omega arith)
    (owned_freed-none owner cs (let e : owned owner cs ≡ 0 = omega arith in e)) where
      by_case : (b : Bool) → is_owned_by owner c ≡ b → cond {A = ℕ} (is_owned_by owner c) 1 0 ≡ 0
          → owned_freed owner cs ≡ cs → freed_if owner c ∷ owned_freed owner cs ≡ c ∷ cs
      by_case true e zero_there rest =
          let one : cond {A = ℕ} (is_owned_by owner c) 1 0 ≡ 1 =
          cond-true (is_owned_by owner c) 1 0 e in
          absurd (omega arith)
      by_case false e zero_there rest =
          ap (λ d. d ∷ owned_freed owner cs) (cond-false (is_owned_by owner c) (freed c) c e)
          ∙ ap (λ ds. c ∷ ds) rest

-- ---- names

freed_if_unnamed : (owner at : ℕ) (c : Chunk) (name : ℕ) → live_under at (c ∷ []) name ≡ None
    → live_under at (freed_if owner c ∷ []) name ≡ None
freed_if_unnamed owner at c name none = by_case (is_owned_by owner c) where
  by_case : (b : Bool) → live_under at (cond b (freed c) c ∷ []) name ≡ None
  by_case true = refl
  by_case false = none

both_none : {A : Type 0} (x y : Option A) → x ≡ None → y ≡ None → or_else x y ≡ None
both_none x y e f = ap (λ o. or_else o y) e ∙ f

-- what stood for nothing does so still
owned_unnamed : (owner at : ℕ) (cs : List Chunk) (name : ℕ) → live_under at cs name ≡ None
    → live_under at (owned_freed owner cs) name ≡ None
owned_unnamed owner at [] name none = refl
owned_unnamed owner at (c ∷ cs) name none =
    let parts = sym (live_under-append at (c ∷ []) cs name) ∙ none in
    let size = freed_if-size owner c in
    let behind : at + total (c ∷ []) ≡ at + total (freed_if owner c ∷ []) = omega arith in
    live_under-append at (freed_if owner c ∷ []) (owned_freed owner cs) name
    ∙ both_none _ _ (freed_if_unnamed owner at c name (or_front _ _ parts))
    (rw behind at (owned_unnamed owner (at + total (c ∷ [])) cs name (or_back _ _ parts)))

-- a chunk of a name, among the others
owned_middle : (owner : ℕ) (before : List Chunk) (c : Chunk) (after : List Chunk)
    → owned_freed owner (before ++ c ∷ after)
    ≡ owned_freed owner before ++ ((freed_if owner c ∷ []) ++ owned_freed owner after)
owned_middle owner before c after = owned_freed-append owner before (c ∷ after)

-- the owner of a chunk of a name
pub named_owned : (owner name at : ℕ) (live : LiveChunk) (c : Chunk) → NamedHere name live at c
    → live.owner ≡ owner → is_owned_by owner c ≡ true
named_owned owner name at live (free size) n is = absurd n
named_owned owner name at live (movable bytes lock own slot) n is =
    eq-eqb own owner (ap (λ x. x.owner) n.1 ∙ is)
named_owned owner name at live (fixed bytes own) n is =
    eq-eqb own owner (ap (λ x. x.owner) (fixed_live_is at bytes own n) ∙ is)

pub named_not_owned : (owner name at : ℕ) (live : LiveChunk) (c : Chunk) → NamedHere name live at c
    → live.owner ≢ owner → is_owned_by owner c ≡ false
named_not_owned owner name at live (free size) n apart = absurd n
named_not_owned owner name at live (movable bytes lock own slot) n apart =
    let e : own ≢ owner = λ f. apart (ap (λ x. x.owner) (sym n.1) ∙ f) in
    grind (arith, nat_tests)
named_not_owned owner name at live (fixed bytes own) n apart =
    let e : own ≢ owner = λ f. apart (ap (λ x. x.owner) (sym (fixed_live_is at bytes own n)) ∙ f) in
    grind (arith, nat_tests)

-- what a name stands for, where its chunk is the owner's or another's
record OwnedOut (old new : List ℕ) (owner name : ℕ) : Type 0 where
  map : held new name ≡ not_owned owner (held old name)
  place : IsSome (held new name) → place_of new name ≡ place_of old name

owned_out : (old new : List ℕ) (owner name : ℕ) → HeapAccepted old
    → Becomes old new (owned_freed owner (chunks_of old)) → OwnedOut old new owner name
owned_out old new owner name h b = by_held (held old name) refl where
  start : ℕ
  start = area_start old

  cs : List Chunk
  cs = chunks_of old

  reads : held new name ≡ live_under start (owned_freed owner cs) name
  reads = becomes_held old new (owned_freed owner cs) name b

  places : place_of new name ≡ place_under start (owned_freed owner cs) name
  places = becomes_place old new (owned_freed owner cs) name b

  none_some_there : (x : Option LiveChunk) → x ≡ None → IsSome x → ⊥
  none_some_there x e some = let no : IsSome {T = LiveChunk} None = rw e at some in absurd cc

  by_held : (x : Option LiveChunk) → held old name ≡ x → OwnedOut old new owner name
  by_held None e =
      let nothing = reads
      ∙ owned_unnamed owner start cs name (sym (held-is old cs name (read_heap old h)) ∙ e) in
      record {
        map = nothing ∙ sym (ap (not_owned owner) e);
        place = λ some. absurd (none_some_there (held new name) nothing some);
      }
  by_held (Some live) e = found (held_finds old name live h e) where
    found : (f : Found old name live) → OwnedOut old new owner name
    found f = by_owner (is_owned_by owner f.chunk) refl where
      before : List Chunk
      before = f.finds.before

      after : List Chunk
      after = f.finds.after

      here : ℕ
      here = start + total before

      named : NamedHere name live here f.chunk
      named = subst (λ (n : ℕ). NamedHere name live n f.chunk) f.finds.there f.finds.named

      beside : NotBeside start before (size_of f.chunk) after name
      beside = named_beside old before f.chunk after name live h f.finds.chunks named

      parts : owned_freed owner cs
          ≡ owned_freed owner before ++ ((freed_if owner f.chunk ∷ []) ++ owned_freed owner after)
      parts = ap (owned_freed owner) f.finds.chunks ∙ owned_middle owner before f.chunk after

      front : live_under start (owned_freed owner before) name ≡ None
      front = owned_unnamed owner start before name beside.front

      there : start + total (owned_freed owner before) ≡ here
      there = ap (λ (n : ℕ). start + n) (owned_freed-total owner before)

      back : live_under (start + total (owned_freed owner before)
          + total (freed_if owner f.chunk ∷ [])) (owned_freed owner after) name ≡ None
      back = let size = freed_if-size owner f.chunk in let at = there in
          let g : here + size_of f.chunk ≡ start + total (owned_freed owner before)
          + total (freed_if owner f.chunk ∷ []) = omega arith in
          subst (λ n. live_under n (owned_freed owner after) name ≡ None) g
          (owned_unnamed owner (here + size_of f.chunk) after name beside.back)

      mid : held new name ≡ or_else (live_under here (freed_if owner f.chunk ∷ []) name) None
      mid = reads ∙ ap (λ ds. live_under start ds name) parts ∙ live_mid start (owned_freed owner
          before) (freed_if owner f.chunk ∷ []) (owned_freed owner after) name front
          ∙ ap (or_else (live_under (start + total (owned_freed owner before))
          (freed_if owner f.chunk ∷ []) name)) back
          ∙ ap (λ n. or_else (live_under n (freed_if owner f.chunk ∷ []) name) None) there

      mid_place : place_of new name
          ≡ or_else (place_under here (freed_if owner f.chunk ∷ []) name) None
      mid_place = places ∙ ap (λ ds. place_under start ds name) parts ∙ place_mid start (owned_freed
          owner before) (freed_if owner f.chunk ∷ []) (owned_freed owner after) name front
          ∙ ap (or_else (place_under (start + total (owned_freed owner before))
          (freed_if owner f.chunk ∷ []) name)) (live_placed _ (owned_freed owner after) name back)
          ∙ ap (λ n. or_else (place_under n (freed_if owner f.chunk ∷ []) name) None) there

      by_owner : (t : Bool) → is_owned_by owner f.chunk ≡ t → OwnedOut old new owner name
      by_owner true is =
          let gone = cond-true (is_owned_by owner f.chunk) (freed f.chunk) f.chunk is in
          let nothing = mid ∙ ap (λ c. or_else (live_under here (c ∷ []) name) None) gone in
          let owner_is : live.owner ≡ owner = elim (cases_eq live.owner owner) [
            | inl same ↦ same
            | inr apart ↦
                let no = sym is ∙ named_not_owned owner name here live f.chunk named apart in
                absurd cc
          ] in
          record {
            map = nothing ∙ sym (ap (not_owned owner) e ∙ cond-true (live.owner == owner) None
                (Some live) (eq-eqb live.owner owner owner_is));
            place = λ some. absurd (none_some_there (held new name) nothing some);
          }
      by_owner false is =
          let stays = cond-false (is_owned_by owner f.chunk) (freed f.chunk) f.chunk is in
          let apart : live.owner ≢ owner = λ same. let yes = sym is
          ∙ named_owned owner name here live f.chunk named same in absurd cc in
          record {
            map = mid ∙ ap (λ c. or_else (live_under here (c ∷ []) name) None) stays
                ∙ ap (λ o. or_else o None) (named_live name here live f.chunk [] named)
                ∙ sym (ap (not_owned owner) e ∙ cond-false _ None _ (grind (arith, nat_tests)));
            place = λ some. mid_place
                ∙ ap (λ c. or_else (place_under here (c ∷ []) name) None) stays
                ∙ ap (λ o. or_else o None) (named_place name here live f.chunk [] named)
                ∙ sym (finds_place old name live f.chunk f.at h f.finds
                ∙ ap (λ n. some_place (n + 8)) f.finds.there);
          } where
            some_place : ℕ → Option ℕ
            some_place n = Some n

-- of a heap in which an owner's chunks became free
pub owned_becomes : (old new : List ℕ) (owner : ℕ)
    → Becomes old new (owned_freed owner (layout_of old))
    → Becomes old new (owned_freed owner (chunks_of old))
owned_becomes old new owner b = becomes_alike old new (owned_freed owner (layout_of old))
    (owned_freed owner (chunks_of old)) (owned_freed-merged owner (chunks_of old)) b

pub owned_held : (old new : List ℕ) (owner name : ℕ) → HeapAccepted old
    → Becomes old new (owned_freed owner (layout_of old))
    → held new name ≡ not_owned owner (held old name)
owned_held old new owner name h b = (owned_out old new _ name h (owned_becomes old new owner b)).map

pub owned_place : (old new : List ℕ) (owner name : ℕ) → HeapAccepted old
    → Becomes old new (owned_freed owner (layout_of old)) → IsSome (held new name)
    → place_of new name ≡ place_of old name
owned_place old new owner name h b = (owned_out old new _ name h (owned_becomes old new _ b)).place

-- ---- the directory

managers_live : (image : List ℕ) (name : ℕ) (live : LiveChunk) (before : List Chunk) (c : Chunk)
    (after : List Chunk) → HeapAccepted image → chunks_of image ≡ before ++ c ∷ after
    → held image name ≡ Some live → ManagersHere name (area_start image + total before) c
    → live.owner ≡ 0
managers_live image name live before (free size) after h parts e m = absurd m
managers_live image name live before (fixed bytes owner) after h parts e m = absurd m
managers_live image name live before (movable bytes lock owner slot) after h parts e m =
    let heap = read_heap image h in
    let its : LiveChunk = record { bytes = bytes; lock = lock; owner = owner } in
    let there : AnyPlaced (NamedHere name its) (area_start image) (chunks_of image) =
    rw (← parts) at (AnyPlaced-mid (NamedHere name its) (area_start image) before
    (movable bytes lock owner slot) after (m.0, refl)) in
    let same = sym (held-is _ _ name heap ∙ (live_under-is image _ name its heap).1 there) ∙ e in
    ap (λ (x : LiveChunk). x.owner) (sym (one its live same)) ∙ m.1 where
      one : (x y : LiveChunk) → Some x ≡ Some y → x ≡ y
      one x y e = cc

-- a chunk that is not the manager's is not the directory
pub not_directory : (image : List ℕ) (name : ℕ) (live : LiveChunk) → HeapAccepted image
    → held image name ≡ Some live → live.owner ≢ 0 → name ≢ directory_of image
not_directory image name live h e some is = elim (read_heap image h).directory [
  | inl none ↦ let nothing = sym e ∙ ap (held image) (is ∙ none) ∙ held-zero image h in absurd cc
  | inr m ↦
      let p = AnyPlaced-parts _ (area_start image) (chunks_of image) m in
      some (managers_live image name live p.before p.chunk p.after h p.parts e
      (subst (λ n. ManagersHere n (area_start image + total p.before) p.chunk) (sym is) p.holds))
]
