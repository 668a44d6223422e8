-- The first word with mark 2 is the least shared slot, and the first unmarked one the least stray.
use Rattle.store_check.proofs.Terms.{◌≡◌, ◌≢◌, ℕ, ◌+◌, ◌^◌, ◌<◌, ◌≤◌, List, ◌++◌, length, refl, sym, ap, subst, ◌∙◌, arith, inl, inr, cases_eq, cases_lt, ◌⊎◌, ◌↔◌, slice_index, Contains, managers_owner, data_owner, IsSlot, HeapAccepted, directory_of, same, times, Least, owner_under, listed, named, IsHeaderSlot, slot_facts, same-yes, same-no, times-cons, times-append, contained-times, times-contained, all-times, distinct-times, owned_some, directory_owner, owned_slot, IsShared, IsStray, marked_word, HasOwners, AreNamed, accounted, AreEnoughMarks, AreMarks, IsMarkedTwice, IsUnmarked, IsOurOwner, IsOurs}
use Rattle.store_check.proofs.SlotWords.{slot_word}
use Rattle.store_check.proofs.OwnerLaws.{owner_noted}

-- ---- how often they are among all slots that are accounted for

times_accounted : (image : List ℕ) (q : ℕ) → times q (accounted image)
    ≡ same (directory_of image) q + (times q (listed image) + times q (named image))
times_accounted image q = let cons =
    times-cons q (directory_of image) (listed image ++ named image) in
    let rest = times-append q (listed image) (named image) in omega arith

-- a chunk for data isn't the directory
not_directory : (image : List ℕ) (q : ℕ) → HeapAccepted image → owner_under image q ≡ data_owner
    → directory_of image ≡ q → ⊥
not_directory image q h own e =
    let some = owned_some image q 15 h own (omega arith) in
    let managers = directory_owner image h (omega arith) in
    let here = ap (owner_under image) e in
    omega arith

-- a header that is listed is the manager's
listed_owner : (image : List ℕ) (q : ℕ) → AreNamed image → 0 < times q (listed image)
    → owner_under image q ≡ managers_owner
listed_owner image q n some = (all-times (IsHeaderSlot image) (listed image) n.headers q some).owner

-- of a chunk for data, how often it is named
accounted_data : (image : List ℕ) (q : ℕ) → AreNamed image → owner_under image q ≡ data_owner
    → times q (accounted image) ≡ times q (named image)
accounted_data image q n own =
    let all = times_accounted image q in
    let no = same-no (directory_of image) q (not_directory image q n.heap own) in
    elim (cases_lt 0 (times q (listed image))) [
      | inl some ↦ let managers = listed_owner image q n some in absurd (omega arith)
      | inr none ↦ omega arith
    ]

-- of a chunk of the manager's, how often it is the directory or listed
accounted_managers : (image : List ℕ) (q : ℕ) → AreNamed image
    → owner_under image q ≡ managers_owner
    → times q (accounted image) ≡ same (directory_of image) q + times q (listed image)
accounted_managers image q n own =
    let all = times_accounted image q in
    let some = owned_some image q 0 n.heap own (omega arith) in
    elim (cases_lt 0 (times q (named image))) [
      | inl more ↦ let for_data = n.«data» q (λ z. omega arith) more in absurd (omega arith)
      | inr none ↦ omega arith
    ]

-- nothing is the directory and listed, or listed twice
managers_once : (image : List ℕ) (q : ℕ) → AreNamed image
    → same (directory_of image) q + times q (listed image) ≤ 1
managers_once image q n =
    let most = distinct-times (listed image) n.distinct q in
    elim (cases_eq (directory_of image) q) [
      | inl e ↦ let one = same-yes (directory_of image) q e in
          elim (cases_lt 0 (times q (listed image))) [
            | inl some ↦ absurd
                ((all-times (IsHeaderSlot image) (listed image) n.headers q some).other (sym e))
            | inr none ↦ omega arith
          ]
      | inr ne ↦ let no = same-no (directory_of image) q ne in omega arith
    ]

-- ---- shared and stray slots, by these numbers

-- a slot that is shared has a chunk for data
pub shared_owner : (image : List ℕ) (q : ℕ) → AreNamed image → IsShared image q
    → owner_under image q ≡ data_owner
shared_owner image q n s = let two = s.1 in n.«data» q s.0 (omega arith)

shared_counted : (image : List ℕ) (q : ℕ) → AreNamed image → IsShared image q
    → 2 ≤ times q (accounted image)
shared_counted image q n s = let two = s.1 in let e = accounted_data _ q n (shared_owner _ q n s) in
    omega arith

counted_shared : (image : List ℕ) (q : ℕ) → AreNamed image → q ≢ 0 → 2 ≤ times q (accounted image)
    → IsShared image q
counted_shared image q n some two =
    let all = times_accounted image q in
    let once = managers_once image q n in
    let e = accounted_data image q n (n.«data» q some (omega arith)) in
    (some, omega arith)

pub stray_owner : (image : List ℕ) (q : ℕ) → IsStray image q
    → (owner_under image q ≡ managers_owner) ⊎ (owner_under image q ≡ data_owner)
stray_owner image q s = elim s [ inl d ↦ inr d.0 | inr m ↦ inl m.0 ]

stray_counted : (image : List ℕ) (q : ℕ) → AreNamed image → IsStray image q
    → times q (accounted image) ≡ 0
stray_counted image q n s = elim s [
  | inl d ↦ accounted_data image q n d.0 ∙ d.1
  | inr m ↦ let no = same-no _ q (λ e. m.1 (sym e)) in let none = m.2 in
      let e = accounted_managers _ q n m.0 in omega arith
]

counted_stray : (image : List ℕ) (q : ℕ) → AreNamed image
    → (owner_under image q ≡ managers_owner) ⊎ (owner_under image q ≡ data_owner)
    → times q (accounted image) ≡ 0 → IsStray image q
counted_stray image q n own none = elim own [
  | inl m ↦
      let e = accounted_managers image q n m in
      inr (m, (λ f. let one = same-yes (directory_of image) q (sym f) in omega arith), omega arith)
  | inr d ↦ inl (d, sym (accounted_data image q n d) ∙ none)
]

-- ---- the least of them, by the marks

-- of slots, by the numbers of their marks
least_slot : (image : List ℕ) (P Q : ℕ → Type 0) (count : ℕ) → HeapAccepted image
    → AreEnoughMarks image count → ((slot : ℕ) → P slot → IsSlot image slot)
    → ((k : ℕ) → k < count → P (marked_word k) → Q k) → (k : ℕ) → P (marked_word k) → Least Q k
    → Least P (marked_word k)
least_slot image P Q count h room slots there k p l = record {
  here = p;
  none_below = λ other less q.
      let word = slot_word image other h (slots other q) in
      let here : P (marked_word word.0) = subst P (sym word.1) q in
      let e = word.1 in
      l.none_below word.0 (omega arith)
      (there word.0 (room word.0 (slots (marked_word word.0) here)) here);
}

no_slot : (image : List ℕ) (P Q : ℕ → Type 0) (count : ℕ) → HeapAccepted image
    → AreEnoughMarks image count → ((slot : ℕ) → P slot → IsSlot image slot)
    → ((k : ℕ) → k < count → P (marked_word k) → Q k) → ((k : ℕ) → Q k → ⊥) → (slot : ℕ) → P slot
    → ⊥
no_slot image P Q count h room slots there none slot p =
    let word = slot_word image slot h (slots slot p) in
    let here : P (marked_word word.0) = subst P (sym word.1) p in
    none word.0 (there word.0 (room word.0 (slots (marked_word word.0) here)) here)

shared_slot : (image : List ℕ) → AreNamed image → (slot : ℕ) → IsShared image slot
    → IsSlot image slot
shared_slot image n slot s = owned_slot image slot n.heap (inr (shared_owner image slot n s))

stray_slot : (image : List ℕ) → AreNamed image → (slot : ℕ) → IsStray image slot → IsSlot image slot
stray_slot image n slot s = owned_slot image slot n.heap (stray_owner image slot s)

shared_marked : (image marks : List ℕ) → AreNamed image → AreMarks (accounted image) marks → (k : ℕ)
    → k < length marks → IsShared image (marked_word k) → IsMarkedTwice marks k
shared_marked image marks n m k below shared = let two =
    shared_counted _ (marked_word k) n shared in let e = m k below in (below, omega arith)

marked_shared : (image marks : List ℕ) → AreNamed image → AreMarks (accounted image) marks → (k : ℕ)
    → IsMarkedTwice marks k → IsShared image (marked_word k)
marked_shared image marks n m k twice = let e = m k twice.0 in let two = twice.1 in
    counted_shared _ (marked_word k) n (λ z. omega arith) (omega arith)

-- whether a chunk is one of ours, by the owner that is noted
ours_noted : (image owners : List ℕ) (k : ℕ) → HeapAccepted image → HasOwners image owners
    → k < length owners → (IsOurOwner (slice_index owners k) ↔ IsOurs image (marked_word k))
ours_noted image owners k h noted below =
    let told = owner_noted image owners (marked_word k) k h noted refl below in (
      λ ours. elim ours [ inl m ↦ inl (told.managers.0 m) | inr d ↦ inr (told.«data».0 d) ],
      λ ours. elim ours [ inl m ↦ inl (told.managers.1 m) | inr d ↦ inr (told.«data».1 d) ],
    )

stray_unmarked : (image marks owners : List ℕ) → AreNamed image → HasOwners image owners
    → AreMarks (accounted image) marks → (k : ℕ) → k < length marks → IsStray image (marked_word k)
    → IsUnmarked marks owners k
stray_unmarked image marks owners n noted m k below stray =
    let none = stray_counted image (marked_word k) n stray in
    let e = m k below in
    let inside = noted.room k (stray_slot image n (marked_word k) stray) in (
      below,
      inside,
      omega arith,
      (ours_noted _ _ k n.heap noted inside).1 (stray_owner image (marked_word k) stray),
    )

unmarked_stray : (image marks owners : List ℕ) → AreNamed image → HasOwners image owners
    → AreMarks (accounted image) marks → (k : ℕ) → IsUnmarked marks owners k
    → IsStray image (marked_word k)
unmarked_stray image marks owners n noted m k unmarked =
    let e = m k unmarked.0 in
    let none = unmarked.2 in
    counted_stray _ (marked_word k) n ((ours_noted _ _ k n.heap noted unmarked.1).0 unmarked.3)
    (omega arith)

-- these are offsets within the image
word_inside : (image : List ℕ) (slot : ℕ) → HeapAccepted image → IsSlot image slot → slot < 2 ^ 24
word_inside image slot h s = let inside = (slot_facts _ _ _ h.1.tiles s).inside in
    let most = h.1.tiles.head.most in omega arith

pub twice_inside : (image marks : List ℕ) (k : ℕ) → AreNamed image
    → AreMarks (accounted image) marks → IsMarkedTwice marks k → marked_word k < 2 ^ 24
twice_inside image marks k n m twice =
    word_inside _ _ n.heap (shared_slot _ n (marked_word k) (marked_shared _ marks n m k twice))

pub unmarked_inside : (image marks owners : List ℕ) (k : ℕ) → AreNamed image
    → HasOwners image owners → AreMarks (accounted image) marks → IsUnmarked marks owners k
    → marked_word k < 2 ^ 24
unmarked_inside image marks owners k n noted m unmarked = word_inside _ _ n.heap
    (stray_slot _ n (marked_word k) (unmarked_stray _ marks _ n noted m k unmarked))

-- the first word with the mark 2 is the least slot that is shared; if there is none, none is
pub least_shared : (image marks : List ℕ) (k : ℕ) → AreNamed image
    → AreEnoughMarks image (length marks) → AreMarks (accounted image) marks
    → Least (IsMarkedTwice marks) k → Least (IsShared image) (marked_word k)
least_shared image marks k n room m l = least_slot image (IsShared image) _ (length marks) n.heap
    room (shared_slot _ n) (shared_marked _ marks n m) k (marked_shared _ marks n m k l.here) l

pub none_shared : (image marks : List ℕ) → AreNamed image → AreEnoughMarks image (length marks)
    → AreMarks (accounted image) marks → ((k : ℕ) → IsMarkedTwice marks k → ⊥) → (slot : ℕ)
    → IsShared image slot → ⊥
none_shared image marks n room m = no_slot image (IsShared image) (IsMarkedTwice marks)
    (length marks) n.heap room (shared_slot _ n) (shared_marked _ marks n m)

-- the first word without a mark that has such a chunk is the least slot that is stray; if there is
-- none, none is
pub least_stray : (image marks owners : List ℕ) (k : ℕ) → AreNamed image → HasOwners image owners
    → AreEnoughMarks image (length marks) → AreMarks (accounted image) marks
    → Least (IsUnmarked marks owners) k → Least (IsStray image) (marked_word k)
least_stray image marks owners k n noted room m l =
    least_slot image (IsStray image) _ (length marks) n.heap room (stray_slot _ n)
    (stray_unmarked _ marks _ n noted m) k (unmarked_stray _ marks _ n noted m k l.here) l

pub none_stray : (image marks owners : List ℕ) → AreNamed image → HasOwners image owners
    → AreEnoughMarks image (length marks) → AreMarks (accounted image) marks
    → ((k : ℕ) → IsUnmarked marks owners k → ⊥) → (slot : ℕ) → IsStray image slot → ⊥
none_stray image marks owners n noted room m =
    no_slot image (IsStray image) (IsUnmarked marks owners) (length marks) n.heap room
    (stray_slot _ n) (stray_unmarked _ marks _ n noted m)

-- ---- what the accepted image asks of them

pub data_once : (image : List ℕ) → AreNamed image → ((slot : ℕ) → IsShared image slot → ⊥)
    → ((slot : ℕ) → IsStray image slot → ⊥) → (slot : ℕ) → owner_under image slot ≡ data_owner
    → times slot (named image) ≡ 1
data_once image n shared stray slot own = elim (cases_lt 0 (times slot (named image))) [
  | inl some ↦ elim (cases_lt 1 (times slot (named image))) [
    | inl more ↦ let positive = owned_some _ slot _ n.heap own (omega arith) in
        absurd (shared slot ((λ z. omega arith), more))
    | inr few ↦ omega arith
  ]
  | inr none ↦ absurd (stray slot (inl (own, (omega arith))))
]

pub all_listed : (image : List ℕ) → ((slot : ℕ) → IsStray image slot → ⊥) → (slot : ℕ)
    → owner_under image slot ≡ managers_owner
    → (slot ≡ directory_of image) ⊎ Contains (listed image) slot
all_listed image stray slot own = elim (cases_eq slot (directory_of image)) [
  | inl e ↦ inl e
  | inr ne ↦ elim (cases_lt 0 (times slot (listed image))) [
    | inl some ↦ inr (contained-times slot (listed image) some)
    | inr none ↦ absurd (stray slot (inr (own, ne, omega arith)))
  ]
]

pub not_shared : (image : List ℕ) → AreNamed image
    → ((slot : ℕ) → owner_under image slot ≡ data_owner → times slot (named image) ≡ 1) → (slot : ℕ)
    → IsShared image slot → ⊥
not_shared image n once slot s = let one = once slot (shared_owner _ slot n s) in let two = s.1 in
    omega arith

pub not_stray : (image : List ℕ)
    → ((slot : ℕ) → owner_under image slot ≡ data_owner → times slot (named image) ≡ 1)
    → ((slot : ℕ) → owner_under image slot ≡ managers_owner
    → (slot ≡ directory_of image) ⊎ Contains (listed image) slot) → (slot : ℕ) → IsStray image slot
    → ⊥
not_stray image once all slot s = elim s [
  | inl d ↦ let one = once slot d.0 in let none = d.1 in omega arith
  | inr m ↦ elim (all _ m.0) [
    | inl e ↦ m.1 e
    | inr there ↦ let some = times-contained slot (listed image) there in let none = m.2 in
        omega arith
  ]
]
