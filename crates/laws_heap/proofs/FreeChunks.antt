-- Free chunks are split and joined, claimed for live ones, and live ones given back.
use Rattle.laws_heap.proofs.Words.{◌≡◌, ◌≢◌, ℕ, ◌+◌, ◌<◌, List, [], ◌∷◌, ◌++◌, length, Option, Some, None, refl, sym, ap, subst, ◌∙◌, arith, inl, inr, ◌↔◌, ◌==◌, sum_by, cases_eq, nat_tests, sum_by-cons, u32_at, Chunk, free, movable, fixed, need, size_of, total, free_size, IsSlot, area_start, BodyHere, IsBody, IsCallersIfFixed, ManagersHere, directory_of, IsHeap, EveryPlaced, AnyPlaced, LiveChunk, NamedHere, live_under, is_fixed_name, AllFree, place_under, place_of}
use Rattle.laws_heap.proofs.Tests.{cond-false}
use Rattle.laws_heap.proofs.Placed.{AnyPlaced-left, AnyPlaced-right, AnyPlaced-split}
use Rattle.laws_heap.proofs.Runs.{chunks_of-tiled}
use Rattle.laws_heap.proofs.FixedNames.{fixed_name_is, fixed_place, fixed_other}
use Rattle.laws_heap.proofs.Slots.{slot_no_place}
use Rattle.laws_heap.proofs.Replacements.{Replaces, replaced_total, replaced_heap, any_replaced, SameSlots, kept_ties, kept_directory}
use Rattle.laws_heap.proofs.Lives.{or_else, live_under-append, place_under-append, live_placed}
use Rattle.laws_heap.proofs.Meanings.{live_under-there, named_once}

-- ---- free chunks

-- of free chunks nothing that speaks of live ones holds
pub any_free : (P : ℕ → Chunk → Type 0) → ((at size : ℕ) → P at (free size) → ⊥)
    → (at : ℕ) (run : List Chunk) → AllFree run → AnyPlaced P at run → ⊥
any_free P none at [] f h = h
any_free P none at (free size ∷ run) f h =
    elim h [ inl here ↦ none at size here | inr later ↦ any_free P none (at + size) run f later ]
any_free P none at (movable bytes lock owner slot ∷ run) f h = f
any_free P none at (fixed bytes owner ∷ run) f h = f

pub every_free : (at : ℕ) (run : List Chunk) → AllFree run → EveryPlaced IsCallersIfFixed at run
every_free at [] f = tt
every_free at (free size ∷ run) f = (tt, every_free (at + size) run f)
every_free at (movable bytes lock owner slot ∷ run) f = absurd f
every_free at (fixed bytes owner ∷ run) f = absurd f

-- ---- what is read off the new image

pub reads_place : (image : List ℕ) (cs : List Chunk) (start name : ℕ) → IsHeap image cs
    → area_start image ≡ start → place_of image name ≡ place_under start cs name
reads_place image cs start name h e =
    ap (λ xs. place_under (area_start image) xs name) (chunks_of-tiled image cs h.tiles)
    ∙ ap (λ n. place_under n cs name) e

-- ---- free chunks are replaced by free chunks

pub free_sum : (run : List Chunk) → AllFree run → sum_by free_size run ≡ total run
free_sum [] f = refl
free_sum (free size ∷ run) f =
    sum_by-cons free_size (free size) run ∙ ap (λ n. size + n) (free_sum run f)
free_sum (movable bytes lock owner slot ∷ run) f = absurd f
free_sum (fixed bytes owner ∷ run) f = absurd f

pub free_replaced : (old new : List ℕ) (before mid others after : List Chunk) (at : ℕ)
    → IsHeap old (before ++ (mid ++ after)) → Replaces old new before mid others after at
    → SameSlots old new → AllFree mid → AllFree others → IsHeap new (before ++ (others ++ after))
free_replaced old new before mid others after at h r slots fm fo =
    replaced_heap old new before mid others after at h r record {
      ties = kept_ties old new before mid others after at h r slots (λ slot place. (
        λ b. absurd (any_free (BodyHere slot place) (λ at size b. b) at mid fm b),
        λ b. absurd (any_free (BodyHere slot place) (λ at size b. b) at others fo b),
      ));
      callers = every_free at others fo;
      directory = kept_directory old new before mid others after at h r
          (λ b. absurd (any_free (ManagersHere (directory_of old)) (λ at size b. b) at mid fm b));
    }

-- ---- one slot changes

-- every slot but this one is as it was
pub record OtherSlots (old new : List ℕ) (name : ℕ) : Type 0 where
  pub same : (slot : ℕ) → IsSlot old slot → slot ≢ name → u32_at new slot ≡ u32_at old slot

-- a body under a name is a chunk of the name
body_named : (name place at : ℕ) (c : Chunk) → BodyHere name place at c
    → (live : LiveChunk) × NamedHere name live at c
body_named name place at (free size) b = absurd b
body_named name place at (movable bytes lock owner slot) b =
    (record { bytes = bytes; lock = lock; owner = owner }, (b.0, refl))
body_named name place at (fixed bytes owner) b = absurd b

bodies_named : (name place at : ℕ) (cs : List Chunk) → IsBody at cs name place
    → (live : LiveChunk) × AnyPlaced (NamedHere name live) at cs
bodies_named name place at [] b = absurd b
bodies_named name place at (c ∷ cs) b = elim b [
  | inl here ↦ let n = body_named name place at c here in (n.0, inl n.1)
  | inr later ↦ let n = bodies_named name place (at + size_of c) cs later in (n.0, inr n.1)
]

-- ---- a free chunk, or a fixed one, becomes a movable one

abbrev pub IsNotMovable : Chunk → Type 0
IsNotMovable (free size) = Unit {0}
IsNotMovable (movable bytes lock owner slot) = ⊥
IsNotMovable (fixed bytes owner) = Unit {0}

no_body : (slot place at : ℕ) (c : Chunk) → IsNotMovable c → BodyHere slot place at c → ⊥
no_body slot place at (free size) n b = b
no_body slot place at (movable bytes lock owner named) n b = n
no_body slot place at (fixed bytes owner) n b = b

no_managers : (slot at : ℕ) (c : Chunk) → IsNotMovable c → ManagersHere slot at c → ⊥
no_managers slot at (free size) n m = m
no_managers slot at (movable bytes lock owner named) n m = n
no_managers slot at (fixed bytes owner) n m = m

claimed_ties : (old new : List ℕ) (before after : List Chunk) (at : ℕ) (c : Chunk) (bytes : List ℕ)
    (owner slot : ℕ) → IsNotMovable c → IsHeap old (before ++ c ∷ after)
    → Replaces old new before (c ∷ []) (movable bytes 0 owner slot ∷ []) after at → IsSlot old slot
    → u32_at old slot ≡ 0 → u32_at new slot ≡ at + 8 → OtherSlots old new slot → (t place : ℕ)
    → 0 < place → ((IsSlot old t × (u32_at new t ≡ place))
    ↔ IsBody (area_start old) (before ++ (movable bytes 0 owner slot ∷ after)) t place)
claimed_ties old new before after at c bytes owner slot none h r s empty now others t place
    positive =
    elim (cases_eq t slot) [ inl same ↦ mine same | inr apart ↦ other apart ] where
      start : ℕ
      start = area_start old

      sizes : need (length bytes) + 0 ≡ size_of c + 0
      sizes = replaced_total old new before (c ∷ []) (movable bytes 0 owner slot ∷ []) after at r

      there : at ≡ start + total before
      there = r.there

      new_list : List Chunk
      new_list = before ++ (movable bytes 0 owner slot ∷ after)

      old_body : (u : ℕ) → u ≢ slot → IsBody start new_list u place
          → IsBody start (before ++ c ∷ after) u place
      old_body u apart b = any_replaced (BodyHere u place) start before
          (movable bytes 0 owner slot ∷ []) (c ∷ []) after (sym sizes)
          (λ m. elim m [ inl own ↦ absurd (apart (sym own.0)) | inr nothing ↦ absurd nothing ]) b

      new_body : (u : ℕ) → IsBody start (before ++ c ∷ after) u place
          → IsBody start new_list u place
      new_body u b = any_replaced (BodyHere u place) start before (c ∷ [])
          (movable bytes 0 owner slot ∷ []) after sizes
          (λ m.
          elim m [ inl own ↦ absurd (no_body u place _ c none own) | inr nothing ↦ absurd nothing ])
          b

      other : t ≢ slot → ((IsSlot old t × (u32_at new t ≡ place)) ↔ IsBody start new_list t place)
      other apart = (
        λ k. new_body t ((h.tied t place positive).0 (k.0, sym (others.same t k.0 apart) ∙ k.1)),
        λ b. let k = (h.tied t place positive).1 (old_body t apart b) in
            (k.0, others.same t k.0 apart ∙ k.1),
      )

      mine : t ≡ slot → ((IsSlot old t × (u32_at new t ≡ place)) ↔ IsBody start new_list t place)
      mine same = (
        λ k. let is : start + total before + 8 ≡ place = let e = k.1 in let f = ap (u32_at new) same
            ∙ now in omega arith in
            AnyPlaced-right (BodyHere t place) start before _ (inl (sym same, is)),
        λ b. elim (AnyPlaced-split (BodyHere t place) start before _ b) [
          | inl front ↦ absurd (used (AnyPlaced-left _ start before (c ∷ after) front))
          | inr rest ↦ elim rest [
            | inl own ↦
                let is = own.1 in (
                  rw (← same) at s,
                  ap (u32_at new) same ∙ now ∙ (let e : at + 8 ≡ place = omega arith in e),
                )
            | inr back ↦ absurd (used (AnyPlaced-right (BodyHere t place) start before (c ∷ after)
                (inr (rw (let e : need (length bytes) ≡ size_of c = omega arith in e) at back))))
          ]
        ],
      ) where
        used : IsBody start (before ++ c ∷ after) t place → ⊥
        used b =
            let k = (h.tied t place positive).1 b in let e = k.1 in
            let z = ap (u32_at old) same ∙ empty in
            omega arith

-- the maps where the middle chunks are one chunk of a name, or free chunks
or_none : {A : Type 0} (x y : Option A) → x ≡ None → or_else x y ≡ y
or_none x y e = ap (λ o. or_else o y) e

pub or_front : {A : Type 0} (x y : Option A) → or_else x y ≡ None → x ≡ None
or_front None y e = refl
or_front (Some x) y e = e

pub or_back : {A : Type 0} (x y : Option A) → or_else x y ≡ None → y ≡ None
or_back None y e = e
or_back (Some x) y e = absurd cc

-- a list of chunks in which no chunk has the name
pub unnamed : (at : ℕ) (cs : List Chunk) (name : ℕ)
    → ((live : LiveChunk) → AnyPlaced (NamedHere name live) at cs → ⊥)
    → live_under at cs name ≡ None
unnamed at cs name none = nothing (live_under at cs name) refl where
  nothing : (r : Option LiveChunk) → live_under at cs name ≡ r → r ≡ None
  nothing None e = refl
  nothing (Some live) e = absurd (none live (live_under-there at cs name live e))

-- what is read under a name of chunks, one of which alone has it
pub live_mid : (at : ℕ) (before : List Chunk) (mid after : List Chunk) (name : ℕ)
    → live_under at before name ≡ None
    → live_under at (before ++ (mid ++ after)) name ≡ or_else (live_under
    (at + total before) mid name) (live_under (at + total before + total mid) after name)
live_mid at before mid after name none = live_under-append at before (mid ++ after) name
    ∙ or_none _ _ none ∙ live_under-append (at + total before) mid after name

pub place_mid : (at : ℕ) (before : List Chunk) (mid after : List Chunk) (name : ℕ)
    → live_under at before name ≡ None
    → place_under at (before ++ (mid ++ after)) name ≡ or_else (place_under
    (at + total before) mid name) (place_under (at + total before + total mid) after name)
place_mid at before mid after name none = place_under-append at before (mid ++ after) name
    ∙ or_none _ _ (live_placed at before name none)
    ∙ place_under-append (at + total before) mid after name

other_live : (at : ℕ) (bytes : List ℕ) (lock owner slot name : ℕ) (cs : List Chunk) → name ≢ slot
    → live_under at (movable bytes lock owner slot ∷ cs) name
    ≡ live_under (at + need (length bytes)) cs name
other_live at bytes lock owner slot name cs apart =
    cond-false (slot == name) _ _ (grind (arith, nat_tests))

other_place : (at : ℕ) (bytes : List ℕ) (lock owner slot name : ℕ) (cs : List Chunk) → name ≢ slot
    → place_under at (movable bytes lock owner slot ∷ cs) name
    ≡ place_under (at + need (length bytes)) cs name
other_place at bytes lock owner slot name cs apart =
    cond-false (slot == name) _ _ (grind (arith, nat_tests))

pub claimed : (old new : List ℕ) (before after : List Chunk) (at : ℕ) (c : Chunk) (bytes : List ℕ)
    (owner slot : ℕ) → IsNotMovable c → IsHeap old (before ++ c ∷ after)
    → Replaces old new before (c ∷ []) (movable bytes 0 owner slot ∷ []) after at → IsSlot old slot
    → u32_at old slot ≡ 0 → u32_at new slot ≡ at + 8 → OtherSlots old new slot
    → IsHeap new (before ++ (movable bytes 0 owner slot ∷ after))
claimed old new before after at c bytes owner slot none h r s empty now others =
    replaced_heap old new before (c ∷ []) (movable bytes 0 owner slot ∷ []) after at h r record {
      ties = claimed_ties old new before after at c bytes owner slot none h r s empty now others;
      callers = (tt, tt);
      directory =
          kept_directory old new before (c ∷ []) (movable bytes 0 owner slot ∷ []) after at h r
          (λ m. elim m [
            | inl own ↦ absurd (no_managers (directory_of old) at c none own)
            | inr nothing ↦ absurd nothing
          ]);
    }

-- ---- a live chunk is given back, with the free chunks after it

-- the slot of a movable chunk is cleared
abbrev pub ClearsSlot : List ℕ → Chunk → Type 0
ClearsSlot new (free size) = Unit {0}
ClearsSlot new (movable bytes lock owner slot) = u32_at new slot ≡ 0
ClearsSlot new (fixed bytes owner) = Unit {0}

pub body_name : (name slot place at : ℕ) (live : LiveChunk) (c : Chunk) → NamedHere name live at c
    → BodyHere slot place at c → slot ≡ name
body_name name slot place at live (free size) n b = absurd n
body_name name slot place at live (movable bytes lock owner own) n b = sym b.0 ∙ n.0
body_name name slot place at live (fixed bytes owner) n b = absurd b

-- the slot of a name is empty in the new image
cleared : (old new : List ℕ) (before : List Chunk) (c : Chunk) (rest : List Chunk) (name place : ℕ)
    (live : LiveChunk) → IsHeap old (before ++ (c ∷ rest))
    → NamedHere name live (area_start old + total before) c → ClearsSlot new c → IsSlot old name
    → u32_at new name ≡ place → 0 < place → ⊥
cleared old new before (free size) rest name place live h n clear s e positive = n
cleared old new before (movable bytes lock owner own) rest name place live h n clear s e positive =
    let z = ap (u32_at new) (sym n.0) ∙ clear in
    omega arith
cleared old new before (fixed bytes owner) rest name place live h n clear s e positive =
    slot_no_place old before (fixed bytes owner) rest name name live h.tiles n s (sym (fixed_name_is
    (area_start old + total before) bytes owner n) ∙ fixed_place (area_start old + total before))

pub other_name : (name other at : ℕ) (live : LiveChunk) (c : Chunk) (run : List Chunk)
    → NamedHere name live at c → other ≢ name
    → live_under at (c ∷ run) other ≡ live_under (at + size_of c) run other
other_name name other at live (free size) run n apart = refl
other_name name other at live (movable bytes lock owner slot) run n apart =
    other_live at bytes lock owner slot other run (λ e. apart (e ∙ n.0))
other_name name other at live (fixed bytes owner) run n apart =
    cond-false (is_fixed_name at owner other) _ _ (fixed_other at bytes owner other n apart)

pub other_name_place : (name other at : ℕ) (live : LiveChunk) (c : Chunk) (run : List Chunk)
    → NamedHere name live at c → other ≢ name
    → place_under at (c ∷ run) other ≡ place_under (at + size_of c) run other
other_name_place name other at live (free size) run n apart = refl
other_name_place name other at live (movable bytes lock owner slot) run n apart =
    other_place at bytes lock owner slot other run (λ e. apart (e ∙ n.0))
other_name_place name other at live (fixed bytes owner) run n apart =
    cond-false (is_fixed_name at owner other) _ _ (fixed_other at bytes owner other n apart)

pub released : (old new : List ℕ) (before : List Chunk) (c : Chunk) (run after : List Chunk)
    (at size name : ℕ) (live : LiveChunk) → IsHeap old (before ++ ((c ∷ run) ++ after))
    → Replaces old new before (c ∷ run) (free size ∷ []) after at → AllFree run
    → NamedHere name live at c → (ManagersHere (directory_of old) at c → ⊥) → ClearsSlot new c
    → OtherSlots old new name → IsHeap new (before ++ (free size ∷ after))
released old new before c run after at size name live h r f own apart_from_directory clear others =
    heap where
      start : ℕ
      start = area_start old

      old_list : List Chunk
      old_list = before ++ ((c ∷ run) ++ after)

      new_list : List Chunk
      new_list = before ++ (free size ∷ after)

      there : at ≡ start + total before
      there = r.there

      mine : NamedHere name live (start + total before) c
      mine = subst (λ (n : ℕ). NamedHere name live n c) there own

      sizes : size + 0 ≡ size_of c + total run
      sizes = replaced_total old new before (c ∷ run) (free size ∷ []) after at r

      once : (y : LiveChunk) → (AnyPlaced (NamedHere name y) start before → ⊥)
          × (AnyPlaced (NamedHere name y) (start + total before + size_of c) (run ++ after) → ⊥)
      once y = named_once old before c (run ++ after) name live y h mine

      to_new : (slot place : ℕ) → slot ≢ name → IsBody start old_list slot place
          → IsBody start new_list slot place
      to_new slot place apart b = any_replaced (BodyHere slot place) start before (c ∷ run)
          (free size ∷ []) after sizes (λ m. elim m [
            | inl here ↦
                absurd (apart (body_name name slot place (start + total before) live c mine here))
            | inr later ↦ absurd (any_free (BodyHere slot place) (λ at size b. b)
                (start + total before + size_of c) run f later)
          ]) b

      to_old : (slot place : ℕ) → IsBody start new_list slot place
          → IsBody start old_list slot place
      to_old slot place b =
          any_replaced (BodyHere slot place) start before (free size ∷ []) (c ∷ run)
          after (sym sizes) (λ m. elim m [ inl here ↦ absurd here | inr none ↦ absurd none ]) b

      not_name : (place : ℕ) → IsBody start new_list name place → ⊥
      not_name place b = elim (AnyPlaced-split _ start before (free size ∷ after) b) [
        | inl left ↦ let n = bodies_named name place start before left in (once n.0).0 n.1
        | inr rest ↦ elim rest [
          | inl none ↦ none
          | inr right ↦
              let n = bodies_named name place (start + total before + size) after right in
              let e : start + total before + size ≡ start + total before + size_of c + total run =
              omega arith in
              (once n.0).1
              (AnyPlaced-right (NamedHere name n.0) (start + total before + size_of c) run
              after (subst (λ m. AnyPlaced (NamedHere name n.0) m after) e n.1))
        ]
      ]

      ties : (slot place : ℕ) → 0 < place
          → ((IsSlot old slot × (u32_at new slot ≡ place)) ↔ IsBody start new_list slot place)
      ties slot place positive = elim (cases_eq slot name) [
        | inl same ↦ (
          λ k. absurd (cleared old new before c (run ++ after) name place live h mine clear
              (rw same at k.0) (ap (u32_at new) (sym same) ∙ k.1) positive),
          λ b. absurd (not_name place (subst (λ (n : ℕ). IsBody start new_list n place) same b)),
        )
        | inr apart ↦ (
          λ k. to_new slot place apart
              ((h.tied slot place positive).0 (k.0, sym (others.same slot k.0 apart) ∙ k.1)),
          λ b. let k = (h.tied slot place positive).1 (to_old slot place b) in
              (k.0, others.same slot k.0 apart ∙ k.1),
        )
      ]

      heap : IsHeap new new_list
      heap = replaced_heap old new before (c ∷ run) (free size ∷ []) after at h r record {
        ties = ties;
        callers = (tt, tt);
        directory =
            kept_directory old new before (c ∷ run) (free size ∷ []) after at h r (λ m. elim m [
              | inl here ↦ absurd (apart_from_directory here)
              | inr later ↦ absurd (any_free _ (λ at size b. b) (at + size_of c) run f later)
            ]);
      }
