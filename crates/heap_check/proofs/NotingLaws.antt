-- A walk over an accepted heap notes the owner of each slot's chunk, within the marks.
use Rattle.heap_check.proofs.Words.{◌≡◌, ℕ, ◌+◌, ◌-◌, ◌/◌, ◌<◌, ◌≤◌, List, [], ◌∷◌, ◌++◌, length, set, refl, sym, ap, subst, ◌∙◌, arith, inl, inr, ◌⊎◌, slice_index, cases_eq, get_or-set_same, get_or-set_other, u32_at, Chunk, free, movable, fixed, size_of, total, area_start, IsSlot, AnyPlaced, BodyHere, IsBody, IsHeap, HeapAccepted, chunks_of, owner_of, owner_under, AnyPlaced-left, AnyPlaced-right, AnyPlaced-split, AnyPlaced-mid, AnyPlaced-map, slot_facts, slot_place, read_heap, finds_held, Header, header_of, size_by, HasHeader, marked_word, NoneMarked, HasOwners, IsRoomFor, NamesBy, NotesOwner}
use Rattle.chunk_format.specs.declared.header.Header.TheVariants as headers
use Rattle.heap_check.proofs.OwnerLaws.{empty_owner}
use Rattle.heap_check.proofs.WalkLaws.{HasPassed, passed_step, passed_all}

-- the chunk is a movable one that names this word
abbrev NamesWord : ℕ → ℕ → Chunk → Type 0
NamesWord word at (free size) = ⊥
NamesWord word at (movable bytes lock owner slot) = slot ≡ word
NamesWord word at (fixed bytes owner) = ⊥

pub record NotesSlots (image owners : List ℕ) (chunks : List Chunk) : Type 0 where
  pub own : (number : ℕ) → AnyPlaced (NamesWord (marked_word number)) (area_start image) chunks
      → slice_index owners number ≡ owner_under image (marked_word number)
  pub others : (number : ℕ) → number < length owners
      → (AnyPlaced (NamesWord (marked_word number)) (area_start image) chunks → ⊥)
      → slice_index owners number ≡ 16

pub notes_none : (image owners : List ℕ) → NoneMarked owners → NotesSlots image owners []
notes_none image owners clear =
    record { own = λ number any. absurd any; others = λ number below none. clear number below }

-- ---- one chunk

-- it names a slot
names_slot : (image : List ℕ) (chunks after : List Chunk) (c : Chunk) (word : ℕ)
    → HeapAccepted image → chunks_of image ≡ chunks ++ c ∷ after
    → NamesWord word (area_start image + total chunks) c
    → IsSlot image word × (u32_at image word ≡ area_start image + total chunks + 8)
names_slot image chunks after (free size) word h parts names = absurd names
names_slot image chunks after (fixed bytes owner) word h parts names = absurd names
names_slot image chunks after (movable bytes lock owner slot) word h parts names =
    let at : ℕ = area_start image + total chunks in
    let c : Chunk = movable bytes lock owner slot in
    slot_place image (chunks_of image) word (at + 8) (read_heap image h)
    (subst (λ (ds : List Chunk). AnyPlaced (BodyHere word (at + 8)) (area_start image) ds) (sym
    parts) (AnyPlaced-mid (BodyHere word (at + 8)) (area_start image) chunks c after (names, refl)))

-- whose chunk it is
names_owner : (image : List ℕ) (chunks after : List Chunk) (c : Chunk) (word owner : ℕ)
    → HeapAccepted image → chunks_of image ≡ chunks ++ c ∷ after → NamesBy word owner (header_of c)
    → owner ≡ owner_under image word
unfolding owner_under
names_owner image chunks after (free size) word owner h parts names = absurd names
names_owner image chunks after (fixed bytes own) word owner h parts names = absurd names
names_owner image chunks after (movable bytes lock own slot) word owner h parts names = sym names.1
    ∙ sym (ap owner_of (finds_held image word record { bytes = bytes; lock = lock; owner = own }
    (movable bytes lock own slot) (area_start image + total chunks) h record {
      before = chunks;
      after = after;
      chunks = parts;
      there = refl;
      named = (names.0, refl);
    }))

names_or : (word at : ℕ) (c : Chunk)
    → ((owner : ℕ) × NamesBy word owner (header_of c)) ⊎ (NamesWord word at c → ⊥)
names_or word at (free size) = inr (λ h. h)
names_or word at (fixed bytes owner) = inr (λ h. h)
names_or word at (movable bytes lock owner slot) =
    elim (cases_eq slot word) [ inl is ↦ inl (owner, (is, refl)) | inr apart ↦ inr apart ]

names_word : (word owner at : ℕ) (c : Chunk) → NamesBy word owner (header_of c)
    → NamesWord word at c
names_word word owner at (free size) names = absurd names
names_word word owner at (fixed bytes own) names = absurd names
names_word word owner at (movable bytes lock own slot) names = names.0

-- its mark is among them
pub names_room : (image : List ℕ) (at : ℕ) (header : Header) (owners : List ℕ) (count : ℕ)
    → HeapAccepted image → HasPassed image (NotesSlots image owners) at
    → (f : HasHeader image at header)
    → ((number : ℕ) → IsSlot image (marked_word number) → number < count) → IsRoomFor header count
names_room image at header owners count h p f room = (passed_step image (NotesSlots image owners)
    (λ chunks. IsRoomFor header count) at header (read_heap image h).tiles p f
    (λ chunks after there parts was. by chunks after f.chunk parts f.header_is)).holds where
      by : (chunks after : List Chunk) (c : Chunk) → chunks_of image ≡ chunks ++ c ∷ after
          → header ≡ header_of c → IsRoomFor header count
      by chunks after (free size) parts is = subst (λ (x : Header). IsRoomFor x count) (sym is) tt
      by chunks after (fixed bytes owner) parts is =
          subst (λ (x : Header). IsRoomFor x count) (sym is) tt
      by chunks after (movable bytes lock owner slot) parts is =
          let s =
          (names_slot image chunks after (movable bytes lock owner slot) slot h parts refl).0 in
          let facts = slot_facts image (chunks_of image) slot (read_heap image h).tiles s in
          let low = facts.low in
          let whole = facts.whole in
          let number : ℕ = (slot - 16) / 4 in
          let there : slot ≡ marked_word number = omega arith in
          subst (λ (x : Header). IsRoomFor x count) (sym is)
          (number, there, room number (subst (λ (n : ℕ). IsSlot image n) there s))

pub notes_more : (image : List ℕ) (at : ℕ) (header : Header) (old new : List ℕ) → HeapAccepted image
    → length new ≡ length old → HasPassed image (NotesSlots image old) at
    → HasHeader image at header → NotesOwner header old new
    → HasPassed image (NotesSlots image new) (at + size_by header)
notes_more image at header old new h len p f notes = passed_step image (NotesSlots image old)
    (NotesSlots image new) at header (read_heap image h).tiles p f
    (λ chunks after there parts was. more chunks after f.chunk parts f.header_is was) where
      more : (chunks after : List Chunk) (c : Chunk) → chunks_of image ≡ chunks ++ c ∷ after
          → header ≡ header_of c → NotesSlots image old chunks
          → NotesSlots image new (chunks ++ c ∷ [])
      more chunks after c parts is was = record { own = own; others = others } where
        own : (number : ℕ)
            → AnyPlaced (NamesWord (marked_word number)) (area_start image) (chunks ++ c ∷ [])
            → slice_index new number ≡ owner_under image (marked_word number)
        own number any = elim (names_or (marked_word number) (area_start image + total chunks) c) [
          | inl names ↦ notes.own number names.0
              (subst (λ (x : Header). NamesBy (marked_word number) names.0 x) (sym is) names.1)
              ∙ names_owner image chunks after c (marked_word number) names.0 h parts names.1
          | inr apart ↦
              let kept : slice_index new number ≡ slice_index old number =
              notes.others number (λ owner names.
              apart (names_word (marked_word number) owner (area_start image + total chunks) c
              (subst (λ (x : Header). NamesBy (marked_word number) owner x) is names))) in
              kept ∙ was.own number (elim (AnyPlaced-split (NamesWord (marked_word number))
              (area_start image) chunks (c ∷ []) any) [
                | inl left ↦ left
                | inr last ↦ elim last [ inl here ↦ absurd (apart here) | inr none ↦ absurd none ]
              ])
        ]

        others : (number : ℕ) → number < length new
            → (AnyPlaced (NamesWord (marked_word number)) (area_start image) (chunks ++ c ∷ []) → ⊥)
            → slice_index new number ≡ 16
        others number below none = notes.others number (λ owner names.
            none (AnyPlaced-right (NamesWord (marked_word number)) (area_start image) chunks
            (c ∷ []) (inl (names_word (marked_word number) owner (area_start image + total chunks) c
            (subst (λ (x : Header). NamesBy (marked_word number) owner x) is names)))))
            ∙ was.others number (omega arith) (λ any. none (AnyPlaced-left
            (NamesWord (marked_word number)) (area_start image) chunks (c ∷ []) any))

-- ---- all chunks

body_names : (word place at : ℕ) (c : Chunk) → BodyHere word place at c → NamesWord word at c
body_names word place at (free size) b = absurd b
body_names word place at (fixed bytes owner) b = absurd b
body_names word place at (movable bytes lock owner slot) b = b.0

named_body : (word at : ℕ) (cs : List Chunk) → AnyPlaced (NamesWord word) at cs
    → (place : ℕ) × (0 < place) × IsBody at cs word place
named_body word at [] any = absurd any
named_body word at (c ∷ cs) any = elim any [
  | inl own ↦ (at + 8, omega arith, inl (here c own))
  | inr later ↦ let b = named_body word (at + size_of c) cs later in (b.0, b.1, inr b.2)
] where
  here : (d : Chunk) → NamesWord word at d → BodyHere word (at + 8) at d
  here (free size) own = absurd own
  here (fixed bytes owner) own = absurd own
  here (movable bytes lock owner slot) own = (own, refl)

any_or : (word at : ℕ) (cs : List Chunk)
    → AnyPlaced (NamesWord word) at cs ⊎ (AnyPlaced (NamesWord word) at cs → ⊥)
any_or word at [] = inr (λ h. h)
any_or word at (c ∷ cs) = elim (names_or word at c) [
  | inl names ↦ inl (inl (names_word word names.0 at c names.1))
  | inr apart ↦ elim (any_or word (at + size_of c) cs) [
    | inl later ↦ inl (inr later)
    | inr none ↦ inr (λ any. elim any [ inl own ↦ apart own | inr later ↦ none later ])
  ]
]

pub notes_all : (image : List ℕ) (at : ℕ) (owners : List ℕ) → HeapAccepted image → length image ≤ at
    → ((number : ℕ) → IsSlot image (marked_word number) → number < length owners)
    → HasPassed image (NotesSlots image owners) at → HasOwners image owners
notes_all image at owners h beyond room p =
    record { room = room; each = each; others = others } where
      heap : IsHeap image (chunks_of image)
      heap = read_heap image h

      notes : NotesSlots image owners (chunks_of image)
      notes = (passed_all image (NotesSlots image owners) at beyond p).holds

      each : (number : ℕ) → IsSlot image (marked_word number)
          → slice_index owners number ≡ owner_under image (marked_word number)
      each number s = elim (any_or (marked_word number) (area_start image) (chunks_of image)) [
        | inl any ↦ notes.own number any
        | inr none ↦ notes.others number (room number s) none ∙ empty_owner image
            (marked_word number) h s (elim (cases_eq (u32_at image (marked_word number)) 0) [
              | inl empty ↦ empty
              | inr used ↦
                  let body = (heap.tied (marked_word number) (u32_at image (marked_word number))
                  (omega arith)).0 (s, refl) in
                  absurd (none (AnyPlaced-map (BodyHere (marked_word number)
                  (u32_at image (marked_word number))) (NamesWord (marked_word number))
                  (body_names (marked_word number) (u32_at image (marked_word number)))
                  (area_start image) (chunks_of image) body))
            ])
      ]

      others : (number : ℕ) → number < length owners → (IsSlot image (marked_word number) → ⊥)
          → slice_index owners number ≡ 16
      others number below none = notes.others number below (λ any.
          let b = named_body (marked_word number) (area_start image) (chunks_of image) any in
          none ((heap.tied (marked_word number) b.0 b.1).1 b.2).0)

-- ---- one mark

-- the mark of the word that a movable chunk names is set
pub note_set : (owners : List ℕ) (count lock owner slot : ℕ)
    → IsRoomFor (headers.Movable count lock owner slot) (length owners)
    → NotesOwner (headers.Movable count lock owner slot) owners (set owners ((slot - 16) / 4) owner)
note_set owners count lock owner slot room =
    let there = room.1 in
    let below = room.2 in
    let mark : ℕ = (slot - 16) / 4 in
    record {
      own = λ number other names.
          let is = names.0 in
          let same : number ≡ mark = omega arith in
          ap (λ (n : ℕ). slice_index (set owners mark owner) n) same
          ∙ get_or-set_same owners mark owner 0 (omega arith) ∙ names.1;
      others = λ number none. get_or-set_other owners mark number owner 0
          (λ same. none owner ((let e : slot ≡ marked_word number = omega arith in e), refl));
    }

-- as many marks as words are enough for an image with a chain
pub chained_room : (image : List ℕ) (count : ℕ) → HeapAccepted image → length image / 4 ≤ count
    → (number : ℕ) → IsSlot image (marked_word number) → number < count
chained_room image count h most number s =
    let inside =
    (slot_facts image (chunks_of image) (marked_word number) (read_heap image h).tiles s).inside in
    omega arith
