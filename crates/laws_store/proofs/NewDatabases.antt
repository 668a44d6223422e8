-- A database that comes: a chunk of the manager's has no lock, a slot more is listed, and the room
-- and the slots that chunks take which are made one after the other.
use Rattle.laws_store.proofs.Words.{◌≡◌, ◌≢◌, ℕ, zero, suc, ◌+◌, ◌*◌, ◌/◌, ◌%◌, ◌^◌, ◌<◌, ◌≤◌, Bool, true, false, cond, List, [], ◌∷◌, ◌++◌, length, Some, refl, sym, ap, ◌∙◌, append_assoc, arith, length-append, inl, inr, cases_eq, take-append_seam, append-nil, All-nil, All-cons, sum_by-cons, count_by, is_none, u32_at, u32_bytes, Chunk, free, movable, fixed, Spelled, slots_of, IsCallersIfFixed, HeapAccepted, LiveChunk, NamedHere, held, rooms, free_slots, Short, same, times, numbered, u32s_in, Lowers, makes, Stuck, big_from-take, finds_callers, held_finds, finds_spelled, fixed_live_is}
use Rattle.laws_heap.proofs.SlotNumbers.{same_number}
use Rattle.laws_heap.proofs.SlidImages.{free_slots_held}
use Rattle.laws_store.proofs.Numbers.{numbered_more, big_from-behind}
use Rattle.laws_store.proofs.Directories.{u32s_read}
use Rattle.laws_store.proofs.Times.{same-yes, same-no, times-cons}

-- ---- chunks of the manager's

loose_here : (image : List ℕ) (at name : ℕ) (live : LiveChunk) (c : Chunk) → live.owner ≡ 0
    → NamedHere name live at c → IsCallersIfFixed at c → Spelled image at c → live.lock ≡ 0
loose_here image at name live (free size) own n callers s = absurd n
loose_here image at name live (movable bytes lock owner slot) own n callers s =
    let a : owner ≡ live.owner = ap (λ (l : LiveChunk). l.owner) n.1 in
    let b : lock ≡ live.lock = ap (λ (l : LiveChunk). l.lock) n.1 in
    elim s.3 [ inl none ↦ sym b ∙ none | inr some ↦ absurd (omega arith) ]
loose_here image at name live (fixed bytes owner) own n callers s =
    let a : owner ≡ live.owner = ap (λ (l : LiveChunk). l.owner) (fixed_live_is at bytes owner n) in
    let low = callers.0 in
    absurd (omega arith)

-- a chunk of the manager's has no lock
pub managers_loose : (image : List ℕ) (name : ℕ) (live : LiveChunk) → HeapAccepted image
    → held image name ≡ Some live → live.owner ≡ 0 → live.lock ≡ 0
managers_loose image name live h e own =
    let found = held_finds image name live h e in
    let f = found.finds in
    loose_here image found.at name live found.chunk own f.named (finds_callers image name live
    found.chunk found.at h f) (finds_spelled image name live found.chunk found.at h f)

-- ---- a slot more that is listed

numbered_alike : (f g : ℕ → ℕ) (n : ℕ) → ((i : ℕ) → i < n → f i ≡ g i) → numbered f n ≡ numbered g n
numbered_alike f g zero same = refl
numbered_alike f g (suc n) same =
    numbered_more f n
    ∙ ap (λ (xs : List ℕ). xs ++ f n ∷ []) (numbered_alike f g n (λ i less. same i (omega arith)))
    ∙ ap (λ (x : ℕ). numbered g n ++ x ∷ []) (same n (omega arith)) ∙ sym (numbered_more g n)

numbered_both : (f : ℕ → ℕ) (n m : ℕ)
    → numbered f (n + m) ≡ numbered f n ++ numbered (λ i. f (n + i)) m
numbered_both f n zero =
    (let e : n + 0 ≡ n = omega arith in ap (numbered f) e) ∙ sym (append-nil (numbered f n))
numbered_both f n (suc m) =
    (let e : n + suc m ≡ suc (n + m) = omega arith in ap (numbered f) e)
    ∙ numbered_more f (n + m)
    ∙ ap (λ (xs : List ℕ). xs ++ f (n + m) ∷ []) (numbered_both f n m)
    ∙ append_assoc (numbered f n) (numbered (λ i. f (n + i)) m) (f (n + m) ∷ [])
    ∙ ap (λ (xs : List ℕ). numbered f n ++ xs) (sym (numbered_more (λ i. f (n + i)) m))

-- the bytes after the first n slots don't count for these
u32s_front : (front back : List ℕ) (n : ℕ) → length front ≡ 4 * n
    → numbered (λ i. u32_at (front ++ back) (4 * i)) n ≡ numbered (λ i. u32_at front (4 * i)) n
unfolding u32_at
u32s_front front back n len =
    numbered_alike (λ i. u32_at (front ++ back) (4 * i)) (λ i. u32_at front (4 * i)) n
    (λ i less. sym (big_from-take (4 * i) 4 (length front) (front ++ back) (omega arith))
    ∙ ap (λ xs. u32_at xs (4 * i)) (take-append_seam front back))

u32s_back : (front back : List ℕ) (n m : ℕ) → length front ≡ 4 * n
    → numbered (λ i. u32_at (front ++ back) (4 * (n + i))) m ≡ numbered (λ i. u32_at back (4 * i)) m
unfolding u32_at
u32s_back front back n m len =
    numbered_alike (λ i. u32_at (front ++ back) (4 * (n + i))) (λ i. u32_at back (4 * i)) m
    (λ i less. (let e : 4 * (n + i) ≡ 4 * n + 4 * i = omega arith in ap (u32_at (front ++ back)) e)
    ∙ big_from-behind (4 * n) 4 (4 * i) front back len)

-- the slots of two directories, one after the other
pub u32s_join : (front back : List ℕ) (n : ℕ) → length front ≡ 4 * n
    → u32s_in (front ++ back) ≡ u32s_in front ++ u32s_in back
u32s_join front back n len =
    let both = length-append front back in
    let count : length (front ++ back) / 4 ≡ n + length back / 4 = omega arith in
    let mine : length front / 4 ≡ n = omega arith in
    ap (numbered (λ i. u32_at (front ++ back) (4 * i))) count
    ∙ numbered_both (λ i. u32_at (front ++ back) (4 * i)) n (length back / 4)
    ∙ ap (λ xs. xs ++ numbered (λ i. u32_at (front ++ back) (4 * (n + i))) (length back / 4))
    (u32s_front front back n len)
    ∙ ap (λ xs. numbered (λ i. u32_at front (4 * i)) n ++ xs) (u32s_back front back n _ len)
    ∙ ap (λ (k : ℕ). numbered (λ i. u32_at front (4 * i)) k ++ u32s_in back) (sym mine)

-- a slot more is listed last where its bytes stand after those of the others
pub u32s_push : (bytes : List ℕ) (slot : ℕ) → length bytes % 4 ≡ 0 → slot < 2 ^ 32
    → u32s_in (bytes ++ u32_bytes slot) ≡ u32s_in bytes ++ slot ∷ []
u32s_push bytes slot whole fits =
    u32s_join bytes (u32_bytes slot) (length bytes / 4) (omega arith)
    ∙ ap (λ (xs : List ℕ). u32s_in bytes ++ u32s_in xs) (sym (append-nil (u32_bytes slot)))
    ∙ ap (λ xs. u32s_in bytes ++ xs) (u32s_read (slot ∷ [])
    (All-cons (λ x. x < 2 ^ 32) slot [] fits (All-nil (λ x. x < 2 ^ 32))))

-- ---- room for two that are made

pub made_then_none : (old mid : List ℕ) (size more : ℕ) → Lowers old mid size → Short mid more
    → Stuck (rooms old) (makes size ∷ makes more ∷ [])
made_then_none old mid size more lowers short = inr (rooms mid, lowers.room, inl short)

-- ---- slots of chunks that are made

abbrev bit : Bool → ℕ
bit b = cond b 1 0

count_apart : (f g : ℕ → Bool) (s : ℕ) (xs : List ℕ) → ((x : ℕ) → x ≢ s → f x ≡ g x)
    → count_by f xs ≤ count_by g xs + times s xs
count_apart f g s [] alike = omega arith
count_apart f g s (x ∷ xs) alike =
    let ih = count_apart f g s xs alike in
    let mine = sum_by-cons (λ y. cond (f y) 1 0) x xs in
    let others = sum_by-cons (λ y. cond (g y) 1 0) x xs in
    let here = times-cons s x xs in
    let most : bit (f x) ≤ 1 = at_most_one (f x) in
    elim (cases_eq x s) [
      | inl e ↦ let one = same-yes x s e in omega arith
      | inr apart ↦ let like : bit (f x) ≡ bit (g x) = ap bit (alike x apart) in omega arith
    ] where
      at_most_one : (b : Bool) → bit b ≤ 1
      at_most_one true = omega arith
      at_most_one false = omega arith

-- an element that is only among the first ones is not among the others
none_behind : (x : ℕ) (done xs : List ℕ)
    → ((front rest : List ℕ) → done ++ xs ≡ front ++ x ∷ rest → length front < length done)
    → times x xs ≡ 0
none_behind x done [] front_alone = refl
none_behind x done (y ∷ xs) front_alone =
    let cons = times-cons x y xs in
    let long = length-append done (y ∷ []) in
    elim (cases_eq y x) [
      | inl e ↦ absurd (let low = front_alone done xs (ap (λ n. done ++ n ∷ xs) e) in omega arith)
      | inr other ↦
          let no = same-no y x other in
          let ih = none_behind x (done ++ y ∷ []) xs (λ front rest parts. let low =
          front_alone front rest (sym (append_assoc done (y ∷ []) xs) ∙ parts) in omega arith) in
          omega arith
    ]

-- what stands in one place alone is there once
once_there : (x : ℕ) (done xs : List ℕ) → ((front rest fore rear : List ℕ) → done ++ xs ≡ front ++ x
    ∷ rest → done ++ xs ≡ fore ++ x ∷ rear → length front ≡ length fore) → times x xs ≤ 1
once_there x done [] one = omega arith
once_there x done (y ∷ xs) one =
    let cons = times-cons x y xs in
    let long = length-append done (y ∷ []) in
    let regroup : (done ++ y ∷ []) ++ xs ≡ done ++ y ∷ xs = append_assoc done (y ∷ []) xs in
    elim (cases_eq y x) [
      | inl e ↦
          let yes = same-yes y x e in
          let none = none_behind x (done ++ y ∷ []) xs (λ front rest parts. let level = one done xs
          front rest (ap (λ n. done ++ n ∷ xs) e) (sym regroup ∙ parts) in omega arith) in
          omega arith
      | inr other ↦
          let no = same-no y x other in
          let ih = once_there x (done ++ y ∷ []) xs (λ front rest fore rear a b.
          one front rest fore rear (sym regroup ∙ a) (sym regroup ∙ b)) in
          omega arith
    ]

one_slot : (image : List ℕ) (slot : ℕ) → HeapAccepted image → times slot (slots_of image) ≤ 1
one_slot image slot h = once_there slot [] (slots_of image) (λ front rest fore rear a b.
    same_number image h.0 slot (length front) (length fore) h.1.tiles
    (record { front = front; rest = rest; parts = a; before = refl })
    (record { front = fore; rest = rear; parts = b; before = refl }))

-- where one name alone stands for something else, at most one slot more was free
pub slots_made : (old new : List ℕ) (name : ℕ) → HeapAccepted old → HeapAccepted new
    → slots_of new ≡ slots_of old → ((other : ℕ) → other ≢ name → held new other ≡ held old other)
    → free_slots old ≤ free_slots new + 1
slots_made old new name was is slots others =
    let before = free_slots_held old was in
    let after = free_slots_held new is ∙ ap (count_by (λ slot. is_none (held new slot))) slots in
    let apart = count_apart (λ slot. is_none (held old slot)) (λ slot. is_none (held new slot)) name
    (slots_of old) (λ x other. ap is_none (sym (others x other))) in
    let once = one_slot old name was in
    omega arith
