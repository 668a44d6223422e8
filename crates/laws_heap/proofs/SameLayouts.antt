-- What an image holds, where its chunks are and what is free follow from its layout.
use Rattle.laws_heap.proofs.Words.{◌≡◌, ℕ, ◌<◌, Bool, cond, List, [], ◌∷◌, refl, sym, ap, ◌∙◌, arith, inl, inr, sum_by, count_by, ◌↔◌, cases_eq, sum_by-cons, u32_at, Chunk, free_size, IsSlot, slots_of, area_start, BodyHere, IsBody, IsHeap, HeapAccepted, EveryOne, chunks_of, held, live_under, NoRun, free_total, rooms, rooms_of, stretches, free_behind, free_behind_in, place_under, place_of, SameFrame, merged, layout_of, Becomes}
use Rattle.laws_heap.proofs.FoundChunks.{read_heap}
use Rattle.laws_heap.proofs.Runs.{chunks_of-tiled}
use Rattle.laws_heap.proofs.Slots.{slot_alike, start_listed}
use Rattle.laws_heap.proofs.Replacements.{SameHead, head_tables, head_slots, same_directory}
use Rattle.laws_heap.proofs.Layouts.{live_under-merged, place_under-merged, free_total-merged, rooms-merged, free_behind-merged, any-merged, no_run-layout}

-- ---- of an image

pub held-layout : (image : List ℕ) (name : ℕ)
    → held image name ≡ live_under (area_start image) (layout_of image) name
unfolding held
held-layout image name = sym (live_under-merged (area_start image) (chunks_of image) name)

pub place-layout : (image : List ℕ) (name : ℕ)
    → place_of image name ≡ place_under (area_start image) (layout_of image) name
place-layout image name = sym (place_under-merged (area_start image) (chunks_of image) name)

pub free-layout : (image : List ℕ) → free_total image ≡ sum_by free_size (layout_of image)
free-layout image = sym (free_total-merged (chunks_of image))

pub rooms-layout : (image : List ℕ) → rooms image ≡ rooms_of (stretches (layout_of image))
rooms-layout image = sym (rooms-merged (chunks_of image))

-- ---- of an image that has become another

pub frame_of : (old new : List ℕ) (cs : List Chunk) → SameHead old new → IsHeap new cs
    → SameFrame old new
frame_of old new cs same h = record {
  accepted = (cs, h);
  len = same.len;
  tables = head_tables old new same;
  slots = head_slots old new same;
  directory = same_directory old new same;
}

pub same_frame : (image : List ℕ) → HeapAccepted image → SameFrame image image
same_frame image h =
    record { accepted = h; len = refl; tables = refl; slots = refl; directory = refl }

pub frame_then : (old mid new : List ℕ) → SameFrame old mid → SameFrame mid new → SameFrame old new
frame_then old mid new a b = record {
  accepted = b.accepted;
  len = b.len ∙ a.len;
  tables = b.tables ∙ a.tables;
  slots = b.slots ∙ a.slots;
  directory = b.directory ∙ a.directory;
}

-- it has the same slots, and its chunks begin where they began
pub frame_slots : (old new : List ℕ) → SameFrame old new → slots_of new ≡ slots_of old
frame_slots old new frame = frame.slots

pub frame_start : (old new : List ℕ) → SameFrame old new → area_start new ≡ area_start old
frame_start old new frame = start_listed old new frame.tables

-- where these are its chunks, it has their layout
pub becomes_heap : (old new : List ℕ) (cs : List Chunk) → SameHead old new → IsHeap new cs
    → Becomes old new cs
becomes_heap old new cs same h = record {
  frame = frame_of old new cs same h;
  layout = ap merged (chunks_of-tiled new cs h.tiles);
}

-- and of other chunks with that layout
pub becomes_alike : (old new : List ℕ) (cs ds : List Chunk) → merged cs ≡ merged ds
    → Becomes old new cs → Becomes old new ds
becomes_alike old new cs ds e b = record { frame = b.frame; layout = b.layout ∙ e }

pub becomes_start : (old new : List ℕ) (cs : List Chunk) → Becomes old new cs
    → area_start new ≡ area_start old
becomes_start old new cs b = frame_start old new b.frame

pub becomes_held : (old new : List ℕ) (cs : List Chunk) (name : ℕ) → Becomes old new cs
    → held new name ≡ live_under (area_start old) cs name
becomes_held old new cs name b = held-layout new name
    ∙ ap (λ n. live_under n (layout_of new) name) (becomes_start old new cs b)
    ∙ ap (λ ds. live_under (area_start old) ds name) b.layout
    ∙ live_under-merged (area_start old) cs name

pub becomes_place : (old new : List ℕ) (cs : List Chunk) (name : ℕ) → Becomes old new cs
    → place_of new name ≡ place_under (area_start old) cs name
becomes_place old new cs name b = place-layout new name
    ∙ ap (λ n. place_under n (layout_of new) name) (becomes_start old new cs b)
    ∙ ap (λ ds. place_under (area_start old) ds name) b.layout
    ∙ place_under-merged (area_start old) cs name

pub becomes_free : (old new : List ℕ) (cs : List Chunk) → Becomes old new cs
    → free_total new ≡ sum_by free_size cs
becomes_free old new cs b = free-layout new ∙ ap (sum_by free_size) b.layout ∙ free_total-merged cs

pub becomes_behind : (old new : List ℕ) (cs : List Chunk) (name : ℕ) → Becomes old new cs
    → free_behind new name ≡ free_behind_in cs name
becomes_behind old new cs name b = sym (free_behind-merged (chunks_of new) name)
    ∙ ap (λ ds. free_behind_in ds name) b.layout ∙ free_behind-merged cs name

pub becomes_no_run : (old new : List ℕ) (cs : List Chunk) (size : ℕ) → Becomes old new cs
    → NoRun (chunks_of new) size ↔ NoRun cs size
becomes_no_run old new cs size b = (
  no_run-layout (chunks_of new) cs size b.layout,
  no_run-layout cs (chunks_of new) size (sym b.layout),
)

-- ---- what the slots hold

pub becomes_body : (old new : List ℕ) (cs : List Chunk) (slot place : ℕ) → Becomes old new cs
    → IsBody (area_start new) (chunks_of new) slot place ↔ IsBody (area_start old) cs slot place
becomes_body old new cs slot place b =
    let of_new = any-merged _ (λ at size h. h) (area_start old) (chunks_of new) in
    let of_cs = any-merged (BodyHere slot place) (λ at size h. h) (area_start old) cs in (
      λ h. of_cs.0 (rw b.layout at (of_new.1 (rw (becomes_start old new cs b) at h))),
      λ h. rw (← (becomes_start old new cs b)) at (of_new.0 (rw (← b.layout) at (of_cs.1 h))),
    )

pub slot_kept : (old new : List ℕ) (cs : List Chunk) (slot : ℕ) → Becomes old new cs
    → IsSlot old slot → IsSlot new slot
slot_kept old new cs slot b s = slot_alike old new slot (frame_slots old new b.frame) s

-- a slot in use holds the place of the chunk that names it
pub becomes_in_slot : (old new : List ℕ) (cs : List Chunk) (slot place : ℕ) → Becomes old new cs
    → IsSlot old slot → 0 < place
    → (u32_at new slot ≡ place) ↔ IsBody (area_start old) cs slot place
becomes_in_slot old new cs slot place b s some =
    let tied = (read_heap new b.frame.accepted).tied slot place some in
    let body = becomes_body old new cs slot place b in
    (λ e. body.0 (tied.0 (slot_kept old new cs slot b s, e)), λ h. (tied.1 (body.1 h)).1)

-- it holds what it held, where the chunk of its name is where it was
pub becomes_slot : (old new : List ℕ) (cs : List Chunk) (slot : ℕ) → HeapAccepted old
    → Becomes old new cs → IsSlot old slot → ((place : ℕ)
    → IsBody (area_start old) (chunks_of old) slot place ↔ IsBody (area_start old) cs slot place)
    → u32_at new slot ≡ u32_at old slot
becomes_slot old new cs slot h b s same = by_new (u32_at new slot) (u32_at old slot) refl refl where
  was : (place : ℕ) → 0 < place → u32_at old slot ≡ place → u32_at new slot ≡ place
  was place some e = (becomes_in_slot old new cs slot place b s some).1
      ((same place).0 (((read_heap old h).tied slot place some).0 (s, e)))

  is : (place : ℕ) → 0 < place → u32_at new slot ≡ place → u32_at old slot ≡ place
  is place some e = (((read_heap old h).tied slot place some).1
      ((same place).1 ((becomes_in_slot old new cs slot place b s some).0 e))).1

  by_new : (x y : ℕ) → u32_at new slot ≡ x → u32_at old slot ≡ y → u32_at new slot ≡ u32_at old slot
  by_new x y ex ey = elim (cases_eq x 0) [
    | inl none ↦
        elim (cases_eq y 0) [ inl empty ↦ omega arith | inr some ↦ was y (omega arith) ey ∙ sym ey ]
    | inr some ↦ ex ∙ sym (is x (omega arith) ex)
  ]

-- ---- an image of the same layout

pub same_slots : (old new : List ℕ) (slot : ℕ) → HeapAccepted old → Becomes old new (chunks_of old)
    → IsSlot old slot → u32_at new slot ≡ u32_at old slot
same_slots old new slot h b s = becomes_slot old new _ slot h b s (λ place. (λ x. x, λ x. x))

pub count_alike : (f g : ℕ → Bool) (xs : List ℕ) → EveryOne (λ x. f x ≡ g x) xs
    → count_by f xs ≡ count_by g xs
count_alike f g [] e = refl
count_alike f g (x ∷ xs) e =
    let a = sum_by-cons (λ (y : ℕ). cond (f y) 1 0) x xs in
    let b = sum_by-cons (λ (y : ℕ). cond (g y) 1 0) x xs in
    let here : cond {A = ℕ} (f x) 1 0 ≡ cond {A = ℕ} (g x) 1 0 =
    ap (λ (y : Bool). cond {A = ℕ} y 1 0) e.0 in
    let ih = count_alike f g xs e.1 in
    omega arith
