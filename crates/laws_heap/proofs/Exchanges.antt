-- One chunk of a layout is exchanged for others of its size: what names stand for then, and where.
use Rattle.laws_heap.proofs.Words.{◌≡◌, ◌≢◌, ℕ, ◌+◌, ◌<◌, List, [], ◌∷◌, ◌++◌, length, zero, suc, Option, Some, None, refl, sym, ap, ◌∙◌, arith, inl, inr, ◌==◌, ◌↔◌, eq-eqb, nat_tests, u32_at, Chunk, free, size_of, total, IsSlot, area_start, BodyHere, IsBody, IsHeap, HeapAccepted, EveryPlaced, LiveChunk, NamedHere, chunks_of, held, live_under, AllFree, place_under, place_of, SameFrame, merged, layout_of, Becomes, exchanged, Exchanges, gap}
use Rattle.laws_heap.proofs.Tests.{cond-true, cond-false}
use Rattle.laws_heap.proofs.Placed.{TakesBytes, SpelledAll-takes}
use Rattle.laws_heap.proofs.Replacements.{any_replaced}
use Rattle.laws_heap.proofs.Lives.{or_else, live_under-append, live_replaced, place_replaced, live_under-free, place_under-free, live_placed}
use Rattle.laws_heap.proofs.Meanings.{named_once}
use Rattle.laws_heap.proofs.FreeChunks.{any_free, unnamed, live_mid, place_mid, other_name, other_name_place, or_front, or_back, body_name}
use Rattle.laws_heap.proofs.FoundChunks.{read_heap}
use Rattle.laws_heap.proofs.Layouts.{IsNotFree, merged-front, merged-right, merged-live, merged-back, takes-merged, total-merged, live_under-merged, place_under-merged, any-layout}
use Rattle.laws_heap.proofs.SameLayouts.{held-layout, place-layout, becomes_alike, becomes_held, becomes_place, becomes_slot}

-- ---- where it stands

beyond : (there : ℕ) (change : Chunk → List Chunk) (at : ℕ) (cs : List Chunk) → there < at
    → exchanged there change at cs ≡ cs
unfolding exchanged
beyond there change at [] past = refl
beyond there change at (c ∷ cs) past = ap (λ ds. ds ++ exchanged there change (at + size_of c) cs)
    (cond-false (at == there) (change c) (c ∷ []) (grind (arith, nat_tests)))
    ∙ ap (λ (ds : List Chunk). c ∷ ds) (beyond there change (at + size_of c) cs (omega arith))

pub exchanged-at : (there : ℕ) (change : Chunk → List Chunk) (at : ℕ) (before : List Chunk)
    (c : Chunk) (after : List Chunk) → EveryPlaced TakesBytes at (before ++ c ∷ after)
    → there ≡ at + total before
    → exchanged there change at (before ++ c ∷ after) ≡ before ++ (change c ++ after)
unfolding exchanged
exchanged-at there change at [] c after takes e =
    let least = takes.0 in
    ap (λ ds. ds ++ exchanged there change (at + size_of c) after)
    (cond-true (at == there) (change c) (c ∷ []) (eq-eqb at there (omega arith)))
    ∙ ap (λ ds. change c ++ ds) (beyond there change (at + size_of c) after (omega arith))
exchanged-at there change at (b ∷ before) c after takes e =
    let least = takes.0 in
    let low : at ≢ there = omega arith in
    ap (λ ds. ds ++ exchanged there change (at + size_of b) (before ++ c ∷ after))
    (cond-false (at == there) (change b) (b ∷ []) (grind (arith, nat_tests)))
    ∙ ap (λ ds. b ∷ ds) (exchanged-at there change (at + size_of b) before c after takes.1
    (omega arith))

pub layout_takes : (image : List ℕ) → HeapAccepted image
    → EveryPlaced TakesBytes (area_start image) (layout_of image)
layout_takes image h = takes-merged (area_start image) (chunks_of image) (SpelledAll-takes image
    (area_start image) (chunks_of image) (length image) (read_heap image h).tiles.area)

-- in parts of the layout
pub exchanges_layout : (old new : List ℕ) (there : ℕ) (change : Chunk → List Chunk)
    (before : List Chunk) (c : Chunk) (after : List Chunk) → HeapAccepted old
    → layout_of old ≡ before ++ c ∷ after → there ≡ area_start old + total before
    → Exchanges old new there change ↔ Becomes old new (before ++ (change c ++ after))
exchanges_layout old new there change before c after h e is =
    let parts : exchanged there change (area_start old) (layout_of old)
    ≡ before ++ (change c ++ after) =
    ap (exchanged there change (area_start old)) e
    ∙ exchanged-at there change (area_start old) before c after (rw e at (layout_takes old h)) is in
    (λ x. rw parts at x, λ b. rw (← parts) at b)

-- a live chunk in parts of the image's chunks
pub exchanges_parts : (old new : List ℕ) (there : ℕ) (change : Chunk → List Chunk)
    (before : List Chunk) (c : Chunk) (after : List Chunk) → HeapAccepted old → IsNotFree c
    → chunks_of old ≡ before ++ c ∷ after → there ≡ area_start old + total before
    → Exchanges old new there change ↔ Becomes old new (before ++ (change c ++ after))
exchanges_parts old new there change before c after h live e is =
    let layout = ap merged e ∙ merged-live before c after live in
    let both = exchanges_layout old new there change (merged before) c (merged after) h layout
    (is ∙ ap (λ n. area_start old + n) (sym (total-merged before))) in
    let alike : merged (merged before ++ (change c ++ merged after))
    ≡ merged (before ++ (change c ++ after)) =
    merged-front before _ ∙ merged-right before _ _ (merged-back (change c) after) in (
      λ x. becomes_alike old new _ _ alike (both.0 x),
      λ b. both.1 (becomes_alike old new _ _ (sym alike) b),
    )

-- ---- room at the front of a run of free chunks

pub gap_free : (n : ℕ) → AllFree (gap n)
gap_free zero = tt
gap_free (suc n) = tt

pub gap_total : (n : ℕ) → total (gap n) ≡ n
gap_total zero = refl
gap_total (suc n) = omega arith

-- ---- names

-- the chunks from an offset on have this name, or none
pub record NoOther (name at : ℕ) (cs : List Chunk) : Type 0 where
  pub live : (other : ℕ) → other ≢ name → live_under at cs other ≡ None
  pub place : (other : ℕ) → other ≢ name → place_under at cs other ≡ None
  pub body : (other place : ℕ) → other ≢ name → IsBody at cs other place → ⊥

pub free_no_other : (name at : ℕ) (run : List Chunk) → AllFree run → NoOther name at run
free_no_other name at run f = record {
  live = λ other apart. live_under-free at run other f;
  place = λ other apart. place_under-free at run other f;
  body = λ other place apart b. any_free (BodyHere other place) (λ k size h. h) at run f b;
}

pub named_no_other : (name at : ℕ) (live : LiveChunk) (c : Chunk) (run : List Chunk)
    → NamedHere name live at c → AllFree run → NoOther name at (c ∷ run)
named_no_other name at live c run n f = record {
  live = λ other apart. other_name name other at live c run n apart ∙ live_under-free _ run other f;
  place = λ other apart. other_name_place name _ at live c run n apart ∙ place_under-free _ run _ f;
  body = λ other place apart b. elim b [
    | inl here ↦ apart (body_name name other place at live c n here)
    | inr later ↦ any_free (BodyHere other place) (λ k size h. h) (at + size_of c) run f later
  ];
}

-- no chunk before some, or after them, has this name
pub record NotBeside (start : ℕ) (before : List Chunk) (size : ℕ) (after : List Chunk) (name : ℕ) : Type 0 where
  pub front : live_under start before name ≡ None
  pub back : live_under (start + total before + size) after name ≡ None

pub named_beside : (image : List ℕ) (before : List Chunk) (c : Chunk) (after : List Chunk)
    (name : ℕ) (live : LiveChunk) → HeapAccepted image → chunks_of image ≡ before ++ c ∷ after
    → NamedHere name live (area_start image + total before) c
    → NotBeside (area_start image) before (size_of c) after name
named_beside image before c after name live h e n =
    let heap : IsHeap image (before ++ c ∷ after) = rw e at (read_heap image h) in
    record {
      front = unnamed _ before name (λ y. (named_once image before c after name live y heap n).0);
      back = unnamed _ after name (λ y. (named_once image before c after name live y heap n).1);
    }

-- what is held and where, by parts of the layout
pub held_parts : (image : List ℕ) (cs : List Chunk) (name : ℕ) → layout_of image ≡ merged cs
    → held image name ≡ live_under (area_start image) cs name
held_parts image cs name e = held-layout image name
    ∙ ap (λ ds. live_under (area_start image) ds name) e
    ∙ live_under-merged (area_start image) cs name

pub place_parts : (image : List ℕ) (cs : List Chunk) (name : ℕ) → layout_of image ≡ merged cs
    → place_of image name ≡ place_under (area_start image) cs name
place_parts image cs name e = place-layout image name
    ∙ ap (λ ds. place_under (area_start image) ds name) e
    ∙ place_under-merged (area_start image) cs name

pub unheld_beside : (image : List ℕ) (before : List Chunk) (size : ℕ) (after : List Chunk)
    (name : ℕ) → layout_of image ≡ merged (before ++ free size ∷ after) → held image name ≡ None
    → NotBeside (area_start image) before size after name
unheld_beside image before size after name e none =
    let all = sym (live_under-append (area_start image) before (free size ∷ after) name)
    ∙ sym (held_parts image (before ++ free size ∷ after) name e) ∙ none in
    record { front = or_front _ _ all; back = or_back _ _ all }

-- ---- what is changed

-- This name alone stands for something else, and is at this place; no other name moved, and no
-- other slot changed.
pub record ChangesName (old new : List ℕ) (name : ℕ) (now : Option LiveChunk) (there : Option ℕ) : Type 0 where
  pub frame : SameFrame old new
  pub here : held new name ≡ now
  pub others : (other : ℕ) → other ≢ name → held new other ≡ held old other
  pub place : place_of new name ≡ there
  pub places : (other : ℕ) → other ≢ name → place_of new other ≡ place_of old other
  pub slots : (slot : ℕ) → IsSlot old slot → slot ≢ name → u32_at new slot ≡ u32_at old slot

or_last : {A : Type 0} (x y : Option A) → y ≡ None → or_else x y ≡ x
or_last None y e = e
or_last (Some x) y e = refl

-- some neighbouring chunks for others
pub run_changes : (old new : List ℕ) (before mid ds after : List Chunk) (name : ℕ)
    → HeapAccepted old → layout_of old ≡ merged (before ++ (mid ++ after))
    → Becomes old new (before ++ (ds ++ after)) → total ds ≡ total mid
    → NotBeside (area_start old) before (total mid) after name
    → NoOther name (area_start old + total before) mid
    → NoOther name (area_start old + total before) ds → ChangesName old new name (live_under
    (area_start old + total before) ds name) (place_under (area_start old + total before) ds name)
run_changes old new before mid ds after name h e b sizes beside of_mid of_ds = record {
  frame = b.frame;
  here = becomes_held old new _ name b ∙ live_mid _ _ ds after name beside.front ∙ or_last _ _ back;
  others = λ other apart. becomes_held old new (before ++ (ds ++ after)) other b
      ∙ live_replaced _ _ mid ds _ _ sizes (of_ds.live other apart ∙ sym (of_mid.live other apart))
      ∙ sym (held_parts old (before ++ (mid ++ after)) other e);
  place = becomes_place old new (before ++ (ds ++ after)) name b
      ∙ place_mid start before ds after name beside.front
      ∙ or_last _ _ (live_placed _ after name back);
  places = λ other apart. becomes_place old new (before ++ (ds ++ after)) other b
      ∙ place_replaced start before mid ds after other sizes (of_ds.place other apart
      ∙ sym (of_mid.place other apart))
      ∙ sym (place_parts old (before ++ (mid ++ after)) other e);
  slots = λ slot s apart. becomes_slot old new (before ++ (ds ++ after)) slot h b s (λ place. (
    λ x. any_replaced (BodyHere slot place) start before mid ds after sizes
        (λ m. absurd (of_mid.body slot place apart m)) (any-layout (BodyHere slot place)
        (λ k n t. t) start (chunks_of old) (before ++ (mid ++ after)) e x),
    λ x. any-layout (BodyHere slot place) (λ k n t. t) start (before ++ (mid ++ after))
        (chunks_of old) (sym e) (any_replaced (BodyHere slot place) start before ds mid after
        (sym sizes) (λ m. absurd (of_ds.body slot place apart m)) x),
  ));
} where
  start : ℕ
  start = area_start old

  back : live_under (start + total before + total ds) after name ≡ None
  back = rw (← sizes) at beside.back

-- one chunk for others
pub exchange_changes : (old new : List ℕ) (before : List Chunk) (c : Chunk) (ds after : List Chunk)
    (name : ℕ) → HeapAccepted old → layout_of old ≡ merged (before ++ c ∷ after)
    → Becomes old new (before ++ (ds ++ after)) → total ds ≡ size_of c
    → NotBeside (area_start old) before (size_of c) after name
    → NoOther name (area_start old + total before) (c ∷ [])
    → NoOther name (area_start old + total before) ds → ChangesName old new name (live_under
    (area_start old + total before) ds name) (place_under (area_start old + total before) ds name)
exchange_changes old new before c ds after name h e b size beside of_c of_ds =
    let one : size_of c ≡ total (c ∷ []) = omega arith in
    run_changes old new before _ ds after name h e b (size ∙ one) (rw one at beside) of_c of_ds
