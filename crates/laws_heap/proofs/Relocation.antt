-- A chunk that goes to the front of room elsewhere: its name alone stands for something else, and
-- is elsewhere.
use Rattle.laws_heap.proofs.Words.{◌≡◌, ◌≢◌, ℕ, ◌+◌, ◌-◌, ◌<◌, ◌≤◌, List, [], ◌∷◌, ◌++◌, length, Some, refl, sym, ap, subst, ◌∙◌, append_assoc, arith, inl, inr, ◌==◌, eq-eqb, nat_tests, Chunk, free, movable, fixed, need, size_of, total, area_start, BodyHere, IsBody, HeapAccepted, EveryPlaced, AnyPlaced, LiveChunk, NamedHere, chunks_of, held, live_under, AllFree, place_under, place_of, Finds, merged, layout_of, Becomes, Alters, gap, in_front, freed, IsSpot, Claims, with_length, relocated, Relocates}
use Rattle.std.proofs.Common.{◌⊎◌, append-nil}
use Rattle.laws_heap.proofs.Tests.{cond-true, cond-false}
use Rattle.laws_heap.proofs.Chunks.{total-append}
use Rattle.laws_heap.proofs.Placed.{TakesBytes, SpelledAll-takes, EveryPlaced-append, EveryPlaced-split, AnyPlaced-right, AnyPlaced-map}
use Rattle.laws_heap.proofs.Replacements.{any_replaced}
use Rattle.laws_heap.proofs.Meanings.{held-is, live_under-is}
use Rattle.laws_heap.proofs.FoundChunks.{read_heap}
use Rattle.laws_heap.proofs.Lives.{live_replaced, place_replaced}
use Rattle.laws_heap.proofs.Layouts.{IsNotFree, any-layout, merged-front, merged-right, merged-live, merged-twice, total-merged}
use Rattle.laws_heap.proofs.SameLayouts.{frame_then, becomes_start, becomes_held, becomes_place, becomes_body, becomes_slot}
use Rattle.laws_heap.proofs.Exchanges.{exchanges_layout, gap_free, gap_total, NoOther, free_no_other, named_no_other, held_parts, place_parts, ChangesName}
use Rattle.laws_heap.proofs.ExchangedNames.{changes_as}
use Rattle.laws_heap.proofs.SlidImages.{body_placed}
use Rattle.laws_heap.proofs.Spots.{spot_layout}
use Rattle.laws_heap.proofs.Stretches.{heads}
use Rattle.laws_heap.proofs.Resizings.{live_sized, named_sized, size_of-with_length}

-- ---- by parts of the list

-- an offset is none of the `size` offsets from `at` on
abbrev Outside : ℕ → ℕ → ℕ → Type 0
Outside there at size = (there < at) ⊎ (at + size ≤ there)

later : (there at one more : ℕ) → Outside there at (one + more) → Outside there (at + one) more
later there at one more o = elim o [ inl low ↦ inl (omega arith) | inr high ↦ inr (omega arith) ]

not_at : (there at one more : ℕ) → 8 ≤ one → Outside there at (one + more) → at ≢ there
not_at there at one more least o = elim o [ inl low ↦ omega arith | inr high ↦ omega arith ]

passed_by : (here there : ℕ) (d : Chunk) (at : ℕ) (cs rest : List Chunk)
    → EveryPlaced TakesBytes at cs → Outside here at (total cs) → Outside there at (total cs)
    → relocated here there d at (cs ++ rest) ≡ cs ++ relocated here there d (at + total cs) rest
unfolding relocated
passed_by here there d at [] rest takes p q =
    ap (λ n. relocated here there d n rest) (let e : at ≡ at + 0 = omega arith in e)
passed_by here there d at (c ∷ cs) rest takes p q =
    let one : at ≢ here = not_at here at (size_of c) (total cs) takes.0 p in
    let two : at ≢ there = not_at there at (size_of c) (total cs) takes.0 q in
    ap (λ (ds : List Chunk). ds ++ relocated here there d (at + size_of c) (cs ++ rest))
    (cond-false (at == here) (freed c ∷ []) _ (grind (arith, nat_tests))
    ∙ cond-false (at == there) (in_front d c) (c ∷ []) (grind (arith, nat_tests)))
    ∙ ap (λ ds. c ∷ ds) (passed_by here there d (at + size_of c) cs rest takes.1 (later here at
    (size_of c) (total cs) p) (later there at (size_of c) (total cs) q)
    ∙ ap (λ n. cs ++ relocated here there d n rest)
    (let e : at + size_of c + total cs ≡ at + (size_of c + total cs) = omega arith in e))

at_here : (here there : ℕ) (d : Chunk) (at : ℕ) (c : Chunk) (rest : List Chunk) → at ≡ here
    → relocated here there d at (c ∷ rest) ≡ freed c ∷ relocated here there d (at + size_of c) rest
unfolding relocated
at_here here there d at c rest e = ap (λ ds. ds ++ relocated here there d (at + size_of c) rest)
    (cond-true (at == here) (freed c ∷ []) _ (eq-eqb at here e))

at_there : (here there : ℕ) (d : Chunk) (at : ℕ) (c : Chunk) (rest : List Chunk) → at ≢ here
    → at ≡ there → relocated here there d at (c ∷ rest)
    ≡ in_front d c ++ relocated here there d (at + size_of c) rest
unfolding relocated
at_there here there d at c rest apart e =
    ap (λ ds. ds ++ relocated here there d (at + size_of c) rest)
    (cond-false (at == here) (freed c ∷ []) _ (grind (arith, nat_tests))
    ∙ cond-true (at == there) (in_front d c) (c ∷ []) (eq-eqb at there e))

to_end : (here there : ℕ) (d : Chunk) (at : ℕ) (cs : List Chunk) → EveryPlaced TakesBytes at cs
    → Outside here at (total cs) → Outside there at (total cs) → relocated here there d at cs ≡ cs
unfolding relocated
to_end here there d at cs takes p q = ap (relocated here there d at) (sym (append-nil cs))
    ∙ passed_by here there d at cs [] takes p q ∙ append-nil cs

-- the free one is after it
relocated-behind : (here there : ℕ) (d : Chunk) (at : ℕ) (before : List Chunk) (c : Chunk)
    (mid : List Chunk) (room : ℕ) (after : List Chunk)
    → EveryPlaced TakesBytes at (before ++ c ∷ (mid ++ free room ∷ after))
    → here ≡ at + total before → there ≡ here + size_of c + total mid
    → relocated here there d at (before ++ c ∷ (mid ++ free room ∷ after))
    ≡ before ++ freed c ∷ (mid ++ (in_front d (free room) ++ after))
relocated-behind here there d at before c mid room after takes one two =
    let t = EveryPlaced-split TakesBytes at before (c ∷ (mid ++ free room ∷ after)) takes in
    let u = EveryPlaced-split TakesBytes _ mid (free room ∷ after) t.1.1 in
    let least = t.1.0 in
    let some = u.1.0 in
    passed_by here there d at before _ t.0 (inr (omega arith)) (inr (omega arith))
    ∙ ap (λ ds. before ++ ds) (at_here here there d (at + total before) c _ (omega arith)
    ∙ ap (λ ds. freed c ∷ ds) (passed_by here there d (at + total before + size_of c) mid
    (free room ∷ after) u.0 (inl (omega arith)) (inr (omega arith))
    ∙ ap (λ ds. mid ++ ds) (at_there here there d _ (free room) after (omega arith) (omega arith)
    ∙ ap (λ ds. in_front d (free room) ++ ds) (to_end here there d (at + total before + size_of c
    + total mid + room) after u.1.1 (inl (omega arith)) (inl (omega arith))))))

-- the free one is before it
relocated-front : (here there : ℕ) (d : Chunk) (at : ℕ) (before : List Chunk) (room : ℕ)
    (mid : List Chunk) (c : Chunk) (after : List Chunk)
    → EveryPlaced TakesBytes at (before ++ free room ∷ (mid ++ c ∷ after))
    → there ≡ at + total before → here ≡ there + room + total mid
    → relocated here there d at (before ++ free room ∷ (mid ++ c ∷ after))
    ≡ before ++ (in_front d (free room) ++ (mid ++ freed c ∷ after))
relocated-front here there d at before room mid c after takes one two =
    let t = EveryPlaced-split TakesBytes at before (free room ∷ (mid ++ c ∷ after)) takes in
    let u = EveryPlaced-split TakesBytes (at + total before + room) mid (c ∷ after) t.1.1 in
    let least = t.1.0 in
    let some = u.1.0 in
    passed_by here there d at before _ t.0 (inr (omega arith)) (inr (omega arith))
    ∙ ap (λ ds. before ++ ds) (at_there here there d _ (free room) _ (omega arith) (omega arith)
    ∙ ap (λ ds. in_front d (free room) ++ ds) (passed_by here there d (at + total before + room) mid
    (c ∷ after) u.0 (inr (omega arith)) (inl (omega arith))
    ∙ ap (λ ds. mid ++ ds) (at_here here there d _ c after (omega arith)
    ∙ ap (λ ds. freed c ∷ ds) (to_end here _ d _ _ u.1.1 (inl (omega arith)) (inl (omega arith))))))

-- ---- two spots of a list

-- some neighbouring chunks for others in two spots, of which none has another name: all other names
-- stand for what they stood for, and are where they were
two_change : (old new : List ℕ) (before first firsts mid second seconds after : List Chunk)
    (name : ℕ) → HeapAccepted old
    → layout_of old ≡ merged (before ++ (first ++ (mid ++ (second ++ after))))
    → Becomes old new (before ++ (firsts ++ (mid ++ (seconds ++ after))))
    → total firsts ≡ total first → total seconds ≡ total second
    → NoOther name (area_start old + total before) first
    → NoOther name (area_start old + total before) firsts
    → NoOther name (area_start old + total (before ++ (first ++ mid))) second
    → NoOther name (area_start old + total (before ++ (first ++ mid))) seconds
    → ChangesName old new name (held new name) (place_of new name)
two_change old new before first firsts mid second seconds after name h e b one two of_first
    of_firsts of_second of_seconds =
    record {
      frame = b.frame;
      here = refl;
      others = λ other apart. becomes_held old new _ other b
          ∙ live_replaced _ _ _ _ _ _ one (of_firsts.live other apart
          ∙ sym (of_first.live other apart))
          ∙ ap (λ (cs : List Chunk). live_under start cs other) (sym
          (in_front_of (seconds ++ after)))
          ∙ live_replaced start front second seconds after other two (of_seconds.live other apart
          ∙ sym (of_second.live other apart))
          ∙ ap (λ (cs : List Chunk). live_under start cs other) (in_front_of (second ++ after))
          ∙ sym (held_parts old (before ++ (first ++ (mid ++ (second ++ after)))) other e);
      place = refl;
      places = λ other apart. becomes_place old new _ other b
          ∙ place_replaced start before first firsts (mid ++ (seconds ++ after)) other one
          (of_firsts.place other apart ∙ sym (of_first.place other apart))
          ∙ ap (λ (cs : List Chunk). place_under start cs other) (sym
          (in_front_of (seconds ++ after)))
          ∙ place_replaced start front second seconds after other two (of_seconds.place other apart
          ∙ sym (of_second.place other apart))
          ∙ ap (λ (cs : List Chunk). place_under start cs other) (in_front_of (second ++ after))
          ∙ sym (place_parts old (before ++ (first ++ (mid ++ (second ++ after)))) other e);
      slots = λ slot s apart. becomes_slot old new _ slot h b s (λ place. (
        λ x. any_replaced _ start _ first firsts _ one
            (λ m. absurd (of_first.body slot place apart m))
            (subst (IsBodyIn slot place) (in_front_of (seconds ++ after))
            (any_replaced (BodyHere slot place) start front second seconds after two
            (λ m. absurd (of_second.body slot place apart m))
            (subst (IsBodyIn slot place) (sym (in_front_of (second ++ after)))
            (any-layout (BodyHere slot place) (λ k n t. t) start (chunks_of old)
            (before ++ (first ++ (mid ++ (second ++ after)))) e x)))),
        λ x. any-layout (BodyHere slot place) (λ k n t. t) start _ (chunks_of old) (sym e)
            (subst (IsBodyIn slot place) (in_front_of (second ++ after))
            (any_replaced (BodyHere slot place) start front seconds second after (sym two)
            (λ m. absurd (of_seconds.body slot place apart m))
            (subst (IsBodyIn slot place) (sym (in_front_of (seconds ++ after)))
            (any_replaced (BodyHere slot place) start before firsts first
            (mid ++ (seconds ++ after))
            (sym one) (λ m. absurd (of_firsts.body slot place apart m)) x)))),
      ));
    } where
      start : ℕ
      start = area_start old

      front : List Chunk
      front = before ++ (first ++ mid)

      in_front_of : (cs : List Chunk) → front ++ cs ≡ before ++ (first ++ (mid ++ cs))
      in_front_of cs = append_assoc before (first ++ mid) cs
          ∙ ap (λ ds. before ++ ds) (append_assoc first mid cs)

      IsBodyIn : ℕ → ℕ → List Chunk → Type 0
      IsBodyIn slot place cs = AnyPlaced (BodyHere slot place) start cs

-- what stands in the new list is held, and is there
stands : (old new : List ℕ) (cs : List Chunk) (name : ℕ) (now : LiveChunk) (place : ℕ)
    → Becomes old new cs → 0 < place → AnyPlaced (NamedHere name now) (area_start old) cs
    → IsBody (area_start old) cs name place
    → (held new name ≡ Some now) × (place_of new name ≡ Some place)
stands old new cs name now place b some there body =
    let heap = read_heap new b.frame.accepted in
    let start = becomes_start old new cs b in
    let is : AnyPlaced (NamedHere name now) (area_start new) (chunks_of new) =
    subst (λ n. AnyPlaced (NamedHere name now) n (chunks_of new)) (sym start) (any-layout (NamedHere
    name now) (λ at size n. n) (area_start old) cs (chunks_of new) (sym b.layout) there) in (
      held-is new (chunks_of new) name heap
          ∙ (live_under-is new (chunks_of new) name now heap).1 is,
      body_placed new name place b.frame.accepted
          ((becomes_body old new cs name place b).1 body) some,
    )

-- ---- a live chunk next to a run of free ones

record StandsInFront (xs : List Chunk) (c : Chunk) (zs : List Chunk) : Type 0 where
  mid : List Chunk
  is : zs ≡ xs ++ c ∷ mid

record StandsBehind (xs : List Chunk) (c : Chunk) (ys zs run ws : List Chunk) : Type 0 where
  mid : List Chunk
  is : ws ≡ mid ++ c ∷ ys
  sums : total xs ≡ total zs + total run + total mid

behind_run : (xs : List Chunk) (c : Chunk) (ys run ws : List Chunk) → IsNotFree c → AllFree run
    → xs ++ c ∷ ys ≡ run ++ ws → StandsBehind xs c ys [] run ws
behind_run xs c ys [] ws live f e = record { mid = xs; is = sym e; sums = omega arith }
behind_run [] c ys (x ∷ run) ws live f e = absurd (not_free c x (heads e).0 live f) where
  not_free : (c x : Chunk) → c ≡ x → IsNotFree c → AllFree (x ∷ run) → ⊥
  not_free (free n) x same live f = live
  not_free (movable bytes lock owner slot) (free n) same live f = absurd cc
  not_free (movable bytes lock owner slot) (movable bytes2 lock2 owner2 slot2) same live f = f
  not_free (movable bytes lock owner slot) (fixed bytes2 owner2) same live f = f
  not_free (fixed bytes owner) (free n) same live f = absurd cc
  not_free (fixed bytes owner) (movable bytes2 lock2 owner2 slot2) same live f = f
  not_free (fixed bytes owner) (fixed bytes2 owner2) same live f = f
behind_run (y ∷ xs) c ys (free n ∷ run) ws live f e =
    let t = heads e in
    let k = behind_run xs c ys run ws live f t.1 in
    let size : size_of y ≡ n = ap size_of t.0 in
    let sums = k.sums in
    record { mid = k.mid; is = k.is; sums = omega (arith, size, sums) }
behind_run (y ∷ xs) c ys (movable bytes lock owner slot ∷ run) ws live f e = absurd f
behind_run (y ∷ xs) c ys (fixed bytes owner ∷ run) ws live f e = absurd f

beside_run : (xs : List Chunk) (c : Chunk) (ys zs run ws : List Chunk) → IsNotFree c → AllFree run
    → xs ++ c ∷ ys ≡ zs ++ (run ++ ws) → StandsInFront xs c zs ⊎ StandsBehind xs c ys zs run ws
beside_run xs c ys [] run ws live f e = inr (behind_run xs c ys run ws live f e)
beside_run [] c ys (z ∷ zs) run ws live f e =
    inl (record { mid = zs; is = ap (λ x. x ∷ zs) (sym (heads e).0) })
beside_run (x ∷ xs) c ys (z ∷ zs) run ws live f e =
    let t = heads e in
    elim (beside_run xs c ys zs run ws live f t.1) [
      | inl k ↦ inl (in_front_more x z xs c zs t.0 k)
      | inr k ↦ inr (let size = ap size_of t.0 in let sums = k.sums in
          record { mid = k.mid; is = k.is; sums = omega (arith, size, sums) })
    ] where
      in_front_more : (x z : Chunk) (xs : List Chunk) (c : Chunk) (zs : List Chunk) → x ≡ z
          → StandsInFront xs c zs → StandsInFront (x ∷ xs) c (z ∷ zs)
      in_front_more x z xs c zs e k = let is = k.is in record { mid = k.mid; is = cc }

-- room counts as one free chunk
takes_spot : (image : List ℕ) (at size : ℕ) → HeapAccepted image → 8 ≤ size
    → (r : IsSpot image at size)
    → EveryPlaced TakesBytes (area_start image) (r.before ++ free size ∷ r.after)
takes_spot image at size h some r =
    let start : ℕ = area_start image in
    let all : EveryPlaced TakesBytes start (r.before ++ (r.run ++ r.after)) =
    subst (λ cs. EveryPlaced TakesBytes start cs) r.chunks (SpelledAll-takes image start
    (chunks_of image) (length image) (read_heap image h).tiles.area) in
    let t = EveryPlaced-split TakesBytes start r.before (r.run ++ r.after) all in
    let u = EveryPlaced-split TakesBytes (start + total r.before) r.run r.after t.1 in
    EveryPlaced-append TakesBytes start r.before _ t.0 (some, rw (← r.sums) at u.1)

-- ---- a movable chunk is relocated

pub relocate_changes : (old new : List ℕ) (name here there size count : ℕ) (live : LiveChunk)
    (bytes : List ℕ) (lock owner slot : ℕ) → HeapAccepted old
    → Finds old name live (movable bytes lock owner slot) here → IsSpot old there size
    → need count ≤ size
    → Relocates old new here there size (with_length count (movable bytes lock owner slot))
    → ChangesName old new name (Some (live_sized count live)) (Some (there + 8))
relocate_changes old new name here there size count live bytes lock owner slot h f r fits moves =
    elim (beside_run f.before c f.after r.before r.run r.after tt r.all_free
    (sym f.chunks ∙ r.chunks)) [
      | inl k ↦ behind k
      | inr k ↦ in_front_of k
    ] where
      c : Chunk
      c = movable bytes lock owner slot

      d : Chunk
      d = with_length count c

      start : ℕ
      start = area_start old

      spot : List Chunk
      spot = r.before ++ free size ∷ r.after

      left : ℕ
      left = size - size_of d

      now : LiveChunk
      now = live_sized count live

      layout : layout_of old ≡ merged spot
      layout = spot_layout old there size (omega arith) r

      was : (at : ℕ) → NamedHere name live at c
      was at = f.named

      is : (at : ℕ) → NamedHere name now at d
      is at = named_sized name at count live c f.named

      sizes : total (d ∷ gap left) ≡ total (free size ∷ [])
      sizes =
          let taken = size_of-with_length c count tt in
          let rest = gap_total left in
          omega arith

      takes : (cs : List Chunk) → spot ≡ cs → EveryPlaced TakesBytes start cs
      takes cs e = rw e at (takes_spot old there size h (omega arith) r)

      alike : (cs : List Chunk) → spot ≡ cs → layout_of old ≡ merged cs
      alike cs e = layout ∙ ap merged e

      becomes : (cs ds : List Chunk) → spot ≡ cs → relocated here there d start cs ≡ ds
          → Becomes old new ds
      becomes cs ds e x = rw (ap (relocated here there d start) e ∙ x) at (moves r)

      -- the chunk with its new length, by its name and by its body
      At : ℕ → Chunk → Type 0
      At at x = NamedHere name now at x × BodyHere name (there + 8) at x

      -- it stands at an offset of the new list
      done : (cs : List Chunk) → Becomes old new cs → AnyPlaced At start cs
          → ChangesName old new name (held new name) (place_of new name)
          → ChangesName old new name (Some now) (Some (there + 8))
      done cs x any change =
          let s = stands old new cs name now (there + 8) x (omega arith)
          (AnyPlaced-map At (NamedHere name now) (λ at y p. p.0) start cs any)
          (AnyPlaced-map At (BodyHere name (there + 8)) (λ at y p. p.1) start cs any) in
          changes_as old new name _ _ _ _ s.0 s.1 change

      behind : StandsInFront f.before c r.before
          → ChangesName old new name (Some now) (Some (there + 8))
      behind k =
          let mid : List Chunk = k.mid in
          let first : ℕ = start + total f.before in
          let second : ℕ = first + size_of c + total mid in
          let from = f.there in
          let to = r.there in
          let cs : List Chunk = f.before ++ c ∷ (mid ++ free size ∷ r.after) in
          let ds : List Chunk = f.before ++ freed c ∷ (mid ++ ((d ∷ gap left) ++ r.after)) in
          let e = ap (λ xs. xs ++ free size ∷ r.after) k.is
          ∙ append_assoc f.before (c ∷ mid) (free size ∷ r.after) in
          let sum = ap total k.is ∙ total-append f.before (c ∷ mid) in
          let apart : there ≡ here + size_of c + total mid = omega (arith, from, to, sum) in
          let place : second + 8 ≡ there + 8 = omega (arith, from, apart) in
          let x = becomes cs ds e
          (relocated-behind here there d start f.before c mid size r.after
          (takes cs e) from apart) in
          done ds x
          (AnyPlaced-right At start f.before (freed c ∷ (mid ++ ((d ∷ gap left) ++ r.after)))
          (inr (AnyPlaced-right At (first + size_of c) mid ((d ∷ gap left) ++ r.after)
          (inl (is second, (f.named.0, place))))))
          (two_change old new f.before (c ∷ []) (freed c ∷ []) mid (free size ∷ [])
          (d ∷ gap left) r.after name h (alike cs e) x refl sizes
          (named_no_other name _ live c [] (was first) tt) (free_no_other name _ (freed c ∷ []) tt)
          (free_no_other name _ _ tt) (named_no_other name _ now d _ (is second) (gap_free left)))

      in_front_of : StandsBehind f.before c f.after r.before r.run r.after
          → ChangesName old new name (Some now) (Some (there + 8))
      in_front_of k =
          let mid : List Chunk = k.mid in
          let first : ℕ = start + total r.before in
          let from = f.there in
          let to = r.there in
          let cs : List Chunk = r.before ++ free size ∷ (mid ++ c ∷ f.after) in
          let ds : List Chunk = r.before ++ ((d ∷ gap left) ++ (mid ++ freed c ∷ f.after)) in
          let e : spot ≡ cs = ap (λ (xs : List Chunk). r.before ++ free size ∷ xs) k.is in
          let sum = k.sums in
          let sums = r.sums in
          let apart : here ≡ there + size + total mid = omega (arith, from, to, sum, sums) in
          let place : first + 8 ≡ there + 8 = omega (arith, to) in
          let x =
          becomes cs ds e (relocated-front here _ d _ _ size mid c _ (takes cs e) to apart) in
          done ds x (AnyPlaced-right At start r.before _ (inl (is first, (f.named.0, place))))
          (two_change old new r.before (free size ∷ []) (d ∷ gap left) mid (c ∷ []) (freed c ∷ [])
          f.after name h (alike cs e) x sizes refl (free_no_other name _ (free size ∷ []) tt)
          (named_no_other name _ now d (gap left) (is first) (gap_free left))
          (named_no_other name _ live c [] (was first) tt) (free_no_other name _ (freed c ∷ []) tt))

-- ---- in steps: a stand-in is made there, gets the bytes, and gets the name once the chunk is free

-- a live chunk is altered among others
altered_layout : (old new : List ℕ) (there : ℕ) (change : Chunk → Chunk) (before : List Chunk)
    (c : Chunk) (after : List Chunk) → HeapAccepted old → IsNotFree c
    → layout_of old ≡ merged (before ++ c ∷ after) → there ≡ area_start old + total before
    → Alters old new there change → layout_of new ≡ merged (before ++ change c ∷ after)
altered_layout old new there change before c after h live e is x = ((exchanges_layout old new there
    (λ d. change d ∷ []) (merged before) c (merged after) h (e ∙ merged-live before c after live)
    (is ∙ ap (λ n. area_start old + n) (sym (total-merged before)))).0 x).layout
    ∙ merged-front before (change c ∷ merged after)
    ∙ merged-right before (change c ∷ merged after) (change c ∷ after) (merged-right (change c ∷ [])
    (merged after) after (merged-twice after))

pub relocates : (s0 s1 s2 s3 s4 : List ℕ) (here there size : ℕ) (before : List Chunk)
    (bytes : List ℕ) (lock owner slot : ℕ) (after : List Chunk) (f g d : Chunk)
    (write make : Chunk → Chunk) → HeapAccepted s0
    → chunks_of s0 ≡ before ++ movable bytes lock owner slot ∷ after
    → here ≡ area_start s0 + total before → 8 ≤ size → size_of d ≤ size → IsNotFree f → IsNotFree g
    → size_of f ≡ size_of d → size_of g ≡ size_of d → write f ≡ g → make g ≡ d
    → Claims s0 s1 there size f → Alters s1 s2 there write → Alters s2 s3 here freed
    → Alters s3 s4 there make → Relocates s0 s4 here there size d
relocates s0 s1 s2 s3 s4 here there size before bytes lock owner slot after f g d write make h
    chunks from some fits f_live g_live f_size g_size f_is g_is x1 x2 x3 x4 r =
    record {
      frame = frame_then s0 s3 s4
          (frame_then s0 s2 s3 (frame_then s0 s1 s2 first.frame x2.frame) x3.frame) x4.frame;
      layout = elim (beside_run before c after r.before r.run r.after tt r.all_free
          (sym chunks ∙ r.chunks)) [
            | inl k ↦ behind k
            | inr k ↦ in_front_of k
          ];
    } where
      c : Chunk
      c = movable bytes lock owner slot

      start : ℕ
      start = area_start s0

      spot : List Chunk
      spot = r.before ++ free size ∷ r.after

      first : Becomes s0 s1 (r.before ++ ((f ∷ gap (size - size_of f)) ++ r.after))
      first = x1 r

      rest : List Chunk
      rest = gap (size - size_of d) ++ r.after

      start1 : area_start s1 ≡ start
      start1 = becomes_start s0 s1 _ first

      start2 : area_start s2 ≡ start
      start2 = becomes_start s1 s2 _ x2 ∙ start1

      start3 : area_start s3 ≡ start
      start3 = becomes_start s2 s3 _ x3 ∙ start2

      takes : (cs : List Chunk) → spot ≡ cs → EveryPlaced TakesBytes start cs
      takes cs e = rw e at (takes_spot s0 there size h some r)

      made : layout_of s1 ≡ merged (r.before ++ f ∷ rest)
      made = first.layout ∙ ap (λ n. merged (r.before ++ f ∷ (gap (size - n) ++ r.after))) f_size

      written : layout_of s2 ≡ merged (r.before ++ g ∷ rest)
      written = altered_layout s1 s2 there write r.before f rest first.frame.accepted f_live made
          (r.there ∙ ap (λ n. n + total r.before) (sym start1)) x2
          ∙ ap (λ x. merged (r.before ++ x ∷ rest)) f_is

      behind : StandsInFront before c r.before
          → layout_of s4 ≡ merged (relocated here there d start spot)
      behind k =
          let mid : List Chunk = k.mid in
          let to = r.there in
          let cs : List Chunk = before ++ c ∷ (mid ++ free size ∷ r.after) in
          let e = ap (λ xs. xs ++ free size ∷ r.after) k.is
          ∙ append_assoc before (c ∷ mid) (free size ∷ r.after) in
          let sum = ap total k.is ∙ total-append before (c ∷ mid) in
          let sums = total-append before (freed c ∷ mid) in
          let apart : there ≡ here + size_of c + total mid = omega (arith, from, to, sum) in
          let in_cut : (x y : Chunk) → (before ++ x ∷ mid) ++ y ∷ rest
          ≡ before ++ x ∷ (mid ++ y ∷ rest) = λ x y. append_assoc before (x ∷ mid) (y ∷ rest) in
          let before_it = from ∙ ap (λ (n : ℕ). n + total before) (sym start2) in
          let gone : layout_of s3 ≡ merged (before ++ freed c ∷ (mid ++ g ∷ rest)) =
          altered_layout s2 s3 here freed before c (mid ++ g ∷ rest) x2.frame.accepted tt (written
          ∙ ap (λ xs. merged (xs ++ g ∷ rest)) k.is ∙ ap merged (in_cut c g)) before_it x3 in
          let place : there ≡ area_start s3 + total (before ++ freed c ∷ mid) =
          omega (arith, from, apart, sums, start3) in
          altered_layout s3 s4 there make (before ++ freed c ∷ mid) g rest x3.frame.accepted g_live
          (gone ∙ ap merged (sym (in_cut (freed c) g))) place x4
          ∙ ap (λ (x : Chunk). merged ((before ++ freed c ∷ mid) ++ x ∷ rest)) g_is
          ∙ ap merged (in_cut (freed c) d)
          ∙ ap merged (sym (ap (relocated here there d start) e
          ∙ relocated-behind here there d start before c mid size r.after (takes cs e) from apart))

      in_front_of : StandsBehind before c after r.before r.run r.after
          → layout_of s4 ≡ merged (relocated here there d start spot)
      in_front_of k =
          let mid : List Chunk = k.mid in
          let to = r.there in
          let left : List Chunk = gap (size - size_of d) in
          let cs : List Chunk = r.before ++ free size ∷ (mid ++ c ∷ after) in
          let e : spot ≡ cs = ap (λ (xs : List Chunk). r.before ++ free size ∷ xs) k.is in
          let sum = k.sums in
          let run = r.sums in
          let sums = total-append r.before (g ∷ (left ++ mid)) in
          let more = total-append left mid in
          let all = gap_total (size - size_of d) in
          let apart : here ≡ there + size + total mid = omega (arith, from, to, sum, run) in
          let in_cut : (x : Chunk) → r.before ++ g ∷ (left ++ (mid ++ x ∷ after))
          ≡ (r.before ++ g ∷ (left ++ mid)) ++ x ∷ after =
          λ x. ap (λ xs. r.before ++ g ∷ xs) (sym (append_assoc left mid (x ∷ after)))
          ∙ sym (append_assoc r.before (g ∷ (left ++ mid)) (x ∷ after)) in
          let was = written ∙ ap (λ xs. merged (r.before ++ g ∷ (left ++ xs))) k.is
          ∙ ap merged (in_cut c) in
          let place : here ≡ area_start s2 + total (r.before ++ g ∷ (left ++ mid)) =
          omega (arith, apart, to, sums, more, all, start2, g_size) in
          let gone : layout_of s3 ≡ merged (r.before ++ g ∷ (left ++ (mid ++ freed c ∷ after))) =
          altered_layout s2 s3 here freed (r.before ++ g ∷ (left ++ mid)) c after x2.frame.accepted
          tt was place x3 ∙ ap merged (sym (in_cut (freed c))) in
          altered_layout s3 s4 there make r.before g (left ++ (mid ++ freed c ∷ after))
          x3.frame.accepted g_live gone (to ∙ ap (λ n. n + total r.before) (sym start3)) x4
          ∙ ap (λ (x : Chunk). merged (r.before ++ x ∷ (left ++ (mid ++ freed c ∷ after)))) g_is
          ∙ ap merged (sym (ap (relocated here there d start) e
          ∙ relocated-front here there d start r.before size mid c after (takes cs e) to apart))
