-- What is lent stays lent.
use Rattle.mem_manager.proofs.Words.{◌≡◌, ℕ, zero, suc, ◌+◌, ◌-◌, ◌<◌, List, length, refl, sym, ap, subst, ◌∙◌, arith, inl, inr, IsSome, ◌==◌, cases_eq, nat_tests, Memory, Lent, SomeLent, Chunk, free, movable, fixed, fixed_lock, total, area_start, HeapAccepted, LiveChunk, NamedHere, chunks_of, held, LentHere, IsLentBody, LendsBodies, IsLent, KeepsLoan, HoldsHeap, callers_map, not_owned, layout_of, Becomes, owned_freed, IsNoCaller, LendsOf, Of, place_of, place_under, Still, NamesDirectory, finds_place, ChangesName, fixed_live_is, held_finds, named_size, callers_some, unheld_here, owned_held, owned_place, cond-false, some_gives, some_to, apart, in_front, one, behind, lent_chunk, Found, IsFound, name_held, MakesNew, Finds, same_lock}
use Rattle.std.specs.Prelude.{Option, Some}
use Rattle.laws_heap.proofs.Directory.{named_start}

-- ---- the chunk that is lent stays

one_place : {m n : ℕ} → Some m ≡ Some n → m ≡ n
one_place e = cc

locked_here : (lent : Lent) (at name : ℕ) (live : LiveChunk) (c : Chunk) → NamedHere name live at c
    → LentHere lent at c → 0 < live.lock
locked_here lent at name live (free size) n l = absurd l
locked_here lent at name live (movable bytes zero owner slot) n l = absurd l
locked_here lent at name live (movable bytes (suc lock) owner slot) n l =
    let e : suc lock ≡ live.lock = same_lock n.1 in omega (arith, e)
locked_here lent at name live (fixed bytes owner) n l =
    let e : fixed_lock ≡ live.lock = same_lock (fixed_live_is at bytes owner n) in omega (arith, e)

-- a lent body at the place of a chunk is that chunk's
pub lent_at_found : {image : List ℕ} {name : ℕ} {live : LiveChunk} {chunk : Chunk} {at : ℕ} (lent : Lent) → IsLentBody image lent → (f : Finds image name live chunk at) → at + 8 ≡ lent.at → LentHere lent at chunk
lent_at_found {image} {name} {live} {chunk} {at} lent l f same =
    let p = lent_chunk image lent l in
    let at_is = p.is.there in let fits = p.is.fits in let there = f.there in
    let size = named_size name live at chunk f.named in
    elim (apart f.before chunk f.after p.before p.chunk p.after (sym f.chunks ∙ p.chunks)) [
      | in_front k ↦ absurd (omega (arith, k, at_is, there, same, size))
      | one t s ↦
          let where_is : area_start image + total p.before ≡ at = omega (arith, t, there) in
          subst (λ (c : Chunk). LentHere lent at c) (sym s) (rw where_is at p.here)
      | behind k ↦ absurd (omega (arith, k, at_is, there, same, fits))
    ]

pub lent_locked : (memory : Memory) (name : ℕ) (live : LiveChunk) → HeapAccepted memory.bytes
    → LendsBodies memory → IsLent memory name → held memory.bytes name ≡ Some live → 0 < live.lock
lent_locked memory name live h l is e = some_gives (λ y. place_of memory.bytes name ≡ Some y.at)
    (IsLentBody memory.bytes) memory.lents l is one_of_them where
      one_of_them : (lent : Lent) → IsLentBody memory.bytes lent
          → place_of memory.bytes name ≡ Some lent.at → 0 < live.lock
      one_of_them lent l is =
          let g = held_finds memory.bytes name live h e in
          let there : g.at + 8 ≡ lent.at =
          one_place (sym (finds_place memory.bytes name live g.chunk g.at h g.finds) ∙ is) in
          locked_here lent g.at name live g.chunk g.finds.named (lent_at_found lent l g.finds there)

-- ---- a name that is lent

-- it is lent where its body stands where it stood
pub lent_there : (old new : Memory) (name : ℕ) → new.lents ≡ old.lents
    → place_of new.bytes name ≡ place_of old.bytes name → IsLent old name → IsLent new name
lent_there old new name same placed is =
    subst (λ (x : List Lent). SomeLent (λ y. place_of new.bytes name ≡ Some y.at) x) (sym same)
    (some_to (λ y. place_of old.bytes name ≡ Some y.at) (λ y. place_of new.bytes name ≡ Some y.at) old.lents is (λ y e. placed ∙ e))

-- where what is lent stands for what it stood for, and nothing that stays has moved
pub keeps_still : (old new : Memory) → HeapAccepted old.bytes → LendsBodies old → new.lents ≡ old.lents → Still old.bytes new.bytes → ((n : ℕ) (live : LiveChunk) → IsLent old n → held old.bytes n ≡ Some live → held new.bytes n ≡ Some live) → KeepsLoan old new
keeps_still old new h l same still each = λ name count is.
    let now = each name is.live is.lent is.is_held in
    let placed = still name is.live is.is_held (lent_locked old name is.live h l is.lent is.is_held)
    (subst IsSome (sym now) refl) in
    (record { lent = lent_there old new name same placed is.lent; live = is.live; is_held = now; many = is.many }, placed)

-- the same, where each name stands for what it stood for
pub keeps_map : {old : Memory} (new : Memory) → HoldsHeap old → new.lents ≡ old.lents
    → Still old.bytes new.bytes → ((n : ℕ) → held new.bytes n ≡ held old.bytes n)
    → KeepsLoan old new
keeps_map {old} new h same still map =
    keeps_still old new h.accepted h.lent same still (λ n live is e. map n ∙ e)

-- where one name's chunk is changed in its place, and has as many bytes
pub keeps_changed : (old new : Memory) {name : ℕ} {found : Found} (now : LiveChunk)
    → HeapAccepted old.bytes → new.lents ≡ old.lents → (f : IsFound old.bytes name found)
    → ChangesName old.bytes new.bytes name (Some now) (Some found.place.0)
    → length now.bytes ≡ length f.live.bytes → KeepsLoan old new
keeps_changed old new {name} {found} now h same f ch many = λ n count is. elim (cases_eq n name) [
  | inl here ↦
      let mine : f.live ≡ is.live = one_live (sym (name_held old.bytes name found h f)
      ∙ ap (λ (m : ℕ). held old.bytes m) (sym here) ∙ is.is_held) in
      let placed : place_of new.bytes n ≡ place_of old.bytes n = ap (λ (m : ℕ). place_of new.bytes m) here ∙ ch.place ∙ sym was ∙ ap (λ (m : ℕ). place_of old.bytes m) (sym here) in (
        record {
          lent = lent_there old new n same placed is.lent;
          live = now;
          is_held = ap (λ (m : ℕ). held new.bytes m) here ∙ ch.here;
          many = many ∙ ap (λ (x : LiveChunk). length x.bytes) mine ∙ is.many;
        },
        placed,
      )
  | inr other ↦ (record { lent = lent_there old new n same (ch.places n other) is.lent; live = is.live; is_held = ch.others n other ∙ is.is_held; many = is.many }, ch.places n other)
] where
  some : ℕ → Option ℕ
  some n = Some n

  one_live : {x y : LiveChunk} → Some x ≡ Some y → x ≡ y
  one_live e = cc

  low : found.place.0 - 8 + 8 ≡ found.place.0
  low = let b = f.behind_header in omega (arith, b)

  was : place_of old.bytes name ≡ Some found.place.0
  was =
      finds_place old.bytes name f.live f.chunk (found.place.0 - 8) h f.finds
      ∙ ap (λ (n : ℕ). some n) low

-- where one name's chunk is changed that is not lent
pub keeps_others : (old new : Memory) {name : ℕ} {now : Option LiveChunk} {there : Option ℕ}
    → new.lents ≡ old.lents → ChangesName old.bytes new.bytes name now there → (IsLent old name → ⊥)
    → KeepsLoan old new
keeps_others old new {name} same ch here = λ n count is. elim (cases_eq n name) [
  | inl this ↦ absurd (here (subst (λ (m : ℕ). IsLent old m) this is.lent))
  | inr other ↦ (record { lent = lent_there old new n same (ch.places n other) is.lent; live = is.live; is_held = ch.others n other ∙ is.is_held; many = is.many }, ch.places n other)
]

-- where a chunk is made under one
pub keeps_made : {old : Memory} (new : Memory) {size owner name : ℕ} → HoldsHeap old
    → new.lents ≡ old.lents → MakesNew old.bytes new.bytes name size owner → KeepsLoan old new
keeps_made {old} new {name} h same m =
    keeps_still old new h.accepted h.lent same m.leaves.still
    (λ n live is e. elim (cases_eq n name) [
      | inl this ↦ absurd (unheld_here old name m.fresh (subst (λ (j : ℕ). IsLent old j) this is))
      | inr apart ↦ m.leaves.map n ∙ cond-false (n == name) _ _ (grind (arith, nat_tests)) ∙ e
    ])

-- where all chunks of an owner go of whom none is lent
pub keeps_owned : (old new : Memory) (owner : ℕ) → HeapAccepted old.bytes → LendsBodies old → (IsNoCaller owner → ⊥) → new.lents ≡ old.lents → (LendsOf old (callers_map old.bytes) owner → ⊥) → Becomes old.bytes new.bytes (owned_freed owner (layout_of old.bytes)) → KeepsLoan old new
keeps_owned old new owner h l caller same none b = keeps_still old new h l same (λ name live held_there locked is_there. owned_place old.bytes new.bytes owner name h b is_there) each where
  of : (n : ℕ) (live : LiveChunk) → IsLent old n → held old.bytes n ≡ Some live → live.owner ≡ owner
      → LendsOf old (callers_map old.bytes) owner
  of n live is e own = record {
    name = n;
    owns = subst (λ (x : Option LiveChunk). Of x (λ l. l.owner ≡ owner))
        (sym (callers_some old.bytes n live e (λ zero. caller (inl (sym own ∙ zero))))) own;
    lent = is;
  }

  each : (n : ℕ) (live : LiveChunk) → IsLent old n → held old.bytes n ≡ Some live
      → held new.bytes n ≡ Some live
  each n live is e =
      owned_held old.bytes new.bytes owner n h b
      ∙ ap (λ (x : Option LiveChunk). not_owned owner x) e ∙ elim (cases_eq live.owner owner) [
        | inl own ↦ absurd (none (of n live is e own))
        | inr other ↦ cond-false (live.owner == owner) _ _ (grind (arith, nat_tests))
      ]

-- where a new directory is named
pub named_still : {old new : List ℕ} {word : ℕ} → NamesDirectory old new word → Still old new
named_still {old} {new} {word} d name live h locked there =
    ap (λ (n : ℕ). place_under n (chunks_of new) name) (named_start old new word d)
    ∙ ap (λ (cs : List Chunk). place_under (area_start old) cs name) d.chunks
