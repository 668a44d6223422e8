-- Loans are taken out of a heap, and put back, any number at once.
use Rattle.mem_manager.proofs.Words.{◌≡◌, ◌≢◌, ℕ, zero, suc, ◌+◌, ◌-◌, ◌≤◌, List, [], ◌∷◌, length, replicate, refl, sym, ap, subst, ◌∙◌, arith, inl, inr, IsSome, slice_range, cases_eq, length-replicate, Chunk, free, movable, fixed, total, area_start, Memory, Lent, EachLent, SomeLent, HeapAccepted, LiveChunk, NamedHere, held, callers_map, Alters, with_bytes, Leaves, rewritten, IsLent, LentHere, IsLentBody, LendsBodies, LendsNoneOf, HoldsHeap, LendsOf, Of, IsNoCaller, finds_place, named_owned, live_nowhere, place_of, FirstBrings, Name, Refusal, PartOut, IsPart, IsOut, BeginsAt, IsNextLent, NoneBeginsAbove, ChangesName, fixed_live_is, held_finds, lent_chunk, some_gives, some_to, some_none, Found, IsFound, IsOne, also_out_checks, out_checks, TakesOut, IsOutUnder, IsNextLoan, IsOpen}
use Rattle.std.specs.Prelude.{Option, Some, None}
use Rattle.mem_manager.proofs.Places.{callers_held}
use Rattle.mem_manager.proofs.KnownLoans.{placed, lent_of}
use Rattle.mem_manager.proofs.StepWords.{one_of, known, of_known, altered}
use Rattle.mem_manager.proofs.ChunkCalls.{write_changes, body_there, out_passes}
use Rattle.mem_manager.proofs.StoreCalls.{all_written, body_found}
use Rattle.mem_manager.proofs.KeptLoans.{lent_at_found}

same_place : {m n : ℕ} → Some m ≡ Some n → m ≡ n
same_place e = cc

-- ---- why none is made

whole_lends_none : (old : Memory) (name : ℕ) (o : Option LiveChunk) → old.lents ≡ []
    → Of o (λ live. IsLent old name) → ⊥
whole_lends_none old name None whole is = is
whole_lends_none old name (Some live) whole is = rw whole at is

pub only_why : (old : Memory) (name : ℕ) (refusal : Refusal) → old.lents ≡ []
    → FirstBrings (also_out_checks old name) refusal → FirstBrings (out_checks old name) refusal
only_why old name refusal whole (inl none) = inl none
only_why old name refusal whole (inr (there, inl unlocked)) = inr (there, inl unlocked)
only_why old name refusal whole (inr (there, inr (locked, inl out))) =
    absurd (whole_lends_none old name (callers_map old.bytes name) whole out.0)
only_why old name refusal whole (inr (there, inr (locked, inr (here, more)))) = absurd more

-- ---- one is made

pub out_changes : {old new : List ℕ} {name : ℕ} {found : Found} (bytes : List ℕ) → HeapAccepted old
    → (f : IsFound old name found) → length bytes ≡ found.length
    → Alters old new (found.place.0 - 8) (with_bytes 0 bytes)
    → ChangesName old new name (Some (record f.live { bytes = bytes })) (Some found.place.0)
out_changes {old} {new} {name} {found} bytes h f many x =
    subst (λ (all : List ℕ). ChangesName old new name (Some (record f.live { bytes = all })) (Some found.place.0)) (all_written f.live.bytes bytes (many ∙ f.count)) (write_changes 0 bytes h f (omega (arith, many)) x)

pub out_leaves : (old : Memory) {new : List ℕ} {name : ℕ} {found : Found} (bytes : List ℕ)
    → HeapAccepted old.bytes → (f : IsFound old.bytes name found) → length bytes ≡ found.length
    → Alters old.bytes new (found.place.0 - 8) (with_bytes 0 bytes)
    → Leaves old.bytes new (rewritten (held old.bytes) name bytes)
out_leaves old {new} bytes h f many x =
    (altered old (record old { bytes = new }) (λ live. record live { bytes = bytes }) h f (out_changes bytes h f many x) refl).leaves

-- each name has the same place
pub out_unmoved : {old new : List ℕ} {name : ℕ} {found : Found} {now : Option LiveChunk}
    → HeapAccepted old → IsFound old name found → ChangesName old new name now (Some found.place.0)
    → (other : ℕ) → place_of new other ≡ place_of old other
out_unmoved {old} {new} {name} h f ch other = elim (cases_eq other name) [
  | inl same ↦ rw (← same) at (ch.place ∙ sym (placed h f))
  | inr apart ↦ ch.places other apart
]

zeros : (n : ℕ) → length (replicate {A = ℕ} n 0) ≡ n
zeros n = length-replicate {A = ℕ} n 0

pub made_out : {old new : Memory} {name : Name} {found : Found} (o : IsOpen old name.0 found) (part : PartOut) → part.bytes ≡ slice_range old.bytes found.place.0 (found.place.0 + found.length) → Alters old.bytes new.bytes (found.place.0 - 8) (with_bytes 0 (replicate found.length 0))
    → new.lents ≡ record { at = found.place.0; count = found.length; start = part.start } ∷ old.lents → new ≡ record old { bytes = new.bytes; lents = new.lents } → TakesOut old new name (record { name = name; part = part })
made_out {old} {new} {name} {found} o part bytes x is rest = record {
  could = out_passes o;
  name_is = refl;
  bytes = bytes ∙ body_found h f;
  leaves = rw (← many) at (out_leaves old (replicate found.length 0) h f (zeros found.length) x);
  out = subst (λ (y : List Lent). SomeLent (λ l. (place_of new.bytes name.0 ≡ Some l.at) × (part.start ≡ l.start) × (length part.bytes ≡ l.count)) y) (sym is) (inl (ch.place, refl, many));
  is_lent = record {
    lent = subst (λ (y : List Lent). SomeLent (λ l. place_of new.bytes name.0 ≡ Some l.at) y)
        (sym is) (inl ch.place);
    live = record f.live { bytes = replicate found.length 0 };
    is_held = ch.here;
    many = zeros found.length ∙ sym many;
  };
  unmoved = out_unmoved h f ch;
  at = found.place.0;
  placed = placed h f;
  there = ch.place;
  rest = rest ∙ (λ i. record old { bytes = new.bytes; lents = (is ∙ ap (λ (n : ℕ). record { at = found.place.0; count = n; start = part.start } ∷ old.lents) (sym many)) i });
} where
  h : HeapAccepted old.bytes
  h = o.owned.heap.accepted

  f : IsFound old.bytes name.0 found
  f = o.owned.is

  ch : ChangesName old.bytes new.bytes name.0 (Some (record f.live { bytes = replicate found.length 0 })) (Some found.place.0)
  ch = out_changes (replicate found.length 0) h f (zeros found.length) x

  many : length part.bytes ≡ found.length
  many = let e = ap length (bytes ∙ (body_there h f).1) in let n = f.count in omega (arith, e, n)

-- ---- one is put back

pub out_held : {m : Memory} (name : ℕ) (part : PartOut) → HoldsHeap m → IsOutUnder m name part
    → IsSome (held m.bytes name)
out_held {m} name part h out = by (held m.bytes name) refl where
  by : (o : Option LiveChunk) → held m.bytes name ≡ o → IsSome (held m.bytes name)
  by None e = absurd (some_none (λ l. (place_of m.bytes name ≡ Some l.at) × (part.start ≡ l.start) × (length part.bytes ≡ l.count)) m.lents out (λ l x. let no = sym (live_nowhere m.bytes name e) ∙ x.0 in absurd cc))
  by (Some live) e = subst IsSome (sym e) refl

-- what is out under a name is lent
pub out_is_lent : (m : Memory) (name : ℕ) (part : PartOut) → IsOutUnder m name part → IsLent m name
out_is_lent m name part out = some_to (λ l. (place_of m.bytes name ≡ Some l.at) × (part.start ≡ l.start) × (length part.bytes ≡ l.count)) (λ l. place_of m.bytes name ≡ Some l.at) m.lents out (λ l x. x.0)

pub out_there : {m : Memory} {name : ℕ} {found : Found} (part : PartOut) → HoldsHeap m
    → IsFound m.bytes name found → IsOutUnder m name part → IsOut m.lents found.place.0 part
out_there {m} {name} {found} part h f out =
    some_to (λ l. (place_of m.bytes name ≡ Some l.at) × (part.start ≡ l.start) × (length part.bytes ≡ l.count)) (IsPart found.place.0 part) m.lents out
    (λ l x. record { there = same_place (sym x.0 ∙ placed h.accepted f); start = x.1; count = x.2 })

count_here : (lent : Lent) (at name : ℕ) (live : LiveChunk) (c : Chunk) → NamedHere name live at c
    → LentHere lent at c → lent.count ≡ length live.bytes
count_here lent at name live (free size) n l = absurd l
count_here lent at name live (movable bytes zero owner slot) n l = absurd l
count_here lent at name live (movable bytes (suc lock) owner slot) n l =
    l.1 ∙ ap (λ (x : LiveChunk). length x.bytes) n.1
count_here lent at name live (fixed bytes owner) n l =
    l.1 ∙ ap (λ (x : LiveChunk). length x.bytes) (fixed_live_is at bytes owner n)

-- a lent body is all of the body at its place
lent_whole : {image : List ℕ} {found : Found} (lent : Lent) → IsLentBody image lent
    → (f : IsOne image found) → lent.at ≡ found.place.0 → lent.count ≡ found.length
lent_whole {found = found} lent l f same =
    let low = f.behind_header in
    count_here lent (found.place.0 - 8) found.name.0 f.live f.chunk f.finds.named
    (lent_at_found lent l f.finds (omega arith)) ∙ sym f.count

pub out_whole : {m : Memory} {name : ℕ} {found : Found} (part : PartOut) → HoldsHeap m
    → IsFound m.bytes name found → IsOutUnder m name part → length part.bytes ≡ found.length
out_whole {m} {found} part h f out =
    some_gives (IsPart found.place.0 part) (IsLentBody m.bytes) m.lents h.lent
    (out_there part h f out) (λ lent body is. is.count ∙ lent_whole lent body (one_of f) is.there)

-- ---- whether an owner's chunk is lent

pub lends_of : {m : Memory} {found : Found} {owner : ℕ} → HoldsHeap m → IsOne m.bytes found
    → (IsNoCaller owner → ⊥) → found.owner ≡ owner → BeginsAt found.place.0 m.lents
    → LendsOf m (callers_map m.bytes) owner
lends_of {m} {found} {owner} h f caller same begins = record {
  name = found.name.0;
  owns = of_known (λ live. live.owner ≡ owner) (known h.accepted f (positive found.owner same))
      (sym f.owner_is ∙ same);
  lent = lent_of m h.accepted f begins;
} where
  positive : (o : ℕ) → o ≡ owner → 1 ≤ o
  positive zero e = absurd (caller (inl (sym e)))
  positive (suc o) e = omega arith

pub lends_none : {m : Memory} {owner : ℕ} → HoldsHeap m → LendsNoneOf m owner
    → LendsOf m (callers_map m.bytes) owner → ⊥
lends_none {m} {owner} h none l = by (callers_map m.bytes l.name) refl l.owns where
  by : (o : Option LiveChunk) → callers_map m.bytes l.name ≡ o → Of o (λ live. live.owner ≡ owner)
      → ⊥
  by None e w = absurd w
  by (Some live) e w =
      let there = callers_held (held m.bytes l.name) live e in
      let g = held_finds m.bytes l.name live h.accepted there in
      let other = none g.finds.before g.chunk g.finds.after g.finds.chunks
      (named_owned owner l.name g.at live g.chunk g.finds.named w) in
      let at_is = g.finds.there in
      let place : place_of m.bytes l.name ≡ Some (g.at + 8) =
      finds_place m.bytes l.name live g.chunk g.at h.accepted g.finds in
      some_gives (λ y. place_of m.bytes l.name ≡ Some y.at)
      (λ y. y.at ≢ area_start m.bytes + total g.finds.before + 8) m.lents other l.lent
      (λ y differs is. differs (let here = same_place (sym is ∙ place) in omega (arith, here, at_is)))

-- ---- whether anything is lent

pub begins_some : (m : Memory) (at : ℕ) → m.lents ≡ [] → BeginsAt at m.lents → ⊥
begins_some m at whole begins = subst (λ (y : List Lent). BeginsAt at y) whole begins

-- none is, where none begins above 0
none_above_of : (image : List ℕ) (lents : List Lent) → EachLent (IsLentBody image) lents
    → NoneBeginsAbove 0 lents → lents ≡ []
none_above_of image [] each none = refl
none_above_of image (l ∷ ls) each none =
    let there = (lent_chunk image l each.0).is.there in let low = none.0 in
    absurd (omega (arith, there, low))

pub none_above : (m : Memory) → LendsBodies m → NoneBeginsAbove 0 m.lents → m.lents ≡ []
none_above m lends none = none_above_of m.bytes m.lents lends none

-- the next loan
pub next_loan : {m : Memory} {after : ℕ} {found : Found} → HoldsHeap m → IsOne m.bytes found
    → IsNextLent m.lents after found.place.0 → IsNextLoan m after found.name.0 found.place.0
next_loan h f next = record { placed = placed h.accepted f; next = next }
