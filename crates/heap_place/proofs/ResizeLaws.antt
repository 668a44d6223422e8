-- A live chunk of an accepted heap gets another length in its place.
use Rattle.heap_place.proofs.Words.{◌≡◌, ℕ, ◌+◌, ◌-◌, ◌%◌, ◌^◌, ◌<◌, ◌≤◌, List, [], ◌∷◌, ◌++◌, length, take, drop, replicate, refl, sym, ap, subst, ◌∙◌, arith, inl, inr, ◌==◌, slice_range, cases_lt, eq-eqb, length-replicate, length-take-le, length-drop, take_all, take-take, drop_all, append-nil, sized_to, Chunk, free, movable, fixed, fixed_lock, need, size_of, total, Spelled, SpelledAll, IsCallersIfFixed, ManagersHere, directory_of, HeapAccepted, IsHeap, LiveChunk, NamedHere, AnyPlaced, Finds, Becomes, gap, IsFreeAt, WritesPlain, with_length, Shrinks, cond-true, cond-false, SameBetween, SameBetween-then, slice-same, slice-overwritten-within, IsNotFree, fixed_live_is, fixed_owned, finds_spelled, named_live_chunk, WroteWithin, wrote_part, wrote_wider, wrote_then, wrote_apart, becomes_heap, Replaces, exchanges_parts, gap_free, TiedAlike, rewritten, finds_callers, lives_plain, replaced_plain, length-sized_to, size_of-with_length, Header, header_of, size_by, HasHeader, IsWritableHeader, header_words, h_offset_to, Found, IsOne, WroteRest, sized_header, RunBehind, Resizes, slot_facts, HoldNoSlots, movable_body, callers_body, same_lock, same_owner, same_length}
use Rattle.std.proofs.lemmas.Bool.Decides.{nat_tests}
use Rattle.heap_model.specs.Bytes.{overwritten}
use Rattle.heap_model.specs.Packing.{lives}
use Rattle.heap_place.proofs.FoundLaws.{heap_in_parts, Middle, middle_of, own_slot, Fields, fields_of, found_size, bytes_inside, no_slots}
use Rattle.heap_place.proofs.CutLaws.{gap_spelled, gap_plain, rest_within, header_movable, header_fixed, wrote_words}

-- ---- where the chunk and the free ones after it lie

pub record RunFacts (image : List ℕ) (found : Found) (behind : ℕ) : Type 0 where
  pub low : 8 ≤ found.place.0
  pub inside : found.place.0 - 8 + (need found.length + behind) ≤ length image
  pub whole : (need found.length + behind) % 8 ≡ 0
  pub most : length image ≤ 16777208
  pub body : found.place.0 + found.length ≤ length image

pub run_middle : {image : List ℕ} {found : Found} {behind : ℕ} → HeapAccepted image → (r : RunBehind image found behind) → Middle image r.one.finds.before (r.one.chunk ∷ r.run) r.rest (found.place.0 - 8)
run_middle h r =
    let f = r.one.finds in let c : Chunk = r.one.chunk in
    middle_of _ _ _ _ _ (heap_in_parts _ _ h (f.chunks ∙ ap (λ cs. f.before ++ c ∷ cs) r.parts)) f.there

pub run_facts : (image : List ℕ) (found : Found) (behind : ℕ) → HeapAccepted image
    → RunBehind image found behind → RunFacts image found behind
run_facts image found behind h r =
    let m = run_middle h r in let size = found_size image found r.one in
    record { low = r.one.behind_header; inside = omega arith; whole = omega arith; most = m.most; body = bytes_inside _ _ h r.one }

-- ---- the header

header_by : {image : List ℕ} {name at : ℕ} (count : ℕ) {live : LiveChunk} (c : Chunk) {found : Found} → HeapAccepted image → Finds image name live c at → Fields name live found → sized_header found count ≡ header_of (with_length count c)
header_by count (free size) h f k = absurd f.named
header_by {image} {name} {at} count {live} (movable bytes lock owner slot) {found} h f k =
    let s = finds_spelled image name live (movable bytes lock owner slot) at h f in
    let a : found.lock ≡ lock = k.lock_is ∙ same_lock (sym f.named.1) in
    let b : found.owner ≡ owner = k.owner_is ∙ same_owner (sym f.named.1) in
    let n : found.name.0 ≡ slot = k.name_is ∙ sym f.named.0 in
    let len = length-sized_to bytes count in
    cond-false (found.lock == fixed_lock) _ _ (grind (arith, nat_tests)) ∙ cc
header_by {at} count (fixed bytes owner) {found} h f k =
    let is = fixed_live_is at bytes owner f.named in
    let a : found.lock ≡ fixed_lock = k.lock_is ∙ same_lock (sym is) in
    let b : found.owner ≡ owner = k.owner_is ∙ same_owner (sym is) in
    let len = length-sized_to bytes count in
    cond-true (found.lock == fixed_lock) _ _ (eq-eqb found.lock fixed_lock a) ∙ cc

header_sized : {image : List ℕ} {found : Found} (count : ℕ) → HeapAccepted image
    → (f : IsOne image found) → sized_header found count ≡ header_of (with_length count f.chunk)
header_sized count h f = header_by count f.chunk h f.finds (fields_of f)

writable_by : {image : List ℕ} {name at : ℕ} (count : ℕ) {live : LiveChunk} (c : Chunk) → HeapAccepted image → Finds image name live c at → at % 8 ≡ 0 → need count < 2 ^ 24 → IsWritableHeader at (header_of (with_length count c))
writable_by count (free size) h f whole small = absurd f.named
writable_by {image} {name} {at} count {live} (movable bytes lock owner slot) h f whole small =
    let s = finds_spelled image name live (movable bytes lock owner slot) at h f in
    let facts = slot_facts _ h.0 slot h.1.tiles (own_slot _ name at live _ lock _ slot h f) in
    let own : owner < 16 = s.1.owner_fits in let len = length-sized_to bytes count in
    (omega arith, s.2, omega arith, s.3, omega arith, omega arith)
writable_by {image} {name} {at} count {live} (fixed bytes owner) h f whole small =
    let s = finds_spelled image name live (fixed bytes owner) at h f in
    let own : owner < 16 = s.owner_fits in let len = length-sized_to bytes count in
    (omega arith, omega arith)

size_by_sized : (c : Chunk) (count : ℕ) → IsNotFree c
    → size_by (header_of (with_length count c)) ≡ need count
size_by_sized (free size) count n = absurd n
size_by_sized (movable bytes lock owner slot) count n = ap need (length-sized_to bytes count)
size_by_sized (fixed bytes owner) count n = ap need (length-sized_to bytes count)

-- it can be written, and says what the chunk takes
pub sized_writable : (image : List ℕ) (found : Found) (count behind : ℕ) → HeapAccepted image → (r : RunBehind image found behind) → need count ≤ need found.length + behind → IsWritableHeader (found.place.0 - 8) (sized_header found count) × (size_by (sized_header found count) ≡ need count)
sized_writable image found count behind h r fits =
    let at : ℕ = found.place.0 - 8 in let f = r.one in
    let facts = run_facts image found behind h r in let e = header_sized count h f in
    (rw e (writable_by _ _ h f.finds (run_middle h r).start_whole (omega arith)), ap size_by e ∙ size_by_sized _ _ (named_live_chunk _ at _ _ f.finds.named))

-- ---- the bytes

-- bytes at an offset, where zeros were written after them if there are to be more
sized_body : (old : List ℕ) {filled new : List ℕ} (at count : ℕ) {bytes : List ℕ} → slice_range old (at + 8) (at + 8 + length bytes) ≡ bytes → at + 8 + length bytes ≤ length old → at + 8 + count ≤ length old → filled ≡ overwritten old (at + 8 + length bytes) (replicate (count - length bytes) 0)
    → SameBetween (at + 8) (at + 8 + count) filled new → length filled ≡ length old
    → length new ≡ length old → slice_range new (at + 8) (at + 8 + count) ≡ sized_to bytes count
unfolding overwritten
sized_body old {filled} {new} at count {bytes} body inside fits is same len_filled len_new =
    sym (slice-same _ _ _ new same (omega arith) (omega arith)) ∙ elim (cases_lt (length bytes) count) [ inl more ↦ longer more | inr less ↦ shorter less ] where
      zeros : List ℕ
      zeros = replicate (count - length bytes) 0

      many : length zeros ≡ count - length bytes
      many = length-replicate (count - length bytes) 0

      start : ℕ
      start = at + 8

      whole : (n : ℕ) → start + n - start ≡ n
      whole n = omega arith

      was : take (length bytes) (drop start old) ≡ bytes
      was = ap (λ n. take n (drop start old)) (sym (whole (length bytes))) ∙ body

      longer : length bytes < count
          → slice_range filled start (start + count) ≡ sized_to bytes count
      longer more =
          let zeros_are = many in
          let size = length-take-le count (drop start old) (let n = length-drop start old in omega arith) in
          let kept = take-take (length bytes) count (drop start old) (omega arith) ∙ was in
          ap (λ x. take (start + count - start) (drop start x)) is
          ∙ slice-overwritten-within old _ _ count zeros (omega arith) (omega arith)
          ∙ ap (λ n. overwritten (take n (drop start old)) (length bytes) zeros) (whole count)
          ∙ ap (λ x. take (length bytes) (take count (drop start old)) ++ zeros ++ x)
          (drop_all (length bytes + length zeros) (take count (drop start old)) (omega arith))
          ∙ append-nil (take (length bytes) (take count (drop start old)) ++ zeros)
          ∙ ap (λ x. x ++ zeros) (kept ∙ sym (take_all count bytes (omega arith)))

      shorter : count ≤ length bytes
          → slice_range filled start (start + count) ≡ sized_to bytes count
      shorter less =
          let zeros_are = many in let none : count - length bytes ≡ 0 = omega arith in
          let w = wrote_part old filled (start + length bytes) zeros is (omega arith) in
          sym (slice-same _ _ old _ (wrote_apart old _ _ _ _ _ w (inl (omega arith))) (omega arith) (omega arith))
          ∙ ap (λ n. take n (drop start old)) (whole count)
          ∙ sym (take-take count (length bytes) (drop start old) less)
          ∙ ap (take count) was
          ∙ sym (append-nil (take count bytes))
          ∙ ap (λ n. take count bytes ++ replicate n 0) (sym none)

-- the bytes of a live chunk
abbrev pub body_of : Chunk → List ℕ
body_of (free size) = []
body_of (movable bytes lock owner slot) = bytes
body_of (fixed bytes owner) = bytes

-- the chunk of a header, and these bytes
pub sized_spelled : {new : List ℕ} {at : ℕ} (count : ℕ) (c : Chunk) → IsNotFree c → HoldNoSlots (c ∷ []) → slice_range new (at + 8) (at + 8 + count) ≡ sized_to (body_of c) count → HasHeader new at (header_of (with_length count c)) → Spelled new at (with_length count c)
sized_spelled count (free size) live none body has = absurd live
sized_spelled {new} {at} count (movable bytes lock owner slot) live none body has =
    let sized : List ℕ = sized_to bytes count in let len = length-sized_to bytes count in
    let m = header_movable (length sized) lock owner slot has.chunk has.header_is in
    let t = subst (λ x. Spelled new at x) m.1.0 has.spelled in
    let same_bytes = sym (movable_body new at m.0 lock _ t.0 t.1 t.2) ∙ ap (λ k. slice_range new (at + 8) (at + 8 + k)) (m.1.1 ∙ len) ∙ body in
    subst (λ x. Spelled new at (movable x lock owner slot)) same_bytes t
sized_spelled {new} {at} count (fixed bytes owner) live none body has =
    let sized : List ℕ = sized_to bytes count in let len = length-sized_to bytes count in
    let m = header_fixed (length sized) owner has.chunk has.header_is in
    let t = subst (λ x. Spelled new at x) m.1.0 has.spelled in
    let same_bytes = sym (callers_body new at m.0 _ _ 0 t none.0) ∙ ap (λ k. slice_range new (at + 8) (at + 8 + k)) (m.1.1 ∙ len) ∙ body in
    subst (λ x. Spelled new at (fixed x owner)) same_bytes t

-- where it stands in the image
pub found_body : {image : List ℕ} {found : Found} → HeapAccepted image → (f : IsOne image found) → (slice_range image (found.place.0 - 8 + 8) (found.place.0 - 8 + 8 + length (body_of f.chunk)) ≡ body_of f.chunk) × (length (body_of f.chunk) ≡ found.length)
found_body {image} {found} h f = let b = by_chunk _ _ (finds_spelled _ _ _ _ _ h f.finds) f.finds.named in (b.0, b.1 refl) where
  by_chunk : (live : LiveChunk) (c : Chunk) → Spelled image (found.place.0 - 8) c
      → NamedHere found.name.0 live (found.place.0 - 8) c
      → (slice_range image (found.place.0 - 8 + 8) (found.place.0 - 8 + 8 + length (body_of c)) ≡ body_of c) × (live ≡ f.live → length (body_of c) ≡ found.length)
  by_chunk live (free size) s named = absurd named
  by_chunk live (movable bytes lock owner slot) s named = (movable_body image _ bytes lock owner s.0 s.1 s.2, λ e. same_length (named.1 ∙ e) ∙ sym f.count)
  by_chunk live _ s named = (callers_body _ _ _ _ _ 0 s (fixed_owned _ _ _ named), λ e. same_length (fixed_live_is _ _ _ named ∙ e) ∙ sym f.count)

-- ---- the chunk with another length

-- it stays what it is
sized_kind : (slot at count : ℕ) (c : Chunk) → IsNotFree c → IsNotFree (with_length count c) × TiedAlike c (with_length count c) × (ManagersHere slot at c → ManagersHere slot at (with_length count c))
    × (IsCallersIfFixed at c → IsCallersIfFixed at (with_length count c)) × (lives (with_length count c ∷ []) ≡ with_length count c ∷ [])
sized_kind slot at count (free size) n = absurd n
sized_kind slot at count (movable bytes lock owner named) n = (n, refl, λ m. m, λ m. m, refl)
sized_kind slot at count (fixed bytes owner) n = (n, tt, λ m. m, λ m. m, refl)

wrote_header : (old : List ℕ) {new : List ℕ} (at : ℕ) (c : Chunk) → IsNotFree c → at + size_of c ≤ length old → new ≡ overwritten old at (header_words at (header_of c)) → WroteWithin old new at (at + 8)
wrote_header old at (free size) n inside is = absurd n
wrote_header old {new} at (movable bytes lock owner slot) n inside is =
    wrote_words old new at (length bytes) lock owner (h_offset_to at slot) inside is
wrote_header old {new} at (fixed bytes owner) n inside is = wrote_words old new at (length bytes) fixed_lock owner 0 inside is

-- ---- the writes

-- the chunk, with what is left of the free ones after it, stands in their place
pub record WasResized (old new : List ℕ) (found : Found) (count behind : ℕ) (r : RunBehind old found behind) : Type 0 where
  pub becomes : Becomes old new (r.one.finds.before ++ ((with_length count r.one.chunk ∷ gap (size_of r.one.chunk + behind - need count)) ++ r.rest))
  pub plain : WritesPlain old new
  pub heap : IsHeap new (r.one.finds.before ++ ((with_length count r.one.chunk ∷ gap (size_of r.one.chunk + behind - need count)) ++ r.rest))
  pub replaces : Replaces old new r.one.finds.before (r.one.chunk ∷ r.run) (with_length count r.one.chunk ∷ gap (size_of r.one.chunk + behind - need count)) r.rest (found.place.0 - 8)

pub resized : {old filled : List ℕ} (mid : List ℕ) {new : List ℕ} {found : Found} (count : ℕ) {behind : ℕ} → HeapAccepted old → (r : RunBehind old found behind) → need count ≤ need found.length + behind → filled ≡ overwritten old (found.place.0 + found.length) (replicate (count - found.length) 0)
    → WroteRest filled mid (found.place.0 - 8 + need count) (need found.length + behind - need count) → new ≡ overwritten mid (found.place.0 - 8) (header_words (found.place.0 - 8) (sized_header found count)) → HasHeader new (found.place.0 - 8) (sized_header found count)
    → WasResized old new found count behind r
resized {old} {filled} mid {new} {found} count {behind} h r fits filled_is wrote is has =
    let at : ℕ = found.place.0 - 8 in let one = r.one in
    let f = one.finds in let c : Chunk = one.chunk in
    let d : Chunk = with_length count c in
    let live = named_live_chunk found.name.0 at one.live c f.named in
    let facts = run_facts old found behind h r in let own = found_size old found one in
    let taken = size_of-with_length c count live in let all : ℕ = need found.length + behind in
    let left : ℕ = size_of c + behind - need count in
    let rest_is : need found.length + behind - need count ≡ left = omega arith in
    let wrote_left = subst (λ n. WroteRest filled mid (at + need count) n) rest_is wrote in
    let zeros : List ℕ = replicate (count - found.length) 0 in
    let many : length zeros ≡ count - found.length = length-replicate (count - found.length) 0 in
    let w0 = wrote_part old filled (found.place.0 + found.length) zeros filled_is (omega arith) in
    let w1 = wrote_wider old filled _ _ at (at + all) w0 (omega arith) (omega arith) in
    let w2 = rest_within filled mid (at + need count) left (at + need count) (at + all) wrote_left
    (omega arith) (omega arith) (omega arith) (omega arith) in
    let len2 = w2.len in let e = header_sized count h one in
    let now = is ∙ ap (λ x. overwritten mid at (header_words at x)) e in
    let header = subst (λ x. HasHeader new at x) e has in
    let kind = sized_kind (directory_of old) at count c live in let live_now = kind.0 in
    let w3 = wrote_header mid at d live_now (omega arith) now in let len3 = w3.len in
    let w = wrote_then old mid new at _ (wrote_then old filled mid at _ w1 (wrote_wider filled mid (at + need count) _ at (at + all) w2 (omega arith) (omega arith))) (wrote_wider mid new at (at + 8) at (at + all) w3 (omega arith) (omega arith)) in
    let same =
    SameBetween-then (at + 8) (at + 8 + count) filled mid new (wrote_apart filled mid (at + need count) _ (at + 8) (at + 8 + count) w2 (inl (omega arith))) (wrote_apart mid new at (at + 8) (at + 8) (at + 8 + count) w3 (inr (omega arith, omega arith))) in
    let place : at + 8 ≡ found.place.0 = omega arith in let was = found_body h one in
    let many_bytes = was.1 in
    let spelled =
    sized_spelled count c live (no_slots found.name.0 one.live at c f.named)
    (sized_body old at count was.0 (omega arith) (omega arith) (filled_is ∙ ap (λ n. overwritten old n zeros) (let e : found.place.0 + found.length ≡ at + 8 + length (body_of c) = omega arith in e) ∙ ap (λ n. overwritten old (at + 8 + length (body_of c)) (replicate (count - n) 0)) (sym many_bytes)) same (omega arith) (omega arith)) header in
    let end : at + all ≡ at + total (c ∷ r.run) = omega arith in
    let behind_it =
    subst (λ n. SpelledAll new n (gap left) (at + total (c ∷ r.run))) (ap (λ n. at + n) (sym taken))
    (gap_spelled _ _ _ left _ refl (omega arith) (omega arith) (omega arith) len3 w3 wrote_left) in
    let done = rewritten old new _ at one.live c r.run d (gap left) r.rest h f r.parts r.all_free
    (gap_free left) (rw end at w) (spelled, behind_it) kind.1 kind.2
    (kind.3 (finds_callers old _ one.live c at h f)) in record {
      becomes = becomes_heap old new _ done.replaces.head done.heap;
      plain = replaced_plain old new f.before (c ∷ r.run) (d ∷ gap left) r.rest at (f.chunks ∙ ap (λ cs. f.before ++ c ∷ cs) r.parts) done.heap done.replaces (λ there p. elim p [
        | inl here ↦ lives_plain new at (d ∷ []) kind.4 there (inl here)
        | inr later ↦ gap_plain filled (need count) (at + need count) left refl (omega arith) (omega arith) (omega arith) (omega arith) w3 wrote_left len2 there
            (subst (λ n. AnyPlaced (IsFreeAt there) n (gap left)) (ap (λ n. at + n) taken) later)
      ]);
      heap = done.heap;
      replaces = done.replaces;
    }

-- by what the writes were given
pub resized_by : (old filled mid new : List ℕ) (found : Found) (count behind size own gained : ℕ) (header : Header) → HeapAccepted old → (r : RunBehind old found behind) → need count ≤ need found.length + behind → size ≡ need count → own ≡ need found.length → gained ≡ count - found.length
    → header ≡ sized_header found count → filled ≡ overwritten old (found.place.0 + found.length) (replicate gained 0) → WroteRest filled mid (found.place.0 - 8 + size) (own + behind - size) → new ≡ overwritten mid (found.place.0 - 8) (header_words (found.place.0 - 8) header) → HasHeader new (found.place.0 - 8) header
    → WasResized old new found count behind r
resized_by old filled mid new found count behind size own gained header h r fits a b g e filled_is wrote is has =
    let at : ℕ = found.place.0 - 8 in
    resized mid count h r fits (filled_is ∙ ap (λ n. overwritten old (found.place.0 + found.length) (replicate n 0)) g)
    (rw b at (rw a at wrote))
    (is ∙ ap (λ x. overwritten mid at (header_words at x)) e) (rw e at has)

-- ---- shrinking

pub none_behind : (image : List ℕ) (found : Found) → IsOne image found → RunBehind image found 0
none_behind image found f = record { one = f; run = []; rest = f.finds.after; parts = refl; all_free = tt; sums = refl }

pub shrinks : (old new : List ℕ) (found : Found) (count : ℕ) → HeapAccepted old → IsOne old found
    → Resizes old new found count 0 → Shrinks old new (found.place.0 - 8) count
unfolding none_behind
shrinks old new found count h one x =
    let at : ℕ = found.place.0 - 8 in let f = one.finds in
    let c : Chunk = one.chunk in let live = named_live_chunk found.name.0 at one.live c f.named in
    let taken = size_of-with_length c count live in
    let left : size_of c + 0 - need count ≡ size_of c - size_of (with_length count c) = omega arith in
    (exchanges_parts _ _ _ _ _ c _ h live f.chunks f.there).1 (rw left at (x (none_behind _ _ one)))
