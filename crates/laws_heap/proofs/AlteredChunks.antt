-- A live chunk is altered where it stands, and a free chunk is claimed for a fixed one.
use Rattle.laws_heap.proofs.Words.{false, ◌≡◌, ℕ, ◌+◌, ◌-◌, ◌*◌, ◌^◌, ◌<◌, ◌≤◌, List, [], ◌∷◌, ◌++◌, length, Option, Some, refl, sym, ap, subst, ◌∙◌, arith, inl, inr, ◌↔◌, ◌==◌, slice_range, eq-eqb, overwritten, Chunk, free, movable, fixed, fixed_lock, need, size_of, total, is_table_by, IsLive, Spelled, SpelledAll, area_start, further_tables, BodyHere, IsCallersIfFixed, IsKnownIfFixed, ManagersHere, directory_of, IsHeap, HeapAccepted, LiveChunk, NamedHere, live_under, is_fixed_name, AllFree, place_under, place_of, Finds, lives, Becomes, with_bytes, WritesPlain}
use Rattle.laws_heap.proofs.SameLayouts.{becomes_heap}
use Rattle.laws_heap.proofs.Tests.{cond-true}
use Rattle.laws_heap.proofs.FixedNames.{fixed_live_is, fixed_owned, fixed_test}
use Rattle.laws_heap.proofs.Plain.{lives_plain, replaced_plain}
use Rattle.laws_heap.proofs.Replacements.{Replaces, replaced_heap, SameSlots, kept_ties, kept_directory}
use Rattle.laws_heap.proofs.Lives.{or_else}
use Rattle.laws_heap.proofs.Meanings.{named_once}
use Rattle.laws_heap.proofs.FreeChunks.{any_free, every_free, reads_place, unnamed, place_mid}
use Rattle.laws_heap.proofs.FoundChunks.{read_heap, finds_spelled}
use Rattle.laws_heap.proofs.Frames.{length-overwritten, slice-same, slice-overwritten-within}
use Rattle.laws_heap.proofs.Chunks.{total-append, Spelled-size, SpelledAll-end, seen-plain, plain_body, plain-movable, plain-callers}
use Rattle.laws_heap.proofs.Placed.{EveryPlaced-split}
use Rattle.laws_heap.proofs.Slots.{named_hold_none}
use Rattle.laws_heap.proofs.Writes.{WroteWithin, wrote_none, wrote_part, wrote_wider, wrote_apart, wrote_word_apart, WroteArea, area_replaces, wrote_slots}

-- ---- what is read of a chunk of a name

pub named_live : (name at : ℕ) (live : LiveChunk) (c : Chunk) (cs : List Chunk)
    → NamedHere name live at c → live_under at (c ∷ cs) name ≡ Some live
named_live name at live (free size) cs n = absurd n
named_live name at live (movable bytes lock owner slot) cs n =
    cond-true (slot == name) _ _ (eq-eqb slot name n.0) ∙ ap (λ x. some x) n.1 where
      some : LiveChunk → Option LiveChunk
      some x = Some x
named_live name at live (fixed bytes owner) cs n =
    cond-true (is_fixed_name at owner name) _ _ (fixed_test at bytes owner n)
    ∙ ap (λ x. some x) (fixed_live_is at bytes owner n) where
      some : LiveChunk → Option LiveChunk
      some x = Some x

pub named_place : (name at : ℕ) (live : LiveChunk) (c : Chunk) (cs : List Chunk)
    → NamedHere name live at c → place_under at (c ∷ cs) name ≡ Some (at + 8)
named_place name at live (free size) cs n = absurd n
named_place name at live (movable bytes lock owner slot) cs n =
    cond-true (slot == name) _ _ (eq-eqb slot name n.0)
named_place name at live (fixed bytes owner) cs n = cond-true _ _ _ (fixed_test at bytes owner n)

read_place : (image : List ℕ) (start : ℕ) (before : List Chunk) (c : Chunk) (after : List Chunk)
    (name : ℕ) (live : LiveChunk) → IsHeap image (before ++ c ∷ after) → area_start image ≡ start
    → NamedHere name live (start + total before) c
    → place_of image name ≡ Some (start + total before + 8)
read_place image start before c after name live h starts n =
    reads_place image (before ++ c ∷ after) start name h starts
    ∙ place_mid start before (c ∷ []) after name (unnamed start before name (λ y b.
    (named_once image before c after name live y h (moved starts n)).0 (rw (← starts) at b)))
    ∙ ap (λ o. or_else o (place_under (start + total before + total (c ∷ [])) after name))
    (named_place name (start + total before) live c [] n) where
      moved : area_start image ≡ start → NamedHere name live (start + total before) c
          → NamedHere name live (area_start image + total before) c
      moved e m = subst (λ (k : ℕ). NamedHere name live (k + total before) c) (sym e) m

-- what is found is in its place
pub finds_place : (image : List ℕ) (name : ℕ) (live : LiveChunk) (chunk : Chunk) (at : ℕ)
    → HeapAccepted image → Finds image name live chunk at → place_of image name ≡ Some (at + 8)
finds_place image name live chunk at h f =
    subst (λ (n : ℕ). place_of image name ≡ some (n + 8)) (sym f.there)
    (read_place image (area_start image) f.before chunk f.after name live
    (rw f.chunks at (read_heap image h)) refl (rw f.there at f.named)) where
      some : ℕ → Option ℕ
      some n = Some n

-- ---- a live chunk is altered

-- both are movable and name the same slot, or both are fixed
abbrev pub TiedAlike : Chunk → Chunk → Type 0
TiedAlike (free size) other = ⊥
TiedAlike (movable bytes lock owner slot) (free size) = ⊥
TiedAlike (movable bytes lock owner slot) (movable others count holder named) = named ≡ slot
TiedAlike (movable bytes lock owner slot) (fixed others holder) = ⊥
TiedAlike (fixed bytes owner) (free size) = ⊥
TiedAlike (fixed bytes owner) (movable others count holder named) = ⊥
TiedAlike (fixed bytes owner) (fixed others holder) = Unit {0}

alike_bodies : (c d : Chunk) (slot place at : ℕ) → TiedAlike c d
    → (BodyHere slot place at c ↔ BodyHere slot place at d)
alike_bodies (free size) d slot place at t = absurd t
alike_bodies (movable bytes lock owner own) (free size) slot place at t = absurd t
alike_bodies (movable bytes lock owner own) (movable others count holder named) slot place at t =
    (λ b. (t ∙ b.0, b.1), λ b. (sym t ∙ b.0, b.1))
alike_bodies (movable bytes lock owner own) (fixed others holder) slot place at t = absurd t
alike_bodies (fixed bytes owner) (free size) slot place at t = absurd t
alike_bodies (fixed bytes owner) (movable others count holder named) slot place at t = absurd t
alike_bodies (fixed bytes owner) (fixed others holder) slot place at t = (λ b. b, λ b. b)

-- with free chunks after it, which become other free ones
pub altered_run : (old new : List ℕ) (before : List Chunk) (c : Chunk) (run : List Chunk)
    (d : Chunk) (left after : List Chunk) (at : ℕ) → IsHeap old (before ++ ((c ∷ run) ++ after))
    → Replaces old new before (c ∷ run) (d ∷ left) after at → SameSlots old new → AllFree run
    → AllFree left → TiedAlike c d
    → (ManagersHere (directory_of old) at c → ManagersHere (directory_of old) at d)
    → IsCallersIfFixed at d → IsHeap new (before ++ ((d ∷ left) ++ after))
altered_run old new before c run d left after at h r slots free_run free_left alike kept callers =
    replaced_heap old new before (c ∷ run) (d ∷ left) after at h r record {
      ties = kept_ties old new before (c ∷ run) (d ∷ left) after at h r slots (λ slot place. (
        λ b. elim b [
          | inl own ↦ inl ((alike_bodies c d slot place at alike).0 own)
          | inr more ↦ absurd (any_free (BodyHere slot place) (λ k size n. n)
              (at + size_of c) run free_run more)
        ],
        λ b. elim b [
          | inl own ↦ inl ((alike_bodies c d slot place at alike).1 own)
          | inr more ↦ absurd (any_free (BodyHere slot place) (λ k size n. n)
              (at + size_of d) left free_left more)
        ],
      ));
      callers = (callers, every_free (at + size_of d) left free_left);
      directory = kept_directory old new before (c ∷ run) (d ∷ left) after at h r
          (λ m. elim m [
            | inl own ↦ inl (kept own)
            | inr more ↦ absurd (any_free (ManagersHere (directory_of old)) (λ k size n. n)
                (at + size_of c) run free_run more)
          ]);
    }

-- ---- a free chunk is claimed for a fixed one

pub claimed_fixed : (old new : List ℕ) (before after : List Chunk) (at size : ℕ) (bytes : List ℕ)
    (owner : ℕ) → IsHeap old (before ++ free size ∷ after)
    → Replaces old new before (free size ∷ []) (fixed bytes owner ∷ []) after at → SameSlots old new
    → 0 < owner → owner < 15 → IsHeap new (before ++ fixed bytes owner ∷ after)
claimed_fixed old new before after at size bytes owner h r slots some_owner most_owner =
    replaced_heap old new before (free size ∷ []) (fixed bytes owner ∷ []) after at h r record {
      ties = kept_ties old new before (free size ∷ []) (fixed bytes owner ∷ []) after at h r slots
          (λ slot place. (
            λ b. elim b [ inl own ↦ absurd own | inr none ↦ absurd none ],
            λ b. elim b [ inl own ↦ absurd own | inr none ↦ absurd none ],
          ));
      callers = ((some_owner, most_owner), tt);
      directory =
          kept_directory old new before (free size ∷ []) (fixed bytes owner ∷ []) after at h r
          (λ m. elim m [ inl own ↦ absurd own | inr none ↦ absurd none ]);
    }

-- ---- by what was written

-- what stands in place of a chunk that was found and the free ones after it
pub record Rewritten (old new : List ℕ) (before : List Chunk) (c : Chunk) (run : List Chunk) (d : Chunk) (left rest : List Chunk) (at : ℕ) : Type 0 where
  pub replaces : Replaces old new before (c ∷ run) (d ∷ left) rest at
  pub heap : IsHeap new (before ++ ((d ∷ left) ++ rest))

-- Bytes of the chunk and of free ones directly after it were written, and now another chunk of its
-- name stands there, with free ones after it.
pub rewritten : (old new : List ℕ) (name at : ℕ) (live : LiveChunk) (c : Chunk) (run : List Chunk)
    (d : Chunk) (left rest : List Chunk) → HeapAccepted old → (f : Finds old name live c at)
    → f.after ≡ run ++ rest → AllFree run → AllFree left
    → WroteWithin old new at (at + total (c ∷ run))
    → SpelledAll new at (d ∷ left) (at + total (c ∷ run)) → TiedAlike c d
    → (ManagersHere (directory_of old) at c → ManagersHere (directory_of old) at d)
    → IsCallersIfFixed at d → Rewritten old new f.before c run d left rest at
rewritten old new name at live c run d left rest h f parts free_run free_left w spelled alike kept
    callers =
    let there : at ≡ area_start old + total f.before = f.there in
    let heap : IsHeap old (f.before ++ ((c ∷ run) ++ rest)) =
    rw (f.chunks ∙ ap (λ cs. f.before ++ c ∷ cs) parts) at (read_heap old h) in
    let sizes = SpelledAll-end old (area_start old) _ (length old) heap.tiles.area in
    let sum = total-append f.before ((c ∷ run) ++ rest) in
    let more = total-append (c ∷ run) rest in
    let least = (Spelled-size old at c (finds_spelled old name live c at h f)).0 in
    let area : WroteArea old new at (at + total (c ∷ run)) = record {
      mid = new;
      slot = at;
      area = w;
      word = wrote_none new at (at + 4);
      is_slot = inl refl;
      there = omega arith;
      fits = omega arith;
    } in
    let none = named_hold_none old _ c run rest name live heap (rw there at f.named) free_run in
    let r = area_replaces old new _ _ _ rest at heap.tiles none there (omega arith) area spelled in
    let slots = wrote_slots old new f.before (c ∷ run) rest at heap.tiles none there w in
    record {
      replaces = r;
      heap = altered_run old new f.before c run d left rest at heap r slots free_run free_left alike
          kept callers;
    }

-- bytes of the chunk alone were written, and now another chunk of its size and its name stands
-- there
pub altered_write : (old new : List ℕ) (name at : ℕ) (live : LiveChunk) (c d : Chunk)
    → HeapAccepted old → (f : Finds old name live c at) → WroteWithin old new at (at + size_of c)
    → Spelled new at d → size_of d ≡ size_of c → TiedAlike c d
    → (ManagersHere (directory_of old) at c → ManagersHere (directory_of old) at d)
    → IsCallersIfFixed at d → lives (d ∷ []) ≡ d ∷ []
    → Becomes old new (f.before ++ d ∷ f.after) × WritesPlain old new
altered_write old new name at live c d h f w spelled sizes alike kept callers alive =
    let whole : at + size_of c ≡ at + total (c ∷ []) = omega arith in
    let r = rewritten old new name at live c [] d [] f.after h f refl tt tt (rw whole at w)
    (spelled, omega arith) alike kept callers in (
      becomes_heap old new (f.before ++ d ∷ f.after) r.replaces.head r.heap,
      replaced_plain old new f.before (c ∷ []) (d ∷ []) f.after at f.chunks r.heap r.replaces
          (lives_plain new at (d ∷ []) alive),
    )

-- a fixed chunk that is found is a caller's
pub finds_callers : (image : List ℕ) (name : ℕ) (live : LiveChunk) (c : Chunk) (at : ℕ)
    → HeapAccepted image → Finds image name live c at → IsCallersIfFixed at c
finds_callers image name live c at h f =
    let heap : IsHeap image (f.before ++ c ∷ f.after) = rw f.chunks at (read_heap image h) in
    by c f.named (rw (← f.there) at (EveryPlaced-split (IsKnownIfFixed (further_tables image))
    (area_start image) f.before (c ∷ f.after) heap.fixed_are_known).1.0) where
      by : (d : Chunk) → NamedHere name live at d → IsKnownIfFixed (further_tables image) at d
          → IsCallersIfFixed at d
      by (free size) n k = tt
      by (movable bytes lock owner slot) n k = tt
      by (fixed bytes owner) n k = (fixed_owned at bytes owner n, k.0)

-- a body with a part written over
pub overwritten_body : (old new : List ℕ) (at k : ℕ) (bytes part : List ℕ) (lock owner h_offset : ℕ)
    → is_table_by lock owner ≡ false → IsLive old at bytes lock owner h_offset
    → k + length part ≤ length bytes → new ≡ overwritten old (at + 8 + k) part
    → IsLive new at (overwritten bytes k part) lock owner h_offset
    × WroteWithin old new at (at + need (length bytes))
overwritten_body old new at k bytes part lock owner h_offset plain s within is =
    let inside = s.inside in
    let len = length-overwritten bytes k part within in
    let w = wrote_part old new (at + 8 + k) part is (omega arith) in
    let same_len = w.len in (
      record {
        first_word = wrote_word_apart old new (at + 8 + k) (at + 8 + k + length part) at w (inl
            (omega arith)) ∙ s.first_word ∙ ap (λ n. (need n - 8 - n) * 2 ^ 24 + need n) (sym len);
        size_fits = rw len s.size_fits;
        second_word = wrote_word_apart old new _ _ (at + 4) w (inl (omega arith)) ∙ s.second_word;
        lock_fits = s.lock_fits;
        owner_fits = s.owner_fits;
        h_offset_fits = s.h_offset_fits;
        body = seen-plain lock owner _ plain
            ∙ ap (λ (n : ℕ). slice_range new (at + 8) (at + 8 + n)) len
            ∙ ap (λ (x : List ℕ). slice_range x (at + 8) (at + 8 + length bytes)) is
            ∙ slice-overwritten-within old (at + 8) k (length bytes) part within (omega arith)
            ∙ ap (λ x. overwritten x k part) (plain_body old at bytes lock owner h_offset plain s);
        inside = rw (len, same_len) inside;
      },
      wrote_wider old new (at + 8 + k) _ at _ w (omega arith) (omega arith),
    )

-- part of a body is written over
pub body_written : (old new : List ℕ) (name at k : ℕ) (live : LiveChunk) (c : Chunk) (part : List ℕ)
    → HeapAccepted old → (f : Finds old name live c at) → k + length part ≤ length live.bytes
    → new ≡ overwritten old (at + 8 + k) part
    → Becomes old new (f.before ++ with_bytes k part c ∷ f.after) × WritesPlain old new
body_written old new name at k live (free size) part h f within is = absurd f.named
body_written old new name at k live (movable bytes lock owner slot) part h f within is =
    let e : record { bytes = bytes; lock = lock; owner = owner } ≡ live = f.named.1 in
    let fits : k + length part ≤ length bytes = rw (← e) at within in
    let s = finds_spelled old name live (movable bytes lock owner slot) at h f in
    let b = overwritten_body old new at k bytes part lock owner s.0
    (plain-movable lock owner s.2) s.1 fits is in
    altered_write old new name at live _ _ h f b.1 (s.0, b.0, s.2, s.3, s.4)
    (ap need (length-overwritten bytes k part fits)) refl (λ m. m) tt refl
body_written old new name at k live (fixed bytes owner) part h f within is =
    let fits : k + length part ≤ length bytes = rw (← (fixed_live_is at _ _ f.named)) at within in
    let s = finds_spelled old name live (fixed bytes owner) at h f in
    let b = overwritten_body old new at k bytes part fixed_lock owner 0
    (plain-callers fixed_lock owner (fixed_owned at bytes owner f.named)) s fits is in
    altered_write old new name at live (fixed bytes owner) (fixed (overwritten bytes k part) owner)
    h f b.1 b.0 (ap need (length-overwritten bytes k part fits)) tt (λ m. m)
    (finds_callers old name live (fixed bytes owner) at h f) refl

-- ---- a header is written over another

-- the body after a header stays
pub body_stays : (old new : List ℕ) (at : ℕ) (bytes others : List ℕ)
    (lock owner h_offset count holder way : ℕ) → is_table_by lock owner ≡ false
    → is_table_by count holder ≡ false → IsLive old at bytes lock owner h_offset
    → IsLive new at others count holder way → length others ≡ length bytes
    → WroteWithin old new at (at + 8) → others ≡ bytes
body_stays old new at bytes others lock owner h_offset count holder way plain too s t len w =
    let inside = s.inside in
    let same_len = w.len in
    sym (plain_body new at others count holder way too t)
    ∙ ap (λ (n : ℕ). slice_range new (at + 8) (at + 8 + n)) len
    ∙ sym (slice-same (at + 8) (at + 8 + length bytes) old new (wrote_apart old new at (at + 8) (at
    + 8) (at + 8 + length bytes) w (inr (omega arith, omega arith))) (omega arith) (omega arith))
    ∙ plain_body old at bytes lock owner h_offset plain s

-- of a movable chunk with the same slot; the directory's stays the manager's
pub movable_relabelled : (old new : List ℕ) (name at : ℕ) (live : LiveChunk) (bytes others : List ℕ)
    (lock owner slot count holder : ℕ) → HeapAccepted old
    → (f : Finds old name live (movable bytes lock owner slot) at)
    → (slot ≡ directory_of old → owner ≡ 0 → holder ≡ 0) → WroteWithin old new at (at + 8)
    → Spelled new at (movable others count holder slot) → length others ≡ length bytes
    → Becomes old new (f.before ++ movable bytes count holder slot ∷ f.after) × WritesPlain old new
movable_relabelled old new name at live bytes others lock owner slot count holder h f kept w t len =
    let s = finds_spelled old name live (movable bytes lock owner slot) at h f in
    let same = body_stays old new at bytes others lock owner s.0 count holder t.0
    (plain-movable lock owner s.2) (plain-movable count holder t.2) s.1 t.1 len w in
    altered_write old new name at live (movable bytes lock owner slot) _ h f
    (wrote_wider old new at (at + 8) at (at + need (length bytes)) w (omega arith) (omega arith))
    (rw same at t) refl refl (λ m. (m.0, kept m.0 m.1)) tt refl

-- of a fixed chunk
pub fixed_relabelled : (old new : List ℕ) (name at : ℕ) (live : LiveChunk) (bytes others : List ℕ)
    (owner holder : ℕ) → HeapAccepted old → (f : Finds old name live (fixed bytes owner) at)
    → 0 < holder → holder < 15 → WroteWithin old new at (at + 8)
    → Spelled new at (fixed others holder) → length others ≡ length bytes
    → Becomes old new (f.before ++ fixed bytes holder ∷ f.after) × WritesPlain old new
fixed_relabelled old new name at live bytes others owner holder h f some_owner most_owner w t len =
    let s = finds_spelled old name live (fixed bytes owner) at h f in
    let same = body_stays old new at bytes others fixed_lock owner 0 fixed_lock holder 0
    (plain-callers fixed_lock owner (fixed_owned at bytes owner f.named))
    (plain-callers fixed_lock holder some_owner) s t len w in
    altered_write old new name at live (fixed bytes owner) (fixed bytes holder) h f
    (wrote_wider old new at (at + 8) at (at + need (length bytes)) w (omega arith) (omega arith))
    (rw same at t) refl tt (λ m. m) (some_owner, most_owner) refl
