-- The word `next` of a table is written: which chunks are spelled then.
use Rattle.laws_heap.proofs.Words.{◌≡◌, ℕ, ◌+◌, ◌-◌, ◌*◌, ◌^◌, ◌≤◌, List, [], ◌∷◌, length, take, drop, refl, sym, ap, subst, ◌∙◌, arith, inl, inr, length-take, length-drop, slice_range, Chunk, free, movable, fixed, need, size_of, total, seen, IsLive, Spelled, SpelledAll, AnyPlaced, Table, TableHere}
use Rattle.laws_heap.proofs.Chunks.{length-seen, Spelled-size, SpellsAgain, SameWords, SameSeconds, spells_same, words_then}
use Rattle.laws_heap.proofs.Writes.{WroteWithin, wrote_apart, wrote_word_apart}
use Rattle.laws_heap.proofs.FreeCounts.{table_low}
use Rattle.laws_heap.proofs.AlikeTables.{AlikeChunks, alike_same}

-- Chunks that begin at an offset are spelled there again, but for the bytes of tables.
pub record SpellsAlike (old new : List ℕ) (at : ℕ) (cs ds : List Chunk) : Type 0 where
  pub spelled : SpelledAll new at ds (at + total cs)
  pub alike : AlikeChunks cs ds
  pub words : SameWords old new at cs
  pub seconds : SameSeconds old new at cs

pub spells_alike : (old new : List ℕ) (at : ℕ) (cs : List Chunk) → SpellsAgain old new at cs
    → SpellsAlike old new at cs cs
spells_alike old new at cs s =
    record { spelled = s.spelled; alike = alike_same cs; words = s.words; seconds = s.seconds }

pub alike_then : (old mid new : List ℕ) (at : ℕ) (cs ds : List Chunk) → SpellsAgain old mid at cs
    → SpellsAlike mid new at cs ds → SpellsAlike old new at cs ds
alike_then old mid new at cs ds first second = record {
  spelled = second.spelled;
  alike = second.alike;
  words = words_then old mid new at cs first.words second.words;
  seconds = λ there f. second.seconds there f ∙ first.seconds there f;
}

-- ---- one table

-- the bytes that it has then
relinked_bytes : (new : List ℕ) (at n : ℕ) → at + 8 + n ≤ length new
    → length (seen 15 0 (slice_range new (at + 8) (at + 8 + n))) ≡ n
relinked_bytes new at n inside =
    let all = length-seen 15 0 (slice_range new (at + 8) (at + 8 + n)) in
    let body : length (take (at + 8 + n - (at + 8)) (drop (at + 8) new)) ≡ n =
    simp (length-take, length-drop) (omega arith) in
    all ∙ body

relinked_table : (old new : List ℕ) (at : ℕ) (bytes : List ℕ)
    → WroteWithin old new (at + 8) (at + 12) → 4 ≤ length bytes → IsLive old at bytes 15 0 0
    → (more : List ℕ) × (length more ≡ length bytes) × IsLive new at more 15 0 0
relinked_table old new at bytes w most s =
    let inside = s.inside in
    let len = w.len in
    let n : ℕ = length bytes in
    let more : List ℕ = seen 15 0 (slice_range new (at + 8) (at + 8 + n)) in
    let long : length more ≡ n = relinked_bytes new at n (omega arith) in
    let first = wrote_word_apart old new (at + 8) (at + 12) at w (inl (omega arith)) in
    let second = wrote_word_apart old new (at + 8) (at + 12) (at + 4) w (inl (omega arith)) in
    let fits = s.size_fits in (
      more,
      long,
      record {
        first_word = first ∙ s.first_word ∙ ap (λ k. (need k - 8 - k) * 2 ^ 24 + need k) (sym long);
        size_fits = omega arith;
        second_word = second ∙ s.second_word;
        lock_fits = s.lock_fits;
        owner_fits = s.owner_fits;
        h_offset_fits = s.h_offset_fits;
        body = ap (λ (k : ℕ). seen 15 0 (slice_range new (at + 8) (at + 8 + k))) long;
        inside = omega arith;
      },
    )

-- ---- among others

-- they end within the image
spelled_inside : (image : List ℕ) (at : ℕ) (cs : List Chunk) (end : ℕ) → SpelledAll image at cs end
    → at ≤ length image → end ≤ length image
spelled_inside image at [] end s inside = let e : at ≡ end = s in omega arith
spelled_inside image at (c ∷ cs) end s inside =
    spelled_inside image (at + size_of c) cs end s.1 (Spelled-size image at c s.0).1

-- the chunks of which one is that table
pub record Relinks (old new : List ℕ) (at : ℕ) (cs : List Chunk) : Type 0 where
  pub chunks : List Chunk
  pub alike : SpellsAlike old new at cs chunks

pub relinked : (old new : List ℕ) (at word : ℕ) (table : Table) (cs : List Chunk)
    → table.place ≡ word → WroteWithin old new word (word + 4)
    → SpelledAll old at cs (at + total cs) → AnyPlaced (TableHere table) at cs
    → Relinks old new at cs
relinked old new at word table [] there w s t = absurd t
relinked old new at word table (c ∷ cs) there w s t =
    let size = Spelled-size old at c s.0 in
    let e : at + (size_of c + total cs) ≡ at + size_of c + total cs = omega arith in
    let spelled : SpelledAll old (at + size_of c) cs (at + size_of c + total cs) = rw e at s.1 in
    elim t [
      | inl own ↦ first c own s.0 spelled
      | inr later ↦
          after later (relinked old new (at + size_of c) word table cs there w spelled later)
    ] where
      len : length new ≡ length old
      len = w.len

      first : (d : Chunk) → TableHere table at d → Spelled old at d
          → SpelledAll old (at + size_of d) cs (at + size_of d + total cs)
          → Relinks old new at (d ∷ cs)
      first (free size) own sp rest = absurd own
      first (movable bytes lock owner slot) own sp rest = absurd own
      first (fixed bytes owner) own sp rest =
          let place = own.1 in
          let here : word ≡ at + 8 = omega arith in
          let n : ℕ = length bytes in
          let many = own.2 in
          let e : at + 8 + 4 ≡ at + 12 = omega arith in
          let written : WroteWithin old new (at + 8) (at + 12) =
          subst (WroteWithin old new (at + 8)) e
          (subst (λ k. WroteWithin old new k (k + 4)) here w) in
          let r = relinked_table old new at bytes written (omega arith)
          (subst (λ v. IsLive old at bytes 15 v 0) own.0 sp) in
          let long : length r.0 ≡ n = r.1 in
          let end = spelled_inside old (at + need n) cs (at + need n + total cs) rest
          (Spelled-size old at (fixed bytes owner) sp).1 in
          let again = spells_same old new (at + need n) cs (wrote_apart old new (at + 8) (at + 12)
          (at + need n) (at + need n + total cs) written (inr (omega arith, end))) len rest in
          let ends : at + need n + total cs ≡ at + (need n + total cs) = omega arith in
          let word_same = wrote_word_apart old new (at + 8) _ at written (inl (omega arith)) in
          record {
            chunks = fixed r.0 0 ∷ cs;
            alike = record {
              spelled = (
                r.2,
                subst (λ k. SpelledAll new (at + need k) cs (at + (need n + total cs))) (sym long)
                    (subst (λ k. SpelledAll new (at + need n) cs k) ends again.spelled),
              );
              alike = (
                inr record {
                  old = bytes;
                  new = r.0;
                  was = ap (fixed bytes) own.0;
                  is = refl;
                  long = long;
                },
                alike_same cs,
              );
              words = (word_same, again.words);
              seconds =
                  λ k f. elim f [ inl none ↦ absurd none | inr behind ↦ again.seconds k behind ];
            };
          }

      after : AnyPlaced (TableHere table) (at + size_of c) cs → Relinks old new (at + size_of c) cs
          → Relinks old new at (c ∷ cs)
      after later r =
          let size = Spelled-size old at c s.0 in
          let least = size.0 in
          let low = table_low table (at + size_of c) cs later in
          let apart =
          wrote_apart old new word (word + 4) at (at + size_of c) w (inl (omega arith)) in
          let e : at + size_of c ≡ at + (size_of c + 0) = omega arith in
          let one = spells_same old new at (c ∷ []) (rw e at apart) len (s.0, e) in
          let ends : at + size_of c + total cs ≡ at + (size_of c + total cs) = omega arith in
          record {
            chunks = c ∷ r.chunks;
            alike = record {
              spelled = (one.spelled.0, rw ends at r.alike.spelled);
              alike = (inl refl, r.alike.alike);
              words = (one.words.0, r.alike.words);
              seconds = λ k f. elim f [
                | inl own ↦ one.seconds k (inl own)
                | inr behind ↦ r.alike.seconds k behind
              ];
            };
          }
