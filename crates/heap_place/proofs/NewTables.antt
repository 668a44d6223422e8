-- A free chunk becomes a table, which is added to the chain.
use Rattle.heap_place.proofs.Words.{true, ◌≡◌, ℕ, ◌+◌, ◌-◌, ◌*◌, ◌^◌, List, [], ◌∷◌, ◌++◌, length, take, drop, replicate, refl, sym, ap, subst, ◌∙◌, arith, inl, inr, slice_range, length-replicate, u32_bytes, overwritten, Chunk, free, fixed_lock, need, Spelled, area_start, is_chained, HeapAccepted, Tiles, IsFreeAt, WritesPlain, slice-overwritten, chunks_of-tiled, replaced_total, same_start, wrote_part, wrote_wider, wrote_then, wrote_word_apart, free_word, lives_plain, middle_plain, plain_then, HasHeader, header_words, IsFreeChunk, KeepsFree, ButAt, Any}
use Rattle.heap_model.specs.Chunk.{seen}
use Rattle.heap_model.specs.MoreTables.{last_next, PutsTable}
use Rattle.laws_heap.proofs.AlikeTables.{alike_back, any_alike, free_tells}
use Rattle.laws_heap.proofs.Relinked.{SpellsAlike}
use Rattle.laws_heap.proofs.AddedTables.{stays_start}
use Rattle.laws_heap.proofs.MoreTables.{table_chunk, WritesTable, LaysTable, lays_table}
use Rattle.chunk_format.specs.declared.header.Header.TheVariants as headers
use Rattle.heap_place.proofs.FoundLaws.{heap_in_parts}
use Rattle.heap_place.proofs.KeepLaws.{keeps_tiled, other_apart}
use Rattle.heap_place.proofs.CutLaws.{cut_facts, header_fixed, wrote_words}

-- ---- the table that is written

seen_zeros : seen 15 0 (replicate 64 0) ≡ replicate 64 0
unfolding seen
seen_zeros = refl

pub table_written : {old h z : List ℕ} {at : ℕ} → HeapAccepted old → is_chained old ≡ true → (r : IsFreeChunk old at 72) → h ≡ overwritten old at (header_words at (headers.Fixed 64 0)) → HasHeader h at (headers.Fixed 64 0) → z ≡ overwritten h (at + 8) (replicate 64 0)
    → WritesTable old z r.before r.after at
table_written {old} {h} {z} {at} accepted chained r h_is header z_is =
    let facts = cut_facts accepted r in let inside = facts.0 in
    let zeros : length (replicate {A = ℕ} 64 0) ≡ 64 = length-replicate {A = ℕ} 64 0 in
    let head = wrote_words old h at 64 fixed_lock 0 0 inside h_is in
    let body = wrote_part h z (at + 8) (replicate 64 0) z_is (omega arith) in
    let part = ap (λ x. take (at + 8 + 64 - (at + 8)) (drop (at + 8) x)) z_is ∙ slice-overwritten h _ _ 64 zeros (omega arith) in
    let m = header_fixed 64 0 header.chunk header.header_is in
    let s = subst (λ c. Spelled h at c) m.1.0 header.spelled in
    let many : length m.0 ≡ 64 = m.1.1 in
    let same : length (replicate {A = ℕ} 64 0) ≡ length m.0 = zeros ∙ sym many in
    let first = wrote_word_apart h z _ _ at body (inl (omega arith)) in
    let second = wrote_word_apart h z _ _ _ body (inl (omega arith)) in record {
      chained = chained;
      heap = heap_in_parts old (r.before ++ free 72 ∷ r.after) accepted r.chunks;
      there = r.there;
      wrote = wrote_then old h z at _ (wrote_wider old h at _ at _ head (omega arith) (omega arith))
          (wrote_wider h z _ _ at _ body (omega arith) (omega arith));
      spelled = record {
        first_word = first ∙ s.first_word ∙ ap (λ n. (need n - 8 - n) * 2 ^ 24 + need n) (sym same);
        size_fits = omega arith;
        second_word = second ∙ s.second_word;
        lock_fits = omega arith;
        owner_fits = omega arith;
        h_offset_fits = omega arith;
        body = ap (seen 15 0) (ap (λ n. slice_range z (at + 8) (at + 8 + n)) zeros ∙ part) ∙ seen_zeros;
        inside = omega arith;
      };
      zeros = part;
    }

-- ---- free chunks, while tables change

alike_keeps : {old new : List ℕ} {cs ds : List Chunk} → Tiles old cs → Tiles new ds → area_start new ≡ area_start old → SpellsAlike old new (area_start old) cs ds → KeepsFree Any old new
alike_keeps {old} {new} {cs} {ds} t u start s there any b =
    let found = rw (chunks_of-tiled old cs t) at b in record {
      begins = rw (← start) at (rw (← (chunks_of-tiled new ds u)) at (any_alike (IsFreeAt there) (free_tells there) (area_start old) cs ds s.alike found));
      first = free_word old new there (area_start old) cs s.words found;
      second = s.seconds there found;
    }

alike_plain : {old new : List ℕ} {cs ds : List Chunk} → Tiles old cs → Tiles new ds → area_start new ≡ area_start old → SpellsAlike old new (area_start old) cs ds → WritesPlain old new
alike_plain {old} {new} {cs} {ds} t u start s there b =
    let found = rw (chunks_of-tiled new ds u) at (rw start at b) in
    let was = any_alike _ (free_tells there) _ ds cs (alike_back cs ds s.alike) found in
    inr (rw (← (chunks_of-tiled old cs t)) at was, free_word old new there _ cs s.words was)

-- ---- together

-- what the three writes leave
pub record TableClaimed (old new : List ℕ) (at : ℕ) : Type 0 where
  pub puts : PutsTable old new (at + 8)
  pub keeps : KeepsFree (ButAt at) old new
  pub plain : WritesPlain old new

pub table_lays : {old h z new : List ℕ} {at : ℕ} → HeapAccepted old → is_chained old ≡ true → (r : IsFreeChunk old at 72) → h ≡ overwritten old at (header_words at (headers.Fixed 64 0)) → HasHeader h at (headers.Fixed 64 0) → z ≡ overwritten h (at + 8) (replicate 64 0)
    → new ≡ overwritten z (last_next z) (u32_bytes (at + 8))
    → LaysTable old z new r.before r.after at
table_lays accepted chained r h_is header z_is new_is = record { first = table_written accepted chained r h_is header z_is; word = new_is }

pub table_claimed : {old z new : List ℕ} {at : ℕ} → (r : IsFreeChunk old at 72)
    → LaysTable old z new r.before r.after at → TableClaimed old new at
table_claimed {old} {z} {new} {at} r l =
    let d = lays_table old z new r.before r.after at l in
    let start = stays_start z new d.added.head in
    let first = keeps_tiled r.chunks d.tiles d.replaces in
    let second = alike_keeps d.tiles d.added.tiles start d.added.alike in record {
      puts = d.puts;
      keeps = λ there apart b.
          let one = first there (other_apart at 72 there apart) b in
          let two = second there tt one.begins in
          record { begins = two.begins; first = two.first ∙ one.first; second = two.second ∙ one.second };
      plain = plain_then old z new
          (middle_plain old z r.before (free 72 ∷ []) (table_chunk ∷ []) r.after at r.chunks d.tiles (same_start old z d.replaces.head) d.replaces.there (replaced_total old z r.before (free 72 ∷ []) (table_chunk ∷ []) r.after at d.replaces)
          d.replaces.front.words d.replaces.back.words (lives_plain z at (table_chunk ∷ []) refl))
          (alike_plain d.tiles d.added.tiles start d.added.alike);
    }
