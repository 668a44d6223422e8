-- Where second words of free chunks alone were written, chunks and room are where they were.
use Rattle.heap_place.proofs.Words.{◌≡◌, ◌≢◌, ℕ, ◌+◌, ◌^◌, ◌<◌, List, refl, sym, ap, ◌∙◌, arith, u32_bytes, overwritten, Chunk, total, area_start, HeapAccepted, chunks_of, merged, Becomes, IsSpot, frame_start, frame_then, same_frame, plain_same, Found, RunBehind, Resizes, class_count, IsOfClass, IsFreeOf, second_of, AreLists, HasLists, ButAt, Outside, IsFreeChunk, Links, CutsRoom, SameChunks, LeadsTo}
use Rattle.heap_place.proofs.ListLaws.{lists_weaker}
use Rattle.heap_place.proofs.KeepLaws.{others_outside, free_there, begins_there, linked, links_plain, links_chunk}
use Rattle.heap_place.proofs.SpliceLaws.{splice_lists, not_listed, looked_free}
use Rattle.heap_place.proofs.TakeLaws.{begun_chunk}

pub no_words : {old : List ℕ} → HeapAccepted old → SameChunks old old
no_words {old} h = record { frame = same_frame old h; chunks = refl; plain = plain_same old }

pub one_word : {old new : List ℕ} {at word : ℕ} → Links old new at word → SameChunks old new
one_word {old} {new} {at} {word} l = record { frame = l.frame; chunks = l.chunks; plain = links_plain old new at word l }

alike_at : {old new : List ℕ} {at : ℕ} (before : List Chunk) → SameChunks old new
    → at ≡ area_start old + total before → at ≡ area_start new + total before
alike_at {old} {new} before s there = there ∙ ap (λ n. n + total before) (sym (frame_start old new s.frame))

pub alike_chunk : {old new : List ℕ} {at size : ℕ} → SameChunks old new → IsFreeChunk old at size
    → IsFreeChunk new at size
alike_chunk s f = record { before = f.before; after = _; chunks = s.chunks ∙ f.chunks; there = alike_at _ s f.there }

pub alike_spot : (old new : List ℕ) (at size : ℕ) → SameChunks old new → IsSpot old at size
    → IsSpot new at size
alike_spot old new at size s r = record { before = r.before; run = r.run; after = _; chunks = s.chunks ∙ r.chunks; all_free = r.all_free; there = alike_at _ s r.there; sums = r.sums }

pub alike_cuts : {old mid : List ℕ} (new : List ℕ) (at room size : ℕ) → SameChunks old mid
    → CutsRoom mid new at room size → CutsRoom old new at room size
unfolding alike_spot
alike_cuts {old} {mid} new at room size s cuts r = cuts (alike_spot old mid at room s r)

pub alike_becomes : {old mid new : List ℕ} → SameChunks old mid → Becomes mid new (chunks_of mid)
    → Becomes old new (chunks_of old)
alike_becomes {old} {mid} {new} s b = record { frame = frame_then old mid new s.frame b.frame; layout = b.layout ∙ ap merged s.chunks }

-- ---- a chunk that was found, and the free ones after it

pub alike_behind : (old new : List ℕ) (found : Found) (behind : ℕ) → SameChunks old new
    → RunBehind old found behind → RunBehind new found behind
alike_behind old new found behind s r =
    let o = r.one in let f = o.finds in record {
      one = record {
        live = o.live;
        chunk = o.chunk;
        finds = record { before = f.before; after = _; chunks = s.chunks ∙ f.chunks; there = alike_at _ s f.there; named = f.named };
        behind_header = o.behind_header;
        name_is = o.name_is;
        count = o.count;
        lock_is = o.lock_is;
        owner_is = o.owner_is;
      };
      run = r.run;
      rest = r.rest;
      parts = r.parts;
      all_free = r.all_free;
      sums = r.sums;
    }

pub alike_resizes : (old mid new : List ℕ) (found : Found) (count behind : ℕ) → SameChunks old mid
    → Resizes mid new found count behind → Resizes old new found count behind
unfolding alike_behind
alike_resizes old mid new found count behind s x r =
    let b = x (alike_behind old mid found behind s r) in
    record { frame = frame_then old mid new s.frame b.frame; layout = b.layout }

-- ---- a chunk that is taken out of its list

pub chunk_of_class : {image : List ℕ} {class at size : ℕ} → HeapAccepted image
    → IsFreeChunk image at size → IsOfClass class size → IsFreeOf image class at
chunk_of_class {image} {at} {size} h f of_class =
    record {
      begins = begins_there f;
      of_class = rw (← (free_there image at size h f).size_field) at of_class;
      positive = omega arith;
    }

-- what is not that chunk lies outside of it
pub taken_outside : {old new heads : List ℕ} {at size : ℕ} → SameChunks old new
    → IsFreeChunk old at size → AreLists (ButAt at) new heads → AreLists (Outside at size) new heads
taken_outside {new} {size} s f lists =
    let g = alike_chunk s f in
    lists_weaker _ _ new _ (λ x b apart. others_outside _ size _ x s.frame.accepted g.chunks g.there b apart) lists

pub linked_past : {old new heads : List ℕ} {class before at word : ℕ} → HeapAccepted old → HasLists old heads → class < class_count → LeadsTo old heads class before at → IsFreeOf old class at → before ≢ 0 → word ≡ second_of old at → word < 2 ^ 32
    → new ≡ overwritten old (before + 4) (u32_bytes word)
    → SameChunks old new × AreLists (ButAt at) new heads
linked_past {before} {word} h lists below leads f some word_is small is =
    let k = begun_chunk before h (looked_free leads.looking some).begins in
    let l = linked word h k small is in (
      one_word l,
      splice_lists lists below leads.looking f.positive (leads.next some) some l (begins_there (links_chunk l k)) word_is,
    )

-- nothing leads to it
pub linked_nowhere : {image heads : List ℕ} {class before at : ℕ} → HasLists image heads → class < class_count → LeadsTo image heads class before at → IsFreeOf image class at → before ≡ 0 → AreLists (ButAt at) image heads
linked_nowhere {at} lists below leads f none = not_listed _ _ _ at lists below (rw none at leads.looking) f.of_class
