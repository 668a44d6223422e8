-- Laws of images that have exactly the chunks of a list.
use Rattle.heap_compact.proofs.Words.{◌≡◌, ℕ, List, ap, ◌∙◌, Chunk, area_start, IsHeap, HeapAccepted, chunks_of, merged, Becomes, WritesPlain, BecomesExactly, SameChunks, chunks_of-tiled, SameHead, frame_of, same_frame, frame_then, becomes_start, plain_same, plain_then}

pub exactly_heap : {old new : List ℕ} {cs : List Chunk} → SameHead old new → IsHeap new cs
    → WritesPlain old new → BecomesExactly old new cs
exactly_heap same h plain = record { frame = frame_of _ _ _ same h; exact = chunks_of-tiled _ _ h.tiles; plain = plain }

pub exactly_itself : {image : List ℕ} {cs : List Chunk} → HeapAccepted image → chunks_of image ≡ cs
    → BecomesExactly image image cs
exactly_itself h is = record { frame = same_frame _ h; exact = is; plain = plain_same _ }

pub exactly_then : {old mid new : List ℕ} {cs ds : List Chunk} → BecomesExactly old mid cs
    → BecomesExactly mid new ds → BecomesExactly old new ds
exactly_then {old} {mid} {new} a b = record { frame = frame_then _ _ _ a.frame b.frame; exact = b.exact; plain = plain_then old mid new a.plain b.plain }

pub exactly_becomes : {old new : List ℕ} {cs : List Chunk} → BecomesExactly old new cs
    → Becomes old new cs
exactly_becomes b = record { frame = b.frame; layout = ap merged b.exact }

pub exactly_start : {old new : List ℕ} {cs : List Chunk} → BecomesExactly old new cs
    → area_start new ≡ area_start old
exactly_start b = becomes_start _ _ _ (exactly_becomes b)

-- and then links were written
pub exactly_linked : {old mid new : List ℕ} {cs : List Chunk} → BecomesExactly old mid cs
    → SameChunks mid new → BecomesExactly old new cs
exactly_linked {old} {mid} {new} b s = record { frame = frame_then _ _ _ b.frame s.frame; exact = s.chunks ∙ b.exact; plain = plain_then old mid new b.plain s.plain }
