-- A call that slides nothing slides one empty stretch and moves no bytes.
use Rattle.heap_compact.proofs.Words.{◌≡◌, ℕ, ◌+◌, List, [], refl, arith, HeapAccepted, chunks_of, moved_bytes, SlidesOneStretch, same_frame, unmoved_bytes}

-- nothing slides
pub slides_nothing : (image : List ℕ) → HeapAccepted image → SlidesOneStretch image image
slides_nothing image h = record {
  before = [];
  mid = [];
  others = [];
  after = chunks_of image;
  chunks = refl;
  none_stays = tt;
  slid = record { same = refl; stay = refl; sizes = refl };
  becomes = record { frame = same_frame _ h; layout = refl };
}

pub moves_none : (image : List ℕ) (slid : ℕ) → HeapAccepted image
    → slid ≡ slid + moved_bytes image image
moves_none image slid h = let moved = unmoved_bytes _ h in omega (arith, moved)
