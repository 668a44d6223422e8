-- Where one chunk alone has moved, or none, no more has than chunks of one stretch and that one.
use Rattle.laws_heap.proofs.Words.{ℕ, List, [], refl, chunks_of, MovesNothing, MovesAlone, MovesOneStretchAnd}

pub alone_one : (old new : List ℕ) (name : ℕ) → MovesAlone old new name
    → MovesOneStretchAnd old new name
alone_one old new name alone = record {
  before = [];
  mid = [];
  after = chunks_of old;
  chunks = refl;
  none_stays = tt;
  others = λ other apart none was is. alone other apart was is;
}

pub nothing_alone : (old new : List ℕ) (name : ℕ) → MovesNothing old new
    → MovesOneStretchAnd old new name
nothing_alone old new name nothing = alone_one old new name (λ other apart was is. nothing _ was is)

pub itself_alone : (image : List ℕ) (name : ℕ) → MovesOneStretchAnd image image name
itself_alone image name = nothing_alone image image name (λ other was is. refl)
