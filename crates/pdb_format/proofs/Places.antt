-- A block's place begins at the offset of its rank, and an entry with its ID is written as it was
-- read.
use Rattle.std.proofs.Common.{◌≡◌, ℕ, zero, suc, ◌+◌, ◌<◌, Option, Some, None, List, length, get_or, refl, ap, ◌∙◌, arith}
use Rattle.std.specs.Prelude.{slice_index}
use Rattle.std.proofs.lemmas.List.FromFn.{get_or-map-range_with_len}
use Rattle.heap_model.specs.Database.{Entry, a_record, a_resource, entry_with, entry_count_in}
use Rattle.heap_model.specs.Files.{offsets_in, idle_entry}
use Rattle.pdb_format.specs.Blocks.{place_at, places_in}
use Rattle.pdb_format.specs.ReadFiles.{entry_read}
use Rattle.pdb_format.specs.declared.blocks.Block.{Block}
use Rattle.pdb_format.proofs.GoodFiles.{offset_count}

place_is : (file : List ℕ) (rank : ℕ) → rank < 2 + entry_count_in file
    → get_or (places_in file) rank None ≡ place_at file rank (slice_index (offsets_in file) rank)
place_is file rank inside =
    let count = offset_count file in
    get_or-map-range_with_len (λ rank. place_at file rank (slice_index (offsets_in file) rank)) 0
    (length (offsets_in file)) rank rank None (omega arith) (omega arith)

-- where a block begins, or 0 if there is none
abbrev pub start_of_place : Option Block → ℕ
start_of_place None = 0
start_of_place (Some block) = block.start

start_is : (file : List ℕ) (rank at : ℕ) → start_of_place (place_at file rank at) ≡ at
start_is file rank zero = refl
start_is file rank (suc at) = refl

-- it begins at its offset
pub place_starts : (file : List ℕ) (rank : ℕ) (block : Option Block)
    → rank < 2 + entry_count_in file → block ≡ get_or (places_in file) rank None
    → start_of_place block ≡ slice_index (offsets_in file) rank
place_starts file rank block inside is =
    ap start_of_place (is ∙ place_is file rank inside)
    ∙ start_is file rank (slice_index (offsets_in file) rank)

-- ---- entries

-- an entry with this ID, if it is a record
abbrev pub with_given : ℕ → Entry ℕ → Entry ℕ
with_given given (a_record attributes id at) = a_record attributes given at
with_given given (a_resource kind id at) = a_resource kind id at

pub given_written : (given at : ℕ) (block : Option (List ℕ)) (entry : Entry ℕ)
    → with_given given (entry_with (λ _. at) (idle_entry entry))
    ≡ entry_with (λ _. at) (entry_read entry given block)
given_written given at block (a_record attributes id offset) = refl
given_written given at block (a_resource kind id offset) = refl
