-- The offsets of the blocks of a packed database, and the blocks one after the other.
use Rattle.file_parts.proofs.AllWords.{◌≡◌, ℕ, zero, suc, ◌+◌, ◌<◌, ◌≤◌, Option, None, List, [], ◌∷◌, ◌++◌, length, get_or, drop, map, refl, sym, ap, ◌∙◌, arith, add-one, drop-cons, length-map, drop_all, Database, entry_data, data_in, block_bytes, block_size, first_block, file_size, all_bytes, size_more, Listed, PackFault, TooLarge, BadLine, OutOfMemory, database_listed, IsRefusedFor, filled, part_at, database_of_parts, with_parts}
use Rattle.file_parts.proofs.PackedEntries.{block_filled, length-filled}

-- a larger file is refused as well
pub refused_more : (n m : ℕ) (fault : PackFault) → n ≤ m → IsRefusedFor n fault
    → IsRefusedFor m fault
refused_more n m TooLarge less is = omega arith
refused_more n m (BadLine line) less is = is
refused_more n m OutOfMemory less is = tt

-- the blocks are all within the file
pub sizes : (d : Database (Option (List ℕ))) → file_size d ≡ first_block d + (block_size d.app_info
    + (block_size d.sort_info + length (all_bytes (map entry_data d.entries))))
sizes d =
    let one = size_more d.app_info (d.sort_info ∷ map entry_data d.entries) in
    let two = size_more d.sort_info (map entry_data d.entries) in
    omega arith

-- the block of a rank
pub block_with : (parts : List (List ℕ)) (d : Database (Option (List ℕ))) (rank : ℕ)
    → rank < length (data_in d) → get_or (data_in (with_parts parts d)) rank None
    ≡ filled (part_at parts rank) (get_or (data_in d) rank None)
block_with parts d zero inside = refl
block_with parts d (suc zero) inside = refl
block_with parts d (suc (suc k)) inside =
    let long = length-map d.entries (entry_data {Data = Option (List ℕ)}) in
    let next : 2 + k ≡ suc (suc k) = omega arith in
    block_filled parts 2 k d.entries (omega arith)
    ∙ ap (λ (r : ℕ). filled (part_at parts r) (get_or (map entry_data d.entries) k None)) next

pub block_packed : (listed : Listed) (parts : List (List ℕ)) (rank : ℕ)
    → rank < length (data_in (database_listed listed))
    → get_or (data_in (database_of_parts listed parts)) rank None
    ≡ filled (part_at parts rank) (get_or (data_in (database_listed listed)) rank None)
block_packed listed parts rank inside = block_with parts (database_listed listed) rank inside

pub count_with : (parts : List (List ℕ)) (d : Database (Option (List ℕ)))
    → length (data_in (with_parts parts d)) ≡ length (data_in d)
count_with parts d =
    let one = length-map (with_parts parts d).entries (entry_data {Data = Option (List ℕ)}) in
    let two = length-map d.entries (entry_data {Data = Option (List ℕ)}) in
    let three = length-filled parts 2 d.entries in
    omega arith

pub count_packed : (listed : Listed) (parts : List (List ℕ))
    → length (data_in (database_of_parts listed parts)) ≡ length (data_in (database_listed listed))
count_packed listed parts = count_with parts (database_listed listed)

blocks_from : (blocks : List (Option (List ℕ))) (i : ℕ) → i < length blocks → all_bytes (drop i
    blocks) ≡ block_bytes (get_or blocks i None) ++ all_bytes (drop (i + 1) blocks)
blocks_from blocks i inside = rw (add-one, drop-cons blocks i None) refl

-- the blocks from a rank on
abbrev pub blocks_on : Listed → List (List ℕ) → ℕ → List ℕ
blocks_on listed parts rank = all_bytes (drop rank (data_in (database_of_parts listed parts)))

pub block_here : (listed : Listed) (parts : List (List ℕ)) (rank : ℕ) (bytes : List ℕ)
    → rank < length (data_in (database_listed listed))
    → bytes ≡ block_bytes (filled (part_at parts rank)
    (get_or (data_in (database_listed listed)) rank None))
    → blocks_on listed parts rank ≡ bytes ++ blocks_on listed parts (rank + 1)
block_here listed parts rank bytes inside is =
    let count = count_packed listed parts in
    blocks_from (data_in (database_of_parts listed parts)) rank (omega arith)
    ∙ ap (λ xs. xs ++ blocks_on listed parts (rank + 1))
    (ap block_bytes (block_packed listed parts rank inside) ∙ sym is)

pub blocks_end : (listed : Listed) (parts : List (List ℕ)) (rank : ℕ)
    → length (data_in (database_listed listed)) ≤ rank → blocks_on listed parts rank ≡ []
blocks_end listed parts rank past =
    let count = count_packed listed parts in
    ap all_bytes (drop_all rank (data_in (database_of_parts listed parts)) (omega arith))
