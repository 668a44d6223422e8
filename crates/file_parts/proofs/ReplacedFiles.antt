-- The file that is written when a block is replaced: its blocks, its entries and its bytes.
use Rattle.file_parts.proofs.AllWords.{subst, ◌≡◌, ℕ, ◌+◌, ◌<◌, ◌≤◌, Option, None, List, length, get_or, refl, sym, ap, ◌∙◌, arith, eq-eqb, ne_eqb, times, Entry, a_record, a_resource, data_in, entry_count_in, entry_in, entry_with, entry_offset, has_resources, block_bytes, blocks_in, entries_end, offsets_in, distinct-times, filler_in, block_count, offset_count, AreSorted, Replacing, ExactFile, IsExactly, exact_block, exact_database, exact_entry, exact_start, exact_of, HasValuesAt, IsOrdered, IsReplacing, block_in, block_replaced, exact_replacing}
use Rattle.file_parts.proofs.ExactBlocks.{place_of, starts_of}
use Rattle.file_parts.proofs.ExactRanks.{apart, get_or-same}
use Rattle.file_parts.proofs.ExactRead.{blocks_exact, entries_long, exact_entry_is, is_exactly}
use Rattle.file_parts.proofs.ExactSpelled.{entries_end_is, order_sorted}
use Rattle.file_parts.proofs.ExactWritten.{ordered_by}
use Rattle.file_parts.proofs.Replacements.{length-replaced, replaced_at, replaced_else, replaced_here, block_there}
use Rattle.file_parts.proofs.Replacements as replacements

-- ---- the file as it is

pub exactly_in : (r : Replacing) → IsReplacing r → IsExactly r.unpacked.file (exact_of r.unpacked)
exactly_in r g = is_exactly r.unpacked.file r.unpacked.ranks.items g.good.good g.good.order

pub sorted_in : (r : Replacing) → IsReplacing r → AreSorted (offsets_in r.unpacked.file)
    (length r.unpacked.file) (starts_of (offsets_in r.unpacked.file) r.unpacked.ranks.items)
sorted_in r g = order_sorted r.unpacked.file (exact_of r.unpacked) g.numbers (exactly_in r g)

-- each rank of the order is one of the file's, and is there once
pub rank_inside : (r : Replacing) (i : ℕ) → IsReplacing r → i < length r.unpacked.ranks.items
    → get_or r.unpacked.ranks.items i 0 < length (blocks_in r.unpacked.file)
rank_inside r i g less =
    let place = (place_of r.unpacked.file r.unpacked.ranks.items i (sorted_in r g) less).inside in
    let blocks = block_count r.unpacked.file in
    let offsets = offset_count r.unpacked.file in
    omega arith

pub rank_once : (r : Replacing) (q : ℕ) → IsReplacing r → times q r.unpacked.ranks.items ≤ 1
rank_once r q g =
    let ranks : List ℕ = r.unpacked.ranks.items in
    distinct-times ranks (λ i j d less below e. apart r.unpacked.file ranks i j (sorted_in r g) less
    below (get_or-same ranks i 0 d (omega arith) ∙ e ∙ sym (get_or-same ranks j 0 d below))) q

-- ---- its blocks

pub block_is : (r : Replacing) (rank : ℕ) → rank < length (blocks_in r.unpacked.file)
    → exact_block (exact_replacing r) rank
    ≡ block_replaced r.at r.part.now rank (block_in r.unpacked.file rank)
block_is r rank inside =
    let same = blocks_exact r.unpacked.file in
    let less : rank < length (data_in (exact_of r.unpacked).database) =
    subst (λ (bs : List (Option (List ℕ))). rank < length bs) (sym same) inside in
    block_there (exact_of r.unpacked) r.at r.part.now rank less
    ∙ ap (λ (bs : List (Option (List ℕ))). block_replaced r.at r.part.now rank
    (get_or bs rank None)) same

pub block_new : (r : Replacing) (rank : ℕ) → rank < length (blocks_in r.unpacked.file) → rank ≡ r.at
    → r.part.now ≡ block_bytes (exact_block (exact_replacing r) rank)
block_new r rank inside here = sym (ap block_bytes (block_is r rank inside
    ∙ replaced_here r.at r.part.now rank (block_in r.unpacked.file rank) (eq-eqb rank r.at here)))

pub block_old : (r : Replacing) (rank : ℕ) (bytes : List ℕ)
    → rank < length (blocks_in r.unpacked.file) → (rank ≡ r.at → ⊥)
    → bytes ≡ block_bytes (block_in r.unpacked.file rank)
    → bytes ≡ block_bytes (exact_block (exact_replacing r) rank)
block_old r rank bytes inside other is = is ∙ sym (ap block_bytes (block_is r rank inside
    ∙ replaced_else r.at r.part.now rank (block_in r.unpacked.file rank) (ne_eqb rank r.at other)))

pub count_is : (r : Replacing)
    → length (data_in (exact_replacing r).database) ≡ length (blocks_in r.unpacked.file)
count_is r = replacements.block_count (exact_of r.unpacked) r.at r.part.now
    ∙ ap length (blocks_exact r.unpacked.file)

-- the first block begins where it did
pub start_is : (r : Replacing) → IsReplacing r → exact_start (exact_replacing r)
    ≡ entries_end r.unpacked.file + length (filler_in r.unpacked.file)
start_is r g =
    let exact : ExactFile = exact_of r.unpacked in
    let many = length-replaced r.at r.part.now 2 exact.database.entries in
    let end = entries_end_is r.unpacked.file exact (exactly_in r g) in
    ap (λ n. n + length (filler_in r.unpacked.file))
    (ap (entry_offset (has_resources exact.database.header.attributes)) many ∙ end)

-- ---- its entries

with_thrice : (entry : Entry ℕ) (block : Option (List ℕ)) (f : Option (List ℕ)
    → Option (List ℕ)) (at : ℕ) → entry_with {Data = Option (List ℕ)} (λ _. at) (entry_with f
    (entry_with {Data = ℕ} (λ _. block) entry)) ≡ entry_with (λ _. at) entry
with_thrice (a_record attributes id slot) block f at = refl
with_thrice (a_resource kind id slot) block f at = refl

long : (file : List ℕ) → length (exact_database file).entries ≡ entry_count_in file
unfolding exact_database
long file = entries_long file

pub entry_count : (r : Replacing)
    → length (exact_replacing r).database.entries ≡ entry_count_in r.unpacked.file
entry_count r =
    length-replaced r.at r.part.now 2 (exact_of r.unpacked).database.entries ∙ long r.unpacked.file

entry_of : (file : List ℕ) (i : ℕ) (e : Entry (Option (List ℕ))) → i < entry_count_in file
    → get_or (exact_database file).entries i e ≡ exact_entry file i
unfolding exact_database
entry_of file i e inside = exact_entry_is file i e inside

-- each entry has the values that it has in the file
pub values_at : (r : Replacing) (i : ℕ) (entry : Entry ℕ)
    → i < length (exact_replacing r).database.entries → entry ≡ entry_in r.unpacked.file i
    → HasValuesAt (exact_replacing r) i entry
values_at r i entry inside is = λ at.
    let file : List ℕ = r.unpacked.file in
    let es : List (Entry (Option (List ℕ))) = (exact_of r.unpacked).database.entries in
    let one : Entry (Option (List ℕ)) = a_record 0 0 None in
    let count = entry_count r in
    let many = long file in
    ap (entry_with {Data = ℕ} (λ _. at)) is ∙ sym (with_thrice (entry_in file i)
    (block_in file (2 + i)) (block_replaced r.at r.part.now (2 + i)) at)
    ∙ sym (ap (λ x. entry_with {Data = Option (List ℕ)} (λ _. at)
    (entry_with (block_replaced r.at r.part.now (2 + i)) x)) (entry_of file i one (omega arith)))
    ∙ sym (ap (entry_with {Data = Option (List ℕ)} (λ _. at))
    (replaced_at r.at r.part.now 2 i es one one (omega arith)))

-- ---- its order

pub ordered_in : (r : Replacing) → IsReplacing r → IsOrdered (exact_replacing r)
ordered_in r g =
    let count = count_is r in
    ordered_by (exact_replacing r) (λ i less. (let inside = rank_inside r i g less in omega arith))
    (λ q. rank_once r q g)
