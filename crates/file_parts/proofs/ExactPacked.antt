-- The file that is put together from the text and the parts of an exact folder.
use Rattle.file_parts.proofs.AllWords.{◌≡◌, ℕ, ◌+◌, ◌-◌, ◌<◌, ◌≤◌, Bool, Some, None, List, [], ◌∷◌, ◌++◌, length, get_or, take, drop, refl, sym, ap, subst, ◌∙◌, arith, append-nil, append_assoc, length-append, Result, Ok, Err, IfOk, OnOk, replicate, option_map_or, concat, flat_map, get_or-map, length-map, length-replicate, take_all, take_more, flat_map-append, drop-append_seam, Database, Entry, a_record, a_resource, data_in, entry_bytes, entry_data, entry_offset, entry_with, fields_behind_name, has_resources, header_bytes, name_field, block_bytes, length-fields, entry_of, ListedEntry, ListedExact, PackFault, TooLarge, BadLine, OutOfMemory, database_listed, entries_listed, entry_listed, IsRefusedFor, filled, packed_entries, part_at, ExactFile, exact_block, exact_blocks, exact_bytes, exact_offset, exact_placed, exact_size, exact_start, exact_tail, offset_among, AreOffsets, IsExactPackFault, IsListedExact, IsMisplacedLine, exact_packed, Blob}
use Rattle.file_parts.proofs.ExactOffsets.{length-placed, placed_at}
use Rattle.file_parts.proofs.ExactPlaces.{ArePlaced, blocks_of}
use Rattle.file_parts.proofs.PackedEntries.{filled_at, length-packed}
use Rattle.file_parts.proofs.PackedFiles.{block_packed, count_packed}

-- ---- its parts

-- the bytes of the filler
pub filler_is : (parts : List (List ℕ)) (count : ℕ) (filler : Blob)
    → block_bytes (filled (part_at parts count) filler)
    ≡ option_map_or (λ name. part_at parts count) filler []
filler_is parts count None = refl
filler_is parts count (Some name) = refl

-- the bytes of the block of a rank
pub block_is : (exact : ListedExact) (parts : List (List ℕ)) (rank : ℕ) (part : Blob)
    → rank < length (data_in (database_listed exact.listed))
    → part ≡ get_or (data_in (database_listed exact.listed)) rank None
    → block_bytes (filled (part_at parts rank) part)
    ≡ block_bytes (exact_block (exact_packed exact parts) rank)
block_is exact parts rank part inside is = cc (block_packed exact.listed parts rank inside)

-- the offset of the first block
pub start_is : (exact : ListedExact) (parts : List (List ℕ)) (end : ℕ) (filler : List ℕ)
    → end ≡ entry_offset (has_resources exact.listed.header.attributes)
    (length (database_listed exact.listed).entries) → filler ≡ (exact_packed exact parts).filler
    → end + length filler ≡ exact_start (exact_packed exact parts)
start_is exact parts end filler is is_filler =
    let items : List ListedEntry = exact.listed.entries.items in
    let r : Bool = has_resources exact.listed.header.attributes in
    let count : length (database_listed exact.listed).entries
    ≡ length (packed_entries items parts) =
    length-map items entry_listed ∙ sym (length-packed items parts) in
    cc

-- its blocks, and its size
pub blocks_whole : (exact : ListedExact) (parts : List (List ℕ)) → IsListedExact exact
    → blocks_of (exact_block (exact_packed exact parts)) exact.ranks.items
    ≡ exact_blocks (exact_packed exact parts)
unfolding exact_blocks
blocks_whole exact parts good = cc good.ranks

-- the offsets, once each rank has its own
pub offsets_are : (exact : ListedExact) (parts : List (List ℕ)) (offsets : List ℕ) (at : ℕ)
    → IsListedExact exact
    → ArePlaced (exact_block (exact_packed exact parts)) (exact_start (exact_packed exact parts))
    (length (data_in (database_listed exact.listed))) exact.ranks.items offsets at
    → AreOffsets (exact_packed exact parts) offsets
offsets_are exact parts offsets at good are =
    let file : ExactFile = exact_packed exact parts in
    let room = are.room in
    record {
      count = room ∙ sym (count_packed exact.listed parts);
      each = λ rank inside. subst (λ ranks. get_or offsets rank 0 ≡ offset_among (exact_block file)
          (exact_start file) ranks rank) good.ranks (are.each rank (omega arith));
    }

pub size_is : (exact : ListedExact) (parts : List (List ℕ)) (offsets : List ℕ) (at : ℕ)
    → IsListedExact exact
    → ArePlaced (exact_block (exact_packed exact parts)) (exact_start (exact_packed exact parts))
    (length (data_in (database_listed exact.listed))) exact.ranks.items offsets at
    → at ≡ exact_size (exact_packed exact parts)
size_is exact parts offsets at good are = cc (are.end, blocks_whole exact parts good)

-- bytes that are appended
pub appended : {T E : Type 0} (r : Result T E) (old new more bytes : List ℕ) → more ≡ bytes
    → OnOk r (new ≡ old ++ more) → OnOk r (new ≡ old ++ bytes)
appended (Ok x) old new more bytes same is = is ∙ ap (λ xs. old ++ xs) same
appended (Err e) old new more bytes same is = is

pub appended_twice : {T E : Type 0} (r : Result T E) (old mid new one more first bytes : List ℕ)
    → mid ≡ old ++ one → one ≡ first → more ≡ bytes → OnOk r (new ≡ mid ++ more)
    → OnOk r (new ≡ old ++ (first ++ bytes))
appended_twice (Ok x) old mid new one more first bytes before same_one same_more is =
    cc (append_assoc old first more)
appended_twice (Err e) old mid new one more first bytes before same_one same_more is = is

-- ---- its header

-- the fields after the name
fields_of : (d : Database ℕ) → length d.header.name < 32
    → drop 32 (header_bytes d) ≡ concat (fields_behind_name d)
unfolding header_bytes name_field
fields_of d room =
    let name : List ℕ = d.header.name in
    let zeros : List ℕ = replicate (32 - length name) 0 in
    let fields : List ℕ = concat (fields_behind_name d) in
    let both : length (name ++ zeros) ≡ length name + length zeros = length-append name zeros in
    let more : length zeros ≡ 32 - length name = length-replicate (32 - length name) 0 in
    let long : 32 ≡ length (name ++ zeros) = omega arith in
    cc (drop-append_seam (name ++ zeros) fields)

pub fields_taken : (d : Database ℕ) → length d.header.name < 32
    → take 46 (drop 32 (header_bytes d)) ≡ concat (fields_behind_name d)
fields_taken d room =
    let long = length-fields d in
    ap (take 46) (fields_of d room) ∙ take_all 46 (concat (fields_behind_name d)) (omega arith)

pub placed_count : (exact : ListedExact) (parts : List (List ℕ))
    → length (exact_placed (exact_packed exact parts)).entries ≡ length exact.listed.entries.items
placed_count exact parts = length-placed (exact_offset (exact_packed exact parts)) 2
    (packed_entries exact.listed.entries.items parts)
    ∙ length-packed exact.listed.entries.items parts

-- ---- its entries

with_thrice : (entry : Entry ℕ) (part : Blob) (bytes : List ℕ) (at : ℕ)
    → entry_with {Data = Blob} (λ _. at) (entry_with (filled bytes) (entry_with (λ _. part) entry))
    ≡ entry_with (λ _. at) entry
with_thrice (a_record a id slot) part bytes at = refl
with_thrice (a_resource kind id slot) part bytes at = refl

-- the entry of an index
entry_here : (exact : ListedExact) (parts : List (List ℕ)) (i : ℕ) (item : ListedEntry)
    (e : Entry ℕ) → i < length exact.listed.entries.items
    → item ≡ get_or exact.listed.entries.items i item
    → get_or (exact_placed (exact_packed exact parts)).entries i e
    ≡ entry_with (λ _. exact_offset (exact_packed exact parts) (2 + i)) (entry_of item.entry)
entry_here exact parts i item e inside is =
    let items : List ListedEntry = exact.listed.entries.items in
    let place : ℕ → ℕ = exact_offset (exact_packed exact parts) in
    let one : Entry Blob = entry_listed item in
    let long = length-packed items parts in
    let many = length-map items entry_listed in
    let first = placed_at place 2 i (packed_entries items parts) one e (omega arith) in
    let second = filled_at parts 2 i (entries_listed items) one one (omega arith) in
    let third = get_or-map entry_listed items i item one inside in
    cc (with_thrice (entry_of item.entry) item.part (part_at parts (2 + i)) (place (2 + i)))

-- the entries so far, and one more
pub entry_more : (exact : ListedExact) (parts : List (List ℕ)) (offsets front old more new : List ℕ)
    (i at : ℕ) (item : ListedEntry) → AreOffsets (exact_packed exact parts) offsets
    → i < length exact.listed.entries.items → item ≡ get_or exact.listed.entries.items i item
    → at ≡ get_or offsets (2 + i) 0
    → more ≡ entry_bytes (entry_with (λ _. at) (entry_of item.entry)) → new ≡ old ++ more
    → old ≡ front ++ flat_map entry_bytes (take i (exact_placed (exact_packed exact parts)).entries)
    → new
    ≡ front ++ flat_map entry_bytes (take (i + 1) (exact_placed (exact_packed exact parts)).entries)
entry_more exact parts offsets front old more new i at item are inside is is_at is_more is_new
    before =
    let es : List (Entry ℕ) = (exact_placed (exact_packed exact parts)).entries in
    let e : Entry ℕ = entry_with (λ _. at) (entry_of item.entry) in
    let long = placed_count exact parts in
    let blocks = count_packed exact.listed parts in
    let many = length-map exact.listed.entries.items entry_listed in
    let data_long =
    length-map (entries_listed exact.listed.entries.items) (entry_data {Data = Blob}) in
    let place = is_at ∙ are.each (2 + i) (omega arith) in
    let here : get_or es i e ≡ e = entry_here exact parts i item e inside is
    ∙ ap (λ (n : ℕ). entry_with {Data = ℕ} (λ _. n) (entry_of item.entry)) (sym place) in
    let next : take (i + 1) es ≡ take i es ++ e ∷ [] = cc (take_more es i e (omega arith)) in
    let first = append_assoc front (flat_map entry_bytes (take i es)) more in
    cc (append-nil (entry_bytes e), flat_map-append entry_bytes (take i es) (e ∷ []))

pub entries_whole : (exact : ListedExact) (parts : List (List ℕ)) (n : ℕ)
    → length exact.listed.entries.items ≤ n
    → take n (exact_placed (exact_packed exact parts)).entries
    ≡ (exact_placed (exact_packed exact parts)).entries
entries_whole exact parts n past =
    let long = placed_count exact parts in
    take_all n (exact_placed (exact_packed exact parts)).entries (omega arith)

-- ---- all of it

-- the head of the file, part after part
pub joined_head : (exact : ExactFile) (b0 b1 b2 b3 : List ℕ) → b0 ≡ []
    → b1 ≡ b0 ++ (exact.database.header.name ++ exact.after_name)
    → b2 ≡ b1 ++ concat (fields_behind_name (exact_placed exact))
    → b3 ≡ b2 ++ flat_map entry_bytes (exact_placed exact).entries
    → b3 ++ exact_tail exact ≡ exact_bytes exact
unfolding exact_bytes
joined_head exact b0 b1 b2 b3 none first second third =
    let name : List ℕ = exact.database.header.name in
    let after : List ℕ = exact.after_name in
    let fields : List ℕ = concat (fields_behind_name (exact_placed exact)) in
    let entries : List ℕ = flat_map entry_bytes (exact_placed exact).entries in
    let tail : List ℕ = exact_tail exact in
    let fourth = append_assoc ((name ++ after) ++ fields) entries tail in
    let fifth = append_assoc (name ++ after) fields (entries ++ tail) in
    cc (append_assoc name after (fields ++ (entries ++ tail)))

-- what follows from all that is known of a success
pub with_all : {T E : Type 0} (r : Result T E) (A B D : T → Type 0) (C : Type 0)
    → ((x : T) → A x → B x → C → D x) → IfOk r A → IfOk r B → OnOk r C → IfOk r D
with_all (Ok x) A B D C from a b c = from x a b c
with_all (Err e) A B D C from a b c = tt

-- ---- the reason why no file is put together

pub misplaced_fault : (exact : ListedExact) (parts : List (List ℕ)) (fault : PackFault)
    → IsMisplacedLine exact parts fault → IsExactPackFault exact parts fault
misplaced_fault exact parts TooLarge is = absurd is
misplaced_fault exact parts (BadLine line) is = is
misplaced_fault exact parts OutOfMemory is = absurd is

pub misplaced_memory : (exact : ListedExact) (parts : List (List ℕ)) (fault : PackFault)
    → IsMisplacedLine exact parts fault → fault ≡ OutOfMemory → ⊥
misplaced_memory exact parts fault is e = subst (IsMisplacedLine exact parts) e is

pub large_fault : (exact : ListedExact) (parts : List (List ℕ)) (fault : PackFault)
    → IsRefusedFor (exact_size (exact_packed exact parts)) fault
    → IsExactPackFault exact parts fault
large_fault exact parts TooLarge is = is
large_fault exact parts (BadLine line) is = absurd is
large_fault exact parts OutOfMemory is = tt
