-- Fields of a header, written alone.
use Rattle.std.proofs.Common.{◌≡◌, ℕ, ◌+◌, ◌≤◌, List, [], ◌++◌, length, take, drop, refl, sym, ap, ◌∙◌, append_assoc, arith, length-append}
use Rattle.std.proofs.Math.Seq.{take-append_seam, drop-append-add}
use Rattle.std.proofs.lemmas.List.{drop_at, take-append-le, take-append-drop, drop-append-le}
use Rattle.heap_model.specs.Bytes.{overwritten, u16_bytes, u32_bytes}
use Rattle.heap_model.specs.Database.{DatabaseHeader, Database, IsDatabaseName, name_field, header_bytes}
use Rattle.laws_heap.proofs.Frames.{length-overwritten}
use Rattle.laws_store.proofs.Names.{length-name_field}
use Rattle.laws_store.proofs.Spellings.{length-header_bytes}
use Rattle.heap_model.specs.declared.names.Which.{Which}
use Rattle.heap_model.specs.declared.names.Which.TheVariants.{App, Sort}
use Rattle.db_format.specs.Headers.{TakesHeader, HasModificationNumber, HasSeed, HasEntryCount, HasInfoBlock, WritesField, info_block_at}
use Rattle.db_format.proofs.HeaderLaws.{fields, bytes_by, bytes_same}

-- a piece is written over another of its length
pub over_piece : (front piece back new : List ℕ) (at : ℕ) → at ≡ length front → length piece ≡ length new → overwritten (front ++ (piece ++ back)) at new ≡ front ++ (new ++ back)
unfolding overwritten
over_piece front piece back new at at_is same =
    ap (λ (k : ℕ). take k (front ++ (piece ++ back)) ++ new ++ drop (k + length new) (front ++ (piece ++ back))) at_is
    ∙ ap (λ (xs : List ℕ). xs ++ new ++ drop (length front + length new) (front ++ (piece ++ back))) (take-append_seam front (piece ++ back))
    ∙ ap (λ (xs : List ℕ). front ++ new ++ xs) (drop-append-add front (piece ++ back) (length new) ∙ drop_at piece back (length new) same)
    ∙ append_assoc front new back

-- ---- the fields before one

length-two : (n : ℕ) → length (u16_bytes n) ≡ 2
unfolding u16_bytes
length-two n = refl

length-four : (n : ℕ) → length (u32_bytes n) ≡ 4
unfolding u32_bytes
length-four n = refl

-- after a prefix come a field of four bytes, and then the fields after that
four_more : (front : List ℕ) (n at : ℕ) → length front ≡ at → length (front ++ u32_bytes n) ≡ at + 4
four_more front n at len = length-append front (u32_bytes n) ∙ (let four = length-four n in omega arith)

two_more : (front : List ℕ) (n at : ℕ) → length front ≡ at → length (front ++ u16_bytes n) ≡ at + 2
two_more front n at len = length-append front (u16_bytes n) ∙ (let two = length-two n in omega arith)

to_backup : DatabaseHeader → List ℕ
to_backup h = name_field h.name ++ u16_bytes h.attributes ++ u16_bytes h.version ++ u32_bytes h.creation_date ++ u32_bytes h.modification_date ++ u32_bytes h.backup_date

length-to_backup : (h : DatabaseHeader) → IsDatabaseName h.name → length (to_backup h) ≡ 48
unfolding to_backup
length-to_backup h name =
    four_more _ h.backup_date 44 (four_more _ h.modification_date 40 (four_more _ h.creation_date 36 (two_more _ h.version 34 (two_more _ h.attributes 32 (length-name_field h.name name)))))

to_creator : DatabaseHeader → ℕ → ℕ → List ℕ
to_creator h app sort = to_backup h ++ u32_bytes h.modification_number ++ u32_bytes app ++ u32_bytes sort ++ u32_bytes h.kind ++ u32_bytes h.creator

length-to_creator : (h : DatabaseHeader) (app sort : ℕ) → IsDatabaseName h.name → length (to_creator h app sort) ≡ 68
unfolding to_creator
length-to_creator h app sort name =
    four_more _ h.creator 64 (four_more _ h.kind 60 (four_more _ sort 56 (four_more _ app 52 (four_more _ h.modification_number 48 (length-to_backup h name)))))

-- the fields after the modification number, and after the seed
behind_number : DatabaseHeader → ℕ → ℕ → ℕ → List ℕ
behind_number h app sort count = u32_bytes app ++ (u32_bytes sort ++ (u32_bytes h.kind ++ (u32_bytes h.creator ++ (u32_bytes h.seed ++ (u32_bytes 0 ++ (u16_bytes count ++ []))))))

by_number : (h : DatabaseHeader) (app sort count : ℕ) → bytes_by h app sort count ≡ to_backup h ++ (u32_bytes h.modification_number ++ behind_number h app sort count)
unfolding bytes_by fields to_backup behind_number
by_number h app sort count = simp append_assoc

-- the fields after the slot of the SortInfo block
behind_sort : DatabaseHeader → ℕ → List ℕ
behind_sort h count = u32_bytes h.kind ++ (u32_bytes h.creator ++ (u32_bytes h.seed ++ (u32_bytes 0 ++ (u16_bytes count ++ []))))

by_app : (h : DatabaseHeader) (app sort count : ℕ) → bytes_by h app sort count ≡ (to_backup h ++ u32_bytes h.modification_number) ++ (u32_bytes app ++ (u32_bytes sort ++ behind_sort h count))
unfolding bytes_by fields to_backup behind_sort
by_app h app sort count = simp append_assoc

by_sort : (h : DatabaseHeader) (app sort count : ℕ) → bytes_by h app sort count ≡ (to_backup h ++ u32_bytes h.modification_number ++ u32_bytes app) ++ (u32_bytes sort ++ behind_sort h count)
unfolding bytes_by fields to_backup behind_sort
by_sort h app sort count = simp append_assoc

by_seed : (h : DatabaseHeader) (app sort count : ℕ) → bytes_by h app sort count ≡ to_creator h app sort ++ (u32_bytes h.seed ++ (u32_bytes 0 ++ (u16_bytes count ++ [])))
unfolding bytes_by fields to_backup to_creator
by_seed h app sort count = simp append_assoc

by_count : (h : DatabaseHeader) (app sort count : ℕ) → bytes_by h app sort count ≡ (to_creator h app sort ++ u32_bytes h.seed ++ u32_bytes 0) ++ (u16_bytes count ++ [])
unfolding bytes_by fields to_backup to_creator
by_count h app sort count = simp append_assoc

-- ---- one field

number_over : (h : DatabaseHeader) (app sort count n : ℕ) → IsDatabaseName h.name → overwritten (bytes_by h app sort count) 48 (u32_bytes n) ≡ bytes_by (record h { modification_number = n }) app sort count
unfolding to_backup behind_number
number_over h app sort count n name =
    ap (λ (xs : List ℕ). overwritten xs 48 (u32_bytes n)) (by_number h app sort count)
    ∙ over_piece (to_backup h) (u32_bytes h.modification_number) (behind_number h app sort count) (u32_bytes n) 48 (sym (length-to_backup h name)) (length-four h.modification_number ∙ sym (length-four n))
    ∙ sym (by_number (record h { modification_number = n }) app sort count)

app_over : (h : DatabaseHeader) (app sort count n : ℕ) → IsDatabaseName h.name → overwritten (bytes_by h app sort count) 52 (u32_bytes n) ≡ bytes_by h n sort count
app_over h app sort count n name =
    ap (λ (xs : List ℕ). overwritten xs 52 (u32_bytes n)) (by_app h app sort count)
    ∙ over_piece (to_backup h ++ u32_bytes h.modification_number) (u32_bytes app) (u32_bytes sort ++ behind_sort h count) (u32_bytes n) 52
    (sym (four_more _ h.modification_number 48 (length-to_backup h name))) (length-four app ∙ sym (length-four n))
    ∙ sym (by_app h n sort count)

sort_over : (h : DatabaseHeader) (app sort count n : ℕ) → IsDatabaseName h.name → overwritten (bytes_by h app sort count) 56 (u32_bytes n) ≡ bytes_by h app n count
sort_over h app sort count n name =
    ap (λ (xs : List ℕ). overwritten xs 56 (u32_bytes n)) (by_sort h app sort count)
    ∙ over_piece (to_backup h ++ u32_bytes h.modification_number ++ u32_bytes app) (u32_bytes sort) (behind_sort h count) (u32_bytes n) 56
    (sym (four_more _ app 52 (four_more _ h.modification_number 48 (length-to_backup h name)))) (length-four sort ∙ sym (length-four n))
    ∙ sym (by_sort h app n count)

seed_over : (h : DatabaseHeader) (app sort count n : ℕ) → IsDatabaseName h.name → overwritten (bytes_by h app sort count) 68 (u32_bytes n) ≡ bytes_by (record h { seed = n }) app sort count
unfolding to_creator to_backup
seed_over h app sort count n name =
    ap (λ (xs : List ℕ). overwritten xs 68 (u32_bytes n)) (by_seed h app sort count)
    ∙ over_piece (to_creator h app sort) (u32_bytes h.seed) (u32_bytes 0 ++ (u16_bytes count ++ [])) (u32_bytes n) 68 (sym (length-to_creator h app sort name)) (length-four h.seed ∙ sym (length-four n))
    ∙ sym (by_seed (record h { seed = n }) app sort count)

count_over : (h : DatabaseHeader) (app sort count n : ℕ) → IsDatabaseName h.name → overwritten (bytes_by h app sort count) 76 (u16_bytes n) ≡ bytes_by h app sort n
count_over h app sort count n name =
    ap (λ (xs : List ℕ). overwritten xs 76 (u16_bytes n)) (by_count h app sort count)
    ∙ over_piece (to_creator h app sort ++ u32_bytes h.seed ++ u32_bytes 0) (u16_bytes count) [] (u16_bytes n) 76
    (sym (four_more _ 0 72 (four_more _ h.seed 68 (length-to_creator h app sort name)))) (length-two count ∙ sym (length-two n))
    ∙ sym (by_count h app sort n)

-- ---- in the header of a database

becomes : (was now : Database ℕ) (header : DatabaseHeader) (count : ℕ) → TakesHeader was now header count → bytes_by header was.app_info was.sort_info count ≡ header_bytes now
unfolding header_bytes bytes_by fields
becomes was now header count takes = sym (bytes_same now.header header now.app_info was.app_info now.sort_info was.sort_info (length now.entries) count takes.values takes.app_info takes.sort_info takes.entries)

begins : (was : Database ℕ) → header_bytes was ≡ bytes_by was.header was.app_info was.sort_info (length was.entries)
unfolding header_bytes bytes_by fields
begins was = refl

pub number_written : (number : ℕ) (bytes : List ℕ) → bytes ≡ u32_bytes number → WritesField 48 bytes (HasModificationNumber number)
number_written number bytes is was now name takes =
    ap (overwritten (header_bytes was) 48) is ∙ ap (λ (xs : List ℕ). overwritten xs 48 (u32_bytes number)) (begins was)
    ∙ number_over was.header was.app_info was.sort_info (length was.entries) number name ∙ becomes was now (record was.header { modification_number = number }) (length was.entries) takes

pub block_written : (slot : ℕ) (bytes : List ℕ) → bytes ≡ u32_bytes slot → (which : Which) → WritesField (info_block_at which) bytes (HasInfoBlock which slot)
block_written slot bytes is App was now name takes =
    ap (overwritten (header_bytes was) 52) is ∙ ap (λ (xs : List ℕ). overwritten xs 52 (u32_bytes slot)) (begins was)
    ∙ app_over was.header was.app_info was.sort_info (length was.entries) slot name ∙ becomes (record was { app_info = slot }) now was.header (length was.entries) takes
block_written slot bytes is Sort was now name takes =
    ap (overwritten (header_bytes was) 56) is ∙ ap (λ (xs : List ℕ). overwritten xs 56 (u32_bytes slot)) (begins was)
    ∙ sort_over was.header was.app_info was.sort_info (length was.entries) slot name ∙ becomes (record was { sort_info = slot }) now was.header (length was.entries) takes

pub seed_written : (seed : ℕ) (bytes : List ℕ) → bytes ≡ u32_bytes seed → WritesField 68 bytes (HasSeed seed)
seed_written seed bytes is was now name takes =
    ap (overwritten (header_bytes was) 68) is ∙ ap (λ (xs : List ℕ). overwritten xs 68 (u32_bytes seed)) (begins was)
    ∙ seed_over was.header was.app_info was.sort_info (length was.entries) seed name ∙ becomes was now (record was.header { seed = seed }) (length was.entries) takes

pub count_written : (count : ℕ) (bytes : List ℕ) → bytes ≡ u16_bytes count → WritesField 76 bytes (HasEntryCount count)
count_written count bytes is was now name takes =
    ap (overwritten (header_bytes was) 76) is ∙ ap (λ (xs : List ℕ). overwritten xs 76 (u16_bytes count)) (begins was)
    ∙ count_over was.header was.app_info was.sort_info (length was.entries) count name ∙ becomes was now was.header count takes

-- ---- over the header of some bytes

-- a part is written within the first of some bytes
over_front : (front back part : List ℕ) (at : ℕ) → at + length part ≤ length front → overwritten (front ++ back) at part ≡ overwritten front at part ++ back
unfolding overwritten
over_front front back part at inside =
    ap (λ (xs : List ℕ). xs ++ part ++ drop (at + length part) (front ++ back)) (take-append-le at front back (omega arith))
    ∙ ap (λ (xs : List ℕ). take at front ++ part ++ xs) (drop-append-le (at + length part) front back inside)
    ∙ sym (append_assoc (take at front ++ part) (drop (at + length part) front) back)

-- a part that makes the header another is that other, written over it
pub header_over : (body bytes : List ℕ) (at : ℕ) (was now : Database ℕ) → take 78 body ≡ header_bytes was → IsDatabaseName was.header.name → at + length bytes ≤ 78 → overwritten (header_bytes was) at bytes ≡ header_bytes now
    → overwritten body at bytes ≡ overwritten body 0 (header_bytes now)
header_over body bytes at was now front name inside writes =
    let rest : List ℕ = drop 78 body in
    let len = length-header_bytes was name in
    let split : body ≡ header_bytes was ++ rest = sym (take-append-drop 78 body) ∙ ap (λ (xs : List ℕ). xs ++ rest) front in
    let same : length (header_bytes was) ≡ length (header_bytes now) = sym (length-overwritten (header_bytes was) at bytes (omega arith)) ∙ ap length writes in
    ap (λ (xs : List ℕ). overwritten xs at bytes) split
    ∙ over_front (header_bytes was) rest bytes at (omega arith)
    ∙ ap (λ (xs : List ℕ). xs ++ rest) writes
    ∙ sym (over_piece [] (header_bytes was) rest (header_bytes now) 0 refl same)
    ∙ sym (ap (λ (xs : List ℕ). overwritten xs 0 (header_bytes now)) split)
