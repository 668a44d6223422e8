-- The header of a canonical form has the offsets that follow from the sizes of its parts.
use Rattle.std.proofs.Common.{◌≡◌, ℕ, ◌+◌, ◌^◌, ◌<◌, ◌≤◌, Option, None, List, [], ◌∷◌, length, drop, map, get_or, refl, sym, ap, ◌∙◌, arith}
use Rattle.std.specs.List.{sum_by}
use Rattle.std.proofs.lemmas.List.{length-map}
use Rattle.std.proofs.lemmas.List.Sums.{sum_by-cons}
use Rattle.heap_model.specs.Database.{Database, has_resources, header_in, resources_in, entry_count_in, entry_offset}
use Rattle.heap_model.specs.Files.{blocks_in, idle_entry, idle, block_size, block_offset, with_offsets, first_block}
use Rattle.db_format.specs.declared.header.DbHeader.{DbHeader}
use Rattle.db_format.specs.Headers.{header_values, IsHeaderOf}
use Rattle.pdb_format.specs.Blocks.{bytes_at, places_in, IsBlockWithin, length_within}
use Rattle.pdb_format.specs.Filler.{first_place}
use Rattle.pdb_format.specs.FileTexts.{data_at}
use Rattle.pdb_format.specs.Opened.{HasPlaces}
use Rattle.pdb_format.specs.declared.blocks.Block.{Block}
use Rattle.pdb_format.specs.ReadFiles.{header_read, entries_read, database_read}
use Rattle.pdb_format.proofs.FileParts.{length-with_offsets}
use Rattle.pdb_format.proofs.ReadFiles.{length-entries_read}
use Rattle.pdb_format.proofs.FileBlocks.{block_long, length-blocks}
use Rattle.canonical_file.specs.Canonical.{most_bytes}

kind_is : (file : List ℕ) → has_resources (header_in file).attributes ≡ resources_in file
unfolding header_in
kind_is file = refl

-- the offset of its first block
pub first_is : (file ids : List ℕ) (seed : ℕ)
    → first_block (database_read file ids seed) ≡ first_place file
unfolding database_read header_in
first_is file ids seed =
    ap (λ (n : ℕ). entry_offset (resources_in file) n + 2) (length-entries_read file ids)

-- the info blocks
pub app_is : (file ids : List ℕ) (seed : ℕ) (app : Option Block)
    → bytes_at file app ≡ get_or (blocks_in file) 0 None
    → (database_read file ids seed).app_info ≡ bytes_at file app
unfolding database_read
app_is file ids seed app is = sym is

pub sort_is : (file ids : List ℕ) (seed : ℕ) (sort : Option Block)
    → bytes_at file sort ≡ get_or (blocks_in file) 1 None
    → (database_read file ids seed).sort_info ≡ bytes_at file sort
unfolding database_read
sort_is file ids seed sort is = sym is

pub app_long : (file ids : List ℕ) (seed : ℕ) (app : Option Block)
    → bytes_at file app ≡ get_or (blocks_in file) 0 None → IsBlockWithin (length file) app
    → block_size (database_read file ids seed).app_info ≡ length_within app
app_long file ids seed app is within =
    ap block_size (app_is file ids seed app is) ∙ block_long file app within

sort_long : (file ids : List ℕ) (seed : ℕ) (sort : Option Block)
    → bytes_at file sort ≡ get_or (blocks_in file) 1 None → IsBlockWithin (length file) sort
    → block_size (database_read file ids seed).sort_info ≡ length_within sort
sort_long file ids seed sort is within =
    ap block_size (sort_is file ids seed sort is) ∙ block_long file sort within

-- where the data of the entries begins
pub data_at_is : (file ids : List ℕ) (seed : ℕ) (app sort : Option Block)
    → bytes_at file app ≡ get_or (blocks_in file) 0 None → IsBlockWithin (length file) app
    → bytes_at file sort ≡ get_or (blocks_in file) 1 None → IsBlockWithin (length file) sort
    → data_at (database_read file ids seed)
    ≡ first_place file + length_within app + length_within sort
data_at_is file ids seed app sort app_here app_within sort_here sort_within =
    let first = first_is file ids seed in
    let app_size = app_long file ids seed app app_here app_within in
    let sort_size = sort_long file ids seed sort sort_here sort_within in
    omega arith

-- ---- its offsets have four bytes

infos_and_data : (blocks : List (Option Block)) → 2 ≤ length blocks
    → sum_by length_within blocks
    ≡ length_within (get_or blocks 0 None) + length_within (get_or blocks 1 None)
    + sum_by length_within (drop 2 blocks)
infos_and_data [] many = absurd (omega arith)
infos_and_data (app ∷ []) many = absurd (omega arith)
infos_and_data (app ∷ sort ∷ blocks) many =
    let one = sum_by-cons length_within app (sort ∷ blocks) in
    let two = sum_by-cons length_within sort blocks in
    omega arith

-- all of its blocks, one after the other
pub offsets_fit : (file : List ℕ) → HasPlaces file (places_in file) → length file ≤ most_bytes
    → first_place file + length_within (get_or (places_in file) 0 None)
    + length_within (get_or (places_in file) 1 None)
    + sum_by length_within (drop 2 (places_in file))
    < 2 ^ 32
offsets_fit file places short =
    let long = length-blocks file (places_in file) places.are in
    let parts = infos_and_data (places_in file) (omega arith) in
    let total = places.total in
    omega arith

same_offset : (at other : ℕ) (block same : Option (List ℕ)) → at ≡ other → block ≡ same
    → block_offset at block ≡ block_offset other same
same_offset at other block same e f =
    ap (λ (n : ℕ). block_offset n block) e ∙ ap (block_offset other) f

-- the header that is read, with this seed and these offsets
pub header_placed : (file ids : List ℕ) (seed : ℕ) (header : DbHeader) (app sort : Option Block)
    (sort_at app_offset sort_offset : ℕ)
    → header_values header ≡ header_read file seed → header.entry_count ≡ entry_count_in file
    → bytes_at file app ≡ get_or (blocks_in file) 0 None → IsBlockWithin (length file) app
    → bytes_at file sort ≡ get_or (blocks_in file) 1 None
    → sort_at ≡ first_place file + length_within app
    → app_offset ≡ block_offset (first_place file) (bytes_at file app)
    → sort_offset ≡ block_offset sort_at (bytes_at file sort)
    → IsHeaderOf (with_offsets (first_block (database_read file ids seed)) (idle (database_read file ids seed))) (record header { app_info = app_offset; sort_info = sort_offset })
unfolding database_read
header_placed file ids seed header app sort sort_at app_offset sort_offset values count app_here app_within sort_here is_sort_at is_app is_sort =
    let d : Database (Option (List ℕ)) = database_read file ids seed in
    let first = first_is file ids seed in
    let long = app_long file ids seed app app_here app_within in
    let all = length-with_offsets (data_at d) (map idle_entry (entries_read file ids))
    ∙ length-map (entries_read file ids) idle_entry ∙ length-entries_read file ids in
    record {
      values = values;
      app_info = is_app
          ∙ same_offset (first_place file) (first_block d) (bytes_at file app) d.app_info
          (omega arith) (sym (app_is file ids seed app app_here));
      sort_info = is_sort
          ∙ same_offset sort_at (first_block d + block_size d.app_info) (bytes_at file sort)
          d.sort_info (omega arith) (sym (sort_is file ids seed sort sort_here));
      entry_count = count ∙ sym all;
    }
