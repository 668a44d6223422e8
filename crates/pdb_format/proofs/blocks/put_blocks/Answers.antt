-- `put_blocks` writes the place of each block at its rank, by the laws of SortedStarts and
-- PlacedBlocks.
use Rattle.std.proofs.Common.{◌≡◌, ◌+◌, ◌<◌, ◌≤◌, ℕ, length, set, slice_index_or, Some, subst, sym, ap, ◌∙◌, arith, rules}
use Rattle.std.specs.List.{sum_by}
use Rattle.heap_model.specs.Files.{offsets_in, entries_end}
use Rattle.pdb_format.specs.Blocks.{length_within}
use Rattle.pdb_format.specs.Starts.{begins}
use Rattle.pdb_format.proofs.SortedStarts.{none, items_are}
use Rattle.pdb_format.proofs.PlacedBlocks.{ArePut, nothing_put, put_more, all_placed, all_put, all_within, none_taken, taken_more, taken_most, first_behind, file_sorted}
use Rattle.pdb_format.proofs.blocks.put_blocks.Goals as goal

pub loop-index-init : goal.loop-index-init
loop-index-init g c =
    let taken = none_taken c.args.blocks.now c.requires.empty in
    record {
      placed = nothing_put (offsets_in (g.B.FileBytes.bytes c.args.file.now))
          (length (g.B.FileBytes.bytes c.args.file.now)) c.args.starts.now _ c.requires.room
          c.requires.empty;
      taken = omega arith;
    }

pub bounds-blocks-start : goal.bounds-blocks-start
bounds-blocks-start g c =
    let few = c.requires.few in
    let sorted = file_sorted _ _ c.requires.good (omega arith) c.requires.all c.requires.rising in
    let inside : c.loop-index.index < length c.args.starts.now = search rules in
    let own = (items_are _ _ _ sorted c.loop-index.index inside).0.0 in
    let room = c.loop-index.invariant.placed.room in
    omega arith

pub loop-index-preserved : goal.loop-index-preserved
loop-index-preserved g c =
    let few = c.requires.few in
    let file = g.B.FileBytes.bytes c.args.file.now in
    let starts = c.args.starts.now in
    let blocks = c.loop-index.blocks in
    let index = c.loop-index.index in
    let sorted = file_sorted file starts c.requires.good
    (omega arith) c.requires.all c.requires.rising in
    let inside : index < length starts = search rules in
    let end : c.end_of.result ≡ begins (length file) starts (index + 1) =
    c.end_of.ensures ∙ ap (λ (last : ℕ). begins last starts (index + 1)) c.size.ensures.is in
    record {
      placed =
          subst (λ (e : ℕ). ArePut (offsets_in file) (length file) starts
          (set blocks (slice_index_or starts index none).rank (Some (record { start = (slice_index_or starts index none).at; end = e })))
          (index + 1))
          (sym end)
          (put_more (offsets_in file)
          (length file) starts blocks index sorted inside c.loop-index.invariant.placed);
      taken =
          subst (λ (e : ℕ). sum_by length_within
          (set blocks (slice_index_or starts index none).rank (Some (record { start = (slice_index_or starts index none).at; end = e })))
          + begins (length file) starts 0 ≡ begins (length file) starts (index + 1))
          (sym end)
          (taken_more (offsets_in file) (length file) starts blocks index sorted inside
          c.loop-index.invariant.placed c.loop-index.invariant.taken);
    }

-- each block is at its place
placed : goal.returns-clause-places
placed g c =
    let few = c.requires.few in
    let sorted = file_sorted _ _ c.requires.good (omega arith) c.requires.all c.requires.rising in
    let all : c.loop-index.index ≡ length c.args.starts.now = search rules in
    all_placed (g.B.FileBytes.bytes c.args.file.now) c.args.starts.now c.loop-index.blocks sorted
    (subst (ArePut (offsets_in (g.B.FileBytes.bytes c.args.file.now)) (length (g.B.FileBytes.bytes c.args.file.now)) c.args.starts.now c.loop-index.blocks)
    all c.loop-index.invariant.placed)

pub returns-clause-places : goal.returns-clause-places
returns-clause-places = placed

pub returns-clause-are : goal.returns-clause-are
returns-clause-are g c =
    all_put (g.B.FileBytes.bytes c.args.file.now) c.loop-index.blocks (placed g c)

pub returns-clause-inside : goal.returns-clause-inside
returns-clause-inside g c =
    let few = c.requires.few in
    let sorted = file_sorted _ _ c.requires.good (omega arith) c.requires.all c.requires.rising in
    let all : c.loop-index.index ≡ length c.args.starts.now = search rules in
    all_within (offsets_in (g.B.FileBytes.bytes c.args.file.now))
    (length (g.B.FileBytes.bytes c.args.file.now)) c.args.starts.now c.loop-index.blocks sorted
    (subst (ArePut (offsets_in (g.B.FileBytes.bytes c.args.file.now)) (length (g.B.FileBytes.bytes c.args.file.now)) c.args.starts.now c.loop-index.blocks)
    all c.loop-index.invariant.placed)

pub returns-clause-total : goal.returns-clause-total
returns-clause-total g c =
    let few = c.requires.few in
    let file = g.B.FileBytes.bytes c.args.file.now in
    let starts = c.args.starts.now in
    let sorted =
    file_sorted file _ c.requires.good (omega arith) c.requires.all c.requires.rising in
    let past : length starts ≤ c.loop-index.index = omega arith in
    taken_most (length file) (entries_end file) starts c.loop-index.blocks c.loop-index.index past
    (first_behind file _ c.requires.good sorted) c.loop-index.invariant.taken
