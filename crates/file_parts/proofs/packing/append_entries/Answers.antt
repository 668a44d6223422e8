-- `append_entries` appends the entries, and returns the offset at which their data ends.
use Rattle.file_parts.proofs.AllLaws.{◌+◌, ◌<◌, ◌≤◌, ◌++◌, ℕ, List, length, drop, sym, ap, ◌∙◌, arith, append-nil, append_assoc, entry_bytes, entry_with, block_bytes, block_offset, idle_entry, ListedEntry, entry_listed, data_text, entries_text, filled, packed_entries, part_at, text_here, data_here, refused_more}
use Rattle.file_parts.proofs.PackedEntries.{none_left}
use Rattle.file_parts.proofs.packing.append_entries.Goals as goal

pub loop-index-preserved : goal.loop-index-preserved
loop-index-preserved g c =
    let items = c.args.entries.now in
    let parts = c.args.parts.now in
    let i = c.loop-index.index in
    let at = c.loop-index.at in
    let item : ListedEntry = c.index-entries-index.result in
    let is_item = c.index-entries-index.is in
    let below : i < length items = omega arith in
    let is = c.as_slice.ensures ∙ c.to_bytes.ensures.is
    ∙ ap entry_bytes (c.placed.ensures.is (part_at parts (2 + i)))
    ∙ ap (λ one. entry_bytes (entry_with (block_offset at)
    (idle_entry (entry_with (filled (part_at parts (2 + i))) (entry_listed one))))) is_item in
    let is_block = c.part_bytes.ensures
    ∙ ap (λ (one : ListedEntry). block_bytes (filled (part_at parts (2 + i)) one.part)) is_item in
    let here = text_here items parts i at item c.as_slice.result.now c.part_bytes.result.now below
    is is_block in
    let behind : List ℕ = entries_text (at + length c.part_bytes.result.now)
    (drop (i + 1) (packed_entries items parts)) in
    let size = data_here items parts i item c.part_bytes.result.now below is_block in
    let old = c.loop-index.invariant.size in
    let end = c.in-Ok.ensures.is in
    record {
      text = ap (λ (n : ℕ). c.append.new.bytes.items
          ++ entries_text n (drop (i + 1) (packed_entries items parts))) end
          ∙ ap (λ (xs : List ℕ). xs ++ behind) c.in_ok-append.ensures.items
          ∙ append_assoc c.loop-index.bytes.items c.as_slice.result.now behind
          ∙ ap (λ (xs : List ℕ). c.loop-index.bytes.items ++ xs) (sym here)
          ∙ c.loop-index.invariant.text;
      size = omega arith;
      most = c.in-Ok.ensures.most;
    }

pub returns-in-Err-clause-large : goal.returns-in-Err-clause-large
returns-in-Err-clause-large g c =
    let items = c.args.entries.now in
    let parts = c.args.parts.now in
    let i = c.loop-index.index in
    let item : ListedEntry = c.index-entries-index.result in
    let below : i < length items = omega arith in
    let is_block = c.part_bytes.ensures
    ∙ ap (λ one. block_bytes (filled (part_at parts (2 + i)) one.part)) c.index-entries-index.is in
    let size = data_here items parts i item c.part_bytes.result.now below is_block in
    let old = c.loop-index.invariant.size in
    refused_more (c.loop-index.at + length c.part_bytes.result.now)
    (c.args.first + length (data_text (packed_entries items parts))) c.in-Err.fault
    (omega (arith, size, old)) c.in-Err.ensures.large

pub returns-clause-items : goal.returns-clause-items
returns-clause-items g c =
    let items = c.args.entries.now in
    let past : length items ≤ c.loop-index.index = omega arith in
    sym (append-nil c.loop-index.bytes.items)
    ∙ ap (λ es. c.loop-index.bytes.items ++ entries_text c.loop-index.at es)
    (sym (none_left items c.args.parts.now c.loop-index.index past)) ∙ c.loop-index.invariant.text

pub returns-clause-end : goal.returns-clause-end
returns-clause-end g c =
    let items = c.args.entries.now in
    let past : length items ≤ c.loop-index.index = omega arith in
    let none =
    ap (λ es. length (data_text es)) (none_left items c.args.parts.now c.loop-index.index past) in
    omega (arith, none, c.loop-index.invariant.size)
