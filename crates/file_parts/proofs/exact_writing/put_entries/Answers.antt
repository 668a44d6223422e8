-- `put_entries` writes the entries, by the laws of ExactWritten.
use Rattle.file_parts.proofs.AllLaws.{◌≡◌, ◌+◌, ◌<◌, ◌≤◌, List, ℕ, true, false, drop, length, get_or, Option, ◌∙◌, arith, length-map, flat_map, Entry, entry_bytes, entry_data, entry_of, then, stops, nothing, ExactFile, exact_placed, entries_from, entries_none}
use Rattle.file_parts.proofs.exact_writing.put_entries.Goals as goal

pub bounds-offsets-index : goal.bounds-offsets-index
bounds-offsets-index g c =
    let file : ExactFile = g.S.ExactSource.exact c.args.source.now in
    let count = c.requires.are.count in
    let many = c.header-index-end.ensures.entry_count in
    let blocks = length-map file.database.entries (entry_data {Data = Option (List ℕ)}) in
    omega arith

pub loop-index-preserved : goal.loop-index-preserved
loop-index-preserved g c = λ new ok w.
    let file : ExactFile = g.S.ExactSource.exact c.args.source.now in
    let i = c.loop-index.index in
    let es : List (Entry ℕ) = (exact_placed file).entries in
    let many = c.header-index-end.ensures.entry_count in
    let inside : i < length file.database.entries = omega arith in
    let count = c.requires.are.count in
    let blocks = length-map file.database.entries (entry_data {Data = Option (List ℕ)}) in
    let less : 2 + i < length c.args.offsets.now = omega arith in
    let placed : Entry ℕ = entry_of c.entry_at-entry.result in
    let bytes : c.as_slice.result.now ≡ entry_bytes placed =
    c.as_slice.ensures ∙ c.to_bytes.ensures.is in
    c.loop-index.invariant new ok (rw (entries_from file i (get_or c.args.offsets.now (2 + i) 0)
    (entry_of c.entry.result) placed inside c.entry.ensures.is
    (c.requires.are.each (2 + i) less) c.entry_at-entry.ensures.is) (then g.W.Write.contents
    c.loop-index.out c.put_all.new.out new _ _ ok (rw bytes at c.in-Ok.ensures) w))

pub returns-in-Err : goal.returns-in-Err
returns-in-Err g c =
    let file : ExactFile = g.S.ExactSource.exact c.args.source.now in
    let i = c.loop-index.index in
    let es : List (Entry ℕ) = (exact_placed file).entries in
    let many = c.header-index-end.ensures.entry_count in
    let inside : i < length file.database.entries = omega arith in
    let count = c.requires.are.count in
    let blocks = length-map file.database.entries (entry_data {Data = Option (List ℕ)}) in
    let less : 2 + i < length c.args.offsets.now = omega arith in
    let placed : Entry ℕ = entry_of c.entry_at-entry.result in
    let bytes : c.as_slice.result.now ≡ entry_bytes placed =
    c.as_slice.ensures ∙ c.to_bytes.ensures.is in
    c.loop-index.invariant c.put_all.new.out false
    (rw (entries_from file i (get_or c.args.offsets.now (2 + i) 0) (entry_of c.entry.result) placed
    inside c.entry.ensures.is (c.requires.are.each (2 + i) less) c.entry_at-entry.ensures.is)
    (stops g.W.Write.contents c.loop-index.out c.put_all.new.out _
    (flat_map entry_bytes (drop (i + 1) es)) (rw bytes at c.in-Err.ensures)))

pub returns : goal.returns
returns g c =
    let file : ExactFile = g.S.ExactSource.exact c.args.source.now in
    let i = c.loop-index.index in
    let many = c.header-index-end.ensures.entry_count in
    let past : length file.database.entries ≤ i = omega arith in
    c.loop-index.invariant c.loop-index.out true
    (rw (entries_none file i past) (nothing g.W.Write.contents c.loop-index.out))
