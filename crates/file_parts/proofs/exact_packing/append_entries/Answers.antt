-- `append_entries` appends the entries with these offsets, by the laws of ExactPacked.
use Rattle.file_parts.proofs.AllLaws.{◌≡◌, ◌+◌, ◌<◌, ◌≤◌, ◌++◌, ℕ, List, length, get_or, refl, sym, ap, ◌∙◌, arith, append-nil, flat_map, Entry, entry_bytes, entry_with, entry_of, ListedEntry, entries_whole, entry_more}
use Rattle.file_parts.proofs.exact_packing.append_entries.Goals as goal

pub loop-index-init : goal.loop-index-init
loop-index-init g c = λ parts are. sym (append-nil c.args.bytes.now.items)

pub loop-index-preserved : goal.loop-index-preserved
loop-index-preserved g c = λ parts are.
    let exact = c.args.exact.now in
    let item : ListedEntry = c.index-entries-index.result in
    let i = c.loop-index.index in
    let entries : List ListedEntry = exact.listed.entries.items in
    let long : length c.as_slice-entries.result.now ≡ length entries =
    ap length c.as_slice-entries.ensures.value in
    let inside : i < length entries = omega arith in
    let is_item : item ≡ get_or entries i item = c.index-entries-index.is
    ∙ ap (λ (xs : List ListedEntry). get_or xs i item) c.as_slice-entries.ensures.value in
    entry_more exact parts _ c.args.bytes.now.items _ _ _ i (get_or c.args.offsets.now (2 + i) 0) _
    are inside is_item refl (c.as_slice.ensures ∙ c.to_bytes.ensures.is
    ∙ ap entry_bytes c.entry_at-entry.ensures.is ∙ ap (λ (x : ListedEntry). entry_bytes
    (entry_with {Data = ℕ} (λ _. get_or c.args.offsets.now (2 + i) 0) (entry_of x.entry)))
    (sym c.index-entries-index.is)) c.in_ok-append.ensures.items (c.loop-index.invariant parts are)

pub returns-clause-items : goal.returns-clause-items
returns-clause-items g c = λ parts are.
    let exact = c.args.exact.now in
    let i = c.loop-index.index in
    let long : length c.as_slice-entries.result.now ≡ length exact.listed.entries.items =
    ap length c.as_slice-entries.ensures.value in
    let past : length exact.listed.entries.items ≤ i = omega arith in
    c.loop-index.invariant parts are ∙ ap (λ (es : List (Entry ℕ)). c.args.bytes.now.items
    ++ flat_map entry_bytes es) (entries_whole exact parts i past)
