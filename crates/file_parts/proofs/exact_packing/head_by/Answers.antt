-- `head_by` returns the head of the file with these offsets and this size.
use Rattle.file_parts.proofs.AllLaws.{ℕ, List, ◌++◌, drop, take, sym, ap, subst, ◌∙◌, ExactFile, exact_placed, AreOffsets, exact_packed, fields_taken, joined_head}
use Rattle.file_parts.proofs.exact_packing.head_by.Goals as goal

pub returns-clause-head : goal.returns-clause-head
returns-clause-head g c = λ parts are.
    let file : ExactFile = exact_packed c.args.exact.now parts in
    let placed = subst (AreOffsets file) (sym c.as_slice-offsets.ensures.value) are in
    let fields = ap (λ (xs : List ℕ). take 46 (drop 32 xs)) (c.header_at.ensures parts placed)
    ∙ fields_taken (exact_placed file) c.requires.good.good.name.room in
    joined_head file _ _ _ _ c.new-bytes.ensures.items c.in_ok-append_name.ensures.items
    (c.in_ok-append.ensures.items ∙ ap (λ (xs : List ℕ). c.append_name.new.bytes.items ++ xs)
    fields) (c.in_ok-append_entries.ensures.items parts placed)
