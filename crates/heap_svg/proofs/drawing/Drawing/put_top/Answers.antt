-- `put_top` writes the first lines, the size of the image and its slots.
use Rattle.heap_svg.proofs.Laws.{◌≡◌, ◌+◌, ℕ, List, true, is_ok, length, ap, subst, ◌∙◌, arith, count_by, is_movable, chunks_of, slots_of, listed, Writes, then, sizes_at, open_text, used_slots_text, height_of, top_text, drawn_rows}
use Rattle.heap_svg.proofs.drawing.Drawing.put_top.Goals as goal

pub sizes_top-requires : goal.sizes_top-requires
sizes_top-requires g c =
    let few = c.requires.accepted.few in
    let count = c.requires.summary.databases in
    let rows = drawn_rows c.args.region.now.bytes c.args.self.now c.requires in
    record { rows = omega arith; databases = omega arith }

-- the same numbers make the same line
same_slots : (size used slots new_size new_used new_slots : ℕ) → size ≡ new_size → used ≡ new_used
    → slots ≡ new_slots
    → used_slots_text size used slots ≡ used_slots_text new_size new_used new_slots
same_slots size used slots new_size new_used new_slots sizes uses tables =
    ap (λ (n : ℕ). used_slots_text n used slots) sizes
    ∙ ap (λ (n : ℕ). used_slots_text new_size n slots) uses
    ∙ ap (λ (n : ℕ). used_slots_text new_size new_used n) tables

pub returns : goal.returns
unfolding top_text
returns g c =
    let image = c.args.region.now.bytes in
    let rows = c.args.self.now.rows in
    let summary = c.requires.summary in
    let height = c.sizes_top.ensures.is ∙ ap (sizes_at rows) summary.databases in
    let open_lines = rw height at c.in_ok-put_open.ensures in
    let slots = rw (same_slots _ _ _ _ _ _ summary.heap.size summary.heap.movable
    summary.heap.slots) at c.put_slots.ensures in
    then g.W.Write.contents c.args.out.now c.put_open.new.out c.put_slots.new.out
    (open_text (height_of rows (length (listed image)))) (used_slots_text (length image)
    (count_by is_movable (chunks_of image)) (length (slots_of image)))
    (is_ok c.put_slots.result) open_lines slots
