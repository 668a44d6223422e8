-- `put_letter_note` writes the letter of a database, its name, and the number of its entries.
use Rattle.heap_svg.proofs.Words.{◌++◌, ◌∷◌, [], ℕ, false, subst, Writes, then, stops, letter_note, entries_note}
use Rattle.std.specs.Prelude.{is_ok}
use Rattle.heap_svg.proofs.legend.put_letter_note.Goals as goal

pub returns-in-Ok : goal.returns-in-Ok
unfolding letter_note
returns-in-Ok g c =
    subst (λ (letter : ℕ). Writes g.W.Write.contents c.args.out.now c.put_entries_note.new.out
    ((letter ∷ 32 ∷ []) ++ entries_note c.args.header.now) (is_ok c.put_entries_note.result))
    c.letter_of.ensures (then g.W.Write.contents c.args.out.now c.put_all.new.out
    c.put_entries_note.new.out (c.letter_of.result ∷ 32 ∷ []) (entries_note c.args.header.now)
    (is_ok c.put_entries_note.result) c.in-Ok.ensures c.put_entries_note.ensures)

pub returns-in-Err : goal.returns-in-Err
unfolding letter_note
returns-in-Err g c = subst (λ (letter : ℕ). Writes g.W.Write.contents c.args.out.now
    c.put_all.new.out ((letter ∷ 32 ∷ []) ++ entries_note c.args.header.now) false)
    c.letter_of.ensures (stops g.W.Write.contents c.args.out.now c.put_all.new.out
    (c.letter_of.result ∷ 32 ∷ []) (entries_note c.args.header.now) c.in-Err.ensures)
