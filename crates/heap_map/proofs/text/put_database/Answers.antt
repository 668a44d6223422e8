-- `put_database` writes the line of a database.
use Rattle.heap_map.proofs.Words.{◌++◌, ◌∷◌, [], ℕ, subst, is_ok, Writes, then, map_database_line, name_and_count}
use Rattle.heap_map.proofs.text.put_database.Goals as goal

pub returns : goal.returns
unfolding map_database_line
returns g c = subst (λ (letter : ℕ). Writes g.W.Write.contents c.args.out.now c.put_entries.new.out
    ((letter ∷ []) ++ name_and_count c.args.header.now) (is_ok c.put_entries.result))
    c.letter_of.ensures (then g.W.Write.contents c.args.out.now c.put_all.new.out
    c.put_entries.new.out (c.letter_of.result ∷ []) (name_and_count c.args.header.now)
    (is_ok c.put_entries.result) c.in_ok-put_all.ensures c.put_entries.ensures)
