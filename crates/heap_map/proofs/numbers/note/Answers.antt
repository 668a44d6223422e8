-- `note` gives a word that can't be a slot no number, by the laws of NumberLaws.
use Rattle.heap_map.proofs.NumberLaws.{notes_apart}
use Rattle.heap_map.proofs.numbers.note.Goals as goal

pub returns-in_default : goal.returns-in_default
returns-in_default c = notes_apart c.args.table.now c.args.slot c.args.number
    (λ k below e. c.in_default.ensures.none k e)
