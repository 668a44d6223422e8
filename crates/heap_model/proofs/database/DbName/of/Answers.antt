use Rattle.std.proofs.Common.{◌≡◌, ◌≤◌, ◌++◌, ℕ, List, length, take, min, ap, sym, ◌∙◌, arith}
use Rattle.std.proofs.lemmas.List.{length-take-le, take_min}
use Rattle.std.proofs.Math.Seq.{take-append_seam}
use Rattle.heap_model.proofs.database.DbName.of.Goals as goal

-- the front of a list, of which `count` elements were kept in front of others
kept_front : (bytes front rest : List ℕ) (count most : ℕ) → front ≡ take count bytes → count ≡ min most (length bytes) → count ≤ length bytes → take count (front ++ rest) ≡ take most bytes
kept_front bytes front rest count most is few within =
    let size : length front ≡ count = ap length is ∙ length-take-le count bytes within
    in ap (λ n. take n (front ++ rest)) (sym size) ∙ take-append_seam front rest ∙ is ∙ ap (λ n. take n bytes) few ∙ take_min most bytes

pub returns : goal.returns
returns c = kept_front c.args.bytes.now _ _ _ 32 c.copy_from_slice.ensures.after (let e = c.min-length.ensures in omega arith) (let e = c.min-length.ensures in omega arith)
