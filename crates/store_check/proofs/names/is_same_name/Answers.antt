-- `is_same_name` returns whether two databases have the same name, by the laws of NameLaws.
use Rattle.store_check.proofs.Lemmas.{take, Decides-eqb, slice_eq-Decides, same_fields}
use Rattle.store_check.proofs.names.is_same_name.Goals as goal

pub returns : goal.returns
returns c =
    let s = same_fields c.args.header.now c.args.other.now c.requires.name c.requires.other_name in
    let d = slice_eq-Decides Decides-eqb (take 32 c.args.header.now)
    (take 32 c.args.other.now) c.eq.result c.eq.ensures in
    (λ yes. s.0 (d.0 yes), λ same. d.1 (s.1 same))
