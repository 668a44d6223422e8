use Rattle.std.proofs.Common.{List, ℕ, subst}
use Rattle.std.specs.Prelude.{is_ok}
use Rattle.palm_text.specs.Counted.{Writes}
use Rattle.store_commands.proofs.Documents.{info_is}
use Rattle.store_commands.proofs.databases_json.put_info.Goals as goal

pub returns : goal.returns
returns g c =
    subst (λ (text : List ℕ). Writes g.W.Write.contents c.args.out.now c.put_json.new.out text (is_ok c.put_json.result))
    (info_is c.args.info.now c.as_slice.result.now c.as_slice-2.result.now c.kind_of.result.now c.from.result c.from-2.result c.as_slice.ensures.is c.as_slice-2.ensures.is c.kind_of.ensures c.from.ensures c.from-2.ensures)
    c.put_json.ensures
