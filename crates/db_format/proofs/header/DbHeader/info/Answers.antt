use Rattle.std.proofs.Common.{◌≡◌, ℕ, List, take, ap, ◌∙◌, arith}
use Rattle.std.proofs.lemmas.List.{take_all}
use Rattle.db_format.specs.Headers.{info_told}
use Rattle.db_format.proofs.header.DbHeader.info.Goals as goal

pub returns : goal.returns
returns c =
    let room = c.name.ensures.valid.room in
    let name : c.of.result ≡ c.args.self.now.name = c.of.ensures ∙ ap (take 32) c.name.ensures.is ∙ take_all 32 c.args.self.now.name (omega (arith, room)) in
    ap (λ (kept : List ℕ). record (info_told c.args.self.now) { name = kept }) name
