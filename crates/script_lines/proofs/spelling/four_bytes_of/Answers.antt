use Rattle.std.proofs.Common.{◌≡◌, ◌==◌, length, true, ap, sym, ◌∙◌, rules, tests}
use Rattle.std.specs.Prelude.{Some}
use Rattle.heap_model.specs.Bytes.{u32_at}
use Rattle.script_lines.specs.Spellings.{number_of_four}
use Rattle.std.specs.Option.{option_and_then}
use Rattle.script_lines.proofs.spelling.four_bytes_of.Goals as goal

pub returns : goal.returns
unfolding u32_at
returns c =
    let long : length c.in_ok-text.text ≡ 4 = sym c.len.ensures ∙ c.if-len-ne4.false in
    let four : (length c.in_ok-text.text == 4) ≡ true = search (rules, tests) in
    let number : number_of_four c.in_ok-text.text ≡ Some c.read_u32.result = rw four (ap Some (sym (c.read_u32.ensures ∙ ap (λ bytes. u32_at bytes 0) c.decoded.ensures))) in
    sym (ap (option_and_then number_of_four) (sym c.in_ok-text.ensures) ∙ number)
