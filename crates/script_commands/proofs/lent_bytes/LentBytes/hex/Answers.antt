use Rattle.std.proofs.Common.{arith, sym, ◌∙◌}
use Rattle.script_commands.proofs.HexLaws.{digits_spell, hex_is, odd_spell_none, others_spell_none}
use Rattle.script_commands.proofs.lent_bytes.LentBytes.hex.Goals as goal
use Rattle.script_commands.proofs.lent_bytes.LentBytes.hex.Goals.{then-digits-ne0-via-then-digits-ne0, then-digits-ne0-via-else-digits-ne0+then-not-are_hex_digits}

pub returns-then-digits-ne0 : goal.returns-then-digits-ne0
returns-then-digits-ne0 c =
    elim c.then-digits-ne0.branch [
      | then-digits-ne0-via-then-digits-ne0 w ↦ sym (odd_spell_none c.args.digits.now (omega (arith, w.if-digits-ne0.true)))
      | then-digits-ne0-via-else-digits-ne0+then-not-are_hex_digits w ↦ sym (others_spell_none c.args.digits.now (sym w.are_hex_digits.ensures ∙ w.if-not-are_hex_digits.true))
    ]

pub invariant_of-result : goal.invariant_of-result
invariant_of-result c = λ _. digits_spell c.args.digits.now c.if-digits-ne0.false (sym c.are_hex_digits.ensures ∙ c.if-not-are_hex_digits.false)

pub returns : goal.returns
returns c = sym (hex_is c.args.digits.now (digits_spell c.args.digits.now c.if-digits-ne0.false (sym c.are_hex_digits.ensures ∙ c.if-not-are_hex_digits.false)))
