use Rattle.std.proofs.Common.{◌==◌, length, sym, arith, rules, tests}
use Rattle.std.proofs.lemmas.List.Sums.{position_or_len_is}
use Rattle.script_lines.proofs.text.quote_end.Goals as goal

pub returns-then-byte-eq34-clause-value : goal.returns-then-byte-eq34-clause-value
returns-then-byte-eq34-clause-value c = sym (position_or_len_is (λ b. b == 34) c.args.text.now c.loop-at.at 0 (omega arith) c.loop-at.invariant (λ within. search (rules, tests)))

pub returns-clause-value : goal.returns-clause-value
returns-clause-value c = sym (position_or_len_is (λ b. b == 34) c.args.text.now (length c.args.text.now) 0 (omega arith) (λ k below. c.loop-at.invariant k (omega arith)) (λ within. absurd (omega arith)))
