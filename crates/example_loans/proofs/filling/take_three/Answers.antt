use Rattle.std.proofs.Common.{inl, inr}
use Rattle.example_loans.proofs.filling.take_three.Goals as goal

-- the second chunk is refused
pub returns-in-Err-take_out_also-clause-why : goal.returns-in-Err-take_out_also-clause-why
returns-in-Err-take_out_also-clause-why c = inr (c.take_out_also.new.self, c.in-Ok.loan, c.in-Ok.ensures.taken, inl c.in-Err-take_out_also.ensures.why)

-- the third is
pub returns-in-Err-take_out_also-2-clause-why : goal.returns-in-Err-take_out_also-2-clause-why
returns-in-Err-take_out_also-2-clause-why c =
    inr (c.take_out_also.new.self, c.in-Ok.loan, c.in-Ok.ensures.taken, inr (c.take_out_also-2.new.self, c.in-Ok-take_out_also.loan, c.in-Ok-take_out_also.ensures.taken, c.in-Err-take_out_also-2.ensures.why))
