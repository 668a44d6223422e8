use Rattle.std.proofs.Common.{◌∙◌, sym, arith}
use Rattle.file_listing.proofs.CategoryNames.{none_before, next_named, unnamed, all_before}
use Rattle.file_listing.proofs.categories.have_names.Goals as goal

pub loop-number-init : goal.loop-number-init
loop-number-init c = none_before c.args.app.now

pub returns-then-not-has_name : goal.returns-then-not-has_name
returns-then-not-has_name c =
    sym (unnamed c.args.app.now c.loop-number.number c.loop-number-test.true (sym c.has_name.ensures ∙ c.if-not-has_name.true))

pub loop-number-preserved : goal.loop-number-preserved
loop-number-preserved c =
    next_named c.args.app.now c.loop-number.number c.loop-number-test.true c.loop-number.invariant (sym c.has_name.ensures ∙ c.if-not-has_name.false)

pub returns : goal.returns
returns c = sym (all_before c.args.app.now c.loop-number.number (omega (arith, c.loop-number-test.false)) c.loop-number.invariant)
