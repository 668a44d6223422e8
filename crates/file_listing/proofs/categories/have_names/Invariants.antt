use Rattle.std.proofs.Common.{◌≡◌, true}
use Rattle.file_listing.proofs.CategoryNames.{named_before}
use Rattle.file_listing.proofs.categories.have_names.Given as goal

abbrev pub invariant-loop-number : goal.invariant-loop-number
invariant-loop-number l = named_before l.app l.number ≡ true
