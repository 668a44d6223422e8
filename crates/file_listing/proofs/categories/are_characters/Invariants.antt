use Rattle.std.proofs.Common.{◌≡◌, true, take}
use Rattle.std.specs.List.{list_all}
use Rattle.file_listing.specs.Categories.{is_character}
use Rattle.file_listing.proofs.categories.are_characters.Given as goal

abbrev pub invariant-loop-byte : goal.invariant-loop-byte
invariant-loop-byte l = list_all is_character (take l.byte-index l.text) ≡ true
