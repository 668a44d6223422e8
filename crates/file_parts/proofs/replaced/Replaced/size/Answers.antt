-- `size` returns the size of the file in bytes, by the laws of ReplacedSound.
use Rattle.file_parts.proofs.AllWords.{◌≤◌, ◌∙◌, arith, most_bytes, exact_size, exact_replacing}
use Rattle.file_parts.proofs.ReplacedSound.{size_is}
use Rattle.file_parts.proofs.replaced.Replaced.size.Goals as goal

pub returns : goal.returns
returns c =
    let places = c.requires.places in
    let size = places.size in
    let fits = places.fits in
    let r = c.args.self.now.replacing in
    let most : exact_size (exact_replacing r) ≤ most_bytes = omega (arith, size, fits) in
    size ∙ size_is r c.requires.good c.requires.placed most
