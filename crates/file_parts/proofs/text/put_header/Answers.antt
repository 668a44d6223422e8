-- `put_header` writes the lines of the values of a header, by the contracts of its calls.
use Rattle.file_parts.proofs.AllWords.{◌≡◌, refl, header_values, header_lines}
use Rattle.file_parts.proofs.text.put_header.Goals as goal

pub returns : goal.returns
unfolding header_lines
returns g c =
    let header = header_values c.args.header.now in
    let lines : header_lines (record header { name = c.name.result.now; version = c.from.result })
    ≡ header_lines header = rw (c.name.ensures.is, c.from.ensures) refl in
    rw lines at c.put_pieces.ensures
