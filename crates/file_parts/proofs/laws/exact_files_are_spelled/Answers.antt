-- `exact_files_are_spelled` states that a file without fault is the bytes of what it is exactly.
use Rattle.file_parts.proofs.ExactSpelled.{bytes_are, size_is, placed_well}
use Rattle.file_parts.proofs.laws.exact_files_are_spelled.Goals as goal

pub returns : goal.returns
returns c = λ file exact b is. record {
  bytes = bytes_are file exact b is;
  size = size_is file exact b is;
  placed = placed_well file exact b is;
}
