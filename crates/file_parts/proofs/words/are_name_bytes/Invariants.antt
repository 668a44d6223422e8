-- The invariant of the loop of `are_name_bytes`.
use Rattle.file_parts.proofs.AllWords.{◌≡◌, true, take, list_all, is_name_byte}
use Rattle.file_parts.proofs.words.are_name_bytes.Given as goal

abbrev pub invariant-loop-byte : goal.invariant-loop-byte
invariant-loop-byte l = list_all is_name_byte (take l.byte-index l.bytes) ≡ true
