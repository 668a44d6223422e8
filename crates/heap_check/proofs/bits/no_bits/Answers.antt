-- `no_bits` returns bits of which none is set, by the laws of bit_sets.
use Rattle.std.proofs.Common.{refl}
use Rattle.bit_sets.proofs.SetLaws.{none_in_zeros}
use Rattle.heap_check.proofs.bits.no_bits.Goals as goal

pub returns : goal.returns
returns c = none_in_zeros 524288 0 refl
