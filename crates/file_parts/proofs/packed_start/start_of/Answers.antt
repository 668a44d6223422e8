-- `start_of` returns the first bytes of a file, by the bytes before its blocks.
use Rattle.file_parts.proofs.AllLaws.{ℕ, List, length, ap, arith, head_least, head_most, starts}
use Rattle.file_parts.proofs.packed_start.start_of.Goals as goal

pub start_size-most-requires : goal.start_size-most-requires
start_size-most-requires g c =
    let least = head_least _ c.args.parts.now c.args.head.bytes.items c.requires.has.good
    c.requires.most c.requires.file in
    let same = ap (λ (xs : List ℕ). length xs) c.deref-2.ensures.value in
    omega (arith, least, same)

pub append_blocks_within-requires-clause-most : goal.append_blocks_within-requires-clause-most
append_blocks_within-requires-clause-most g c =
    let most = head_most _ c.args.parts.now c.args.head.bytes.items c.requires.has.good
    c.requires.most c.requires.file in
    let least = c.start_size-most.ensures.start in
    omega (arith, most, least)

pub returns-clause-starts : goal.returns-clause-starts
returns-clause-starts g c =
    let most = c.start_size-most.result in
    starts _ c.args.parts.now c.args.head.bytes.items _ most _ c.requires.has.good
    c.know_parts.ensures (rw c.deref.ensures.value at c.know_numbers.ensures) c.requires.file
    c.requires.size c.requires.most c.start_size-most.ensures.start (rw c.deref-2.ensures.value at
    c.start_size-most.ensures.app) c.in_ok-append_blocks_within.ensures.items
