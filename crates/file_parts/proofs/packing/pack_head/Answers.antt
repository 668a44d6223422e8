-- `pack_head` puts the parts of a listed database together, by their ranks.
use Rattle.file_parts.proofs.AllLaws.{arith, length-append, blocks_text, database_of_parts, packed_has_file, size_of}
use Rattle.file_parts.proofs.UnpackedBack.{unpacks_back}
use Rattle.file_parts.proofs.packing.pack_head.Goals as goal

pub overflow_sub-blocks : goal.overflow_sub-blocks
overflow_sub-blocks g c =
    let size = size_of _ c.args.parts.now c.in_ok-head.head.bytes.items c.requires.good
    c.in_ok-head.ensures.most c.in_ok-head.ensures.file in
    let is = c.in_ok-head.ensures.size in
    omega (arith, size, is)

pub returns-clause-packed : goal.returns-clause-packed
returns-clause-packed g c =
    let listed = c.args.listed.now in
    let parts = c.args.parts.now in
    record {
      canonical = c.in_ok-bytes.ensures.canonical;
      unpacks = unpacks_back _ _ (packed_has_file _ parts c.requires.good c.in_ok-head.ensures.most)
          c.in_ok-bytes.ensures.canonical;
    }

pub returns-clause-size : goal.returns-clause-size
returns-clause-size g c =
    let listed = c.args.listed.now in
    let parts = c.args.parts.now in
    let size = size_of _ parts c.in_ok-head.head.bytes.items c.requires.good
    c.in_ok-head.ensures.most c.in_ok-head.ensures.file in
    let is = c.in_ok-head.ensures.size in
    let both =
    length-append c.in_ok-bytes.bytes.items (blocks_text (database_of_parts listed parts)) in
    omega (arith, size, is, both)

pub canonical_head_of-requires : goal.canonical_head_of-requires
canonical_head_of-requires g c = record {
  has = c.requires;
  file = c.in_ok-head.ensures.file;
  size = c.in_ok-head.ensures.size;
  most = c.in_ok-head.ensures.most;
}
