use Rattle.std.proofs.Common.{◌≡◌, ◌-◌, ℕ, Option, Some, length, sym, ap, subst}
use Rattle.std.specs.Prelude.{slice_range}
use Rattle.pdb_format.specs.Blocks.{IsBlockWithin}
use Rattle.pdb_format.proofs.FileBlocks.{block_long}
use Rattle.file_listing.specs.declared.rows.Extent.{Extent}
use Rattle.file_listing.proofs.walk.extent_of.Goals as goal

pub returns-in-Some : goal.returns-in-Some
returns-in-Some g c =
    let file = c.args.file.now in
    let block = c.in-Some.block in
    let within = subst (IsBlockWithin (length file)) c.in-Some.is c.requires.within in
    let long : block.end - block.start ≡ length (slice_range file block.start block.end) = sym (block_long file (Some block) within) in
    let extent : ℕ → Option Extent = λ size. Some (record { offset = c.args.at; size = size }) in
    rw c.in-Some.is (ap extent long)
