use Rattle.std.proofs.Common.{subst, arith}
use Rattle.heap_model.specs.Files.{IsFirstFault}
use Rattle.file_listing.proofs.Places.{entries_there, info_near, place_inside}
use Rattle.file_listing.proofs.damage.fault_place.Goals as goal

pub data_place-requires : goal.data_place-requires
data_place-requires g c =
    (entries_there (g.B.FileBytes.bytes c.args.file.now) c.in-BadOffset.index (subst (IsFirstFault (g.B.FileBytes.bytes c.args.file.now)) c.in-BadOffset.is c.requires.first)).0

pub returns-in-BadInfo-clause-most : goal.returns-in-BadInfo-clause-most
returns-in-BadInfo-clause-most g c =
    let near = info_near c.in-BadInfo.which in
    omega (arith, near, c.info_block_at.ensures)

pub returns-in-BadOffset-clause-most : goal.returns-in-BadOffset-clause-most
returns-in-BadOffset-clause-most g c =
    let inside = place_inside (g.B.FileBytes.bytes c.args.file.now) c.in-BadOffset.index (subst (IsFirstFault (g.B.FileBytes.bytes c.args.file.now)) c.in-BadOffset.is c.requires.first) in
    omega (arith, inside, c.data_place.ensures, c.requires.short)
