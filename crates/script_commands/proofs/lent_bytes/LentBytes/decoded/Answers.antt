use Rattle.std.proofs.Common.{◌/◌, arith, length, length-take-le, refl, sym}
use Rattle.script_commands.proofs.HexLaws.{lent_twice, lent_decoded}
use Rattle.script_commands.proofs.lent_bytes.LentBytes.decoded.Goals as goal

pub slice_bounds-bytes-end : goal.slice_bounds-bytes-end
slice_bounds-bytes-end c =
    let long = lent_twice c.self.inside.is_hex c.self.inside.text.now c.args.self.now c.self.invariant c.self.view_is c.if-not-self.false in
    sym (length-take-le (length c.self.inside.text.now / 2) c.args.buffer.now (omega (arith, long, c.requires.room)))

pub unwrap-requires : goal.unwrap-requires
unwrap-requires c =
    let long = lent_twice c.self.inside.is_hex c.self.inside.text.now c.args.self.now c.self.invariant c.self.view_is c.if-not-self.false in
    let room = length-take-le (length c.self.inside.text.now / 2) c.args.buffer.now (omega (arith, long, c.requires.room)) in
    let is = lent_decoded c.self.inside.is_hex c.self.inside.text.now c.args.self.now _ c.self.invariant c.self.view_is c.if-not-self.false room in
    let decodes = rw is at c.decode_to_slice.ensures.value in
    rw decodes.0 refl
