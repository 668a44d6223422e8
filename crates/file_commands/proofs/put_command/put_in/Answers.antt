use Rattle.std.proofs.Common.{List, ℕ, subst}
use Rattle.file_parts.specs.Replacing.{bytes_replaced}
use Rattle.file_commands.specs.WantedBlocks.{IsWantedRank}
use Rattle.file_commands.proofs.PutStatuses.{put_whole}
use Rattle.file_commands.proofs.put_command.put_in.Goals as goal

pub returns-in-Ok-replace_block-clause-ends : goal.returns-in-Ok-replace_block-clause-ends
returns-in-Ok-replace_block-clause-ends g c =
    let file : List ℕ = c.args.unpacked.file in
    let wanted : IsWantedRank file c.args.new.wanted c.in-Ok.rank = subst (λ (xs : List ℕ). IsWantedRank xs c.args.new.wanted c.in-Ok.rank) c.file.ensures c.in-Ok.ensures.rank in
    put_whole g.W.Write.contents g.V.Write.contents file c.args.new c.in-Ok.rank (bytes_replaced c.in-Ok-replace_block.replaced) c.args.file_out.now c.put_replaced.new.file_out c.args.out.now c.put_replaced.new.out c.put_replaced.result
    wanted c.in-Ok-replace_block.ensures.replaces c.put_replaced.ensures.statuses c.put_replaced.ensures.written c.put_replaced.ensures.told c.put_replaced.ensures.write
