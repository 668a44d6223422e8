use Rattle.std.proofs.Common.{◌≡◌, ◌++◌, ◌∷◌, [], arith}
use Rattle.script_commands.specs.LineCounts.{byte_count, chunk_label_end, database_label_end}
use Rattle.script_commands.proofs.CountLaws.{greatest-push}
use Rattle.script_commands.proofs.line.Script.push.Goals as goal

pub invariant_of-self-2 : goal.invariant_of-self-2
invariant_of-self-2 g c =
    let chunks = greatest-push chunk_label_end c.self.inside.lines.items c.args.line in
    let databases = greatest-push database_label_end c.self.inside.lines.items c.args.line in
    let bytes = greatest-push byte_count c.self.inside.lines.items c.args.line in
    let items : c.push.new.items.items ≡ c.self.inside.lines.items ++ c.args.line ∷ [] = c.in_ok-push.ensures.items in
    rw items (omega (arith, chunks, c.in_ok-chunk_end.ensures), omega (arith, databases, c.in_ok-chunk_end.ensures), omega (arith, bytes, c.byte_count-byte_count.ensures))
