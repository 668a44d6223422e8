use Rattle.std.proofs.Common.{List, ℕ, subst}
use Rattle.file_parts.specs.Keeping.{AreChangesLeft}
use Rattle.file_parts.specs.Kept.{IsKeepFault, bytes_kept}
use Rattle.file_parts.specs.declared.exact_writing.PlaceFault.{PlaceFault}
use Rattle.file_parts.specs.declared.exact_writing.PlaceFault.TheVariants.{TooLarge}
use Rattle.file_commands.proofs.Keeping.{kept_whole, too_large}
use Rattle.file_commands.proofs.keep_command.keep_by.Goals as goal

pub returns-in-Ok-clause-ends : goal.returns-in-Ok-clause-ends
returns-in-Ok-clause-ends g c =
    let file : List ℕ = c.args.unpacked.file in
    let are : AreChangesLeft c.args.keep file c.changes_by-left.result = subst (λ (xs : List ℕ). AreChangesLeft c.args.keep xs c.changes_by-left.result) c.file.ensures c.changes_by-left.ensures in
    kept_whole g.W.Write.contents g.V.Write.contents c.args.keep file (bytes_kept c.in-Ok.kept) c.changes_by-left.result c.args.file_out.now c.put_kept.new.file_out c.args.out.now c.put_kept.new.out c.put_kept.result
    c.in-Ok.ensures.keeps are c.put_kept.ensures.statuses c.put_kept.ensures.written c.put_kept.ensures.told c.put_kept.ensures.write

pub returns-in-Err-TooLarge-clause-ends : goal.returns-in-Err-TooLarge-clause-ends
returns-in-Err-TooLarge-clause-ends g c =
    let file : List ℕ = c.args.unpacked.file in
    let large : IsKeepFault c.args.keep file TooLarge = subst (λ (fault : PlaceFault). IsKeepFault c.args.keep file fault) c.in-Err-TooLarge.field-0-is c.in-Err-TooLarge.ensures.why in
    too_large g.W.Write.contents g.V.Write.contents c.args.keep file c.args.file_out.now c.args.out.now c.say.new.out c.say.result
    large c.say.ensures.status c.say.ensures.said c.say.ensures.fault
