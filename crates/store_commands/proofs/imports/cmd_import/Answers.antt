use Rattle.std.proofs.Common.{refl}
use Rattle.store_commands.proofs.Imported.{refused_ends}
use Rattle.store_commands.proofs.imports.cmd_import.Goals as goal

pub returns-in-Err-clause-ends : goal.returns-in-Err-clause-ends
returns-in-Err-clause-ends g c =
    refused_ends c.args.choice c.args.files.now g.W.Write.contents c.args.image_out.now c.args.image_out.now g.V.Write.contents c.args.out.now c.say_why.new.out c.say_why.result.word c.say_why.result.status refl
    (c.say_why.ensures.ends c.args.choice c.args.files.now c.in-Err.ensures.why)
