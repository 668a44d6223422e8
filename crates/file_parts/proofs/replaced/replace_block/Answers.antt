-- `replace_block` replaces the block of a rank by the bytes of a part.
use Rattle.file_parts.proofs.ReplacedSound.{replaced_all}
use Rattle.file_parts.proofs.replaced.replace_block.Goals as goal

pub returns-clause-replaces : goal.returns-clause-replaces
returns-clause-replaces g c = replaced_all c.ready.result
    (record { unpacked = c.args.unpacked; at = c.args.at; part = c.args.part }) c.ready.ensures.done
    c.ready.ensures.same
