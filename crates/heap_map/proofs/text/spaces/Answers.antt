-- `spaces` returns `count` spaces, by the laws of LineLaws.
use Rattle.heap_map.proofs.LineLaws.{spaces_are}
use Rattle.heap_map.proofs.text.spaces.Goals as goal

pub returns : goal.returns
returns c = spaces_are c.args.count c.requires
