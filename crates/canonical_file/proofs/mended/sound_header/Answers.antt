-- `sound_header` returns the header of the sound parts, with the number of the sound entries, by
-- the laws of NamedHeaders.
use Rattle.std.proofs.Common.{List, ℕ, refl}
use Rattle.heap_model.specs.Database.{database_in}
use Rattle.db_format.specs.Headers.{IsHeaderOf}
use Rattle.canonical_file.proofs.NamedHeaders.{sound_head}
use Rattle.canonical_file.proofs.mended.sound_header.Goals as goal

pub returns : goal.returns
returns c =
    sound_head c.args.file.now c.read-header.result _
    (rw c.named_header.ensures.is at c.read-header.ensures) refl
    c.sound_info.ensures c.sound_info-2.ensures c.count_sound_entries.ensures
