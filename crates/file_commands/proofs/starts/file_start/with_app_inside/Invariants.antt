use Rattle.std.specs.Prelude.{◌-◌, length, replicate}
use Rattle.file_commands.specs.Starts.{rest_of}
use Rattle.file_commands.proofs.starts.file_start.with_app_inside.Given as goal

-- the other bytes of the file, or zeros if it isn't known
abbrev pub ghost-of : goal.ghost-of
ghost-of g a = rest_of (g.F.ReadsAt.bytes a._file.now) a.start.items (replicate (a.size - length a.start.items) 0)
