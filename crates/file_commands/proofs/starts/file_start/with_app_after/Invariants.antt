use Rattle.file_commands.specs.Starts.{rest_of, zeros_with}
use Rattle.file_commands.proofs.starts.file_start.with_app_after.Given as goal

-- the other bytes of the file, or AppInfo and zeros if it isn't known
abbrev pub ghost-of : goal.ghost-of
ghost-of g a = rest_of (g.F.ReadsAt.bytes a._file.now) a.start.items (zeros_with a.start.items a.app.items a.size)
