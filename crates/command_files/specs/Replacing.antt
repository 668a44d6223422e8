-- Files that are not replaced.
use Rattle.std.specs.Prelude.{ℕ, Bool, List}
use Rattle.heap_model.specs.DatabaseFields.{header_size}
use Rattle.heap_model.specs.Frame.{frame_size}
use Rattle.hints.specs.Lookalikes.{looks_like_database, looks_like_image}
use Rattle.command_files.specs.declared.replacing.OutputKind.{OutputKind}
use Rattle.command_files.specs.declared.replacing.OutputKind.TheVariants.{Image, Database}

-- A file that begins so is not replaced by a file of this kind: it looks like one of the other kind.
abbrev pub looks_like_other : OutputKind → List ℕ → Bool
looks_like_other Image head = looks_like_database head
looks_like_other Database head = looks_like_image head

-- the number of its first bytes that show this
abbrev pub head_size : OutputKind → ℕ
head_size Image = header_size
head_size Database = frame_size
