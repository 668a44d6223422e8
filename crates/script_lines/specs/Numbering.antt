-- The numbers of labels, in the order in which the labels first appear.
use Rattle.std.specs.Prelude.{ℕ, ◌+◌, List, Option, None, Some, is_some, unwrap_or, if◌then◌else◌}
use Rattle.std.specs.Str.{bytes_eq}

-- the labels that have appeared: the number of each, and their count
pub record Numbering : Type 0 where
  pub number : List ℕ → Option ℕ
  pub count : ℕ

abbrev pub no_labels : Numbering
no_labels = record { number = λ word. None; count = 0 }

-- the number of a label: the one that it has, or the next if it is new
abbrev pub label_number : Numbering → List ℕ → ℕ
label_number labels word = unwrap_or (labels.number word) labels.count

-- the labels with a new one, which takes the next number
abbrev pub with_next : Numbering → List ℕ → Numbering
with_next labels word = record {
  number = λ other. if bytes_eq word other then Some labels.count else labels.number other;
  count = labels.count + 1;
}

-- the labels, after one has appeared, for the first time or again
abbrev pub with_label : Numbering → List ℕ → Numbering
with_label labels word = if is_some (labels.number word) then labels else with_next labels word

-- the labels of chunks that have appeared, and those of databases; both tables may have the same
-- label
pub record Numberings : Type 0 where
  pub chunks : Numbering
  pub databases : Numbering

abbrev pub none_numbered : Numberings
none_numbered = record { chunks = no_labels; databases = no_labels }

-- the tables, after a label of a chunk has appeared
abbrev pub with_chunk_label : Numberings → List ℕ → Numberings
with_chunk_label labels word = record {
  chunks = with_label labels.chunks word;
  databases = labels.databases;
}

-- the tables, after a label of a database has appeared
abbrev pub with_database_label : Numberings → List ℕ → Numberings
with_database_label labels word = record {
  chunks = labels.chunks;
  databases = with_label labels.databases word;
}
