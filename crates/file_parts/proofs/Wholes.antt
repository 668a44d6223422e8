-- The whole text of a database that is read.
use Rattle.file_parts.proofs.AllWords.{◌≡◌, ℕ, List, ◌++◌, None, get_or, ap, codes, DatabaseHeader, blocks_in, header_read, entries_read, database_read, app_name, sort_name, name_if_data, named_entries, with_names, header_lines, info_line, info_lines, entry_lines, body_lines, database_text}

-- the lines after those of the header
abbrev pub rest_of : List ℕ → List ℕ → List ℕ
rest_of file ids = (info_line (codes "app") (name_if_data app_name (get_or (blocks_in file) 0 None))
    ++ info_line (codes "sort") (name_if_data sort_name (get_or (blocks_in file) 1 None)))
    ++ entry_lines (named_entries 0 (entries_read file ids))

pub text_is : (file ids : List ℕ) (seed : ℕ) (header : DatabaseHeader)
    → header ≡ header_read file seed → header_lines header ++ rest_of file ids
    ≡ database_text (with_names (database_read file ids seed))
unfolding database_read database_text body_lines info_lines
text_is file ids seed header is = ap (λ (h : DatabaseHeader). header_lines h ++ rest_of file ids) is
