-- The words of a header, with a name, a version and a number of entries that are equal to its own.
use Rattle.std.proofs.Common.{◌≡◌, ℕ, List, ◌++◌, ap, ◌∙◌}
use Rattle.std.specs.Prelude.{codes}
use Rattle.heap_model.specs.declared.database.DbInfo.{DbInfo}
use Rattle.script_calls.specs.Lines.{info_words, words_text}

-- the line of these words
abbrev pub line_with : DbInfo → List ℕ → ℕ → ℕ → List ℕ
line_with info name version count = (codes "ok" ++ words_text (info_words (record info { name = name; version = version; entry_count = count }))) ++ codes "\n"

pub line_of_info : (info : DbInfo) (name : List ℕ) (version count : ℕ) → name ≡ info.name → version ≡ info.version → count ≡ info.entry_count
    → line_with info name version count ≡ (codes "ok" ++ words_text (info_words info)) ++ codes "\n"
line_of_info info name version count is_name is_version is_count =
    ap (λ (n : List ℕ). line_with info n version count) is_name
    ∙ ap (λ (v : ℕ). line_with info info.name v count) is_version
    ∙ ap (λ (k : ℕ). line_with info info.name info.version k) is_count
