-- The documents of databases, as they are written.
use Rattle.std.proofs.Common.{◌≡◌, ◌++◌, ◌≤◌, ◌-◌, ℕ, List, [], ◌∷◌, length, get_or, take, drop, refl, ap, sym, arith}
use Rattle.std.specs.Prelude.{codes, decimal}
use Rattle.std.proofs.lemmas.List.{take_all}
use Rattle.heap_model.specs.Bytes.{u32_bytes}
use Rattle.heap_model.specs.Database.{has_resources}
use Rattle.heap_model.specs.declared.database.DbInfo.{DbInfo}
use Rattle.unicode_text.specs.Strings.{string, hex_string}
use Rattle.store_commands.specs.declared.databases.Row.{Row}
use Rattle.store_commands.specs.DatabasesJson.{info_json, kind_and_type_json, more_json, row_json, rows_json}

abbrev pub info_text : (name again kind : List ℕ) → (type creator attributes count : ℕ) → List ℕ
info_text name again kind type creator attributes count =
    codes "{\"name\":" ++ (string name
    ++ (codes ",\"name_hex\":" ++ (hex_string again
    ++ (kind ++ (string (u32_bytes type)
    ++ (codes ",\"type_hex\":" ++ (hex_string (u32_bytes type)
    ++ (codes ",\"creator\":" ++ (string (u32_bytes creator)
    ++ (codes ",\"creator_hex\":" ++ (hex_string (u32_bytes creator)
    ++ (codes ",\"attributes\":" ++ (decimal attributes
    ++ (codes ",\"count\":" ++ (decimal count ++ codes ",")))))))))))))))

pub info_is : (info : DbInfo) (name again kind : List ℕ) (attributes count : ℕ) → name ≡ info.name → again ≡ info.name → kind ≡ kind_and_type_json (has_resources info.attributes) → attributes ≡ info.attributes → count ≡ info.entry_count → info_text name again kind info.kind info.creator attributes count ≡ info_json info
unfolding info_json
info_is info name again kind attributes count name_is again_is kind_is attributes_is count_is = rw (name_is, again_is, kind_is, attributes_is, count_is) refl

-- the rows after the first, as a pattern gives them
pub rows_from : (rows : List Row) (d : Row) → 1 ≤ length rows → rows_json rows ≡ row_json (get_or rows 0 d) ++ more_json (take (length rows - 1) (drop 1 rows))
rows_from [] d some = absurd (omega (arith, some))
rows_from (row ∷ rows) d some =
    let all : take (length (row ∷ rows) - 1) rows ≡ rows = take_all (length (row ∷ rows) - 1) rows (omega arith) in
    ap (λ (rest : List Row). row_json row ++ more_json rest) (sym all)
