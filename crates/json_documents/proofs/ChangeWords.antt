-- The words of the changes, as they are written.
use Rattle.std.proofs.Common.{◌≡◌, ◌++◌, ℕ, Bool, List, refl}
use Rattle.std.specs.Prelude.{◌&&◌, ◌||◌, codes}
use Rattle.canonical_file.specs.declared.changes.Changes.{Changes}
use Rattle.canonical_file.specs.Changes.{word}
use Rattle.json_documents.specs.RowTexts.{changes_json, comma_if}

abbrev pub changes_text : (busy comma1 filler comma2 ids comma3 name comma4 order : List ℕ) → List ℕ
changes_text busy comma1 filler comma2 ids comma3 name comma4 order =
    codes "\"changes\":[" ++ (busy ++ (comma1 ++ (filler ++ (comma2 ++ (ids ++ (comma3 ++ (name ++ (comma4 ++ (order ++ codes "]}\n")))))))))

pub changes_are : (changes : Changes) (two three four : Bool) (busy comma1 filler comma2 ids comma3 name comma4 order : List ℕ)
    → two ≡ (changes.busy || changes.filler) → three ≡ (two || changes.ids) → four ≡ (three || changes.name)
    → busy ≡ word changes.busy (codes "\"busy\"") → comma1 ≡ comma_if (changes.busy && changes.filler)
    → filler ≡ word changes.filler (codes "\"filler\"") → comma2 ≡ comma_if (two && changes.ids)
    → ids ≡ word changes.ids (codes "\"ids\"") → comma3 ≡ comma_if (three && changes.name)
    → name ≡ word changes.name (codes "\"name\"") → comma4 ≡ comma_if (four && changes.order)
    → order ≡ word changes.order (codes "\"order\"")
    → changes_text busy comma1 filler comma2 ids comma3 name comma4 order ≡ changes_json changes
unfolding changes_json
changes_are changes two three four busy comma1 filler comma2 ids comma3 name comma4 order is_two is_three is_four busy_is comma1_is filler_is comma2_is ids_is comma3_is name_is comma4_is order_is =
    rw (busy_is, comma1_is, filler_is, comma2_is, ids_is, comma3_is, name_is, comma4_is, order_is, is_four, is_three, is_two) refl
