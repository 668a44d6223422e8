-- The text of a folder, by what its first line is.
use Rattle.file_parts.proofs.AllWords.{◌≡◌, ℕ, true, false, Some, None, List, refl, sym, ap, subst, ◌∙◌, Ok, Err, lines, LineFault, Left, left, read_database, read_exact, read_exact_from, read_exact_line, IsCanonicallyRead, IsExactlyRead, IsFaultOf, IsFaultyText, IsReadFrom, ListedFolder}
use Rattle.file_parts.specs.declared.either.ListedFolder.TheVariants as listed

said_exactly : (text : List ℕ) (start rest : Left) → start ≡ left 0 (lines text)
    → read_exact_line start ≡ Ok (true, rest) → read_exact text ≡ Some (read_exact_from rest)
unfolding read_exact
said_exactly text start rest begin is = cc

not_exact : (text : List ℕ) (start rest : Left) → start ≡ left 0 (lines text)
    → read_exact_line start ≡ Ok (false, rest) → read_exact text ≡ None
unfolding read_exact
not_exact text start rest begin is = cc

faulty_line : (text : List ℕ) (start : Left) (fault : LineFault) → start ≡ left 0 (lines text)
    → read_exact_line start ≡ Err fault → read_exact text ≡ Some (Err fault)
unfolding read_exact
faulty_line text start fault begin is = cc

-- ---- a text with the line `exact`

pub read_exactly : (text : List ℕ) (start rest : Left) → start ≡ left 0 (lines text)
    → read_exact_line start ≡ Ok (true, rest) → (folder : ListedFolder) → IsExactlyRead rest folder
    → IsReadFrom text folder
read_exactly text start rest begin is (listed.Canonical database) read = absurd read
read_exactly text start rest begin is (listed.Exact exact) read =
    said_exactly text start rest begin is ∙ ap Some read

pub faulty_exactly : (text : List ℕ) (start rest : Left) (fault : LineFault)
    → start ≡ left 0 (lines text) → read_exact_line start ≡ Ok (true, rest)
    → read_exact_from rest ≡ Err fault → IsFaultyText text fault
faulty_exactly text start rest fault begin is faulty =
    subst (λ said. IsFaultOf said text fault) (sym (said_exactly text start rest begin is)) faulty

-- ---- a text without it

pub read_canonically : (text : List ℕ) (start rest : Left) → start ≡ left 0 (lines text)
    → read_exact_line start ≡ Ok (false, rest) → (folder : ListedFolder)
    → IsCanonicallyRead text folder → IsReadFrom text folder
read_canonically text start rest begin is (listed.Canonical database) read =
    (not_exact text start rest begin is, read)
read_canonically text start rest begin is (listed.Exact exact) read = absurd read

pub faulty_canonically : (text : List ℕ) (start rest : Left) (fault : LineFault)
    → start ≡ left 0 (lines text) → read_exact_line start ≡ Ok (false, rest)
    → read_database text ≡ Err fault → IsFaultyText text fault
faulty_canonically text start rest fault begin is faulty =
    subst (λ said. IsFaultOf said text fault) (sym (not_exact text start rest begin is)) faulty

-- ---- a text whose first line is faulty

pub faulty_first : (text : List ℕ) (start : Left) (fault : LineFault) → start ≡ left 0 (lines text)
    → read_exact_line start ≡ Err fault → IsFaultyText text fault
faulty_first text start fault begin is =
    subst (λ said. IsFaultOf said text fault) (sym (faulty_line text start fault begin is)) refl
