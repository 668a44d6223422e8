-- Images with databases to try the definitions on.
use Rattle.std.specs.Prelude.{◌+◌, ◌++◌, ℕ, Bool, true, false, List, [], ◌∷◌, replicate}
use Rattle.heap_model.specs.Bytes.{overwritten}
use Rattle.laws_store.specs.StoreTests.{store_tests}
use Rattle.test_formats.specs.HeapImages.{words, database_image}

-- the image of a database `R` with two records, with other bytes from an offset on
abbrev pub changed_image : ℕ → List ℕ → List ℕ
changed_image at bytes = overwritten database_image at bytes

-- 160 bytes with 4 slots: a directory, and one database `P` with one resource
abbrev pub resource_image : List ℕ
resource_image =
    words (0x50484931 ∷ 160 ∷ 0x00040000 ∷ 0x10 ∷ 0x28 ∷ 0x38 ∷ 0x98 ∷ 0 ∷ 0x04000010 ∷ 0x00FFFFF8 ∷ 0x14 ∷ 0 ∷ 0x00000060 ∷ 0x00FFFFF2 ∷ 0x50000000 ∷ [])
    ++ replicate 28 0 ++ words (0x00010000 ∷ []) ++ replicate 24 0 ++ words (0x6170706C ∷ 0x54657374 ∷ 0 ∷ 0 ∷ 0x00017453 ∷ 0x545203E8 ∷ 0x18 ∷ [])
    ++ words (0x06000010 ∷ 0x0FFFFFC4 ∷ 0x48690000 ∷ 0 ∷ [])

-- a header without entries, with a name of one byte, and two bytes of slack
abbrev pub empty_header : ℕ → List ℕ
empty_header letter = letter ∷ replicate 31 0 ++ replicate 28 0 ++ words (0x44415441 ∷ 0x54657374 ∷ 0 ∷ 0 ∷ 0 ∷ [])

-- 224 bytes with 4 slots: a directory, whose first word and body these are, and two databases
-- without entries
abbrev pub two_databases : ℕ → ℕ → ℕ → ℕ → ℕ → List ℕ
two_databases first_word one_slot other_slot one_letter other_letter =
    words (0x50484931 ∷ 224 ∷ 0x00040000 ∷ 0x10 ∷ 0x28 ∷ 0x38 ∷ 0x90 ∷ 0 ∷ first_word ∷ 0x00FFFFF8 ∷ one_slot ∷ other_slot ∷ 0x02000058 ∷ 0x00FFFFF2 ∷ [])
    ++ empty_header one_letter ++ words (0x02000058 ∷ 0x00FFFFC8 ∷ []) ++ empty_header other_letter

-- 144 bytes with 4 slots: rooms of 88 and of 16 bytes on both sides of a locked chunk
abbrev pub two_rooms : List ℕ
two_rooms = words (0x50484931 ∷ 144 ∷ 0x00040000 ∷ 0 ∷ 0x80 ∷ 0 ∷ 0 ∷ 0 ∷ 0x80000058 ∷ []) ++ replicate 84 0 ++ words (8 ∷ 0x11FFFFCC ∷ 0x80000010 ∷ 0 ∷ 0 ∷ 0 ∷ [])

-- the numbers, from one on, of the tests that say no
abbrev pub broken_from : ℕ → List Bool → List ℕ
broken_from number [] = []
broken_from number (true ∷ tests) = broken_from (number + 1) tests
broken_from number (false ∷ tests) = number ∷ broken_from (number + 1) tests

-- the parts of the definition of an accepted image that an image breaks, by their numbers
abbrev pub broken : List ℕ → List ℕ
broken image = broken_from 0 (store_tests image)
