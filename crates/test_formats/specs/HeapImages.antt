-- Images to try the definitions on.
use Rattle.std.specs.Prelude.{◌≡◌, ◌++◌, ◌-◌, ◌*◌, ℕ, Bool, true, false, List, [], ◌∷◌, length, replicate, None}
use Rattle.heap_model.specs.Bytes.{u32_bytes}
use Rattle.heap_model.specs.Reading.{chunk_at, head_tests, area_tests}

-- the bytes of words of 32 bits
abbrev pub words : List ℕ → List ℕ
words [] = []
words (w ∷ ws) = u32_bytes w ++ words ws

-- 128 bytes with 4 slots and one free chunk
abbrev pub blank_image : List ℕ
blank_image = words (0x50484931 ∷ 128 ∷ 0x00040000 ∷ 0 ∷ 0 ∷ 0 ∷ 0 ∷ 0 ∷ 0x80000060 ∷ []) ++ replicate 92 0

-- the same with one movable chunk of 10 bytes and 6 of slack
abbrev pub one_chunk_image : List ℕ
one_chunk_image = words (0x50484931 ∷ 128 ∷ 0x00040000 ∷ 0 ∷ 0x28 ∷ 0 ∷ 0 ∷ 0 ∷ 0x06000018 ∷ 0x01FFFFF8 ∷ []) ++ replicate 16 0 ++ words (0x80000048 ∷ []) ++ replicate 68 0

-- 208 bytes with 8 slots: a directory, and one database `R` with two records
abbrev pub database_image : List ℕ
database_image =
    words (0x50484931 ∷ 208 ∷ 0x00080000 ∷ 0x10 ∷ 0x38 ∷ 0x48 ∷ 0xB0 ∷ 0xC0 ∷ 0 ∷ 0 ∷ 0 ∷ 0 ∷ [])
    ++ words (0x04000010 ∷ 0x00FFFFF0 ∷ 0x14 ∷ 0 ∷ [])
    ++ words (0x02000068 ∷ 0x00FFFFEA ∷ [])
    ++ 0x52 ∷ replicate 31 0 ++ replicate 28 0 ++ words (0x44415441 ∷ 0x54657374 ∷ 2 ∷ 0 ∷ [])
    ++ 0 ∷ 2 ∷ words (0x18 ∷ 1 ∷ 0x1C ∷ 2 ∷ []) ++ 0 ∷ 0 ∷ []
    ++ words (0x10 ∷ 0x0FFFFFB8 ∷ 0x41414141 ∷ 0x41414141 ∷ 0x10 ∷ 0x0FFFFFB2 ∷ 0x42424242 ∷ 0x42424242 ∷ 0x80000008 ∷ 0 ∷ [])

-- these words, and zeros up to a length
abbrev pub padded_words : ℕ → List ℕ → List ℕ
padded_words size ws = words ws ++ replicate (size - 4 * length ws) 0

-- 64 bytes with 1 slot that holds this, a directory word, and chunks
abbrev pub small_image : ℕ → ℕ → List ℕ → List ℕ
small_image directory slot chunks = padded_words 64 (0x50484931 ∷ 64 ∷ 0x00010000 ∷ directory ∷ slot ∷ 0 ∷ chunks)

-- all parts of the definition of an accepted heap, test by test
abbrev pub tests_of : List ℕ → List Bool
tests_of image = head_tests image ++ area_tests image

-- every test but the one of this number says yes
abbrev pub all_but : ℕ → List Bool
all_but number = replicate number true ++ false ∷ replicate (14 - number) true

-- the image breaks the part of this number alone
abbrev pub BreaksAlone : List ℕ → ℕ → Type 0
BreaksAlone image number = tests_of image ≡ all_but number

-- nothing is spelled where these two words stand before 32 more bytes
abbrev pub IsOutOfShape : ℕ → ℕ → Type 0
IsOutOfShape first second = chunk_at (small_image 0 0 (first ∷ second ∷ [])) 24 ≡ None
