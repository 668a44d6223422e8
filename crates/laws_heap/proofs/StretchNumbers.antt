-- In which stretch a chunk is: it is the same in lists of one layout, and in lists whose chunks
-- have slid. The chunk is told by a test that no free chunk passes.
use Rattle.laws_heap.proofs.Words.{◌≡◌, ℕ, zero, suc, ◌+◌, ◌<◌, Bool, false, true, cond, List, [], ◌∷◌, ◌++◌, length, Option, Some, None, refl, sym, ap, ◌∙◌, arith, ◌||◌, not, filter, list_any, position_or_len, Chunk, free, movable, fixed, need, EveryPlaced, onto_first, runs_between, has_chunk, stretches, chunks_of, free_onto, merged, layout_of, Becomes, gap, Slid, packed_behind, packed, is_movable_as, stretch_of}
use Rattle.laws_heap.proofs.Placed.{TakesBytes}
use Rattle.laws_heap.proofs.Packings.{slid_packed}

-- no free chunk passes
abbrev pub LiveAlone : (Chunk → Bool) → Type 0
LiveAlone test = (size : ℕ) → test (free size) ≡ false

-- the number of the first stretch that has a chunk which passes
abbrev pub stretch_with : (Chunk → Bool) → List Chunk → ℕ
stretch_with test cs = position_or_len (list_any test) (stretches cs)

-- ---- of each run, which may be empty, whether a chunk of it passes

abbrev flags : (Chunk → Bool) → List (List Chunk) → List (Option Bool)
flags test [] = []
flags test ([] ∷ runs) = None ∷ flags test runs
flags test ((c ∷ run) ∷ runs) = Some (list_any test (c ∷ run)) ∷ flags test runs

abbrev first_flagged : List (Option Bool) → ℕ
first_flagged [] = 0
first_flagged (None ∷ others) = first_flagged others
first_flagged (Some passes ∷ others) = cond (not passes) (1 + first_flagged others) 0

abbrev flag_onto : Bool → List (Option Bool) → List (Option Bool)
flag_onto passes [] = Some passes ∷ []
flag_onto passes (None ∷ others) = Some passes ∷ others
flag_onto passes (Some before ∷ others) = Some (passes || before) ∷ others

number_flagged : (test : Chunk → Bool) (runs : List (List Chunk))
    → position_or_len (list_any test) (filter has_chunk runs) ≡ first_flagged (flags test runs)
number_flagged test [] = refl
number_flagged test ([] ∷ runs) = number_flagged test runs
number_flagged test ((c ∷ run) ∷ runs) =
    ap (λ n. cond (not (list_any test (c ∷ run))) (1 + n) 0) (number_flagged test runs)

or_no : (passes : Bool) → (passes || false) ≡ passes
or_no true = refl
or_no false = refl

flags_onto : (test : Chunk → Bool) (c : Chunk) (runs : List (List Chunk))
    → flags test (onto_first c runs) ≡ flag_onto (test c) (flags test runs)
flags_onto test c [] = ap (λ (b : Bool). Some b ∷ []) (or_no (test c))
flags_onto test c ([] ∷ runs) = ap (λ (b : Bool). Some b ∷ flags test runs) (or_no (test c))
flags_onto test c ((d ∷ run) ∷ runs) = refl

free_flags : (test : Chunk → Bool) (size : ℕ) (runs : List (List Chunk)) → LiveAlone test
    → flags test (onto_first (free size) runs) ≡ flag_onto false (flags test runs)
free_flags test size runs live =
    flags_onto test (free size) runs ∙ ap (λ b. flag_onto b (flags test runs)) (live size)

flag_twice : (others : List (Option Bool))
    → flag_onto false (flag_onto false others) ≡ flag_onto false others
flag_twice [] = refl
flag_twice (None ∷ others) = refl
flag_twice (Some before ∷ others) = refl

-- ---- free neighbours made one

onto_flags : (test : Chunk → Bool) (n : ℕ) (cs : List Chunk) → LiveAlone test
    → flags test (runs_between (free_onto n cs)) ≡ flag_onto false (flags test (runs_between cs))
onto_flags test n [] live = free_flags test n ([] ∷ []) live
onto_flags test n (free m ∷ cs) live = free_flags test (n + m) (runs_between cs) live
    ∙ sym (flag_twice (flags test (runs_between cs)))
    ∙ ap (flag_onto false) (sym (free_flags test m (runs_between cs) live))
onto_flags test n (movable bytes lock owner slot ∷ cs) live =
    free_flags test n (runs_between (movable bytes lock owner slot ∷ cs)) live
onto_flags test n (fixed bytes owner ∷ cs) live =
    free_flags test n (runs_between (fixed bytes owner ∷ cs)) live

flags-merged : (test : Chunk → Bool) (cs : List Chunk) → LiveAlone test
    → flags test (runs_between (merged cs)) ≡ flags test (runs_between cs)
flags-merged test [] live = refl
flags-merged test (free n ∷ cs) live = onto_flags test n (merged cs) live
    ∙ ap (flag_onto false) (flags-merged test cs live)
    ∙ sym (free_flags test n (runs_between cs) live)
flags-merged test (movable bytes zero owner slot ∷ cs) live =
    let c : Chunk = movable bytes 0 owner slot in
    flags_onto test c (runs_between (merged cs))
    ∙ ap (flag_onto (test c)) (flags-merged test cs live)
    ∙ sym (flags_onto test c (runs_between cs))
flags-merged test (movable bytes (suc count) owner slot ∷ cs) live =
    ap (λ (fs : List (Option Bool)). None ∷ fs) (flags-merged test cs live)
flags-merged test (fixed bytes owner ∷ cs) live =
    ap (λ (fs : List (Option Bool)). None ∷ fs) (flags-merged test cs live)

pub stretch_with-merged : (test : Chunk → Bool) (cs : List Chunk) → LiveAlone test
    → stretch_with test (merged cs) ≡ stretch_with test cs
stretch_with-merged test cs live = number_flagged test (runs_between (merged cs))
    ∙ ap first_flagged (flags-merged test cs live) ∙ sym (number_flagged test (runs_between cs))

-- ---- chunks that slide

abbrev flag_room : ℕ → List (Option Bool) → List (Option Bool)
flag_room zero others = others
flag_room (suc n) others = flag_onto false others

more_flags : (room n : ℕ) (others : List (Option Bool)) → 0 < n
    → flag_room (room + n) others ≡ flag_room room (flag_onto false others)
more_flags zero zero others some = absurd (omega arith)
more_flags zero (suc n) others some =
    ap (λ k. flag_room k others) (let e : 0 + suc n ≡ suc n = omega arith in e)
more_flags (suc m) n others some =
    ap (λ k. flag_room k others) (let e : suc m + n ≡ suc (m + n) = omega arith in e)
    ∙ sym (flag_twice others)

flag_past : (room : ℕ) (passes : Bool) (others : List (Option Bool))
    → flag_onto passes (flag_room room others) ≡ flag_room room (flag_onto passes others)
flag_past zero passes others = refl
flag_past (suc n) passes [] = ap (λ (b : Bool). Some b ∷ []) (or_no passes)
flag_past (suc n) passes (None ∷ others) = ap (λ (b : Bool). Some b ∷ others) (or_no passes)
flag_past (suc n) passes (Some before ∷ others) = refl

gap_flags : (test : Chunk → Bool) (room : ℕ) (runs : List (List Chunk)) (cs : List Chunk)
    → LiveAlone test → runs_between cs ≡ [] ∷ runs
    → flags test (runs_between (gap room ++ cs)) ≡ flag_room room (None ∷ flags test runs)
gap_flags test zero runs cs live e = ap (flags test) e
gap_flags test (suc n) runs cs live e = free_flags test (suc n) (runs_between cs) live
    ∙ ap (λ (rs : List (List Chunk)). flag_onto false (flags test rs)) e

flags-packed : (test : Chunk → Bool) (at room : ℕ) (cs : List Chunk) → LiveAlone test
    → EveryPlaced TakesBytes at cs → flags test (runs_between (packed_behind room cs))
    ≡ flag_room room (flags test (runs_between cs))
flags-packed test at zero [] live takes = refl
flags-packed test at (suc n) [] live takes = free_flags test (suc n) ([] ∷ []) live
flags-packed test at room (free n ∷ cs) live takes =
    let least = takes.0 in
    flags-packed test (at + n) (room + n) cs live takes.1
    ∙ more_flags room n (flags test (runs_between cs)) (omega arith)
    ∙ ap (flag_room room) (sym (free_flags test n (runs_between cs) live))
flags-packed test at room (movable bytes zero owner slot ∷ cs) live takes =
    let c : Chunk = movable bytes 0 owner slot in
    flags_onto test c (runs_between (packed_behind room cs))
    ∙ ap (flag_onto (test c)) (flags-packed test (at + need (length bytes)) room cs live takes.1)
    ∙ flag_past room (test c) (flags test (runs_between cs))
    ∙ ap (flag_room room) (sym (flags_onto test c (runs_between cs)))
flags-packed test at room (movable bytes (suc count) owner slot ∷ cs) live takes =
    gap_flags test room (runs_between (packed_behind 0 cs)) _ live refl
    ∙ ap (λ (fs : List (Option Bool)). flag_room room (None ∷ fs)) (flags-packed test
    (at + need (length bytes)) 0 cs live takes.1)
flags-packed test at room (fixed bytes owner ∷ cs) live takes = gap_flags test room (runs_between
    (packed_behind 0 cs)) (fixed bytes owner ∷ packed_behind 0 cs) live refl
    ∙ ap (λ (fs : List (Option Bool)). flag_room room (None ∷ fs)) (flags-packed test
    (at + need (length bytes)) 0 cs live takes.1)

stretch_with-packed : (test : Chunk → Bool) (at : ℕ) (cs : List Chunk) → LiveAlone test
    → EveryPlaced TakesBytes at cs → stretch_with test (packed cs) ≡ stretch_with test cs
stretch_with-packed test at cs live takes = number_flagged test (runs_between (packed cs))
    ∙ ap first_flagged (flags-packed test at 0 cs live takes)
    ∙ sym (number_flagged test (runs_between cs))

pub slid_stretch : (test : Chunk → Bool) (at here : ℕ) (cs ds : List Chunk) → LiveAlone test
    → EveryPlaced TakesBytes at cs → EveryPlaced TakesBytes here ds → Slid cs ds
    → stretch_with test ds ≡ stretch_with test cs
slid_stretch test at here cs ds live takes others s =
    sym (stretch_with-packed test here ds live others)
    ∙ ap (stretch_with test) (slid_packed cs ds s) ∙ stretch_with-packed test at cs live takes

-- ---- of an image

pub stretch-layout : (image : List ℕ) (name : ℕ)
    → stretch_of image name ≡ stretch_with (is_movable_as name) (layout_of image)
stretch-layout image name = sym (stretch_with-merged _ (chunks_of image) (λ size. refl))

pub becomes_stretch : (old new : List ℕ) (cs : List Chunk) (name : ℕ) → Becomes old new cs
    → stretch_of new name ≡ stretch_with (is_movable_as name) cs
becomes_stretch old new cs name b = stretch-layout new name
    ∙ ap (stretch_with (is_movable_as name)) b.layout
    ∙ stretch_with-merged (is_movable_as name) cs (λ size. refl)
