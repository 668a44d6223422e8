-- Counting goes on by a chunk more.
use Rattle.mem_manager.proofs.Words.{◌≡◌, ℕ, ◌+◌, ◌≤◌, List, [], ◌∷◌, cond, refl, ap, ◌∙◌, arith, sum_by, count_by, sum_by-append, sum_by-cons, Chunk, free, movable, fixed, total, is_movable, is_fixed, free_size, Passed, passed_at, passed_more, AreCounted}
use Rattle.chunk_format.specs.declared.header.Header.{Header}
use Rattle.chunk_format.specs.declared.header.Header.TheVariants as headers
use Rattle.chunk_format.specs.Header.{size_by, HasHeader}
use Rattle.heap_check.specs.Survey.{movable_by, fixed_by, free_by}
use Rattle.heap_check.proofs.SurveyLaws.{movable_of, fixed_of, free_of, count_push}
use Rattle.mem_manager.specs.declared.counting.Counts.{Counts}

-- there are no more than bytes
counts_within : (cs : List Chunk)
    → count_by is_movable cs + count_by is_fixed cs + sum_by free_size cs ≤ total cs
counts_within [] = omega arith
counts_within (c ∷ cs) =
    let m = sum_by-cons (λ (x : Chunk). cond (is_movable x) 1 0) c cs in
    let f = sum_by-cons (λ (x : Chunk). cond (is_fixed x) 1 0) c cs in
    let s = sum_by-cons free_size c cs in
    one c cs (counts_within cs) m f s where
      one : (c : Chunk) (cs : List Chunk) → count_by is_movable cs + count_by is_fixed cs + sum_by free_size cs ≤ total cs → count_by is_movable (c ∷ cs) ≡ cond (is_movable c) 1 0 + count_by is_movable cs → count_by is_fixed (c ∷ cs) ≡ cond (is_fixed c) 1 0 + count_by is_fixed cs
          → sum_by free_size (c ∷ cs) ≡ free_size c + sum_by free_size cs → count_by is_movable (c ∷ cs) + count_by is_fixed (c ∷ cs) + sum_by free_size (c ∷ cs) ≤ total (c ∷ cs)
      one (free size) cs ih m f s = omega (arith, ih, m, f, s)
      one (movable bytes lock owner slot) cs ih m f s = omega (arith, ih, m, f, s)
      one (fixed bytes owner) cs ih m f s = omega (arith, ih, m, f, s)

pub counted_within : {image : List ℕ} (counts : Counts) {at : ℕ}
    → Passed image (AreCounted counts) at → counts.movable + counts.fixed + counts.free ≤ at
counted_within {image} counts {at} p =
    let there = passed_at image (AreCounted counts) at p in let within = counts_within p.front in
    let m = p.holds.movable in let f = p.holds.fixed in
    let s = p.holds.free in omega (arith, there, within, m, f, s)

pub free_fits : (header : Header) → free_by header ≤ size_by header
free_fits (headers.Free size) = omega arith
free_fits (headers.Movable length lock owner slot) = omega arith
free_fits (headers.Fixed length owner) = omega arith

pub counted_more : {image : List ℕ} (was now : Counts) {at : ℕ} {header : Header} → Passed image (AreCounted was) at → HasHeader image at header → now.movable ≡ was.movable + movable_by header → now.fixed ≡ was.fixed + fixed_by header → now.free ≡ was.free + free_by header
    → Passed image (AreCounted now) (at + size_by header)
counted_more {image} was now {at} {header} p has m f s =
    let one = sum_by-cons free_size has.chunk [] in
    let more : free_by header ≡ free_size has.chunk =
    ap free_by has.header_is ∙ free_of has.chunk in
    let movable_more : movable_by header ≡ count_by is_movable (has.chunk ∷ []) =
    ap movable_by has.header_is ∙ movable_of has.chunk in
    let fixed_more : fixed_by header ≡ count_by is_fixed (has.chunk ∷ []) =
    ap fixed_by has.header_is ∙ fixed_of has.chunk in
    let movables = count_push is_movable p.front has.chunk in
    let fixeds = count_push is_fixed p.front has.chunk in
    let frees = sum_by-append free_size p.front (has.chunk ∷ []) in
    let none : sum_by free_size [] ≡ 0 = refl in let was_m = p.holds.movable in
    let was_f = p.holds.fixed in let was_s = p.holds.free in
    passed_more image (AreCounted was) (AreCounted now) at header p has
    (record { movable = omega (arith, m, was_m, movable_more, movables); fixed = omega (arith, f, was_f, fixed_more, fixeds); free = omega (arith, s, was_s, more, one, none, frees) })
