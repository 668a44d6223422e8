-- Strips, as a walk meets them.
use Rattle.heap_svg.proofs.Words.{◌≡◌, ℕ, ◌+◌, ◌<◌, ◌≤◌, cond, List, [], ◌∷◌, ◌++◌, length, refl, sym, ap, subst, ◌∙◌, append_assoc, arith, inl, inr, ◌⊎◌, nat_lt, All, IfOk, cases_lt, nat_tests, append-nil, All-nil, All-push, Chunk, size_of, total, area_start, chunks_of, HeapAccepted, total-append, SpelledAll-end, read_heap, Header, size_by, HasHeader, size_by-header_of, HasPassed, passed_size, passed_step, passed_all, mark_by-is, Strip, head_mark, head_strip, joins, longer, next_strip, strips_from, strips_of, byte_mark, mark_of_byte, HasByte, HasOneMark, AnyHas, ShowImage, end_of, all_strips, JoinsLast, BeginsStrip, AddsBytes}
use Rattle.std.specs.Prelude.{Bool, true, false, Result, Ok, Err}
use Rattle.heap_svg.specs.declared.strips.Strips.{Strips}
use Rattle.heap_map.specs.Marks.{mark_of, mark_by}

-- ---- the marks of bytes

lt_yes : (a b x y : ℕ) → a < b → cond (nat_lt a b) x y ≡ x
lt_yes a b x y less = grind (arith, nat_tests)

lt_no : (a b x y : ℕ) → b ≤ a → cond (nat_lt a b) x y ≡ y
lt_no a b x y more = grind (arith, nat_tests)

chunk_byte : (image : List ℕ) (at : ℕ) (before : List Chunk) (c : Chunk) (after : List Chunk)
    (byte : ℕ) → at + total before ≤ byte → byte < at + total before + size_of c
    → byte_mark image at (before ++ c ∷ after) byte ≡ mark_of image c
chunk_byte image at [] c after byte low high = lt_yes byte (at + size_of c) _ _ (omega arith)
chunk_byte image at (d ∷ before) c after byte low high =
    lt_no byte (at + size_of d) (mark_of image d) _ (omega arith)
    ∙ chunk_byte image (at + size_of d) before c after byte (omega arith) (omega arith)

pub byte_of_chunk : (image : List ℕ) (before : List Chunk) (c : Chunk) (after : List Chunk)
    (byte : ℕ) → chunks_of image ≡ before ++ c ∷ after → area_start image + total before ≤ byte
    → byte < area_start image + total before + size_of c → mark_of_byte image byte ≡ mark_of image c
byte_of_chunk image before c after byte parts low high =
    lt_no byte (area_start image) head_mark _ (omega arith)
    ∙ ap (λ (cs : List Chunk). byte_mark image (area_start image) cs byte) parts
    ∙ chunk_byte image (area_start image) before c after byte low high

head_byte : (image : List ℕ) (byte : ℕ) → byte < area_start image
    → mark_of_byte image byte ≡ head_mark
head_byte image byte less = lt_yes byte (area_start image) head_mark _ less

-- the strip ends within the image
abbrev IsInside : List ℕ → Strip → Type 0
IsInside image strip = strip.at + strip.size ≤ length image

-- ---- the strips so far

pub record Shown (image : List ℕ) (thin : ℕ) (strips : Strips) (chunks : List Chunk) : Type 0 where
  pub exact : (others : List Chunk) → strips_from image thin (head_strip image) (chunks ++ others)
      ≡ strips.whole.items ++ strips_from image thin strips.last others
  pub ends : end_of strips ≡ area_start image + total chunks
  pub whole : All (HasOneMark image) strips.whole.items
  pub whole_inside : All (IsInside image) strips.whole.items
  pub last : HasOneMark image strips.last
  pub last_inside : IsInside image strips.last
  pub covered : (byte : ℕ) → byte < end_of strips
      → AnyHas byte strips.whole.items ⊎ HasByte byte strips.last

pub shown_none : (image : List ℕ) (thin : ℕ) (strips : Strips) (start : ℕ)
    → start ≡ area_start image → area_start image ≤ length image → strips.whole.items ≡ []
    → strips.last ≡ record { mark = head_mark; at = 0; size = start; is_thin = false }
    → Shown image thin strips []
shown_none image thin strips start is fits none first =
    let mark : strips.last.mark ≡ head_mark = ap (λ (s : Strip). s.mark) first in
    let at : strips.last.at ≡ 0 = ap (λ (s : Strip). s.at) first in
    let size : strips.last.size ≡ start = ap (λ (s : Strip). s.size) first in
    let head = ap (λ n. let h : Strip =
    record { mark = head_mark; at = 0; size = n; is_thin = false } in h) (sym is) ∙ sym first in
    record {
      exact = λ others.
          ap (λ (last : Strip). strips_from image thin last others) head
          ∙ ap (λ (ss : List Strip). ss ++ strips_from image thin strips.last others) (sym none);
      ends = omega arith;
      whole = subst (λ (ss : List Strip). All (HasOneMark image) ss) (sym none)
          (All-nil (HasOneMark image));
      whole_inside = subst (λ (ss : List Strip). All (IsInside image) ss) (sym none)
          (All-nil (IsInside image));
      last_inside = omega arith;
      last = λ byte has. let high = has.1 in head_byte image byte (omega arith) ∙ sym mark;
      covered = λ byte less. inr (omega arith, omega arith);
    }

-- a chunk that joins a strip has its mark
joins_mark : (thin : ℕ) (last : Strip) (mark size : ℕ) → joins thin last mark size ≡ true
    → mark ≡ last.mark
joins_mark thin last mark size j = grind (arith, nat_tests)

exact_more : (image : List ℕ) (thin : ℕ) (before : List Chunk) (c : Chunk) (others : List Chunk)
    → strips_from image thin (head_strip image) ((before ++ c ∷ []) ++ others)
    ≡ strips_from image thin (head_strip image) (before ++ c ∷ others)
exact_more image thin before c others =
    ap (strips_from image thin (head_strip image)) (append_assoc before (c ∷ []) others)

more_total : (cs : List Chunk) (c : Chunk) → total (cs ++ c ∷ []) ≡ total cs + size_of c
more_total cs c = let both = total-append cs (c ∷ []) in let none : total [] ≡ 0 = refl in
    omega arith

any_right : (byte : ℕ) (xs : List Strip) (x : Strip) → HasByte byte x → AnyHas byte (xs ++ x ∷ [])
any_right byte [] x has = inl has
any_right byte (y ∷ xs) x has = inr (any_right byte xs x has)

any_left : (byte : ℕ) (xs : List Strip) (x : Strip) → AnyHas byte xs → AnyHas byte (xs ++ x ∷ [])
any_left byte [] x any = absurd any
any_left byte (y ∷ xs) x any =
    elim any [ inl here ↦ inl here | inr later ↦ inr (any_left _ xs x later) ]

any_of : (byte : ℕ) (xs : List Strip) (x : Strip) → AnyHas byte xs ⊎ HasByte byte x
    → AnyHas byte (xs ++ x ∷ [])
any_of byte xs x either =
    elim either [ inl any ↦ any_left _ xs x any | inr has ↦ any_right _ xs x has ]

joined : (image : List ℕ) (thin : ℕ) (old new : Strips) (mark size : ℕ) (before : List Chunk)
    (c : Chunk) (after : List Chunk) → end_of old + size ≤ length image
    → chunks_of image ≡ before ++ c ∷ after → mark ≡ mark_of image c → size ≡ size_of c
    → JoinsLast thin old new mark size → Shown image thin old before
    → Shown image thin new (before ++ c ∷ [])
joined image thin old new mark size before c after fits parts is_mark is_size j s =
    let true_here = ap (λ m. joins thin old.last m (size_of c)) (sym is_mark)
    ∙ ap (λ n. joins thin old.last mark n) (sym is_size) ∙ j.joined in
    let drawn : mark ≡ old.last.mark = joins_mark thin old.last mark size j.joined in
    let same : new.last.mark ≡ old.last.mark = ap (λ (t : Strip). t.mark) j.last in
    let at : new.last.at ≡ old.last.at = ap (λ (t : Strip). t.at) j.last in
    let grown : new.last.size ≡ old.last.size + size = ap (λ (t : Strip). t.size) j.last in
    let ends = s.ends in
    let more = more_total before c in
    record {
      exact = λ others. exact_more image thin before c others ∙ s.exact (c ∷ others)
          ∙ ap (λ (ss : List Strip). old.whole.items ++ ss)
          (ap (λ (b : Bool). cond b (strips_from image thin (longer old.last (size_of c)) others)
          (old.last ∷ strips_from image thin (next_strip thin old.last (mark_of image c)
          (size_of c)) others)) true_here ∙ ap (λ (t : Strip). strips_from image thin t others)
          (ap (λ (n : ℕ). longer old.last n) (sym is_size) ∙ sym j.last))
          ∙ ap (λ (ss : List Strip). ss ++ strips_from image thin new.last others) (sym j.whole);
      ends = omega arith;
      whole = subst (λ (ss : List Strip). All (HasOneMark image) ss) (sym j.whole) s.whole;
      whole_inside =
          subst (λ (ss : List Strip). All (IsInside image) ss) (sym j.whole) s.whole_inside;
      last_inside = omega arith;
      last = λ byte has.
          let low = has.0 in
          let high = has.1 in
          elim (cases_lt byte (end_of old)) [
            | inl less ↦ s.last byte (omega arith, less) ∙ sym same
            | inr past ↦ byte_of_chunk image before c after byte parts (omega arith) (omega arith)
                ∙ sym is_mark ∙ drawn ∙ sym same
          ];
      covered = λ byte below. elim (cases_lt byte (end_of old)) [
        | inl less ↦ elim (s.covered byte less) [
          | inl any ↦ inl (subst (AnyHas byte) (sym j.whole) any)
          | inr has ↦ let low = has.0 in let high = has.1 in inr (omega arith, omega arith)
        ]
        | inr past ↦ inr (omega arith, omega arith)
      ];
    }

begun : (image : List ℕ) (thin : ℕ) (old new : Strips) (mark size : ℕ) (before : List Chunk)
    (c : Chunk) (after : List Chunk) → end_of old + size ≤ length image
    → chunks_of image ≡ before ++ c ∷ after → mark ≡ mark_of image c → size ≡ size_of c
    → BeginsStrip thin old new mark size → Shown image thin old before
    → Shown image thin new (before ++ c ∷ [])
begun image thin old new mark size before c after fits parts is_mark is_size b s =
    let mark_is : new.last.mark ≡ mark = ap (λ (t : Strip). t.mark) b.last in
    let at : new.last.at ≡ end_of old = ap (λ (t : Strip). t.at) b.last in
    let long : new.last.size ≡ size = ap (λ (t : Strip). t.size) b.last in
    let ends = s.ends in
    let more = more_total before c in
    let false_here : joins thin old.last (mark_of image c) (size_of c) ≡ false =
    ap (λ (m : ℕ). joins thin old.last m (size_of c)) (sym is_mark)
    ∙ ap (λ (n : ℕ). joins thin old.last mark n) (sym is_size) ∙ b.apart in
    let next : next_strip thin old.last (mark_of image c) (size_of c) ≡ new.last =
    ap (λ (m : ℕ). next_strip thin old.last m (size_of c)) (sym is_mark)
    ∙ ap (λ (n : ℕ). next_strip thin old.last mark n) (sym is_size) ∙ sym b.last in
    record {
      exact = λ others. exact_more image thin before c others ∙ s.exact (c ∷ others)
          ∙ ap (λ (ss : List Strip). old.whole.items ++ ss) (ap (λ (x : Bool). cond x
          (strips_from image thin (longer old.last (size_of c)) others) (old.last
          ∷ strips_from image thin (next_strip thin old.last (mark_of image c) (size_of c)) others))
          false_here ∙ ap (λ (t : Strip). old.last ∷ strips_from image thin t others) next) ∙ sym
          (append_assoc old.whole.items (old.last ∷ []) (strips_from image thin new.last others))
          ∙ ap (λ (ss : List Strip). ss ++ strips_from image thin new.last others) (sym b.whole);
      ends = omega arith;
      whole = subst (λ (ss : List Strip). All (HasOneMark image) ss) (sym b.whole)
          (All-push (HasOneMark image) old.whole.items old.last s.whole s.last);
      whole_inside = subst (λ (ss : List Strip). All (IsInside image) ss) (sym b.whole)
          (All-push (IsInside image) old.whole.items old.last s.whole_inside s.last_inside);
      last_inside = omega arith;
      last = λ byte has. let low = has.0 in let high = has.1 in
          byte_of_chunk image before c after byte parts (omega arith) (omega arith) ∙ sym is_mark
          ∙ sym mark_is;
      covered = λ byte below. elim (cases_lt byte (end_of old)) [
        | inl less ↦ inl (subst (AnyHas byte) (sym b.whole)
            (any_of byte old.whole.items old.last (s.covered byte less)))
        | inr past ↦ inr (omega arith, omega arith)
      ];
    }

pub shown_more : (image : List ℕ) (thin : ℕ) (old new : Strips) (mark size : ℕ)
    (before : List Chunk) (c : Chunk) (after : List Chunk) → end_of old + size ≤ length image
    → chunks_of image ≡ before ++ c ∷ after → mark ≡ mark_of image c → size ≡ size_of c
    → AddsBytes thin old new mark size → Shown image thin old before
    → Shown image thin new (before ++ c ∷ [])
shown_more image thin old new mark size before c after fits parts is_mark is_size adds s =
    elim adds [
      | inl j ↦ joined image thin old new mark size before c after fits parts is_mark is_size j s
      | inr b ↦ begun image thin old new mark size before c after fits parts is_mark is_size b s
    ]

pub shown_all : (image : List ℕ) (thin : ℕ) (strips : Strips)
    → area_start image + total (chunks_of image) ≡ length image
    → Shown image thin strips (chunks_of image) → ShowImage image (all_strips strips)
shown_all image thin strips whole s =
    let ends = s.ends in
    record {
      inside =
          All-push (IsInside image) strips.whole.items strips.last s.whole_inside s.last_inside;
      right = All-push (HasOneMark image) strips.whole.items strips.last s.whole s.last;
      covered =
          λ byte below. any_of byte strips.whole.items strips.last (s.covered byte (omega arith));
    }

-- ---- the walk

pub shown_end : (image : List ℕ) (thin : ℕ) (strips : Strips) (at : ℕ)
    → HasPassed image (Shown image thin strips) at → end_of strips ≡ at
shown_end image thin strips at p = p.holds.ends ∙ sym (SpelledAll-end _ _ _ at p.spelled)

pub shown_step : (image : List ℕ) (thin : ℕ) (old new : Strips) (at : ℕ) (header : Header)
    (mark size : ℕ) → HeapAccepted image → HasPassed image (Shown image thin old) at
    → HasHeader image at header → mark ≡ mark_by image header → size ≡ size_by header
    → AddsBytes thin old new mark size
    → HasPassed image (Shown image thin new) (at + size_by header)
shown_step image thin old new at header mark size h p f is_mark is_size adds =
    let takes : size_by header ≡ size_of f.chunk =
    ap size_by f.header_is ∙ size_by-header_of f.chunk in
    let inside = (passed_size image at header f).1 in
    let end = shown_end image thin old at p in
    let drawn : mark_by image header ≡ mark_of image f.chunk =
    ap (mark_by image) f.header_is ∙ mark_by-is image f.chunk in
    passed_step image (Shown image thin old) (Shown image thin new) at header
    (read_heap image h).tiles p f (λ chunks after there parts was. shown_more image thin old new
    mark size chunks f.chunk after (omega arith) parts (is_mark ∙ drawn) (is_size ∙ takes) adds was)

pub shown_image : (image : List ℕ) (thin : ℕ) (strips : Strips) (at : ℕ) → length image ≤ at
    → HasPassed image (Shown image thin strips) at → ShowImage image (all_strips strips)
shown_image image thin strips at beyond p =
    let all = passed_all image (Shown image thin strips) at beyond p in
    shown_all _ _ _ (sym (SpelledAll-end _ _ _ _ all.spelled)) all.holds

pub exact_image : (image : List ℕ) (thin : ℕ) (strips : Strips) (at : ℕ) → length image ≤ at
    → HasPassed image (Shown image thin strips) at → all_strips strips ≡ strips_of image thin
unfolding strips_of
exact_image image thin strips at beyond p =
    let all = passed_all image (Shown image thin strips) at beyond p in
    sym (all.holds.exact [])
    ∙ ap (strips_from image thin (head_strip image)) (append-nil (chunks_of image))

-- what follows of a value that is there
pub ok_maps : {T E : Type 0} {P Q : T → Type 0} (result : Result T E) → ((x : T) → P x → Q x)
    → IfOk result P → IfOk result Q
ok_maps (Ok x) follows holds = follows x holds
ok_maps (Err e) follows holds = tt
