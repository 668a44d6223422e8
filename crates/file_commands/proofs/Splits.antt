-- The first bytes of a file and of its AppInfo, and the bytes after them.
use Rattle.std.proofs.Common.{◌≡◌, ℕ, Option, Some, None, List, [], ◌++◌, inl, inr, ◌+◌, ◌-◌, ◌<◌, ◌≤◌, ◌≢◌, ◌^◌, length, take, drop, replicate, refl, sym, ap, subst, ◌∙◌, arith, append-nil, append_assoc, length-append}
use Rattle.std.specs.Prelude.{IfSome, min}
use Rattle.std.proofs.lemmas.List.{nil_from_length, take_all, take_at, take_min, drop_at, drop_all, take-take, take-append-le, drop-append-le, take-append-drop, length-drop, length-take-le, length-replicate, get_or_append_left, get_or-append_right, get_or-replicate, get_or_past}
use Rattle.std.proofs.lemmas.Bool.{cases_lt}
use Rattle.heap_model.specs.Bytes.{AreBytes, u32_at}
use Rattle.heap_model.specs.DatabaseFields.{app_info_at}
use Rattle.pdb_format.specs.FileStarts.{app_start, most_app, most_start}
use Rattle.pdb_format.proofs.WrittenHeads.{u32_front}
use Rattle.file_commands.specs.Starts.{BeginsWith, IsPartOfFile, IsSplit, rest_of, zeros_with}

-- ---- bytes

zero_bytes : (n : ℕ) → AreBytes (replicate n 0)
zero_bytes n k = elim (cases_lt k n) [
  | inl inside ↦ subst (λ (x : ℕ). x < 256) (sym (get_or-replicate n k 0 0 inside)) (omega arith)
  | inr past ↦
      let long = length-replicate {A = ℕ} n 0 in
      subst (λ (x : ℕ). x < 256) (sym (get_or_past (replicate n 0) k 0 (omega (arith, long, past)))) (omega arith)
]

both_bytes : (xs ys : List ℕ) → AreBytes xs → AreBytes ys → AreBytes (xs ++ ys)
both_bytes xs ys first second k = elim (cases_lt k (length xs)) [
  | inl inside ↦ subst (λ (x : ℕ). x < 256) (sym (get_or_append_left xs ys 0 k inside)) (first k)
  | inr past ↦ subst (λ (x : ℕ). x < 256) (sym (get_or-append_right xs ys (length xs) k 0 refl past)) (second (k - length xs))
]

-- ---- a file that is known

glued : (start all : List ℕ) → start ≡ take (length start) all → start ++ drop (length start) all ≡ all
glued start all is = ap (λ (xs : List ℕ). xs ++ drop (length start) all) is ∙ take-append-drop (length start) all

pub is_known : (file : Option (List ℕ)) (start other : List ℕ) (size : ℕ) → BeginsWith file start size → IfSome file (λ all. start ++ rest_of file start other ≡ all)
is_known None start other size begins = tt
is_known (Some all) start other size begins = glued start all begins.0

-- ---- AppInfo among the first bytes

app_inside : (start rest : List ℕ) → length start ≡ most_start + most_app → u32_at start app_info_at < most_start
    → take most_app (drop (u32_at start app_info_at) start) ≡ app_start (start ++ rest)
app_inside start rest is inside =
    let at = u32_at start app_info_at in
    let same = u32_front app_info_at start rest (omega (arith, is)) in
    let left = length-drop at start in
    sym (take-append-le most_app (drop at start) rest (omega (arith, is, inside, left)))
    ∙ ap (take most_app) (sym (drop-append-le at start rest (omega (arith, is, inside))))
    ∙ ap (λ (n : ℕ). take most_app (drop n (start ++ rest))) (sym same)

inside_by : (file : Option (List ℕ)) (start : List ℕ) (size : ℕ) → length start ≡ most_start + most_app → length start ≤ size → size < 2 ^ 63 → u32_at start app_info_at < most_start → AreBytes start → BeginsWith file start size
    → IsSplit start (take most_app (drop (u32_at start app_info_at) start)) size (rest_of file start (replicate (size - length start) 0))
inside_by None start size is long short inside numbers begins =
    let rest : List ℕ = replicate (size - length start) 0 in
    let count = length-replicate {A = ℕ} (size - length start) 0 in
    let both = length-append start rest in
    record {
      length_is = omega (arith, count, both, long);
      short = short;
      long = omega (arith, is);
      app_is = app_inside start rest is inside;
      numbers = both_bytes start rest numbers (zero_bytes (size - length start));
    }
inside_by (Some all) start size is long short inside numbers begins = record {
  length_is = sym (ap length (glued start all begins.0) ∙ begins.1);
  short = short;
  long = omega (arith, is);
  app_is = app_inside start (drop (length start) all) is inside;
  numbers = subst AreBytes (sym (glued start all begins.0)) begins.2;
}

pub split_inside : (file : Option (List ℕ)) (start app : List ℕ) (size : ℕ) → length start ≡ most_start + most_app → length start ≤ size → size < 2 ^ 63 → u32_at start app_info_at < most_start → AreBytes start → BeginsWith file start size
    → app ≡ take most_app (drop (u32_at start app_info_at) start) → IsSplit start app size (rest_of file start (replicate (size - length start) 0))
split_inside file start app size is long short inside numbers begins same =
    subst (λ (part : List ℕ). IsSplit start part size (rest_of file start (replicate (size - length start) 0))) (sym same)
    (inside_by file start size is long short inside numbers begins)

-- ---- AppInfo after the first bytes

after_at : (start app : List ℕ) (at size : ℕ) → length start ≤ at → at < size → length app ≡ min (size - at) most_app
    → app ≡ take most_app (drop at (start ++ (replicate (min at size - length start) 0 ++ (app ++ replicate (size - at - length app) 0))))
after_at start app at size after within count =
    let gap : List ℕ = replicate (min at size - length start) 0 in
    let last : List ℕ = replicate (size - at - length app) 0 in
    let first = length-append start gap in
    let between = length-replicate {A = ℕ} (min at size - length start) 0 in
    let zeros = length-replicate {A = ℕ} (size - at - length app) 0 in
    let dropped : drop at (start ++ (gap ++ (app ++ last))) ≡ app ++ last =
    ap (drop at) (sym (append_assoc start gap (app ++ last)))
    ∙ drop_at (start ++ gap) (app ++ last) at (omega (arith, first, between, after, within)) in
    let taken : take most_app (app ++ last) ≡ app = from (length app) refl count last zeros in
    sym (ap (take most_app) dropped ∙ taken)
  where
    from : (n : ℕ) → length app ≡ n → n ≡ min (size - at) most_app → (last : List ℕ) → length last ≡ size - at - n → take most_app (app ++ last) ≡ app
    from n is least last zeros = elim (cases_lt (size - at) most_app) [
      | inl few ↦
          let none : last ≡ [] = nil_from_length last (omega (arith, zeros, least, few)) in
          ap (λ (xs : List ℕ). take most_app (app ++ xs)) none ∙ ap (take most_app) (append-nil app) ∙ take_all most_app app (omega (arith, is, least, few))
      | inr many ↦ take_at app last most_app (omega (arith, is, least, many))
    ]

past_end : (app file : List ℕ) (at size : ℕ) → size ≤ at → length app ≡ min (size - at) most_app → length file ≡ size → app ≡ take most_app (drop at file)
past_end app file at size past count is =
    nil_from_length app (omega (arith, count, past)) ∙ sym (ap (take most_app) (drop_all at file (omega (arith, is, past))) ∙ take_all most_app [] (omega arith))

-- the length of the whole
after_long : (start app : List ℕ) (at size : ℕ) → length start ≤ at → length start ≤ size → length app ≡ min (size - at) most_app
    → length (start ++ (replicate (min at size - length start) 0 ++ (app ++ replicate (size - at - length app) 0))) ≡ size
after_long start app at size after long count =
    let gap : List ℕ = replicate (min at size - length start) 0 in
    let last : List ℕ = replicate (size - at - length app) 0 in
    let first = length-append start (gap ++ (app ++ last)) in
    let second = length-append gap (app ++ last) in
    let third = length-append app last in
    let between = length-replicate {A = ℕ} (min at size - length start) 0 in
    let zeros = length-replicate {A = ℕ} (size - at - length app) 0 in
    omega (arith, first, second, third, between, zeros, after, long, count)

after_zeros : (start app : List ℕ) (size at : ℕ) → at ≡ u32_at start app_info_at → 78 ≤ length start → length start ≤ at → length start ≤ size → length app ≡ min (size - at) most_app
    → app ≡ app_start (start ++ zeros_with start app size)
after_zeros start app size at is header after long count =
    let same = u32_front app_info_at start (zeros_with start app size) (omega (arith, header)) in
    whole (u32_at start app_info_at) (subst (λ (n : ℕ). length start ≤ n) is after) (count ∙ ap (λ (n : ℕ). min (size - n) most_app) is)
    ∙ ap (λ (n : ℕ). take most_app (drop n (start ++ zeros_with start app size))) (sym same)
  where
    whole : (n : ℕ) → length start ≤ n → length app ≡ min (size - n) most_app
        → app ≡ take most_app (drop n (start ++ (replicate (min n size - length start) 0 ++ (app ++ replicate (size - n - length app) 0))))
    whole n far least = elim (cases_lt n size) [
      | inl within ↦ after_at start app n size far within least
      | inr past ↦ past_end app _ n size past least (after_long start app n size far long least)
    ]

after_by : (file : Option (List ℕ)) (start app : List ℕ) (size : ℕ) → length start ≡ most_start → most_start ≤ size → size < 2 ^ 63 → most_start ≤ u32_at start app_info_at → AreBytes start → AreBytes app → BeginsWith file start size
    → length app ≡ min (size - u32_at start app_info_at) most_app → IsPartOfFile file (u32_at start app_info_at) (min (size - u32_at start app_info_at) most_app) app
    → IsSplit start app size (rest_of file start (zeros_with start app size))
after_by None start app size is long short after numbers app_numbers begins count part =
    let at = u32_at start app_info_at in
    record {
      length_is = sym (after_long start app at size (omega (arith, is, after)) (omega (arith, is, long)) count);
      short = short;
      long = omega (arith, is);
      app_is = after_zeros start app size at refl (omega (arith, is)) (omega (arith, is, after)) (omega (arith, is, long)) count;
      numbers = both_bytes start (zeros_with start app size) numbers
          (both_bytes (replicate (min at size - length start) 0) (app ++ replicate (size - at - length app) 0) (zero_bytes (min at size - length start))
          (both_bytes app (replicate (size - at - length app) 0) app_numbers (zero_bytes (size - at - length app))));
    }
after_by (Some all) start app size is long short after numbers app_numbers begins count part =
    let at = u32_at start app_info_at in
    let rest : List ℕ = drop (length start) all in
    let whole = glued start all begins.0 in
    let same = u32_front app_info_at start rest (omega (arith, is)) in
    let left = length-drop at all in
    let size_is = begins.1 in
    let least : min (size - at) most_app ≡ min most_app (length (drop at all)) = omega (arith, left, size_is) in
    record {
      length_is = sym (ap length whole ∙ begins.1);
      short = short;
      long = omega (arith, is);
      app_is = part ∙ ap (λ (n : ℕ). take n (drop at all)) least ∙ take_min most_app (drop at all)
          ∙ ap (λ (file : List ℕ). take most_app (drop at file)) (sym whole)
          ∙ ap (λ (n : ℕ). take most_app (drop n (start ++ rest))) (sym same);
      numbers = subst AreBytes (sym whole) begins.2;
    }

-- ---- the first bytes without those that were read for AppInfo

shorter : (file : Option (List ℕ)) (first : List ℕ) (size n : ℕ) → n ≤ length first → BeginsWith file first size → BeginsWith file (take n first) size
shorter None first size n less begins = tt
shorter (Some all) first size n less begins =
    let count = length-take-le n first less in
    (ap (take n) begins.0 ∙ take-take n (length first) all less ∙ ap (λ (m : ℕ). take m all) (sym count), begins.1, begins.2)

-- the offset of AppInfo is among the first bytes
same_at : (first : List ℕ) (n : ℕ) → 78 ≤ n → n ≤ length first → u32_at (take n first) app_info_at ≡ u32_at first app_info_at
same_at first n header less =
    let count = length-take-le n first less in
    sym (u32_front app_info_at (take n first) (drop n first) (omega (arith, header, count)))
    ∙ ap (λ (bytes : List ℕ). u32_at bytes app_info_at) (take-append-drop n first)

pub split_after : (file : Option (List ℕ)) (first start app : List ℕ) (size at : ℕ) → length first ≡ most_start + most_app → length first ≤ size → size < 2 ^ 63 → most_start ≤ u32_at first app_info_at → start ≡ take most_start first → at ≡ u32_at first app_info_at
    → AreBytes start → AreBytes app → BeginsWith file first size → length app ≡ min (size - at) most_app → IsPartOfFile file at (min (size - at) most_app) app
    → IsSplit start app size (rest_of file start (zeros_with start app size))
split_after file first start app size at is long short after cut place numbers app_numbers begins count part =
    let same : u32_at start app_info_at ≡ u32_at first app_info_at =
    ap (λ (bytes : List ℕ). u32_at bytes app_info_at) cut ∙ same_at first most_start (omega arith) (omega (arith, is)) in
    let at_is : at ≡ u32_at start app_info_at = place ∙ sym same in
    let size_is = length-take-le most_start first (omega (arith, is)) in
    after_by file start app size (ap length cut ∙ size_is) (omega (arith, is, long)) short (omega (arith, same, after)) numbers app_numbers
    (subst (λ (bytes : List ℕ). BeginsWith file bytes size) (sym cut) (shorter file first size most_start (omega (arith, is)) begins))
    (count ∙ ap (λ (n : ℕ). min (size - n) most_app) at_is)
    (subst (λ (n : ℕ). IsPartOfFile file n (min (size - n) most_app) app) at_is part)

pub after_known : (file : Option (List ℕ)) (first start other : List ℕ) (size : ℕ) → length first ≡ most_start + most_app → start ≡ take most_start first → BeginsWith file first size → IfSome file (λ all. start ++ rest_of file start other ≡ all)
after_known file first start other size is cut begins =
    is_known file start other size (subst (λ (bytes : List ℕ). BeginsWith file bytes size) (sym cut) (shorter file first size most_start (omega (arith, is)) begins))

-- ---- the bytes that are read first

pub begins : (file : Option (List ℕ)) (start : List ℕ) (size : ℕ) → length start ≡ most_start + most_app → IsPartOfFile file 0 (most_start + most_app) start → IfSome file (λ all. length all ≡ size) → IfSome file (λ all. AreBytes all)
    → BeginsWith file start size
begins None start size is part long numbers = tt
begins (Some all) start size is part long numbers = (part ∙ ap (λ (n : ℕ). take n all) (sym is), long, numbers)

pub too_few : (file : Option (List ℕ)) (at count size : ℕ) → at + count ≤ size → IfSome file (λ all. length all - at < count) → IfSome file (λ all. length all ≢ size)
too_few None at count size fits few = tt
too_few (Some all) at count size fits few = λ same. omega (arith, fits, few, same)

pub no_app : (file : Option (List ℕ)) (at most size : ℕ) → IfSome file (λ all. length all - at < min (size - at) most) → IfSome file (λ all. length all ≢ size)
no_app None at most size few = tt
no_app (Some all) at most size few = λ same. omega (arith, few, same)
