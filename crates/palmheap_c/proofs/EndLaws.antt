-- Files that stand one after the other, and where they end.
use Rattle.palmheap_c.proofs.Words.{◌≡◌, ◌+◌, ◌<◌, ℕ, List, [], ◌∷◌, ◌++◌, length, take, get_or, sym, ap, ◌∙◌, length-append, append-nil, add-one, take-suc, arith, ends_from, joined}
use Rattle.std.proofs.lemmas.Grind.{flat_map-append}

-- one more file ends where all of them end
ends_more : (start : ℕ) (files : List (List ℕ)) (file : List ℕ) → ends_from start (files
    ++ (file ∷ [])) ≡ ends_from start files ++ ((start + length (joined files) + length file) ∷ [])
ends_more start [] file =
    let end : start + length file ≡ start + 0 + length file = omega arith in
    ap (λ (n : ℕ). n ∷ []) end
ends_more start (one ∷ files) file =
    let more : length (one ++ joined files) ≡ length one + length (joined files) =
    length-append one (joined files) in
    let end : start + length one + length (joined files) + length file
    ≡ start + length (one ++ joined files) + length file = omega (arith, more) in
    ap (λ (ns : List ℕ). (start + length one) ∷ ns) (ends_more (start + length one) files file
    ∙ ap (λ (n : ℕ). ends_from (start + length one) files ++ (n ∷ [])) end)

-- the same for a file that is joined to those before it
ends_joined : (files : List (List ℕ)) (file all : List ℕ) → all ≡ joined files ++ file
    → ends_from 0 (files ++ (file ∷ [])) ≡ ends_from 0 files ++ (length all ∷ [])
ends_joined files file all e =
    let more : length (joined files ++ file) ≡ length (joined files) + length file =
    length-append (joined files) file in
    let same : length all ≡ length (joined files ++ file) = ap length e in
    let end : 0 + length (joined files) + length file ≡ length all = omega (arith, more, same) in
    ends_more 0 files file ∙ ap (λ (n : ℕ). ends_from 0 files ++ (n ∷ [])) end

-- the files up to one of them are those before it and that file
take_one : (files : List (List ℕ)) (i : ℕ) (file : List ℕ) → i < length files
    → file ≡ get_or files i file → take (i + 1) files ≡ take i files ++ (file ∷ [])
take_one files i file within is = rw add-one (take-suc files i file within)
    ∙ ap (λ (one : List ℕ). take i files ++ (one ∷ [])) (sym is)

-- all files up to one of them are joined, and this is where each ends
pub one_joined : (files : List (List ℕ)) (i : ℕ) (file all new ends new_ends : List ℕ)
    → i < length files → file ≡ get_or files i file
    → (all ≡ joined (take i files)) × (ends ≡ ends_from 0 (take i files)) → new ≡ all ++ file
    → new_ends ≡ ends ++ (length new ∷ [])
    → (new ≡ joined (take (i + 1) files)) × (new_ends ≡ ends_from 0 (take (i + 1) files))
one_joined files i file all new ends new_ends within is before more end =
    let here : take (i + 1) files ≡ take i files ++ (file ∷ []) = take_one files i file within is in
    let parts : joined (take i files ++ (file ∷ [])) ≡ joined (take i files) ++ file =
    flat_map-append (λ (one : List ℕ). one) (take i files) (file ∷ [])
    ∙ ap (λ (rest : List ℕ). joined (take i files) ++ rest) (append-nil file) in
    let whole : new ≡ joined (take i files) ++ file =
    more ∙ ap (λ (front : List ℕ). front ++ file) before.0 in (
      whole ∙ sym parts ∙ ap joined (sym here),
      end ∙ ap (λ (front : List ℕ). front ++ (length new ∷ [])) before.1
          ∙ sym (ends_joined (take i files) file new whole) ∙ ap (ends_from 0) (sym here),
    )
