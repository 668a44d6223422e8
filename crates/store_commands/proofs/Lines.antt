-- Lines one after the other.
use Rattle.std.proofs.Common.{◌≡◌, ℕ, ◌+◌, ◌-◌, ◌<◌, ◌≤◌, Bool, true, false, Option, Some, List, [], ◌∷◌, ◌++◌, length, get_or, drop, take, refl, sym, ap, subst, ◌∙◌, arith, add-one, drop-cons}
use Rattle.std.specs.Prelude.{All, replicate, slice_get, map}
use Rattle.std.specs.List.{flat_map, concat, AllZip}
use Rattle.std.proofs.lemmas.List.{append-nil, drop_all, take_more, map_push}
use Rattle.std.proofs.lemmas.Option.{slice_get_within, get_or_from_slice_get}
use Rattle.std.proofs.lemmas.List.Elements.{All-push}
use Rattle.std.proofs.lemmas.List.Concat.{flat_map-append}
use Rattle.heap_model.specs.Store.{Store}
use Rattle.palm_text.specs.Counted.{Writing, Writes}
use Rattle.palm_text.proofs.Parts.{then, stops, nothing}
use Rattle.store_commands.specs.declared.exports.ExportedFile.{ExportedFile}
use Rattle.store_commands.specs.Exports.{IsFileNamed}

module _ {X : Type 0} (line : X → List ℕ) where
  -- the line of an index, and those after it
  pub line_here : (xs : List X) (i : ℕ) (d : X) → i < length xs → flat_map line (drop i xs) ≡ line (get_or xs i d) ++ flat_map line (drop (i + 1) xs)
  line_here xs i d inside = rw (add-one, drop-cons xs i d) refl

  -- no line is left
  pub none_left : (xs : List X) (i : ℕ) → length xs ≤ i → flat_map line (drop i xs) ≡ []
  none_left xs i past = ap (flat_map line) (drop_all i xs past)

  -- one line more
  pub line_more : (xs : List X) (x : X) → flat_map line (xs ++ x ∷ []) ≡ flat_map line xs ++ line x
  line_more xs x = flat_map-append line xs (x ∷ []) ∙ ap (λ (last : List ℕ). flat_map line xs ++ last) (append-nil (line x))

-- lines that are written one after the other, from an index on
module _ {W X : Type 0} (contents : W → Option (List ℕ)) (line : X → List ℕ) where
  pub then_line : (old mid new : Writing W) (xs : List X) (i : ℕ) (x : X) (ok : Bool) → i < length xs → x ≡ get_or xs i x → Writes contents old mid (line x) true → Writes contents mid new (flat_map line (drop (i + 1) xs)) ok → Writes contents old new (flat_map line (drop i xs)) ok
  then_line old mid new xs i x ok inside is first rest =
      rw (line_here line xs i x inside)
      (subst (λ (y : X). Writes contents old new (line y ++ flat_map line (drop (i + 1) xs)) ok) is (then contents old mid new _ _ ok first rest))

  pub stops_line : (old new : Writing W) (xs : List X) (i : ℕ) (x : X) → i < length xs → x ≡ get_or xs i x → Writes contents old new (line x) false → Writes contents old new (flat_map line (drop i xs)) false
  stops_line old new xs i x inside is first =
      rw (line_here line xs i x inside)
      (subst (λ (y : X). Writes contents old new (line y ++ flat_map line (drop (i + 1) xs)) false) is (stops contents old new _ _ first))

  pub no_line : (w : Writing W) (xs : List X) (i : ℕ) → length xs ≤ i → Writes contents w w (flat_map line (drop i xs)) true
  no_line w xs i past = rw (none_left line xs i past) (nothing contents w)

-- one line that is written several times
copies_here : (text : List ℕ) (count done : ℕ) → done < count → concat (replicate (count - done) text) ≡ text ++ concat (replicate (count - (done + 1)) text)
copies_here text count done inside =
    let e : count - done ≡ count - (done + 1) + 1 = omega arith in
    rw (e, add-one) refl

no_copies : (text : List ℕ) (count done : ℕ) → count ≤ done → concat (replicate (count - done) text) ≡ []
no_copies text count done past =
    let e : count - done ≡ 0 = omega arith in
    rw e refl

module _ {W : Type 0} (contents : W → Option (List ℕ)) (text : List ℕ) where
  pub then_copy : (old mid new : Writing W) (count done : ℕ) (ok : Bool) → done < count → Writes contents old mid text true → Writes contents mid new (concat (replicate (count - (done + 1)) text)) ok → Writes contents old new (concat (replicate (count - done) text)) ok
  then_copy old mid new count done ok inside first rest = rw (copies_here text count done inside) (then contents old mid new _ _ ok first rest)

  pub stops_copy : (old new : Writing W) (count done : ℕ) → done < count → Writes contents old new text false → Writes contents old new (concat (replicate (count - done) text)) false
  stops_copy old new count done inside first = rw (copies_here text count done inside) (stops contents old new _ _ first)

  pub no_copy : (w : Writing W) (count done : ℕ) → count ≤ done → Writes contents w w (concat (replicate (count - done) text)) true
  no_copy w count done past = rw (no_copies text count done past) (nothing contents w)

-- the items of a list up to an index, and the next one
pub taken_more : {X : Type 0} (xs : List X) (i : ℕ) (x : X) → slice_get xs i ≡ Some x → take (i + 1) xs ≡ take i xs ++ x ∷ []
taken_more {X} xs i x at =
    take_more xs i x (slice_get_within xs i x at) ∙ ap (λ (y : X). take i xs ++ y ∷ []) (get_or_from_slice_get xs i x x at)

-- what holds of each item of a list up to an index, and of the next one
pub all_more : {X : Type 0} (P : X → Type 0) (xs : List X) (i : ℕ) (x : X) → All P (take i xs) → slice_get xs i ≡ Some x → P x → All P (take (i + 1) xs)
all_more P xs i x so_far at one = subst (All P) (sym (taken_more xs i x at)) (All-push P (take i xs) x so_far one)

-- what is made of the items of a list up to an index, and of the next one
pub made_more : {X Y : Type 0} (make : X → Y) (xs : List X) (ys : List Y) (y : Y) (i : ℕ) (x : X) → ys ≡ map make (take i xs) → slice_get xs i ≡ Some x → y ≡ make x → ys ++ y ∷ [] ≡ map make (take (i + 1) xs)
made_more {X} {Y} make xs ys y i x so_far at is =
    ap (λ (made : List Y). made ++ y ∷ []) so_far
    ∙ ap (λ (last : Y). map make (take i xs) ++ last ∷ []) is
    ∙ sym (map_push make (take i xs) x)
    ∙ ap (map make) (sym (taken_more xs i x at))

-- the items of two lists, and one more of each
zip_push : {A B : Type 0} (R : A → B → Type 0) (xs : List A) (ys : List B) (x : A) (y : B) → AllZip R xs ys → R x y → AllZip R (xs ++ x ∷ []) (ys ++ y ∷ [])
zip_push R [] [] x y all one = (one, all)
zip_push R [] (b ∷ ys) x y all one = absurd all
zip_push R (a ∷ xs) [] x y all one = absurd all
zip_push R (a ∷ xs) (b ∷ ys) x y (first, rest) one = (first, zip_push R xs ys x y rest one)

-- the file of the next word more
pub named_more : (store : Store) (words : List (List ℕ)) (files : List ExportedFile) (file : ExportedFile) (i : ℕ) (word : List ℕ) → AllZip (IsFileNamed store) (take i words) files → i < length words → word ≡ get_or words i word
    → IsFileNamed store word file → AllZip (IsFileNamed store) (take (i + 1) words) (files ++ file ∷ [])
named_more store words files file i word so_far inside is one =
    subst (λ (ws : List (List ℕ)). AllZip (IsFileNamed store) ws (files ++ file ∷ [])) (sym (take_more words i word inside))
    (zip_push (IsFileNamed store) (take i words) files (get_or words i word) file so_far (subst (λ (w : List ℕ). IsFileNamed store w file) is one))
