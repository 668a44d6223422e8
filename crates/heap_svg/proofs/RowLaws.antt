-- The rows of a drawing.
use Rattle.heap_svg.proofs.Words.{◌≡◌, ℕ, zero, suc, ◌+◌, ◌-◌, ◌*◌, ◌/◌, ◌<◌, ◌≤◌, List, ◌∷◌, ◌++◌, length, get_or, drop, refl, arith, inl, inr, add-one, drop-cons, cases_lt, nat_tests, All-weaker, All, Strip, ShowImage, flat_map, mul-le-mul_left, mul-le-mul_right, mul-div-le, Room, doubled, IsRowSize, rows_in, sizes_in}

doubled_low : (times : ℕ) → 64 ≤ doubled times
doubled_low zero = omega arith
doubled_low (suc times) = let ih = doubled_low times in omega arith

pub row_low : (size line : ℕ) → IsRowSize size line → 64 ≤ line
row_low size line r = let low = doubled_low r.times in let is = r.line_is in omega arith

pub row_small : (size line : ℕ) → size ≤ 16777208 → IsRowSize size line → line < 2097152
row_small size line most r = elim (cases_lt 64 line) [
  | inl more ↦ let least = r.least more in omega arith
  | inr few ↦ omega arith
]

-- the rows have about as many bytes as there are
pub rows_low : (size line : ℕ) → 0 < line → line * rows_in size line ≤ size + (line - 1)
rows_low size line positive = mul-div-le (size + (line - 1)) line

pub few_rows : (size line : ℕ) → size ≤ 16777208 → 64 ≤ line → line < 2097152
    → rows_in size line < 16777216
few_rows size line most low small =
    let whole = rows_low size line (omega arith) in
    let up = mul-le-mul_right (rows_in size line) low in
    omega arith

pub strips_inside : (image : List ℕ) (strips : List Strip) → length image ≤ 16777208
    → ShowImage image strips → All (λ strip. strip.at + strip.size < 16777216) strips
strips_inside image strips most shown =
    All-weaker (λ (strip : Strip). strip.at + strip.size ≤ length image)
    (λ (strip : Strip). strip.at + strip.size < 16777216)
    (λ strip inside. omega arith) strips shown.inside

-- a row begins before what it shows ends
pub row_starts : (size line row : ℕ) → 0 < line → row < (size + (line - 1)) / line
    → line * row < size
row_starts size line row positive below =
    let up =
    mul-le-mul_left line (let e : row + 1 ≤ (size + (line - 1)) / line = omega arith in e) in
    omega arith

-- a row has no greater number than its offset
pub row_few : (size line row : ℕ) → 0 < line → line * row < size → row < size
row_few size line row positive starts =
    let up = mul-le-mul_right row (let e : 1 ≤ line = omega arith in e) in
    omega arith

-- the part of an index, and those after it
pub part_here : {X : Type 0} (f : X → List ℕ) (xs : List X) (i : ℕ) (d : X) → i < length xs
    → flat_map f (drop i xs) ≡ f (get_or xs i d) ++ flat_map f (drop (i + 1) xs)
part_here f xs i d within = rw (add-one, drop-cons xs i d) refl

room_first : (line row : ℕ) (r : Room) (rs : List Room) → r.start / line ≡ row
    → sizes_in line row (r ∷ rs) ≡ r.size ∷ sizes_in line row rs
room_first line row r rs here = grind (arith, nat_tests)

room_skipped : (line row : ℕ) (r : Room) (rs : List Room) → (r.start / line ≡ row → ⊥)
    → sizes_in line row (r ∷ rs) ≡ sizes_in line row rs
room_skipped line row r rs there = grind (arith, nat_tests)

-- the rooms of a row from an index on: that of the index, if its stretch begins there, and those
-- after it
pub room_in : (line row : ℕ) (rs : List Room) (i : ℕ) (d : Room) → i < length rs
    → (get_or rs i d).start / line ≡ row
    → sizes_in line row (drop i rs) ≡ (get_or rs i d).size ∷ sizes_in line row (drop (i + 1) rs)
room_in line row rs i d within here =
    rw (add-one, drop-cons rs i d) (room_first line row (get_or rs i d) (drop (suc i) rs) here)

pub room_out : (line row : ℕ) (rs : List Room) (i : ℕ) (d : Room) → i < length rs
    → ((get_or rs i d).start / line ≡ row → ⊥)
    → sizes_in line row (drop i rs) ≡ sizes_in line row (drop (i + 1) rs)
room_out line row rs i d within there =
    rw (add-one, drop-cons rs i d) (room_skipped line row (get_or rs i d) (drop (suc i) rs) there)
