-- Lists in pieces: one piece is read, written over, or slides past another.
use Rattle.database_edits.proofs.Words.{◌≡◌, ℕ, ◌+◌, ◌-◌, List, ◌++◌, length, take, drop, replicate, sym, ap, ◌∙◌, append_assoc, arith, length-append, length-take, take-append_seam, drop-append-add, append-nil, take-append-drop, drop-drop, take_at, drop_at, slice_range, overwritten, sized_to}

-- the piece between two others
pub piece_of : {X : Type 0} (front piece back : List X) (from end : ℕ) → from ≡ length front
    → end ≡ from + length piece → slice_range (front ++ (piece ++ back)) from end ≡ piece
piece_of front piece back from end from_is end_is =
    ap (take (end - from)) (drop_at front (piece ++ back) from (sym from_is))
    ∙ take_at piece back (end - from) (omega arith)

-- a list is cut after its front
pub cut : (front back : List ℕ) (size : ℕ) → size ≡ length front
    → sized_to (front ++ back) size ≡ front
cut front back size is =
    let all = length-append front back in
    let none : size - length (front ++ back) ≡ 0 = omega arith in
    ap (λ (k : ℕ). take size (front ++ back) ++ replicate k 0) none
    ∙ append-nil (take size (front ++ back)) ∙ take_at front back size (sym is)

-- bytes are written after the front
over_rest : (front rest new : List ℕ) (at : ℕ) → at ≡ length front
    → overwritten (front ++ rest) at new ≡ front ++ (new ++ drop (length new) rest)
unfolding overwritten
over_rest front rest new at is = rw (is, take-append_seam front rest, drop-append-add front rest)
    (append_assoc front new (drop (length new) rest))

-- what is left after two pieces, which are as long as these
after_two : (one other back : List ℕ) (n m : ℕ) → n + m ≡ length one + length other
    → drop m (drop n (one ++ (other ++ back))) ≡ back
after_two one other back n m is =
    drop-drop m n (one ++ (other ++ back)) ∙ ap (drop (n + m)) (sym (append_assoc one other back))
    ∙ drop_at (one ++ other) back (n + m) (length-append one other ∙ sym is)

-- a piece slides to the front over another
pub slid_front : (front gone slid back : List ℕ) (at next end : ℕ) → at ≡ length front
    → next ≡ at + length gone → end ≡ next + length slid
    → overwritten (front ++ (gone ++ (slid ++ back))) at
    (slice_range (front ++ (gone ++ (slid ++ back))) next end)
    ≡ (front ++ slid) ++ drop (length slid) (gone ++ (slid ++ back))
slid_front front gone slid back at next end at_is next_is end_is =
    let both = length-append front gone in
    let range : slice_range (front ++ (gone ++ (slid ++ back))) next end ≡ slid =
    ap (λ (xs : List ℕ). slice_range xs next end) (sym (append_assoc front gone (slid ++ back)))
    ∙ piece_of (front ++ gone) slid back next end (omega arith) end_is in
    ap (overwritten (front ++ (gone ++ (slid ++ back))) at) range
    ∙ over_rest front (gone ++ (slid ++ back)) slid at at_is
    ∙ sym (append_assoc front slid (drop (length slid) (gone ++ (slid ++ back))))

-- and the other is written after it
pub closes : (front gone slid back : List ℕ) (at next end to : ℕ) → at ≡ length front
    → next ≡ at + length gone → end ≡ next + length slid → to ≡ at + length slid
    → overwritten (overwritten (front ++ (gone ++ (slid ++ back))) at
    (slice_range (front ++ (gone ++ (slid ++ back))) next end)) to gone
    ≡ front ++ (slid ++ (gone ++ back))
closes front gone slid back at next end to at_is next_is end_is to_is =
    let both = length-append front slid in
    let rest : List ℕ = drop (length slid) (gone ++ (slid ++ back)) in
    ap (λ (xs : List ℕ). overwritten xs to gone)
    (slid_front front gone slid back at next end at_is next_is end_is)
    ∙ over_rest (front ++ slid) rest gone to (omega arith)
    ∙ append_assoc front slid (gone ++ drop (length gone) rest)
    ∙ ap (λ (xs : List ℕ). front ++ (slid ++ (gone ++ xs)))
    (after_two gone slid back (length slid) (length gone) (omega arith))

-- a piece slides back over another, and one as long as that is written before it
pub opens : (front slid gone back new : List ℕ) (at next to : ℕ) → at ≡ length front
    → next ≡ at + length slid → to ≡ at + length new → length gone ≡ length new
    → overwritten (overwritten (front ++ (slid ++ (gone ++ back))) to
    (slice_range (front ++ (slid ++ (gone ++ back))) at next)) at new
    ≡ front ++ (new ++ (slid ++ back))
opens front slid gone back new at next to at_is next_is to_is same =
    let rest : List ℕ = slid ++ (gone ++ back) in
    let first : List ℕ = take (length new) rest in
    let all = length-append slid (gone ++ back) in
    let some = length-append gone back in
    let first_size : length first ≡ length new = length-take (length new) rest ∙ omega arith in
    let both = length-append front first in
    let split : front ++ rest ≡ (front ++ first) ++ drop (length new) rest =
    ap (λ (xs : List ℕ). front ++ xs) (sym (take-append-drop (length new) rest))
    ∙ sym (append_assoc front first (drop (length new) rest)) in
    ap (λ (xs : List ℕ). overwritten (overwritten (front ++ rest) to xs) at new)
    (piece_of front slid (gone ++ back) at next at_is next_is)
    ∙ ap (λ (xs : List ℕ). overwritten (overwritten xs to slid) at new) split
    ∙ ap (λ (xs : List ℕ). overwritten xs at new)
    (over_rest (front ++ first) (drop (length new) rest) slid to (omega arith)
    ∙ append_assoc front first (slid ++ drop (length slid) (drop (length new) rest)))
    ∙ over_rest front (first ++ (slid ++ drop (length slid) (drop (length new) rest))) new at at_is
    ∙ ap (λ (xs : List ℕ). front ++ (new ++ xs)) (drop_at first _ (length new) first_size
    ∙ ap (λ (xs : List ℕ). slid ++ xs)
    (after_two slid gone back (length new) (length slid) (omega arith)))
