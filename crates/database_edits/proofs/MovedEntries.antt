-- An entry moved: those past which it moves slide by one, and it is written on the other side of
-- them.
use Rattle.database_edits.proofs.Words.{◌≡◌, ℕ, suc, ◌+◌, ◌-◌, ◌<◌, ◌≤◌, Bool, List, [], ◌∷◌, ◌++◌, length, get_or, take, drop, refl, sym, ap, ◌∙◌, append_assoc, arith, inl, inr, length-append, length-take, append-nil, take_at, drop_at, cases_lt, slice_range, remove, overwritten, moved, insertion_index, insertion_behind, insertion_before, length-moved, Entry, a_record, Database, header_bytes, entry_bytes, spelled, entry_offset, entry_in, SpellsHere, Respells, database_here, bytes_under, entry_read, Rebodies, HasKindHere, with_moved}
use Rattle.std.proofs.lemmas.List.Edits.{between_more, between_none, length-between, split_between}
use Rattle.std.specs.List.{insert_slice}
use Rattle.database_edits.proofs.Chunks.{rebodied_as, stays, then_by}
use Rattle.database_edits.proofs.Databases.{managers}
use Rattle.database_edits.proofs.Entries.{slid}
use Rattle.database_edits.proofs.Parts.{Parts, entries_bytes, four_parts, in_parts, slices_here}
use Rattle.database_edits.proofs.Pieces.{closes, opens, piece_of}

-- ---- lists

put_between : {X : Type 0} (front new back : List X) (at : ℕ) → at ≡ length front
    → insert_slice (front ++ back) at new ≡ front ++ (new ++ back)
put_between front new back at is =
    rw (take_at front back at (sym is), drop_at front back at (sym is)) (append_assoc front new back)

taken_out : {X : Type 0} (front one back : List X) (at : ℕ) → at ≡ length front → length one ≡ 1
    → remove (front ++ (one ++ back)) at ≡ front ++ back
taken_out front one back at is len =
    let both = length-append front one in
    rw (take_at front (one ++ back) at (sym is))
    (ap (λ (xs : List _). front ++ drop (suc at) xs) (sym (append_assoc front one back))
    ∙ ap (λ (xs : List _). front ++ xs) (drop_at (front ++ one) back (suc at) (omega arith)))

-- an element is taken out, and put in elsewhere
moved_as : {X : Type 0} (front one back before after : List X) (from to : ℕ) → from ≡ length front
    → length one ≡ 1 → insertion_index from to ≡ length before → front ++ back ≡ before ++ after
    → moved (front ++ (one ++ back)) from to ≡ before ++ (one ++ after)
moved_as front one back before after from to is len index same =
    let at : ℕ = insertion_index from to in
    let all : List _ = front ++ (one ++ back) in
    ap (insert_slice (remove all from) at) (piece_of front one back from (from + 1) is (omega arith))
    ∙ ap (λ (xs : List _). insert_slice xs at one) (taken_out front one back from is len ∙ same)
    ∙ put_between before one after at index

pub moved_back : {X : Type 0} (xs : List X) (from to : ℕ) → from + 1 < to → to ≤ length xs
    → moved xs from to ≡ take from xs ++ (slice_range xs (from + 1) to
    ++ (slice_range xs from (from + 1) ++ drop to xs))
moved_back xs from to less inside =
    let front : List _ = take from xs in
    let one : List _ = slice_range xs from (from + 1) in
    let past : List _ = slice_range xs (from + 1) to in
    let front_size = length-take from xs in
    let past_size = length-between xs (from + 1) to inside in
    let both = length-append front past in
    let index = insertion_behind from to (omega arith) in
    ap (λ (ys : List _). moved ys from to)
    (in_parts xs from (from + 1) to (omega arith) (omega arith))
    ∙ moved_as front one (past ++ drop to xs) (front ++ past) (drop to xs) from to (omega arith)
    (length-between xs from (from + 1) (omega arith) ∙ omega arith) (omega arith)
    (sym (append_assoc front past (drop to xs)))
    ∙ append_assoc front past (one ++ drop to xs)

pub moved_front : {X : Type 0} (xs : List X) (from to : ℕ) → to < from → from < length xs
    → moved xs from to ≡ take to xs ++ (slice_range xs from (from + 1)
    ++ (slice_range xs to from ++ drop (from + 1) xs))
moved_front xs from to less inside =
    let front : List _ = take to xs in
    let one : List _ = slice_range xs from (from + 1) in
    let past : List _ = slice_range xs to from in
    let back : List _ = drop (from + 1) xs in
    let front_size = length-take to xs in
    let past_size = length-between xs to from (omega arith) in
    let both = length-append front past in
    let index = insertion_before from to (omega arith) in
    ap (λ (ys : List _). moved ys from to)
    (in_parts xs to from (from + 1) (omega arith) (omega arith)
    ∙ sym (append_assoc front past (one ++ back)))
    ∙ moved_as (front ++ past) one back front (past ++ back) from to (omega arith)
    (length-between xs from (from + 1) (omega arith) ∙ omega arith) (omega arith)
    (append_assoc front past back)

-- it stays if it is put in where it was
pub moved_nowhere : {X : Type 0} (xs : List X) (from to : ℕ) → from < length xs → from ≤ to
    → to ≤ from + 1 → moved xs from to ≡ xs
moved_nowhere xs from to inside low high =
    let front : List _ = take from xs in
    let back : List _ = drop (from + 1) xs in
    let front_size = length-take from xs in
    let index : insertion_index from to ≡ from = elim (cases_lt from to) [
      | inl less ↦ insertion_behind from to less ∙ omega arith
      | inr le ↦ insertion_before from to le ∙ omega arith
    ] in
    let pieces = split_between xs from (from + 1) (omega arith) in
    ap (λ (ys : List _). moved ys from to) pieces
    ∙ moved_as front _ back front back from to (omega arith)
    (length-between xs from (from + 1) (omega arith) ∙ omega arith) (omega arith) refl
    ∙ sym pieces

-- ---- the bytes of a database

-- the entry that was read is the one at the index
entry_there : {image : List ℕ} {db : ℕ} (from : ℕ) (x : Entry ℕ) → SpellsHere image db
    → from < length (database_here image db).entries → x ≡ entry_in (bytes_under image db) from
    → entries_bytes (slice_range (database_here image db).entries from (from + 1)) ≡ entry_bytes x
entry_there {image} {db} from x s inside is =
    let es : List (Entry ℕ) = (database_here image db).entries in
    let read = is ∙ ap (λ (bytes : List ℕ). entry_in bytes from) s.spelled.bytes_are
    ∙ entry_read (database_here image db) from (a_record 0 0 0) s.spelled.fits inside in
    ap entries_bytes (between_more es from from (a_record 0 0 0) (omega arith) inside
    ∙ ap (λ (xs : List (Entry ℕ)). xs ++ get_or es from (a_record 0 0 0) ∷ []) (between_none es from))
    ∙ append-nil (entry_bytes (get_or es from (a_record 0 0 0))) ∙ ap entry_bytes (sym read)

-- the four parts of the entries in their new order
moved_bytes : {r : Bool} {d : Database ℕ} {body : List ℕ} {a b c e : List (Entry ℕ)} {i j k : ℕ}
    (from to : ℕ) → Parts r d body a b c e i j k → from < length d.entries
    → to ≤ length d.entries → moved d.entries from to ≡ a ++ (c ++ (b ++ e))
    → (header_bytes d ++ entries_bytes a)
    ++ (entries_bytes c ++ (entries_bytes b ++ entries_bytes e))
    ≡ spelled (with_moved from to d)
unfolding spelled header_bytes
moved_bytes {d = d} {a = a} {b} {c} {e} from to p inside most order =
    append_assoc (header_bytes d) (entries_bytes a) _
    ∙ ap (λ (xs : List ℕ). header_bytes d ++ xs) (sym (four_parts a c b e))
    ∙ rw (length-moved d.entries from to inside most)
    (ap (λ (es : List (Entry ℕ)). header_bytes d ++ entries_bytes es) (sym order))

-- the second part slides to the front over the first, which is written after it
closed : {r : Bool} {d : Database ℕ} {body : List ℕ} {front first second back : List (Entry ℕ)}
    {i j k : ℕ} {e : List ℕ} (to : ℕ) → Parts r d body front first second back i j k
    → entries_bytes first ≡ e → to ≡ i + length second
    → overwritten (slid r j k i body) (entry_offset r to) e
    ≡ (header_bytes d ++ entries_bytes front)
    ++ (entries_bytes second ++ (entries_bytes first ++ entries_bytes back))
closed {r} {d} {front = front} {first} {second} {back} {i} {j} {k} to p one is = rw (← one, p.is)
    (closes (header_bytes d ++ entries_bytes front) (entries_bytes first) (entries_bytes second)
    (entries_bytes back) (entry_offset r i) (entry_offset r j) (entry_offset r k)
    (entry_offset r to) p.at p.next p.end (p.slid to is))

-- the first part slides to the back over the second, which is written before it
opened : {r : Bool} {d : Database ℕ} {body : List ℕ} {front first second back : List (Entry ℕ)}
    {i j k : ℕ} {e : List ℕ} (to : ℕ) → Parts r d body front first second back i j k
    → entries_bytes second ≡ e → to ≡ i + length second
    → overwritten (slid r i j to body) (entry_offset r i) e
    ≡ (header_bytes d ++ entries_bytes front)
    ++ (entries_bytes second ++ (entries_bytes first ++ entries_bytes back))
opened {r} {d} {front = front} {first} {second} {back} {i} {j} to p one is = rw (← one, p.is)
    (opens (header_bytes d ++ entries_bytes front) (entries_bytes first) (entries_bytes second)
    (entries_bytes back) (entries_bytes second) (entry_offset r i) (entry_offset r j)
    (entry_offset r to) p.at p.next (p.slid to is) refl)

-- ---- the chunk afterwards

pub went_back : {old mid new : List ℕ} {db : ℕ} {resources : Bool} (from to : ℕ) (x : Entry ℕ)
    → SpellsHere old db → HasKindHere old db resources → from + 1 < to
    → to ≤ length (database_here old db).entries → x ≡ entry_in (bytes_under old db) from
    → Rebodies old mid db (slid resources (from + 1) to from (bytes_under old db))
    → Rebodies mid new db
    (overwritten (bytes_under mid db) (entry_offset resources (to - 1)) (entry_bytes x))
    → Respells old new db (with_moved from to (database_here old db))
went_back {old} {db = db} {resources} from to x s kind less inside is slides writes =
    let d : Database ℕ = database_here old db in
    let p = slices_here from (from + 1) to s kind (omega arith) (omega arith) inside in
    let past = length-between d.entries (from + 1) to inside in
    let bytes = closed (to - 1) p (entry_there from x s (omega arith) is) (omega arith)
    ∙ moved_bytes from to p (omega arith) inside
    (moved_back d.entries from to less inside) in
    (rebodied_as bytes (then_by (λ xs. overwritten xs (entry_offset resources (to - 1))
    (entry_bytes x)) (managers old db s) slides writes)).leaves

pub went_front : {old mid new : List ℕ} {db : ℕ} {resources : Bool} (from to : ℕ) (x : Entry ℕ)
    → SpellsHere old db → HasKindHere old db resources → to < from
    → from < length (database_here old db).entries → x ≡ entry_in (bytes_under old db) from
    → Rebodies old mid db (slid resources to from (to + 1) (bytes_under old db))
    → Rebodies mid new db
    (overwritten (bytes_under mid db) (entry_offset resources to) (entry_bytes x))
    → Respells old new db (with_moved from to (database_here old db))
went_front {old} {db = db} {resources} from to x s kind less inside is slides writes =
    let d : Database ℕ = database_here old db in
    let p = slices_here to from (from + 1) s kind (omega arith) (omega arith) (omega arith) in
    let one = length-between d.entries from (from + 1) (omega arith) in
    let bytes = opened (to + 1) p (entry_there from x s inside is) (omega arith)
    ∙ moved_bytes from to p inside (omega arith)
    (moved_front d.entries from to less inside) in
    (rebodied_as bytes (then_by (λ xs. overwritten xs (entry_offset resources to) (entry_bytes x))
    (managers old db s) slides writes)).leaves

pub went_nowhere : {image : List ℕ} {db : ℕ} (from to : ℕ) → SpellsHere image db
    → from < length (database_here image db).entries → from ≤ to → to ≤ from + 1
    → Respells image image db (with_moved from to (database_here image db))
went_nowhere {image} {db} from to s inside low high =
    (stays (managers image db s) (s.spelled.bytes_are
    ∙ ap (λ (es : List (Entry ℕ)). spelled (record (database_here image db) { entries = es }))
    (sym (moved_nowhere (database_here image db).entries from to inside low high)))).leaves
