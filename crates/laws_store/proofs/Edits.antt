-- The bytes of entries where one is replaced, put in or taken out; and a header that is written
-- anew.
use Rattle.laws_store.proofs.Words.{◌≡◌, ℕ, zero, suc, ◌+◌, ◌*◌, ◌<◌, ◌≤◌, Bool, List, [], ◌∷◌, ◌++◌, length, set, take, drop, refl, sym, ap, ◌∙◌, append_assoc, arith, ◌-◌, take-append-add, take-append_seam, drop-append-add, drop-append_seam, drop_at, length-set, take-append-drop, All-head, All-tail, flat_map-append, All, insert, slice_range, flat_map, remove, overwritten, entry_size, Entry, Database, has_resources, header_bytes, entry_bytes, spelled, EntryFits, DatabaseFits, entry_offset}
use Rattle.std.proofs.lemmas.List.{length-append}
use Rattle.laws_store.proofs.Spellings.{length-header_bytes, length-entry_bytes, size-zero, size-suc}

-- ---- entries before one, and from it on

first_long : (r : Bool) (es : List (Entry ℕ)) (i : ℕ) → All (EntryFits r) es → i ≤ length es
    → length (flat_map entry_bytes (take i es)) ≡ entry_size r * i
first_long r es zero all below = sym (size-zero r)
first_long r [] (suc i) all below = absurd (omega arith)
first_long r (e ∷ es) (suc i) all below =
    let one = length-entry_bytes r e (All-head (EntryFits r) e es all) in
    let ih = first_long r es i (All-tail (EntryFits r) e es all) (omega arith) in
    let both = length-append (entry_bytes e) (flat_map entry_bytes (take i es)) in
    let s = size-suc r i in
    omega arith

-- the bytes of all entries, cut before one
halves : (es : List (Entry ℕ)) (i : ℕ)
    → flat_map entry_bytes es ≡ flat_map entry_bytes (take i es) ++ flat_map entry_bytes (drop i es)
halves es i = ap (flat_map entry_bytes) (sym (take-append-drop i es))
    ∙ flat_map-append entry_bytes (take i es) (drop i es)

pub entries_front : (r : Bool) (es : List (Entry ℕ)) (i : ℕ) → All (EntryFits r) es → i ≤ length es
    → take (entry_size r * i) (flat_map entry_bytes es) ≡ flat_map entry_bytes (take i es)
entries_front r es i all below =
    ap (λ (n : ℕ). take n (flat_map entry_bytes es)) (sym (first_long r es i all below))
    ∙ ap (take (length (flat_map entry_bytes (take i es)))) (halves es i)
    ∙ take-append_seam (flat_map entry_bytes (take i es)) (flat_map entry_bytes (drop i es))

pub entries_back : (r : Bool) (es : List (Entry ℕ)) (i : ℕ) → All (EntryFits r) es → i ≤ length es
    → drop (entry_size r * i) (flat_map entry_bytes es) ≡ flat_map entry_bytes (drop i es)
entries_back r es i all below =
    ap (λ (n : ℕ). drop n (flat_map entry_bytes es)) (sym (first_long r es i all below))
    ∙ ap (drop (length (flat_map entry_bytes (take i es)))) (halves es i)
    ∙ drop-append_seam (flat_map entry_bytes (take i es)) (flat_map entry_bytes (drop i es))

-- ---- one replaced, put in, taken out

pub entries_insert : (r : Bool) (es : List (Entry ℕ)) (i : ℕ) (e : Entry ℕ) → All (EntryFits r) es
    → i ≤ length es
    → flat_map entry_bytes (insert es i e) ≡ take (entry_size r * i) (flat_map entry_bytes es)
    ++ (entry_bytes e ++ drop (entry_size r * i) (flat_map entry_bytes es))
entries_insert r es i e all below =
    flat_map-append entry_bytes (take i es) (e ∷ drop i es)
    ∙ ap (λ xs. xs ++ (entry_bytes e ++ flat_map entry_bytes (drop i es))) (sym
    (entries_front r es i all below))
    ∙ ap (λ xs. take (entry_size r * i) (flat_map entry_bytes es) ++ (entry_bytes e ++ xs)) (sym
    (entries_back r es i all below))

pub entries_remove : (r : Bool) (es : List (Entry ℕ)) (i : ℕ) → All (EntryFits r) es → i < length es
    → flat_map entry_bytes (remove es i) ≡ take (entry_size r * i) (flat_map entry_bytes es)
    ++ drop (entry_size r * suc i) (flat_map entry_bytes es)
entries_remove r es i all below =
    flat_map-append entry_bytes (take i es) (drop (suc i) es)
    ∙ ap (λ xs. xs ++ flat_map entry_bytes (drop (suc i) es)) (sym
    (entries_front r es i all (omega arith)))
    ∙ ap (λ xs. take (entry_size r * i) (flat_map entry_bytes es) ++ xs) (sym
    (entries_back r es (suc i) all (omega arith)))

onto : Entry ℕ → List (Entry ℕ) → List (Entry ℕ)
onto x xs = x ∷ xs

set_is : (es : List (Entry ℕ)) (i : ℕ) (e : Entry ℕ) → i < length es
    → set es i e ≡ take i es ++ e ∷ drop (suc i) es
unfolding onto
set_is [] i e below = absurd (omega arith)
set_is (x ∷ es) zero e below = refl
set_is (x ∷ es) (suc i) e below = ap (onto x) (set_is es i e (omega arith))

pub entries_set : (r : Bool) (es : List (Entry ℕ)) (i : ℕ) (e : Entry ℕ) → All (EntryFits r) es
    → EntryFits r e → i < length es → flat_map entry_bytes (set es i e)
    ≡ overwritten (flat_map entry_bytes es) (entry_size r * i) (entry_bytes e)
unfolding overwritten
entries_set r es i e all fits below =
    let one = length-entry_bytes r e fits in
    let end : entry_size r * suc i ≡ entry_size r * i + length (entry_bytes e) =
    (let s = size-suc r i in omega arith) in
    ap (flat_map entry_bytes) (set_is es i e below)
    ∙ flat_map-append entry_bytes (take i es) (e ∷ drop (suc i) es)
    ∙ ap (λ xs. xs ++ (entry_bytes e ++ flat_map entry_bytes (drop (suc i) es))) (sym
    (entries_front r es i all (omega arith)))
    ∙ ap (λ xs. take (entry_size r * i) (flat_map entry_bytes es) ++ (entry_bytes e ++ xs)) (sym
    (entries_back r es (suc i) all (omega arith)))
    ∙ ap (λ n. take (entry_size r * i) (flat_map entry_bytes es)
    ++ (entry_bytes e ++ drop n (flat_map entry_bytes es))) end
    ∙ sym (append_assoc (take (entry_size r * i) (flat_map entry_bytes es)) (entry_bytes e)
    (drop (entry_size r * i + length (entry_bytes e)) (flat_map entry_bytes es)))

-- what is written after some bytes
written_behind : (front back part : List ℕ) (k at : ℕ) → length front ≡ k
    → overwritten (front ++ back) (k + at) part ≡ front ++ overwritten back at part
unfolding overwritten
written_behind front back part k at len =
    let e : k + at ≡ length front + at = omega arith in
    let f : k + at + length part ≡ length front + (at + length part) = omega arith in
    ap (λ (n : ℕ). take n (front ++ back) ++ part ++ drop (k + at + length part) (front ++ back)) e
    ∙ ap (λ (n : ℕ). take (length front + at) (front ++ back) ++ part ++ drop n (front ++ back)) f
    ∙ ap (λ xs. xs ++ part ++ drop (length front + (at + length part)) (front ++ back))
    (take-append-add front back at)
    ∙ ap (λ xs. front ++ take at back ++ part ++ xs) (drop-append-add front back (at + length part))
    ∙ ap (λ xs. xs ++ drop (at + length part) back) (append_assoc front (take at back) part)
    ∙ append_assoc front (take at back ++ part) (drop (at + length part) back)

-- what is written over the first of some bytes
written_over : (front back part : List ℕ) → length front ≡ length part
    → overwritten (front ++ back) 0 part ≡ part ++ back
unfolding overwritten
written_over front back part len =
    let e : 0 + length part ≡ length part = omega arith in
    ap (λ n. part ++ drop n (front ++ back)) e
    ∙ ap (λ xs. part ++ xs) (drop_at front back (length part) len)

-- ---- in a database

-- with these entries
with_entries : Database ℕ → List (Entry ℕ) → Database ℕ
with_entries d entries = record d { entries = entries }

header_same : (d : Database ℕ) (es : List (Entry ℕ)) → length es ≡ length d.entries
    → header_bytes (with_entries d es) ≡ header_bytes d
unfolding header_bytes with_entries
header_same d es len = rw len refl

-- an entry is replaced where its bytes are written over the old ones
pub spelled_set : (d : Database ℕ) (i : ℕ) (e : Entry ℕ) → DatabaseFits d
    → EntryFits (has_resources d.header.attributes) e → i < length d.entries
    → spelled (record d { entries = set d.entries i e })
    ≡ overwritten (spelled d) (entry_offset (has_resources d.header.attributes) i) (entry_bytes e)
unfolding spelled with_entries
spelled_set d i e fits one below =
    let r : Bool = has_resources d.header.attributes in
    ap (λ xs. xs ++ flat_map entry_bytes (set d.entries i e))
    (header_same d (set d.entries i e) (length-set d.entries i e))
    ∙ ap (λ xs. header_bytes d ++ xs) (entries_set r d.entries i e fits.entries one below)
    ∙ sym (written_behind (header_bytes d) _ (entry_bytes e) 78 _ (length-header_bytes d fits.name))

-- a header is replaced where its bytes are written over the old ones, if the entries stay
pub spelled_header : (d other : Database ℕ) → DatabaseFits d → DatabaseFits other
    → other.entries ≡ d.entries → spelled other ≡ overwritten (spelled d) 0 (header_bytes other)
unfolding spelled
spelled_header d other fits others same =
    let a = length-header_bytes d fits.name in
    let b = length-header_bytes other others.name in
    ap (λ (es : List (Entry ℕ)). header_bytes other ++ flat_map entry_bytes es) same
    ∙ sym (written_over (header_bytes d) _ (header_bytes other) (a ∙ sym b))

-- ---- entries put in and taken out, in the bytes

-- what stands after the header
tail_from : (d : Database ℕ) (k : ℕ) → DatabaseFits d
    → drop (78 + k) (spelled d) ≡ drop k (flat_map entry_bytes d.entries)
unfolding spelled
tail_from d k fits =
    let len = length-header_bytes d fits.name in
    let e : 78 + k ≡ length (header_bytes d) + k = omega arith in
    ap (λ n. drop n (header_bytes d ++ flat_map entry_bytes d.entries)) e
    ∙ drop-append-add (header_bytes d) (flat_map entry_bytes d.entries) k

-- the entries before one
front_to : (d : Database ℕ) (i : ℕ) → DatabaseFits d
    → slice_range (spelled d) 78 (entry_offset (has_resources d.header.attributes) i)
    ≡ take (entry_size (has_resources d.header.attributes) * i) (flat_map entry_bytes d.entries)
front_to d i fits =
    let r : Bool = has_resources d.header.attributes in
    let count : entry_offset r i - 78 ≡ entry_size r * i = omega arith in
    ap (λ n. take n (drop 78 (spelled d))) count ∙ ap (take (entry_size r * i)) (tail_from d 0 fits)

pub spelled_insert : (d other : Database ℕ) (i : ℕ) (e : Entry ℕ) → DatabaseFits d
    → i ≤ length d.entries → other.entries ≡ insert d.entries i e → spelled other ≡ header_bytes
    other ++ (slice_range (spelled d) 78 (entry_offset (has_resources d.header.attributes) i)
    ++ (entry_bytes e ++ drop (entry_offset (has_resources d.header.attributes) i) (spelled d)))
unfolding spelled
spelled_insert d other i e fits below same =
    let r : Bool = has_resources d.header.attributes in
    ap (λ (es : List (Entry ℕ)). header_bytes other ++ flat_map entry_bytes es) same
    ∙ ap (λ xs. header_bytes other ++ xs) (entries_insert r d.entries i e fits.entries below)
    ∙ ap (λ xs. header_bytes other ++ (xs ++ (entry_bytes e
    ++ drop (entry_size r * i) (flat_map entry_bytes d.entries)))) (sym (front_to d i fits))
    ∙ ap (λ xs. header_bytes other ++ (slice_range (spelled d) 78 (entry_offset r i)
    ++ (entry_bytes e ++ xs))) (sym (tail_from d (entry_size r * i) fits))

pub spelled_remove : (d other : Database ℕ) (i : ℕ) → DatabaseFits d → i < length d.entries
    → other.entries ≡ remove d.entries i → spelled other ≡ header_bytes other
    ++ (slice_range (spelled d) 78 (entry_offset (has_resources d.header.attributes) i)
    ++ drop (entry_offset (has_resources d.header.attributes) (suc i)) (spelled d))
unfolding spelled
spelled_remove d other i fits below same =
    let r : Bool = has_resources d.header.attributes in
    ap (λ (es : List (Entry ℕ)). header_bytes other ++ flat_map entry_bytes es) same
    ∙ ap (λ xs. header_bytes other ++ xs) (entries_remove r d.entries i fits.entries below)
    ∙ ap (λ xs. header_bytes other ++ (xs
    ++ drop (entry_size r * suc i) (flat_map entry_bytes d.entries))) (sym (front_to d i fits))
    ∙ ap (λ xs. header_bytes other ++ (slice_range (spelled d) 78 (entry_offset r i) ++ xs)) (sym
    (tail_from d (entry_size r * suc i) fits))
