-- The bytes of records all of whose attributes are changed.
use Rattle.database_edits.proofs.Words.{◌≡◌, ℕ, ◌+◌, ◌-◌, ◌<◌, ◌≤◌, ◌^◌, false, List, [], ◌∷◌, ◌++◌, length, map, take, refl, sym, ap, ◌∙◌, arith, length-append, drop_at, take_all, append-nil, length-map, All-head, All-tail, All, slice_range, flat_map, overwritten, u16_bytes, u24_bytes, u32_bytes, Entry, a_record, a_resource, Database, header_bytes, entry_bytes, spelled, EntryFits, with_attributes, SpellsHere, database_here, bytes_under, length-header_bytes, over_piece, changed_every, attributes_changed, HasKindHere}
use Rattle.raw_region.proofs.ChangeLaws.{length-changed_every}
use Rattle.database_edits.proofs.Databases.{long}

-- ---- the length

pub long_enough : (image : List ℕ) (db : ℕ) → SpellsHere image db → HasKindHere image db false
    → 78 ≤ length (bytes_under image db)
long_enough image db s kind = omega (arith, long s kind refl)

pub short_enough : (image : List ℕ) (db : ℕ) → SpellsHere image db → HasKindHere image db false
    → length (bytes_under image db) < 2 ^ 32
short_enough image db s kind = omega (arith, long s kind refl, s.spelled.fits.entry_count)

-- ---- the bytes

-- those of records, of which each eighth is changed, from the first one's attributes on
changed_records : (change : ℕ → ℕ) (entries : List (Entry ℕ)) → All (EntryFits false) entries
    → changed_every change 8 4 (flat_map entry_bytes entries)
    ≡ flat_map entry_bytes (map (with_attributes change) entries)
unfolding changed_every entry_bytes u16_bytes u24_bytes u32_bytes
changed_records change [] all = refl
changed_records change (a_record attributes id slot ∷ entries) all =
    ap (λ (bytes : List ℕ). entry_bytes (a_record (change attributes) id slot) ++ bytes)
    (changed_records change entries (All-tail (EntryFits false) _ entries all))
changed_records change (a_resource kind id slot ∷ entries) all =
    absurd (All-head (EntryFits false) (a_resource kind id slot) entries all)

pub body_changed : {image : List ℕ} {db : ℕ} (change : ℕ → ℕ) (count : ℕ) → SpellsHere image db
    → HasKindHere image db false → count ≡ length (bytes_under image db) - 78
    → overwritten (bytes_under image db) 78
    (changed_every change 8 4 (slice_range (bytes_under image db) 78 (78 + count)))
    ≡ spelled (attributes_changed change (database_here image db))
unfolding spelled header_bytes
body_changed {image} {db} change count s kind many =
    let d : Database ℕ = database_here image db in
    let front : List ℕ = header_bytes d in
    let back : List ℕ = flat_map entry_bytes d.entries in
    let now : List ℕ = changed_every change 8 4 back in
    let len = length-header_bytes d s.spelled.fits.name in
    let both = length-append front back in
    let all = ap length s.spelled.bytes_are in
    let rest = ap (take (78 + count - 78)) (drop_at front back 78 len)
    ∙ take_all (78 + count - 78) back (omega arith) in
    ap (λ (xs : List ℕ). overwritten xs 78
    (changed_every change 8 4 (slice_range xs 78 (78 + count)))) s.spelled.bytes_are
    ∙ ap (λ (xs : List ℕ). overwritten (front ++ back) 78 (changed_every change 8 4 xs)) rest
    ∙ ap (λ (xs : List ℕ). overwritten (front ++ xs) 78 now) (sym (append-nil back))
    ∙ over_piece front back [] now 78 (sym len) (sym (length-changed_every change 8 4 back))
    ∙ rw (append-nil now, length-map d.entries (with_attributes change))
    (ap (λ (xs : List ℕ). front ++ xs)
    (changed_records change d.entries (rw kind s.spelled.fits.entries)))
