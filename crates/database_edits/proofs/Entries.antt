-- Where entries stand in the bytes of a database, and one that is written in place of another.
use Rattle.database_edits.proofs.Words.{◌≡◌, ℕ, ◌+◌, ◌-◌, ◌*◌, ◌<◌, ◌≤◌, Bool, true, false, List, length, take, drop, refl, sym, ap, ◌∙◌, arith, length-take, append-nil, take-append-drop, slice_range, overwritten, u16_bytes, u24_bytes, u32_bytes, entry_size, Entry, entry_bytes, entry_offset, SpellsHere, Respells, database_here, bytes_under, DbEntry, entry_of, is_resource, with_entry, WritesEntry, Rebodies, HasKindHere}
use Rattle.db_format.specs.declared.db_entry.DbEntry.TheVariants.{Record, Resource}
use Rattle.database_edits.proofs.Chunks.{rebodied_as}
use Rattle.database_edits.proofs.Databases.{long}

-- ---- where entries stand

-- one stands `more` entries after another
pub offset_more : (resources : Bool) (one other more : ℕ) → other ≡ one + more
    → entry_offset resources other ≡ entry_offset resources one + entry_size resources * more
offset_more true one other more is = omega arith
offset_more false one other more is = omega arith

pub offset_order : (resources : Bool) (first end : ℕ) → first ≤ end
    → entry_offset resources first ≤ entry_offset resources end
offset_order resources first end less =
    omega (arith, offset_more resources first end (end - first) (omega arith))

pub length-entry : (entry : DbEntry)
    → length (entry_bytes (entry_of entry)) ≡ entry_size (is_resource entry)
unfolding entry_bytes u16_bytes u24_bytes u32_bytes
length-entry (Record entry) = refl
length-entry (Resource entry) = refl

pub offset_entry : {resources : Bool} (entry : DbEntry) (index : ℕ)
    → is_resource entry ≡ resources → entry_offset resources (index + 1)
    ≡ entry_offset resources index + length (entry_bytes (entry_of entry))
offset_entry {resources} entry index kind =
    let next = offset_more resources index (index + 1) 1 refl in
    omega (arith, next, length-entry entry ∙ ap entry_size kind)

-- the bytes go on where there is an entry
pub inside_body : {image : List ℕ} {db : ℕ} {resources : Bool} (index : ℕ) → SpellsHere image db
    → HasKindHere image db resources → index ≤ length (database_here image db).entries
    → entry_offset resources index ≤ length (bytes_under image db)
inside_body {resources = resources} index s kind inside =
    omega (arith, long s kind refl, offset_order resources index _ inside)

-- ---- an entry written

pub entry_written : {old new : List ℕ} {db : ℕ} {resources : Bool} (index : ℕ) (entry : Entry ℕ)
    → SpellsHere old db → index < length (database_here old db).entries
    → HasKindHere old db resources → WritesEntry resources entry (entry_bytes entry)
    → Rebodies old new db
    (overwritten (bytes_under old db) (entry_offset resources index) (entry_bytes entry))
    → Respells old new db (with_entry (database_here old db) index entry)
entry_written index entry s inside kind writes r =
    (rebodied_as (writes _ _ index s.spelled (sym kind) inside).bytes_are r).leaves

-- ---- entries slid

-- the entries from `first` up to `end` are copied to the place of index `to`
abbrev pub slid : Bool → ℕ → ℕ → ℕ → List ℕ → List ℕ
slid resources first end to body = overwritten body (entry_offset resources to)
    (slice_range body (entry_offset resources first) (entry_offset resources end))

-- a range that slid has room where it slides to
pub slide_fits : (resources : Bool) (first end to : ℕ) (body : List ℕ) → first ≤ end
    → entry_offset resources (to + (end - first)) ≤ length body → entry_offset resources to
    + length (slice_range body (entry_offset resources first) (entry_offset resources end))
    ≤ length body
slide_fits resources first end to body order inside =
    let from : ℕ = entry_offset resources first in
    let there = offset_more resources to (to + (end - first)) (end - first) refl in
    let here = offset_more resources first end (end - first) (omega arith) in
    omega (arith, there, here, length-take (entry_offset resources end - from) (drop from body))

-- if there are none to slide, nothing is written
pub nothing_slid : (body : List ℕ) (at from stop : ℕ) → stop ≤ from
    → body ≡ overwritten body at (slice_range body from stop)
unfolding overwritten
nothing_slid body at from stop none =
    let count : stop - from ≡ 0 = omega arith in
    let start : at + 0 ≡ at = omega arith in
    sym (rw (count, append-nil (take at body), start) (take-append-drop at body))
