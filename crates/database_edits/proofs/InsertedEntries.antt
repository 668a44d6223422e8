-- An entry put in: the chunk grows, those from there on slide after it, and the header counts one
-- more.
use Rattle.database_edits.proofs.Words.{◌≡◌, ℕ, ◌+◌, ◌-◌, ◌≤◌, Bool, List, [], ◌∷◌, ◌++◌, length, take, drop, replicate, refl, sym, ap, subst, ◌∙◌, append_assoc, append-nil, arith, length-drop, length-insert, length-replicate, length-take, take-append-drop, take_all, insert, overwritten, sized_to, need, entry_size, Entry, a_record, a_resource, DatabaseHeader, Database, IsDatabaseName, header_bytes, entry_bytes, spelled, entry_offset, SpellsHere, Respells, database_here, ShortFor, bytes_under, next_modification, seeded_by, with_entry_at, length-header_bytes, DbEntry, entry_of, is_resource, HasModificationNumber, HasSeed, HasEntryCount, over_piece, Rebodies, HasHeaderOf, HasKindHere, HasNoRoomForEntry, PutsHeader, entry_inserted}
use Rattle.std.proofs.lemmas.Grind.{flat_map-append}
use Rattle.database_edits.proofs.Chunks.{rebodied_as, then_by}
use Rattle.database_edits.proofs.Databases.{managers, long}
use Rattle.database_edits.proofs.Entries.{offset_entry, offset_more, slid}
use Rattle.database_edits.proofs.HeadersHere.{Headed, header_spelled, kept_below, kept_sized, then_headed, then_raised}
use Rattle.database_edits.proofs.Parts.{entries_bytes, parts_here}
use Rattle.database_edits.proofs.Pieces.{opens}

-- the number of bytes for which there must be room
pub short_of : {image : List ℕ} {db size count : ℕ} {resources : Bool} → SpellsHere image db
    → HasKindHere image db resources → count ≡ length (database_here image db).entries
    → size ≡ entry_offset resources (count + 1) → ShortFor image db (need size)
    → HasNoRoomForEntry image db resources
short_of {image} {db} {size} {count} {resources} s kind count_is is short =
    let next = offset_more resources count (count + 1) 1 refl in
    let sum : size ≡ length (bytes_under image db) + entry_size resources =
    omega (arith, long s kind count_is, next, is) in
    subst (λ (n : ℕ). ShortFor image db (need n)) sum short

-- ---- the header

-- it stays while the chunk grows and entries slide
pub header_stays : {old grown moved wrote : List ℕ} {db : ℕ} (resources : Bool) (e : List ℕ)
    (index size count : ℕ) → SpellsHere old db → 78 ≤ size
    → Rebodies old grown db (sized_to (bytes_under old db) size)
    → Rebodies grown moved db (slid resources index count (index + 1) (bytes_under grown db))
    → Rebodies moved wrote db
    (overwritten (bytes_under moved db) (entry_offset resources index) e)
    → HasHeaderOf wrote db (database_here old db)
header_stays resources e index size count s low grows slides writes =
    kept_below (entry_offset resources index) e (kept_below (entry_offset resources (index + 1)) _
    (kept_sized size (header_spelled s) low grows) (omega arith) slides) (omega arith) writes

-- an entry keeps the rest of the header
pub seeded_same : (entry : Entry ℕ) (header : DatabaseHeader)
    → ((seeded_by entry header).name ≡ header.name)
    × ((seeded_by entry header).modification_number ≡ header.modification_number)
seeded_same (a_record attributes id slot) header = (refl, refl)
seeded_same (a_resource kind id slot) header = (refl, refl)

-- the header is written field by field
pub header_inserted : {wrote counted_in seeded_in new : List ℕ} {db was seed count : ℕ}
    {d : Database ℕ} (index : ℕ) (entry : Entry ℕ) → Headed wrote wrote db d
    → index ≤ length d.entries → count ≡ length d.entries
    → seeded_by entry d.header ≡ record d.header { seed = seed }
    → was ≡ d.header.modification_number
    → PutsHeader wrote counted_in db (HasEntryCount (count + 1))
    → PutsHeader counted_in seeded_in db (HasSeed seed)
    → PutsHeader seeded_in new db (HasModificationNumber (next_modification was))
    → Headed wrote new db (entry_inserted index entry d)
header_inserted {d = d} index entry h inside count_is seed_is is counts seeds raises =
    let first : Database ℕ = record d { entries = insert d.entries index entry } in
    let second : Database ℕ = with_entry_at index entry d in
    let same = seeded_same entry d.header in
    let more = length-insert d.entries index entry inside in
    let one = then_headed first h h.has.name (counts d first h.has
    (record { values = refl; app_info = refl; sort_info = refl; entries = omega arith })) in
    let two = then_headed second one (subst IsDatabaseName (sym same.0) h.has.name)
    (seeds first second one.has
    (record { values = seed_is; app_info = refl; sort_info = refl; entries = refl })) in
    then_raised two (is ∙ sym same.1) raises

-- ---- the bytes

pub inserted_bytes : {old : List ℕ} {db : ℕ} {resources : Bool} (index size count : ℕ)
    (entry : DbEntry) → SpellsHere old db → index ≤ length (database_here old db).entries
    → is_resource entry ≡ resources → HasKindHere old db resources
    → count ≡ length (database_here old db).entries → size ≡ entry_offset resources (count + 1)
    → overwritten (overwritten (slid resources index count (index + 1)
    (sized_to (bytes_under old db) size)) (entry_offset resources index)
    (entry_bytes (entry_of entry))) 0
    (header_bytes (entry_inserted index (entry_of entry) (database_here old db)))
    ≡ spelled (entry_inserted index (entry_of entry) (database_here old db))
unfolding spelled
inserted_bytes {old} {db} {resources} index size count entry s inside own_kind kind count_is size_is =
    let d : Database ℕ = database_here old db in
    let body : List ℕ = bytes_under old db in
    let e : List ℕ = entry_bytes (entry_of entry) in
    let now : List ℕ = header_bytes (entry_inserted index (entry_of entry) d) in
    let off = λ (n : ℕ). entry_offset resources n in
    let front : List (Entry ℕ) = take index d.entries in
    let rest : List (Entry ℕ) = drop index d.entries in
    let head : List ℕ = header_bytes d ++ entries_bytes front in
    let zeros : List ℕ = replicate (length e) 0 in
    let front_size = length-take index d.entries in
    let rest_size = length-drop index d.entries in
    let parts = sym (take-append-drop index d.entries)
    ∙ ap (λ (es : List (Entry ℕ)). front ++ es) (sym (append-nil rest)) in
    let p = parts_here front rest [] [] index count count s kind parts (omega arith) (omega arith)
    (omega arith) in
    let all = long s kind count_is in
    let last = offset_entry entry count own_kind in
    let more : size - length body ≡ length e = omega arith in
    let grown : sized_to body size ≡ head ++ (entries_bytes rest ++ (zeros ++ [])) =
    ap (λ (n : ℕ). take size body ++ replicate n 0) more
    ∙ ap (λ (xs : List ℕ). xs ++ zeros) (take_all size body (omega arith) ∙ p.is)
    ∙ rw (append-nil (entries_bytes rest), append-nil zeros)
    (append_assoc head (entries_bytes rest) zeros) in
    let same = length-header_bytes d s.spelled.fits.name ∙ sym (length-header_bytes
    (entry_inserted index (entry_of entry) d)
    (subst IsDatabaseName (sym (seeded_same (entry_of entry) d.header).0) s.spelled.fits.name)) in
    ap (λ (xs : List ℕ). overwritten (overwritten (slid resources index count (index + 1) xs)
    (off index) e) 0 now) grown
    ∙ ap (λ (xs : List ℕ). overwritten xs 0 now)
    (opens head (entries_bytes rest) zeros [] e (off index) (off count) (off (index + 1)) p.at p.next
    (offset_entry entry index own_kind) (length-replicate (length e) 0)
    ∙ append_assoc (header_bytes d) (entries_bytes front) (e ++ (entries_bytes rest ++ [])))
    ∙ over_piece [] (header_bytes d) (entries_bytes front ++ (e ++ (entries_bytes rest ++ []))) now 0
    refl same
    ∙ rw (append-nil (entries_bytes rest), flat_map-append entry_bytes front (entry_of entry ∷ rest))
