-- An entry taken out: those after it slide over it, the header counts one less, and then the chunk
-- shrinks.
use Rattle.database_edits.proofs.Words.{◌≡◌, ℕ, suc, ◌+◌, ◌<◌, ◌≤◌, Bool, List, [], ◌++◌, length, take, drop, refl, sym, ap, ◌∙◌, append_assoc, append-nil, arith, length-append, length-drop, length-remove, length-take, slice_range, remove, overwritten, sized_to, Entry, Database, header_bytes, entry_bytes, spelled, entry_offset, SpellsHere, Respells, database_here, bytes_under, next_modification, length-header_bytes, HasEntryCount, HasModificationNumber, over_piece, Rebodies, HasHeaderOf, HasKindHere, PutsHeader, entry_removed}
use Rattle.std.proofs.lemmas.Grind.{flat_map-append}
use Rattle.std.proofs.lemmas.List.Edits.{length-between, split_between}
use Rattle.database_edits.proofs.Chunks.{rebodied_as, then_by}
use Rattle.database_edits.proofs.Databases.{managers}
use Rattle.database_edits.proofs.Entries.{slid}
use Rattle.database_edits.proofs.HeadersHere.{Headed, header_spelled, headed, kept_below, then_headed, then_raised}
use Rattle.database_edits.proofs.Parts.{entries_bytes, parts_here}
use Rattle.database_edits.proofs.Pieces.{cut, slid_front}

-- the header stays while entries slide
pub slid_kept : {old mid : List ℕ} {db : ℕ} (resources : Bool) (index count : ℕ)
    → SpellsHere old db
    → Rebodies old mid db (slid resources (index + 1) count index (bytes_under old db))
    → HasHeaderOf mid db (database_here old db)
slid_kept resources index count s slides =
    kept_below (entry_offset resources index) _ (header_spelled s) (omega arith) slides

-- it is written field by field
pub header_removed : {old mid counted_in new : List ℕ} {db was left : ℕ} (resources : Bool)
    (index count : ℕ) → SpellsHere old db
    → Rebodies old mid db (slid resources (index + 1) count index (bytes_under old db))
    → index < length (database_here old db).entries
    → left + 1 ≡ length (database_here old db).entries
    → was ≡ (database_here old db).header.modification_number
    → PutsHeader mid counted_in db (HasEntryCount left)
    → PutsHeader counted_in new db (HasModificationNumber (next_modification was))
    → Headed mid new db (entry_removed index (database_here old db))
header_removed {old} {db = db} resources index count s slides inside left is counts raises =
    let d : Database ℕ = database_here old db in
    let first : Database ℕ = record d { entries = remove d.entries index } in
    let h = headed d slides.managers (slid_kept resources index count s slides) in
    let out = length-remove d.entries index inside in
    then_raised (then_headed first h h.has.name (counts d first h.has
    (record { values = refl; app_info = refl; sort_info = refl; entries = omega arith }))) is raises

-- the bytes afterwards
pub removed_bytes : {old : List ℕ} {db : ℕ} {resources : Bool} (index left count : ℕ)
    → SpellsHere old db → HasKindHere old db resources
    → count ≡ length (database_here old db).entries → index + 1 ≤ count → left + 1 ≡ count
    → sized_to (overwritten (slid resources (index + 1) count index (bytes_under old db)) 0
    (header_bytes (entry_removed index (database_here old db)))) (entry_offset resources left)
    ≡ spelled (entry_removed index (database_here old db))
unfolding spelled
removed_bytes {old} {db} {resources} index left count s kind count_is inside left_is =
    let d : Database ℕ = database_here old db in
    let now : List ℕ = header_bytes (entry_removed index d) in
    let off = λ (n : ℕ). entry_offset resources n in
    let front : List (Entry ℕ) = take index d.entries in
    let one : List (Entry ℕ) = slice_range d.entries index (index + 1) in
    let rest : List (Entry ℕ) = drop (index + 1) d.entries in
    let gone : List ℕ = drop (length (entries_bytes rest)) (entries_bytes one ++ (entries_bytes rest ++ [])) in
    let front_size = length-take index d.entries in
    let one_size = length-between d.entries index (index + 1) (omega arith) in
    let rest_size = length-drop (index + 1) d.entries in
    let was_len = length-header_bytes d s.spelled.fits.name in
    let now_len = length-header_bytes (entry_removed index d) s.spelled.fits.name in
    let parts = split_between d.entries index (index + 1) (omega arith)
    ∙ ap (λ (es : List (Entry ℕ)). front ++ (one ++ es)) (sym (append-nil rest)) in
    let p = parts_here front one rest [] index (index + 1) count s kind parts (omega arith)
    (omega arith) (omega arith) in
    let next : index + 1 ≡ suc index = omega arith in
    let head = length-append (header_bytes d) (entries_bytes front) in
    let all = length-append now (entries_bytes front) in
    let both = length-append (now ++ entries_bytes front) (entries_bytes rest) in
    let at = p.at in
    let size = p.slid left (omega arith) in
    ap (λ (xs : List ℕ). sized_to
    (overwritten (slid resources (index + 1) count index xs) 0 now) (off left)) p.is
    ∙ ap (λ (xs : List ℕ). sized_to (overwritten xs 0 now) (off left))
    (slid_front (header_bytes d ++ entries_bytes front) (entries_bytes one) (entries_bytes rest) []
    (off index) (off (index + 1)) (off count) p.at p.next p.end
    ∙ append_assoc (header_bytes d ++ entries_bytes front) (entries_bytes rest) gone
    ∙ append_assoc (header_bytes d) (entries_bytes front) (entries_bytes rest ++ gone))
    ∙ ap (λ (xs : List ℕ). sized_to xs (off left))
    (over_piece [] (header_bytes d) (entries_bytes front ++ (entries_bytes rest ++ gone)) now 0 refl (was_len ∙ sym now_len)
    ∙ sym (append_assoc now (entries_bytes front) (entries_bytes rest ++ gone))
    ∙ sym (append_assoc (now ++ entries_bytes front) (entries_bytes rest) gone))
    ∙ cut ((now ++ entries_bytes front) ++ entries_bytes rest) gone (off left) (omega arith)
    ∙ append_assoc now (entries_bytes front) (entries_bytes rest)
    ∙ ap (λ (xs : List ℕ). now ++ xs) (sym (flat_map-append entry_bytes front rest))
    ∙ ap (λ (n : ℕ). now ++ entries_bytes (front ++ drop n d.entries)) next
