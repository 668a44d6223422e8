-- A header and its entries are written one after the other into a chunk with room for them.
use Rattle.palm_store.proofs.Words.{◌≡◌, ℕ, zero, suc, ◌+◌, ◌*◌, ◌<◌, ◌≤◌, Bool, true, false, List, [], ◌∷◌, ◌++◌, length, get_or, take, drop, Option, Some, None, refl, sym, ap, subst, ◌∙◌, append_assoc, arith, length-append, length-take, length-drop, inl, inr, take-append_seam, cases_eq, flat_map-append, append-nil, get_or-drop, take-append-drop, take_more, take_all, drop_all, drop_at, drop-drop, All-nil, All-cons, All-append, if◌then◌else◌, All, flat_map, overwritten, HeapAccepted, LiveChunk, held, updated, changed, changed_at, put, Leaves, rewritten, entry_size, Entry, Database, DatabaseHeader, IsDatabaseName, has_resources, header_bytes, entry_bytes, spelled, empty_database, EntryFits, DatabaseFits, entry_offset, bytes_of, bytes_under, owner_under, DbInfo, Name, DbHeader, header_values, IsHeaderOf, WritesHeader, same_frame, length-entry_bytes, length-entries, offset_below, WholeEntry, header_asked, entry_named, entries_named, whole_database, numbers_in}
use Rattle.std.specs.Prelude.{◌^◌}
use Rattle.laws_store.proofs.Edited.{here as updated_here, apart as updated_apart}
use Rattle.laws_store.proofs.Spellings.{size-zero}
use Rattle.palm_store.proofs.Maps.{name_now, chunk_now, owner_held, bytes_held, owned}
use Rattle.palm_store.proofs.TwoSteps.{with_bytes, changed_keeps, then_again}
use Rattle.palm_store.proofs.Creation.{empty_fits}

-- bytes on the way: the header, and the entries before an index
abbrev front_of : List ℕ → List (Entry ℕ) → ℕ → List ℕ
front_of body es index = take 78 body ++ flat_map entry_bytes (take index es)

-- and what stood after them
abbrev pub so_far : List ℕ → Bool → List (Entry ℕ) → ℕ → List ℕ
so_far body resources es index = front_of body es index ++ drop (entry_offset resources index) body

front_long : (body : List ℕ) (resources : Bool) (es : List (Entry ℕ)) (index : ℕ) → 78 ≤ length body → index ≤ length es → All (EntryFits resources) (take index es) → length (front_of body es index) ≡ entry_offset resources index
front_long body resources es index header below fits =
    let both = length-append (take 78 body) (flat_map entry_bytes (take index es)) in
    let head = length-take 78 body in
    let entries = length-entries resources (take index es) fits in
    let count = length-take index es in
    let many : length (take index es) ≡ index = omega arith in
    let sizes : entry_size resources * length (take index es) ≡ entry_size resources * index = rw many refl in
    omega (arith, both, head, entries, sizes)

so_far_long : (body : List ℕ) (resources : Bool) (es : List (Entry ℕ)) (index : ℕ) → 78 ≤ length body → index ≤ length es → All (EntryFits resources) (take index es) → entry_offset resources index ≤ length body → length (so_far body resources es index) ≡ length body
so_far_long body resources es index header below fits inside =
    let front = front_long body resources es index header below fits in
    let both = length-append (front_of body es index) (drop (entry_offset resources index) body) in
    let rest = length-drop (entry_offset resources index) body in
    omega (arith, front, both, rest, inside)

so_far_none : (body : List ℕ) (resources : Bool) (es : List (Entry ℕ)) → so_far body resources es 0 ≡ body
so_far_none body resources es = rw (append-nil (take 78 body), size-zero resources) (take-append-drop 78 body)

so_far_all : (body : List ℕ) (resources : Bool) (es : List (Entry ℕ)) (index : ℕ) → index ≡ length es → length body ≡ entry_offset resources (length es) → so_far body resources es index ≡ take 78 body ++ flat_map entry_bytes es
so_far_all body resources es index is long =
    let none = drop_all (entry_offset resources (length es)) body (omega (arith, long)) in
    rw (is, none, append-nil, take_all (length es) es (omega arith)) refl

over_front : (front back part : List ℕ) (at : ℕ) → length front ≡ at → overwritten (front ++ back) at part ≡ front ++ (part ++ drop (length part) back)
unfolding overwritten
over_front front back part at long =
    let behind = sym (drop-drop (length part) at (front ++ back)) ∙ ap (drop (length part)) (drop_at front back at long) in
    rw (behind, ← long, take-append_seam, append_assoc) refl

grown : (body : List ℕ) (es : List (Entry ℕ)) (index : ℕ) (e : Entry ℕ) → index < length es → get_or es index e ≡ e → front_of body es index ++ entry_bytes e ≡ front_of body es (index + 1)
grown body es index e below there = rw (append_assoc, take_more es index e below, there, flat_map-append, append-nil) refl

next_offset : (resources : Bool) (index long : ℕ) → long ≡ entry_size resources → entry_offset resources index + long ≡ entry_offset resources (index + 1)
next_offset false index long is = omega arith
next_offset true index long is = omega arith

-- one entry more is written
so_far_more : (body : List ℕ) (resources : Bool) (es : List (Entry ℕ)) (index : ℕ) (e : Entry ℕ) → 78 ≤ length body → index < length es → All (EntryFits resources) (take index es) → get_or es index e ≡ e → EntryFits resources e
    → overwritten (so_far body resources es index) (entry_offset resources index) (entry_bytes e) ≡ so_far body resources es (index + 1)
so_far_more body resources es index e header below fits there fit =
    let at : ℕ = entry_offset resources index in
    let next = next_offset resources index (length (entry_bytes e)) (length-entry_bytes resources e fit) in
    over_front (front_of body es index) (drop at body) (entry_bytes e) at (front_long body resources es index header (omega arith) fits)
    ∙ ap (λ (xs : List ℕ). front_of body es index ++ (entry_bytes e ++ xs)) (drop-drop (length (entry_bytes e)) at body ∙ ap (λ (n : ℕ). drop n body) next)
    ∙ sym (append_assoc (front_of body es index) (entry_bytes e) (drop (entry_offset resources (index + 1)) body))
    ∙ ap (λ (xs : List ℕ). xs ++ drop (entry_offset resources (index + 1)) body) (grown body es index e below there)

-- the chunk that has them: nothing is written yet
none_written : (image : List ℕ) (slot : ℕ) (bytes : List ℕ) → HeapAccepted image → bytes ≡ bytes_under image slot → Leaves image image (rewritten (held image) slot bytes)
unfolding bytes_under
none_written image slot bytes h is = record {
  map = λ name. elim (cases_eq name slot) [
    | inl e ↦ ap (held image) e ∙ sym (updated_here (held image) slot (changed (with_bytes bytes) (held image slot)) name e ∙ as_was (held image slot) is)
    | inr ne ↦ sym (updated_apart (held image) slot (changed (with_bytes bytes) (held image slot)) name ne)
  ];
  frame = same_frame image h;
  still = λ name live e locked there. refl;
} where
  as_was : (o : Option LiveChunk) → bytes ≡ bytes_of o → changed (with_bytes bytes) o ≡ o
  as_was None e = refl
  as_was (Some live) e = ap (λ (b : List ℕ). Some (with_bytes b live)) e

-- one body after another
then_written : (old mid new : List ℕ) (slot : ℕ) (before : List ℕ) (change : List ℕ → List ℕ) → Leaves old mid (rewritten (held old) slot before) → Leaves mid new (changed_at (held mid) slot (λ live. record live { bytes = change live.bytes })) → Leaves old new (rewritten (held old) slot (change before))
then_written old mid new slot before change l m =
    let both = then_again slot _ _ (changed_keeps old mid slot (with_bytes before) (λ live. refl) l) l m in
    subst (λ (now : Option LiveChunk). Leaves old new (updated (held old) slot now)) (ap (changed (λ (live : LiveChunk). record live { bytes = change live.bytes })) (name_now slot _ l) ∙ twice (held old slot)) both where
      twice : (o : Option LiveChunk) → changed (λ (live : LiveChunk). record live { bytes = change live.bytes }) (changed (with_bytes before) o) ≡ changed (with_bytes (change before)) o
      twice None = refl
      twice (Some live) = refl

pub then_rebodied : (old mid new : List ℕ) (slot : ℕ) (before bytes : List ℕ) → HeapAccepted old → owner_under old slot ≡ 0 → Leaves old mid (rewritten (held old) slot before) → Leaves mid new (rewritten (held mid) slot bytes)
    → Leaves old new (rewritten (held old) slot bytes)
then_rebodied old mid new slot before bytes h own l m = then_written old mid new slot before (λ was. bytes) l m

-- what stands there now
pub record HasBody (image : List ℕ) (slot : ℕ) (bytes : List ℕ) : Type 0 where
  pub bytes_are : bytes_under image slot ≡ bytes
  pub owner : owner_under image slot ≡ 0

pub body_now : (old new : List ℕ) (slot : ℕ) (bytes : List ℕ) → owner_under old slot ≡ 0 → Leaves old new (rewritten (held old) slot bytes) → HasBody new slot bytes
body_now old new slot bytes own l =
    let o = owned old slot 0 own (omega arith) in
    let now = chunk_now slot (with_bytes bytes) l o.there in
    record { bytes_are = bytes_held new slot (record o.live { bytes = bytes }) now; owner = owner_held new slot (record o.live { bytes = bytes }) now ∙ o.own }

-- the entries: the entries before an index are written after the header
pub record Writes (old new : List ℕ) (slot : ℕ) (resources : Bool) (entries : List WholeEntry) (names : List ℕ) (index : ℕ) : Type 0 where
  pub leaves : Leaves old new (rewritten (held old) slot (so_far (bytes_under old slot) resources (entries_named entries (drop 2 names)) index))
  pub fits : All (EntryFits resources) (take index (entries_named entries (drop 2 names)))

pub length-named : (entries : List WholeEntry) (names : List ℕ) → length (entries_named entries names) ≡ length entries
length-named [] names = refl
length-named (one ∷ entries) [] = ap suc (length-named entries [])
length-named (one ∷ entries) (name ∷ names) = ap suc (length-named entries names)

pub entry_there : (entries : List WholeEntry) (names : List ℕ) (index : ℕ) (one : WholeEntry) (d : Entry ℕ) → index < length entries → length names ≡ length entries → get_or (entries_named entries names) index d ≡ entry_named (get_or entries index one) (get_or names index 0)
entry_there [] names index one d below long = absurd (omega arith)
entry_there (first ∷ entries) [] index one d below long = absurd (omega arith)
entry_there (first ∷ entries) (name ∷ names) zero one d below long = refl
entry_there (first ∷ entries) (name ∷ names) (suc index) one d below long = entry_there entries names index one d (omega arith) (omega arith)

pub writes_none : (image : List ℕ) (slot : ℕ) (resources : Bool) (entries : List WholeEntry) (names : List ℕ) → HeapAccepted image → owner_under image slot ≡ 0 → Writes image image slot resources entries names 0
writes_none image slot resources entries names h own = record {
  leaves = none_written image slot _ h (so_far_none (bytes_under image slot) resources (entries_named entries (drop 2 names)));
  fits = All-nil (EntryFits resources);
}

pub start_room : (body : List ℕ) (resources : Bool) (n : ℕ) → length body ≡ entry_offset resources n → 78 ≤ length body
start_room body resources n long = omega (arith, long)

-- an entry that is asked for, with the name at the same index, among those of the database
pub record IsEntryAt (resources : Bool) (entries : List WholeEntry) (names : List ℕ) (index : ℕ) (e : Entry ℕ) : Type 0 where
  pub below : index < length (entries_named entries (drop 2 names))
  pub is : get_or (entries_named entries (drop 2 names)) index e ≡ e
  pub fits : EntryFits resources e

pub entry_at : (resources : Bool) (entries : List WholeEntry) (names : List ℕ) (index : ℕ) (one : WholeEntry) (e : Entry ℕ) (name : ℕ) → index < length entries → length names ≡ 2 + length entries → name ≡ get_or names (index + 2) 0
    → e ≡ entry_named (get_or entries index one) name → EntryFits resources e → IsEntryAt resources entries names index e
entry_at resources entries names index one e name below long name_is is fits =
    let many = length-named entries (drop 2 names) in
    let behind = length-drop 2 names in
    let swapped : 2 + index ≡ index + 2 = omega arith in
    let there : get_or (drop 2 names) index 0 ≡ name = get_or-drop 2 names index 0 ∙ rw swapped (sym name_is) in
    record {
      below = omega (arith, many, below);
      is = entry_there entries (drop 2 names) index one e below (omega (arith, behind, long)) ∙ rw there (sym is);
      fits = fits;
    }

pub writes_inside : (old mid : List ℕ) (slot : ℕ) (resources : Bool) (entries : List WholeEntry) (names : List ℕ) (index : ℕ) (e : Entry ℕ) (at : ℕ) (part : List ℕ) → owner_under old slot ≡ 0 → length (bytes_under old slot) ≡ entry_offset resources (length entries)
    → Writes old mid slot resources entries names index → IsEntryAt resources entries names index e → at ≡ entry_offset resources index → part ≡ entry_bytes e → at + length part ≤ length (bytes_under mid slot)
writes_inside old mid slot resources entries names index e at part own long w there at_is part_is =
    let many = length-named entries (drop 2 names) in
    let below = there.below in
    let inside = offset_below resources index (length entries) (omega (arith, many, below)) in
    let next = next_offset resources index (length part) (ap length part_is ∙ length-entry_bytes resources e there.fits) in
    let so = so_far_long (bytes_under old slot) resources (entries_named entries (drop 2 names)) index (start_room _ resources (length entries) long) (omega (arith, below)) w.fits (omega (arith, inside, next, long)) in
    let now = ap length (body_now old mid slot _ own w.leaves).bytes_are in
    omega (arith, now, so, inside, next, long, at_is)

pub writes_more : (old mid new : List ℕ) (slot : ℕ) (resources : Bool) (entries : List WholeEntry) (names : List ℕ) (index : ℕ) (e : Entry ℕ) (at : ℕ) (part : List ℕ) → HeapAccepted old → owner_under old slot ≡ 0
    → length (bytes_under old slot) ≡ entry_offset resources (length entries) → Writes old mid slot resources entries names index → IsEntryAt resources entries names index e → at ≡ entry_offset resources index → part ≡ entry_bytes e
    → Leaves mid new (put (held mid) slot at part) → Writes old new slot resources entries names (index + 1)
writes_more old mid new slot resources entries names index e at part h own long w there at_is part_is l =
    let es : List (Entry ℕ) = entries_named entries (drop 2 names) in
    let body : List ℕ = bytes_under old slot in
    let next = so_far_more body resources es index e (start_room body resources (length entries) long) there.below w.fits there.is there.fits in
    let written = then_written old mid new slot (so_far body resources es index) (λ was. overwritten was at part) w.leaves l in
    record {
      leaves = subst (λ (bytes : List ℕ). Leaves old new (rewritten (held old) slot bytes)) (rw (at_is, part_is) next) written;
      fits = rw (take_more es index e there.below, there.is) (All-append (EntryFits resources) (take index es) (e ∷ []) w.fits (All-cons (EntryFits resources) e [] there.fits (All-nil (EntryFits resources))));
    }

pub writes_all : (old new : List ℕ) (slot : ℕ) (resources : Bool) (entries : List WholeEntry) (names : List ℕ) (index : ℕ) → length (bytes_under old slot) ≡ entry_offset resources (length entries) → Writes old new slot resources entries names index → index ≡ length entries
    → Leaves old new (rewritten (held old) slot (take 78 (bytes_under old slot) ++ flat_map entry_bytes (entries_named entries (drop 2 names))))
writes_all old new slot resources entries names index long w is =
    let es : List (Entry ℕ) = entries_named entries (drop 2 names) in
    let many = length-named entries (drop 2 names) in
    subst (λ (bytes : List ℕ). Leaves old new (rewritten (held old) slot bytes)) (so_far_all (bytes_under old slot) resources es index (is ∙ sym many) (rw many long)) w.leaves

pub writes_fits : (old new : List ℕ) (slot : ℕ) (resources : Bool) (entries : List WholeEntry) (names : List ℕ) (index : ℕ) → Writes old new slot resources entries names index → index ≡ length entries → All (EntryFits resources) (entries_named entries (drop 2 names))
writes_fits old new slot resources entries names index w is =
    let many = length-named entries (drop 2 names) in
    rw (take_all index (entries_named entries (drop 2 names)) (omega (arith, many, is))) at w.fits

-- the header: the header is written over the front of the chunk
pub record PutsFront (old new : List ℕ) (slot : ℕ) (header : List ℕ) : Type 0 where
  pub leaves : Leaves old new (rewritten (held old) slot (overwritten (bytes_under old slot) 0 header))
  pub body : HasBody new slot (overwritten (bytes_under old slot) 0 header)
  pub long : length (bytes_under new slot) ≡ length (bytes_under old slot)
  pub front : take 78 (bytes_under new slot) ≡ header

pub puts_front : (old new : List ℕ) (slot : ℕ) (header : List ℕ) → HeapAccepted old → owner_under old slot ≡ 0 → length header ≡ 78 → 78 ≤ length (bytes_under old slot) → Leaves old new (put (held old) slot 0 header) → PutsFront old new slot header
puts_front old new slot header h own size room l =
    let body : List ℕ = bytes_under old slot in
    let leaves = then_written old old new slot body (λ was. overwritten was 0 header) (none_written old slot body h refl) l in
    let now = body_now old new slot (overwritten body 0 header) own leaves in
    let start : bytes_under new slot ≡ header ++ drop 78 body = now.bytes_are ∙ over_front [] body header 0 refl ∙ rw size refl in
    let both = length-append header (drop 78 body) in
    let rest = length-drop 78 body in
    let counted = ap length start in
    record {
      leaves = leaves;
      body = now;
      long = omega (arith, counted, both, rest, size, room);
      front = rw (start, ← size) (take-append_seam header (drop (length header) body));
    }

pub whole_header : (header : DbHeader) (info : DbInfo) (entries : List WholeEntry) (names : List Name) (d : Name) → header_values header ≡ header_asked info → header.app_info ≡ (get_or names 0 d).0 → header.sort_info ≡ (get_or names 1 d).0 → header.entry_count ≡ info.entry_count
    → info.entry_count ≡ length entries → length names ≡ 2 + length entries → IsHeaderOf (whole_database info entries (numbers_in names)) header
whole_header header info entries [] d values app sort count many long = absurd (omega arith)
whole_header header info entries (one ∷ []) d values app sort count many long = absurd (omega arith)
whole_header header info entries (one ∷ two ∷ names) d values app sort count many long = record {
  values = values;
  app_info = app;
  sort_info = sort;
  entry_count = count ∙ many ∙ sym (length-named entries (numbers_in names));
}

pub whole_spelled : (info : DbInfo) (entries : List WholeEntry) (names : List ℕ) → header_bytes (whole_database info entries names) ++ flat_map entry_bytes (entries_named entries (drop 2 names)) ≡ spelled (whole_database info entries names)
unfolding spelled
whole_spelled info entries names = refl

-- it can be spelled
bit_says : (resources : Bool) → has_resources (if resources then 1 else 0) ≡ resources
bit_says false = refl
bit_says true = refl

-- what its header's bytes do to an empty one with its entries they do to it
pub whole_fits : (header : DbHeader) (bytes : List ℕ) (d : Database ℕ) → IsHeaderOf d header → WritesHeader header bytes → IsDatabaseName d.header.name → length d.entries < 2 ^ 16 → All (EntryFits (has_resources d.header.attributes)) d.entries → DatabaseFits d
whole_fits header bytes d has writes named few fits =
    let resources : Bool = has_resources d.header.attributes in
    let plain : Database ℕ = record (empty_database d.header.name 0 0 resources 0) { entries = d.entries } in
    let empty = empty_fits d.header.name 0 0 resources 0 named (omega arith) (omega arith) (omega arith) in
    let sound : DatabaseFits plain = record { name = empty.name; header = empty.header; app_info = empty.app_info; sort_info = empty.sort_info; entries = rw (bit_says resources) fits; entry_count = few } in
    let kind : has_resources header.attributes ≡ has_resources plain.header.attributes = ap (λ (h : DatabaseHeader). has_resources h.attributes) has.values ∙ sym (bit_says resources) in
    let written = writes plain (spelled plain) (record { fits = sound; bytes_are = refl }) has.entry_count kind in
    rw (has.values, has.app_info, has.sort_info) at written.fits
