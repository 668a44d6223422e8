-- The chunks that a database names: they are for data, each is named once, and all of them are freed.
use Rattle.palm_store.proofs.Words.{◌≡◌, ◌≢◌, ℕ, suc, ◌+◌, ◌-◌, ◌<◌, ◌≤◌, List, [], ◌∷◌, ◌++◌, length, get_or, take, drop, Option, None, refl, sym, ap, ◌∙◌, arith, inl, inr, ◌==◌, if◌then◌else◌, cases_eq, take-append-drop, take_more, get_or-map, length-map, length-map-range_with_len, get_or-map-range_with_len, get_or_default_zero, Any, is_some, u32_at, header_size, app_info_at, sort_info_at, HeapAccepted, directory_of, LiveChunk, held, gone, not_owned, callers_map, same, times, Leaves, entry_data, data_in, database_in, entry_in, entry_count_in, resources_in, entry_offset, IsSpelled, bytes_under, owner_under, database_under, Accepted, Of, IsLocked, all_gone, same_frame, frame_then, callers_some, held-zero, same-yes, same-no, times-cons, times-append, times-some, directory_owner, bytes_like, same-is, same-least, number_some, offset_below, spelled_shape, IsMovable, HasNumber, named_under}
use Rattle.palm_store.proofs.Numbers.{stands, listed_at, number_slot}
use Rattle.palm_store.proofs.DataChunks.{for_data, data_movable}
use Rattle.palm_store.proofs.Deletion.{named_most}
use Rattle.laws_store.proofs.Edited.{here as updated_here, apart as updated_apart}
use Rattle.palm_store.proofs.Maps.{gone_out, gone_in, kept, owner_alike, owned}
pub use Rattle.palm_store.proofs.TwoSteps.{no_chunk}
use Rattle.std.proofs.lemmas.Bool.Decides.{nat_tests}

-- the slots in the bytes of a database
pub length-named : (body : List ℕ) → length (data_in (database_in body)) ≡ 2 + entry_count_in body
unfolding database_in
length-named body = omega (arith, length-map-range_with_len (entry_in body) 0 (entry_count_in body), length-map (database_in body).entries entry_data)

pub entry_named : (body : List ℕ) (index : ℕ) → index < entry_count_in body → get_or (data_in (database_in body)) (suc (suc index)) 0 ≡ entry_data (entry_in body index)
unfolding database_in
entry_named body index below =
    let long = length-map-range_with_len (entry_in body) 0 (entry_count_in body) in
    get_or-map entry_data (database_in body).entries index (entry_in body index) 0 (omega arith)
    ∙ ap entry_data (get_or-map-range_with_len (entry_in body) 0 (entry_count_in body) index index (entry_in body index) below (omega arith))

pub entry_inside : (body : List ℕ) (index : ℕ) → IsSpelled (database_in body) body → index < entry_count_in body → entry_offset (resources_in body) (index + 1) ≤ length body
entry_inside body index spelled below =
    let shape = spelled_shape (database_in body) body spelled in
    omega (arith, shape.ends, offset_below (resources_in body) index (entry_count_in body) below)

pub header_inside : (body : List ℕ) → IsSpelled (database_in body) body → header_size ≤ length body
header_inside body spelled = (spelled_shape (database_in body) body spelled).header

pub first_named : (body : List ℕ) (index : ℕ) → index ≡ 0 → get_or (data_in (database_in body)) index 0 ≡ u32_at body app_info_at
unfolding database_in
first_named body index is = ap (λ (k : ℕ). get_or (data_in (database_in body)) k 0) is

pub second_named : (body : List ℕ) (index : ℕ) → index ≡ 1 → get_or (data_in (database_in body)) index 0 ≡ u32_at body sort_info_at
unfolding database_in
second_named body index is = ap (λ (k : ℕ). get_or (data_in (database_in body)) k 0) is

pub later_named : (body : List ℕ) (index : ℕ) → 2 ≤ index → index < length (data_in (database_in body)) → get_or (data_in (database_in body)) index 0 ≡ entry_data (entry_in body (index - 2))
later_named body index past below =
    let is : index ≡ suc (suc (index - 2)) = omega arith in
    ap (λ (k : ℕ). get_or (data_in (database_in body)) k 0) is ∙ entry_named body (index - 2) (omega (arith, length-named body, past, below))

-- the chunks of a database
pub named_times : (image : List ℕ) (db name : ℕ) → Accepted image → HasNumber image db → 0 < name → times name (named_under image db) ≤ same (owner_under image name) 15
named_times image db name a has some = (let at = listed_at image db has in named_most image at.0 (database_under image db) a (stands image db at.0 at.1) name some)

pub named_once : (image : List ℕ) (db name : ℕ) → Accepted image → HasNumber image db → 0 < name → times name (named_under image db) ≤ 1
named_once image db name a has some = omega (arith, named_times image db name a has some, same-least (owner_under image name) 15)

pub named_owner : (image : List ℕ) (db name : ℕ) → Accepted image → HasNumber image db → 0 < name → 0 < times name (named_under image db) → owner_under image name ≡ 15
named_owner image db name a has some there = same-is (owner_under image name) 15 (omega (arith, named_times image db name a has some))

-- what has another owner is not named
pub not_named : (image : List ℕ) (db name : ℕ) → Accepted image → HasNumber image db → 0 < name → owner_under image name ≢ 15 → times name (named_under image db) ≡ 0
not_named image db name a has some other = omega (arith, named_times image db name a has some, same-no (owner_under image name) 15 other)

-- chunks that are freed
pub freed_none : (image : List ℕ) → HeapAccepted image → Leaves image image (all_gone (held image) [])
freed_none image h = record { map = λ name. refl; frame = same_frame image h; still = λ name live e locked there. refl }

pub freed_one : (old new : List ℕ) (slot : ℕ) → Leaves old new (gone (held old) slot) → Leaves old new (all_gone (held old) (slot ∷ []))
freed_one old new slot l = record {
  map = λ name. l.map name ∙ elim (cases_eq name slot) [
    | inl e ↦ updated_here (held old) slot None name e ∙ sym (gone_in (held old) (slot ∷ []) name (omega (arith, times-cons name slot [], same-yes slot name (sym e))))
    | inr ne ↦ updated_apart (held old) slot None name ne ∙ sym (gone_out (held old) (slot ∷ []) name (omega (arith, times-cons name slot [], same-no slot name (λ e. ne (sym e)))))
  ];
  frame = l.frame;
  still = l.still;
}

pub freed_more : (old mid new first second : List ℕ) → Leaves old mid (all_gone (held old) first) → Leaves mid new (all_gone (held mid) second) → Leaves old new (all_gone (held old) (first ++ second))
freed_more old mid new first second l m = record {
  map = goes;
  frame = frame_then old mid new l.frame m.frame;
  still = λ name live e locked there. elim (cases_eq (times name first) 0) [
    | inl out ↦ (let stays = kept old mid first name l out ∙ e in m.still name live stays locked there ∙ l.still name live e locked (ap is_some stays))
    | inr here ↦ absurd (no_chunk (held new name) (goes name ∙ gone_in (held old) (first ++ second) name (omega (arith, times-append name first second))) there)
  ];
} where
  goes : (name : ℕ) → held new name ≡ all_gone (held old) (first ++ second) name
  goes name =
      m.map name
      ∙ ap (λ (o : Option LiveChunk). if times name second == 0 then o else None) (l.map name)
      ∙ both (times name first) (times name second) (held old name)
      ∙ rw (times-append name first second) refl where
        both : (a b : ℕ) (o : Option LiveChunk) → (if b == 0 then (if a == 0 then o else None) else None) ≡ (if a + b == 0 then o else None)
        both a b o = grind (arith, nat_tests)

-- one slot after the other
times_take : (name index : ℕ) (names : List ℕ) → times name (take index names) ≤ times name names
times_take name index names = omega (arith, ap (times name) (take-append-drop index names), times-append name (take index names) (drop index names))

-- the number itself is not named
pub number_unnamed : (image : List ℕ) (db : ℕ) → Accepted image → HasNumber image db → times db (named_under image db) ≡ 0
number_unnamed image db a has = not_named image db db a has (number_some image db a has) (λ e. omega (arith, (number_slot image db a has).owner))

-- the header stays
pub header_held : (old mid : List ℕ) (db index : ℕ) → Accepted old → HasNumber old db → Leaves old mid (all_gone (held old) (take index (named_under old db))) → held mid db ≡ held old db
header_held old mid db index a has l = kept old mid (take index (named_under old db)) db l (omega (arith, number_unnamed old db a has, times_take db index (named_under old db)))

pub header_owner : (old mid : List ℕ) (db index : ℕ) → Accepted old → HasNumber old db → Leaves old mid (all_gone (held old) (take index (named_under old db))) → owner_under mid db ≡ 0
header_owner old mid db index a has l = owner_alike old mid db (header_held old mid db index a has l) ∙ (number_slot old db a has).owner

pub header_like : (old mid : List ℕ) (db index : ℕ) → Accepted old → HasNumber old db → Leaves old mid (all_gone (held old) (take index (named_under old db))) → bytes_under mid db ≡ bytes_under old db
header_like old mid db index a has l = bytes_like old mid db (header_held old mid db index a has l)

-- a slot is the one at this index of those that a database has
pub record IsNamedAt (image : List ℕ) (db index slot : ℕ) : Type 0 where
  pub below : index < length (named_under image db)
  pub is : slot ≡ get_or (named_under image db) index 0

-- a slot that was read off the bytes of the database, below their count
pub named_at : (image header body : List ℕ) (db index count slot : ℕ) → header ≡ bytes_under image db → body ≡ bytes_under image db → count ≡ length (data_in (database_in header)) → index < count → slot ≡ get_or (data_in (database_in body)) index 0 → IsNamedAt image db index slot
named_at image header body db index count slot header_is body_is count_is less read = record {
  below = rw (count_is, header_is) at less;
  is = read ∙ ap (λ (bytes : List ℕ). get_or (data_in (database_in bytes)) index 0) body_is;
}

slot_owner : (image : List ℕ) (db index slot : ℕ) → Accepted image → HasNumber image db → IsNamedAt image db index slot → 0 < slot → owner_under image slot ≡ 15
slot_owner image db index slot a has at some = named_owner image db slot a has some (times-some slot (named_under image db) index 0 at.below (sym at.is))

pub slot_movable : (image : List ℕ) (db index slot : ℕ) → Accepted image → HasNumber image db → IsNamedAt image db index slot → 0 < slot → IsMovable image slot
slot_movable image db index slot a has at some = data_movable image slot a.heap (for_data image slot (slot_owner image db index slot a has at some))

-- it isn't freed with those before it
slot_same : (old mid : List ℕ) (db index slot : ℕ) → Accepted old → HasNumber old db → Leaves old mid (all_gone (held old) (take index (named_under old db))) → IsNamedAt old db index slot → 0 < slot → held mid slot ≡ held old slot
slot_same old mid db index slot a has l at some =
    let names : List ℕ = named_under old db in
    let once = named_once old db slot a has some in
    let part = times_take slot (index + 1) names in
    let more = ap (times slot) (take_more names index 0 at.below) in
    let both = times-append slot (take index names) (get_or names index 0 ∷ []) in
    let last = times-cons slot (get_or names index 0) [] in
    let yes = same-yes (get_or names index 0) slot (sym at.is) in
    kept old mid (take index names) slot l (omega arith)

pub slot_left : (old mid : List ℕ) (db index slot : ℕ) → Accepted old → HasNumber old db → Leaves old mid (all_gone (held old) (take index (named_under old db))) → IsNamedAt old db index slot → 0 < slot → IsMovable mid slot
slot_left old mid db index slot a has l at some =
    let m = slot_movable old db index slot a has at some in
    record { live = m.live; is_held = slot_same old mid db index slot a has l at some ∙ m.is_held; movable = m.movable }

pub slot_other : (old mid : List ℕ) (db index slot : ℕ) → Accepted old → HasNumber old db → directory_of mid ≡ directory_of old → IsNamedAt old db index slot → 0 < slot → slot ≡ directory_of mid → ⊥
slot_other old mid db index slot a has word at some directory =
    let own = ap (owner_under old) (directory ∙ word) ∙ directory_owner old a.heap (omega arith) in
    omega (arith, own, slot_owner old db index slot a has at some)

-- callers may name it
pub slot_shown : (image : List ℕ) (db index slot : ℕ) → Accepted image → HasNumber image db → IsNamedAt image db index slot → callers_map image slot ≡ held image slot
slot_shown image db index slot a has at = elim (cases_eq slot 0) [
  | inl none ↦ (let empty = ap (held image) none ∙ held-zero image a.heap in ap (not_owned 0) empty ∙ sym empty)
  | inr some ↦
      let o = owned image slot 15 (slot_owner image db index slot a has at (omega arith)) (omega arith) in
      callers_some image slot o.live o.there (λ e. omega arith) ∙ sym o.there
]

pub freed_next : (old mid new : List ℕ) (db index slot : ℕ) → IsNamedAt old db index slot → Leaves old mid (all_gone (held old) (take index (named_under old db))) → Leaves mid new (all_gone (held mid) (slot ∷ [])) → Leaves old new (all_gone (held old) (take (index + 1) (named_under old db)))
freed_next old mid new db index slot at l m = rw (take_more (named_under old db) index 0 at.below, ← at.is) (freed_more old mid new (take index (named_under old db)) (slot ∷ []) l m)

-- of some names of a list
pub any_at : (P : ℕ → Type 0) (names : List ℕ) (index name : ℕ) → index < length names → name ≡ get_or names index 0 → P name → Any P names
any_at P names index name below is p = (index, name, below, get_or_default_zero names index name below ∙ sym is, p)

-- nor is it locked, where none of them was
pub slot_unlocked : (old mid : List ℕ) (db index slot : ℕ) → Accepted old → HasNumber old db → Leaves old mid (all_gone (held old) (take index (named_under old db))) → IsNamedAt old db index slot → (Any (λ (name : ℕ). Of (callers_map old name) IsLocked) (named_under old db) → ⊥) → 0 < slot → Of (held mid slot) IsLocked → ⊥
slot_unlocked old mid db index slot a has l at none some locked =
    let same = slot_same old mid db index slot a has l at some ∙ sym (slot_shown old db index slot a has at) in
    none (any_at (λ (name : ℕ). Of (callers_map old name) IsLocked) (named_under old db) index slot at.below at.is (rw same at locked))

pub none_of : (P : ℕ → Type 0) (names : List ℕ) → ((k : ℕ) → k < length names → P (get_or names k 0) → ⊥) → Any P names → ⊥
none_of P names none any =
    let is = sym (get_or_default_zero names any.0 any.1 any.2) ∙ any.3 in
    none any.0 any.2 (rw (← is) at any.4)
