-- The headers of the databases of an accepted image.
use Rattle.heap_map.proofs.Words.{◌≡◌, ℕ, ◌+◌, ◌-◌, ◌<◌, ◌≤◌, List, length, get_or, sym, ap, subst, ◌∙◌, arith, get_or-map, length-map, slice_range, movable, managers_owner, IsLive, HeapAccepted, numbered, StoredDatabase, Accepted, IsHeaderSlot, IsDatabase, bytes_of, bytes_under, owner_under, listed, databases, database_under, InSlot, finds_held, finds_spelled, finds_body, HasLive, AreWholeBytes, listed_at, listed_count, header_at, length-numbered, numbered_at, numbered_all}
use Rattle.std.specs.Prelude.{map}
use Rattle.laws_store.proofs.Shapes.{spelled_shape}

-- the chunk in a slot
pub live_is : (image : List ℕ) (slot place : ℕ) → HeapAccepted image → (s : InSlot image slot place)
    → (h_offset : ℕ) × IsLive image (place - 8) s.live.bytes s.live.lock s.live.owner h_offset
live_is image slot place h s =
    let spelled = finds_spelled _ _ _ _ _ h s.finds in
    (spelled.0, spelled.1)

pub live_there : (image : List ℕ) (slot place : ℕ) → HeapAccepted image → InSlot image slot place
    → HasLive image (place - 8)
live_there image slot place h s =
    let live = live_is image slot place h s in
    record {
      bytes = s.live.bytes;
      lock = s.live.lock;
      owner = s.live.owner;
      h_offset = live.0;
      is = live.1;
    }

pub bytes_there : (image : List ℕ) (slot place : ℕ) → HeapAccepted image
    → (s : InSlot image slot place) → (slice_range image place (place + length s.live.bytes)
    ≡ bytes_under image slot) × (place + length s.live.bytes ≤ length image)
unfolding bytes_under
bytes_there image slot place h s =
    let is = finds_held image slot s.live _ (place - 8) h s.finds in
    let body = finds_body image slot s.live _ (place - 8) h s.finds in
    let low = s.behind_header in
    let e : place - 8 + 8 ≡ place = omega arith in
    let inside = body.inside in (
      sym (ap (λ p. slice_range image p (p + length s.live.bytes)) e) ∙ body.bytes
          ∙ sym (ap bytes_of is),
      omega arith,
    )

-- the slot of a header
pub header_owner : (image : List ℕ) (db slot : ℕ) → Accepted image → db < listed_count image
    → slot ≡ listed_at image db → owner_under image slot ≡ managers_owner
unfolding listed
header_owner image db slot a below is =
    ap (owner_under image) is ∙ (numbered_all (IsHeaderSlot image) (listed_at image)
    (listed_count image) a.headers db below).owner

pub header_bytes : (image : List ℕ) (db slot : ℕ) → slot ≡ listed_at image db
    → bytes_under image slot ≡ header_at image db
unfolding header_at
header_bytes image db slot is = ap (bytes_under image) is

-- and its bytes
pub header_whole : (image : List ℕ) (db : ℕ) → Accepted image → db < listed_count image
    → AreWholeBytes (header_at image db)
unfolding databases listed header_at
header_whole image db a below =
    let slots : List ℕ = numbered (listed_at image) (listed_count image) in
    let one : StoredDatabase = database_under image (listed_at image db) in
    let count = length-numbered (listed_at image) (listed_count image) in
    let inside : db < length slots = omega arith in
    let there = get_or-map (database_under image) slots db 0 one inside
    ∙ ap (database_under image) (numbered_at (listed_at image) _ db 0 below) in
    let len = length-map slots (database_under image) in
    let d : IsDatabase image one = subst (IsDatabase image) there (a.each db one (omega arith)) in
    let shape = spelled_shape one.database (bytes_under image (listed_at image db)) d.spelled in
    record { header = shape.header; next_list = shape.next_list; ends = shape.ends }
