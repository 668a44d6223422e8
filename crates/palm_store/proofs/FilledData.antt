-- Data that is written whole, and what callers see of the bytes of a chunk.
use Rattle.palm_store.proofs.Words.{◌≡◌, ◌≢◌, ℕ, List, [], length, Option, Some, refl, sym, ap, ◌∙◌, arith, inl, inr, managers_owner, data_owner, HeapAccepted, LiveChunk, held, put, not_owned, Leaves, rewritten, bytes_of, bytes_under, owner_under, Accepted, store_of, LeavesStore, held-zero, shown, change_steps, callers_change, IsMovable, IsDataName, HasDataOf, data_filled, all_written}
use Rattle.palm_store.proofs.DataChunks.{is_shown, for_data, data_movable}
use Rattle.palm_store.proofs.Maps.{owner_held, bytes_held}

-- nothing under 0
pub none_seen : (image : List ℕ) (name : ℕ) → HeapAccepted image → name ≡ 0 → [] ≡ bytes_of ((store_of image).map name)
unfolding store_of
none_seen image name h none = sym (ap (λ (o : Option LiveChunk). bytes_of (not_owned 0 o)) (ap (held image) none ∙ held-zero image h))

-- and all of a chunk for data
named_data : (image : List ℕ) (name : ℕ) → IsDataName image name → name ≢ 0 → owner_under image name ≡ data_owner
named_data image name is some = elim is [ inl none ↦ absurd (some none) | inr own ↦ own ]

pub lent_movable : (image : List ℕ) (name : ℕ) → HeapAccepted image → IsDataName image name → name ≢ 0 → IsMovable image name
lent_movable image name h is some = data_movable image name h (for_data image name (named_data image name is some))

pub data_seen : (image : List ℕ) (name : ℕ) → IsDataName image name → name ≢ 0 → bytes_under image name ≡ bytes_of ((store_of image).map name)
unfolding store_of owner_under bytes_under
data_seen image name is some = sym (ap bytes_of (shown (held image name) (let own = named_data image name is some in λ e. omega arith)))

-- a chunk for data of `count` bytes
pub record HoldsDataOf (image : List ℕ) (name count : ℕ) : Type 0 where
  pub live : LiveChunk
  pub there : held image name ≡ Some live
  pub own : live.owner ≡ data_owner
  pub loose : live.lock ≡ 0
  pub long : length live.bytes ≡ count

pub data_held : (image : List ℕ) (name count : ℕ) → HasDataOf image name count → HoldsDataOf image name count
unfolding store_of
data_held image name count has =
    let d = is_shown image name (λ live. (live.owner ≡ data_owner) × (live.lock ≡ 0) × (length live.bytes ≡ count)) has in
    record { live = d.live; there = d.there; own = d.holds.0; loose = d.holds.1; long = d.holds.2 }

pub filled_movable : (image : List ℕ) (name count : ℕ) → HeapAccepted image → HasDataOf image name count → IsMovable image name
filled_movable image name count h has = data_movable image name h (let d = data_held image name count has in record { live = d.live; there = d.there; own = d.own })

pub data_long : (image : List ℕ) (name count : ℕ) → HasDataOf image name count → length (bytes_under image name) ≡ count
data_long image name count has = (let d = data_held image name count has in ap length (bytes_held image name d.live d.there) ∙ d.long)

-- bytes are written over all of it
put_whole : (old new : List ℕ) (name : ℕ) (bytes : List ℕ) (live : LiveChunk) → held old name ≡ Some live → length bytes ≡ length live.bytes → Leaves old new (put (held old) name 0 bytes) → Leaves old new (rewritten (held old) name bytes)
put_whole old new name bytes live there long l = rw there (rw (there, all_written live.bytes bytes long) at l)

pub filled_steps : (old new : List ℕ) (name : ℕ) (bytes : List ℕ) → Accepted old → HasDataOf old name (length bytes) → Leaves old new (put (held old) name 0 bytes) → LeavesStore old new (data_filled (store_of old) name bytes)
unfolding store_of
filled_steps old new name bytes accepted has l =
    let d = data_held old name (length bytes) has in
    change_steps old new name (λ live. record live { bytes = bytes }) (λ live. refl) (λ live. refl) accepted
    (put_whole old new name bytes d.live d.there (sym d.long) l) (owner_held old name d.live d.there ∙ d.own)

-- the same of any chunk that callers may name
pub rewritten_steps : (old new : List ℕ) (name : ℕ) (bytes : List ℕ) → Accepted old → owner_under old name ≢ managers_owner → Leaves old new (rewritten (held old) name bytes) → LeavesStore old new (data_filled (store_of old) name bytes)
unfolding store_of
rewritten_steps old new name bytes accepted own l = callers_change old new name (λ live. record live { bytes = bytes }) (λ live. refl) (λ live. refl) accepted l own
