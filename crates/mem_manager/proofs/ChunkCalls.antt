-- The steps of calls that ask of one chunk, or change it where it stands.
use Rattle.mem_manager.proofs.Words.{◌≡◌, ◌≢◌, ℕ, ◌+◌, ◌-◌, ◌<◌, ◌≤◌, List, [], ◌∷◌, length, Some, refl, sym, ap, ◌∙◌, arith, inl, inr, cases_eq, cases_lt, slice_range, Memory, overwritten, Chunk, free, movable, fixed, fixed_lock, Spelled, directory_of, HeapAccepted, NamedHere, callers_map, Alters, with_lock, with_owner, with_bytes, NoneHolds, FirstBrings, Check, Does, IsNoCaller, ReachesBeyond, unknown, where_it, lent_out, Name, IsLent, KeepsLoan, slice-of_slice, finds_spelled, finds_body, ChangesName, fixed_live_is, lock_changes, owner_changes, bytes_changes, not_directory, name_held, Found, IsFound, CanGoTo, Refusal, also_out_checks, IsCallers, IsOpen}
use Rattle.heap_model.specs.declared.call.MemoryCall.TheVariants.{Lock, Unlock, Size, Owner, Locks, Read, SetOwner}
use Rattle.heap_model.specs.declared.call.Reply.TheVariants.{Done, Number, Locked, Data}
use Rattle.heap_model.specs.declared.refusal.Refusal.TheVariants.{ChunkNotLocked, OutOfBounds}
use Rattle.mem_manager.proofs.KeptLoans.{keeps_changed, keeps_others}
use Rattle.mem_manager.proofs.StepWords.{OnlyBytes, unchanged, altered, has, no_data, stays_within, Altered, not_out, no_lock, alters_does, has_chunk, same_lents, reaches, same_lock}
use Rattle.mem_manager.proofs.KnownLoans.{here_of}

-- ---- the chunk that is there

pub lock_small : (image : List ℕ) (name : ℕ) (found : Found) → HeapAccepted image
    → IsFound image name found → found.lock ≤ fixed_lock
lock_small image name found h f = let l = f.lock_is in let most = lock_most f.chunk f.finds.named
    (finds_spelled image name f.live f.chunk (found.place.0 - 8) h f.finds) in omega arith where
      lock_most : (c : Chunk) → NamedHere name f.live (found.place.0 - 8) c
          → Spelled image (found.place.0 - 8) c → f.live.lock ≤ fixed_lock
      lock_most (free size) n s = absurd n
      lock_most (movable bytes lock owner slot) n s = let e : lock ≡ f.live.lock = same_lock n.1 in
          let fits = s.1.lock_fits in omega arith
      lock_most (fixed bytes owner) n s = let e : fixed_lock ≡ f.live.lock =
          same_lock (fixed_live_is (found.place.0 - 8) bytes owner n) in omega arith

pub below_fixed : {m : Memory} {name : ℕ} {found : Found} → IsCallers m name found
    → found.lock ≢ fixed_lock → found.lock < fixed_lock
below_fixed {m} {name} {found} o loose =
    let most = lock_small m.bytes name found o.heap.accepted o.is in omega arith

-- its body lies in the image
pub body_there : {image : List ℕ} {name : ℕ} {found : Found} → HeapAccepted image → (f : IsFound image name found) → (found.place.0 + found.length ≤ length image) × (slice_range image found.place.0 (found.place.0 + found.length) ≡ f.live.bytes)
body_there {image} {name} {found} h f =
    let low = f.behind_header in let count = f.count in
    let behind : found.place.0 - 8 + 8 ≡ found.place.0 = omega arith in
    let b = finds_body image name f.live f.chunk (found.place.0 - 8) h f.finds in
    let inside = b.inside in (
      omega arith,
      ap (λ (n : ℕ). slice_range image n (n + found.length)) (sym behind) ∙ ap (λ (n : ℕ). slice_range image (found.place.0 - 8 + 8) (found.place.0 - 8 + 8 + n)) count ∙ b.bytes,
    )

-- ---- what changes of it

pub relock_changes : {old new : List ℕ} {name : ℕ} {found : Found} (count : ℕ) → HeapAccepted old
    → (f : IsFound old name found) → found.lock ≢ fixed_lock
    → Alters old new (found.place.0 - 8) (with_lock count)
    → ChangesName old new name (Some (record f.live { lock = count })) (Some found.place.0)
relock_changes {old} {new} {name} {found} count h f loose x =
    lock_changes old new name found.place.0 count f.live f.chunk h f.behind_header f.finds
    (λ e. loose (f.lock_is ∙ e)) x

pub reown_changes : {old new : List ℕ} {name : ℕ} {found : Found} {owner : ℕ} → HeapAccepted old
    → (f : IsFound old name found) → CanGoTo old found owner
    → Alters old new (found.place.0 - 8) (with_owner owner)
    → ChangesName old new name (Some (record f.live { owner = owner })) (Some found.place.0)
reown_changes {old} {new} {name} {found} {owner} h f can x =
    owner_changes old new name found.place.0 owner f.live f.chunk h f.behind_header f.finds
    (λ e. let lock_is = f.lock_is in can.locked (omega arith)) x

pub write_changes : {old new : List ℕ} {name : ℕ} {found : Found} (at : ℕ) (bytes : List ℕ)
    → HeapAccepted old → (f : IsFound old name found) → at + length bytes ≤ found.length
    → Alters old new (found.place.0 - 8) (with_bytes at bytes)
    → ChangesName old new name (Some (record f.live { bytes = overwritten f.live.bytes at bytes })) (Some found.place.0)
write_changes {old} {new} {name} {found} at bytes h f within x = let n = f.count in bytes_changes old new name found.place.0 at bytes f.live f.chunk h f.behind_header f.finds (omega arith) x

-- a caller's chunk is not the directory
pub not_the_directory : {m : Memory} {name : ℕ} {found : Found} → IsCallers m name found
    → name ≢ directory_of m.bytes
not_the_directory {m} {name} {found} o at_directory =
    let own = o.is.owner_is in let positive = o.callers in
    not_directory m.bytes name o.is.live o.heap.accepted (name_held m.bytes name found o.heap.accepted o.is) (λ none. let z : o.is.live.owner ≡ 0 = none in omega arith) at_directory

-- it may go to a caller
pub can_go_to : {m : Memory} {name : ℕ} {found : Found} {owner : ℕ} → IsCallers m name found
    → (IsNoCaller owner → ⊥) → CanGoTo m.bytes found owner
can_go_to {owner = owner} o caller = record {
  fits = let most = high in omega arith;
  locked = λ some. low;
  fixed = λ is. high;
  directory = λ at_directory. absurd (not_the_directory o (sym o.is.name_is ∙ at_directory));
} where
  low : 0 < owner
  low = elim (cases_eq owner 0) [ inl none ↦ absurd (caller (inl none)) | inr some ↦ omega arith ]

  high : owner < 15
  high =
      elim (cases_lt 14 owner) [ inl above ↦ absurd (caller (inr above)) | inr below ↦ omega arith ]

-- ---- each call, where it is done

module _ {old new : Memory} {name : Name} {found : Found} (o : IsCallers old name.0 found) (rest : OnlyBytes old new) where
  abbrev Relocks : ℕ → Type 0
  Relocks count = Alters old.bytes new.bytes (found.place.0 - 8) (with_lock count)

  pub locked : found.lock ≢ fixed_lock → found.lock ≢ 14 → Relocks (found.lock + 1)
      → Does old (Lock name) (Locked found.place (found.lock + 1)) new
  locked loose few made =
      let ch =
      relock_changes (o.is.live.lock + 1) o.heap.accepted o.is loose (rw o.is.lock_is at made) in
      let a =
      altered old new (λ live. record live { lock = live.lock + 1 }) o.heap.accepted o.is ch rest in
      let more =
      has o (λ live. found.lock + 1 ≡ live.lock + 1) (ap (λ (n : ℕ). n + 1) o.is.lock_is) in
      alters_does o.heap a (keeps_changed old new _ o.heap.accepted (same_lents rest) o.is ch refl) (
        (has_chunk o, (no_lock o fixed_lock loose, (no_lock o 14 few, tt))),
        ((more, ch.place), a.leaves.map),
      ) a.leaves.frame tt rest

  pub unlocked : found.lock ≢ fixed_lock → found.lock ≢ 0 → (IsLent old name.0 → ⊥)
      → Relocks (found.lock - 1) → Does old (Unlock name) (Number (found.lock - 1)) new
  unlocked loose some here made =
      let ch =
      relock_changes (o.is.live.lock - 1) o.heap.accepted o.is loose (rw o.is.lock_is at made) in
      let a =
      altered old new (λ live. record live { lock = live.lock - 1 }) o.heap.accepted o.is ch rest in
      let less =
      has o (λ live. found.lock - 1 ≡ live.lock - 1) (ap (λ (n : ℕ). n - 1) o.is.lock_is) in
      alters_does o.heap a (keeps_others old new (same_lents rest) ch here) (
        (has_chunk o, (no_lock o fixed_lock loose, (no_lock o 0 some, (not_out o here, tt)))),
        (less, a.leaves.map),
      ) a.leaves.frame tt rest

  pub reowned : {owner : ℕ} → found.owner ≢ 15 → (IsNoCaller owner → ⊥)
      → Alters old.bytes new.bytes (found.place.0 - 8) (with_owner owner)
      → Does old (SetOwner name owner) Done new
  reowned {owner} other caller made =
      let ch = reown_changes o.heap.accepted o.is (can_go_to o caller) made in
      let a =
      altered old new (λ live. record live { owner = owner }) o.heap.accepted o.is ch rest in
      alters_does o.heap a (keeps_changed old new _ o.heap.accepted (same_lents rest) o.is ch refl)
      ((has_chunk o, (no_data o other, (caller, tt))), (tt, a.leaves.map)) a.leaves.frame tt rest

-- ---- bytes are written

-- the refusals of writing `count` bytes
abbrev pub write_checks : Memory → ℕ → ℕ → ℕ → List Check
write_checks old name at count =
    unknown (callers_map old.bytes) name
    ∷ where_it (callers_map old.bytes) name (λ live. live.lock ≡ 0) ChunkNotLocked
    ∷ lent_out old (callers_map old.bytes) name
    ∷ where_it (callers_map old.bytes) name (ReachesBeyond at count) OutOfBounds
    ∷ []

-- the first three are those of taking bytes out
pub write_refused : (old : Memory) (name at count : ℕ) {refusal : Refusal}
    → FirstBrings (also_out_checks old name) refusal
    → FirstBrings (write_checks old name at count) refusal
write_refused old name at count (inl none) = inl none
write_refused old name at count (inr (there, inl bare)) = inr (there, inl bare)
write_refused old name at count (inr (there, inr (shut, inl out))) =
    inr (there, inr (shut, inl out))
write_refused old name at count (inr (there, inr (shut, inr (kept, more)))) = absurd more

module _ {m : Memory} {name : Name} {found : Found} (o : IsOpen m name.0 found) where
  here : IsLent m name.0 → ⊥
  here = here_of o.owned.heap o.owned.is o.other

  pub out_passes : NoneHolds (also_out_checks m name.0)
  out_passes = (has_chunk o.owned, (no_lock o.owned 0 o.locked, (not_out o.owned here, tt)))

  pub write_passes : (at count : ℕ) → (found.length < at + count → ⊥)
      → NoneHolds (write_checks m name.0 at count)
  write_passes at count inside = (has_chunk o.owned, (no_lock o.owned 0 o.locked, (not_out o.owned here, (stays_within o.owned at count inside, tt))))

  pub write_beyond : (at count : ℕ) → found.length < at + count
      → FirstBrings (write_checks m name.0 at count) OutOfBounds
  write_beyond at count beyond = inr (has_chunk o.owned, inr (no_lock o.owned 0 o.locked, inr (not_out o.owned here, inl (reaches o.owned at count beyond, refl))))

  -- bytes are written over those of its chunk
  pub overwrites : {new : Memory} (at : ℕ) (bytes : List ℕ) → OnlyBytes m new
      → at + length bytes ≤ found.length
      → Alters m.bytes new.bytes (found.place.0 - 8) (with_bytes at bytes)
      → Altered m new name.0 (λ live. record live { bytes = overwritten live.bytes at bytes }) × KeepsLoan m new
  overwrites {new} at bytes rest within made =
      let ch = write_changes at bytes o.owned.heap.accepted o.owned.is within made in
      (altered m new (λ live. record live { bytes = overwritten live.bytes at bytes }) o.owned.heap.accepted o.owned.is ch rest, keeps_others m new (same_lents rest) ch here)

-- ---- each call that asks

module _ {m : Memory} {name : Name} {found : Found} (o : IsCallers m name.0 found) where
  pub size_known : Does m (Size name) (Number found.length) m
  size_known = unchanged m (Size name) (Number found.length) o.heap.accepted
      ((has_chunk o, tt), (has o (λ live. found.length ≡ length live.bytes) o.is.count, λ n. refl))

  pub owner_known : Does m (Owner name) (Number found.owner) m
  owner_known = unchanged m (Owner name) (Number found.owner) o.heap.accepted
      ((has_chunk o, tt), (has o (λ live. found.owner ≡ live.owner) o.is.owner_is, λ n. refl))

  pub locks_known : Does m (Locks name) (Number found.lock) m
  locks_known = unchanged m (Locks name) (Number found.lock) o.heap.accepted
      ((has_chunk o, tt), (has o (λ live. found.lock ≡ live.lock) o.is.lock_is, λ n. refl))

  pub read_known : (at count : ℕ) (bytes : List ℕ) → (IsLent m name.0 → ⊥) → (found.length < at + count → ⊥) → bytes ≡ slice_range m.bytes (found.place.0 + at) (found.place.0 + at + count) → Does m (Read name at count) (Data bytes) m
  read_known at count bytes here inside is =
      let b = body_there o.heap.accepted o.is in
      let part = sym (slice-of_slice m.bytes found.place.0 found.length at count (omega arith))
      ∙ ap (λ (x : List ℕ). slice_range x at (at + count)) b.1 in
      unchanged m (Read name at count) (Data bytes) o.heap.accepted (
        (has_chunk o, (not_out o here, (stays_within o at count inside, (tt, tt)))),
        (has o (λ live. bytes ≡ slice_range live.bytes at (at + count)) (is ∙ part), λ q. refl),
      )
