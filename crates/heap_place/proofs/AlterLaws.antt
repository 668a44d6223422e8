-- A live chunk of an accepted heap gets another lock count, another owner or other bytes.
use Rattle.heap_place.proofs.Words.{◌≡◌, ℕ, zero, suc, ◌+◌, ◌-◌, ◌<◌, ◌≤◌, List, [], ◌∷◌, ◌++◌, length, refl, sym, ap, ◌∙◌, arith, inl, inr, ◌⊎◌, u32_bytes, overwritten, Chunk, free, movable, fixed, fixed_lock, HeapAccepted, LiveChunk, Finds, Becomes, Alters, with_lock, with_owner, with_bytes, WritesPlain, WroteWithin, wrote_word, wrote_wider, fixed_live_is, fixed_owned, finds_spelled, exchanges_parts, named_live_chunk, body_written, movable_relabelled, fixed_relabelled, Relocks, Reowns, Found, IsOne, CanGoTo, same_lock, same_owner}
use Rattle.heap_place.proofs.FoundLaws.{Fields, fields_of, bytes_inside}

-- the second word was written
wrote_second : {old new : List ℕ} {found : Found} (word : ℕ) → HeapAccepted old → IsOne old found → new ≡ overwritten old (found.place.0 - 8 + 4) (u32_bytes word) → WroteWithin old new (found.place.0 - 8) (found.place.0 - 8 + 8)
wrote_second {old} {new} {found} word h f is =
    let at : ℕ = found.place.0 - 8 in let inside = bytes_inside old found h f in
    wrote_wider _ new _ _ at _ (wrote_word old new _ _ is (omega arith)) (omega arith) (omega arith)

-- a chunk that was found is changed, where the rest is as it was
pub changed_there : (old new : List ℕ) (found : Found) (change : Chunk → Chunk) → HeapAccepted old → (f : IsOne old found) → Becomes old new (f.finds.before ++ change f.chunk ∷ f.finds.after) → Alters old new (found.place.0 - 8) change
changed_there old new found change h f b =
    let at : ℕ = found.place.0 - 8 in
    (exchanges_parts old new at (λ chunk. change chunk ∷ []) _ _ _ h (named_live_chunk _ at _ _ f.finds.named) f.finds.chunks f.finds.there).1 b

-- ---- another lock count

relocks : {old new : List ℕ} {name at lock : ℕ} {found : Found} {live : LiveChunk} (c : Chunk) → HeapAccepted old → (f : Finds old name live c at) → Fields name live found → found.lock < fixed_lock → (lock ≡ 0) ⊎ (0 < found.owner) → Relocks old new at lock → WroteWithin old new at (at + 8)
    → Becomes old new (f.before ++ with_lock lock c ∷ f.after) × WritesPlain old new
relocks (free size) h f k loose owned re w = absurd f.named
relocks {old} {new} {name} {at} {lock} {found} {live} (movable bytes count holder slot) h f k loose owned re w =
    let s = finds_spelled old name live (movable bytes count holder slot) at h f in
    let same : found.owner ≡ holder = k.owner_is ∙ same_owner (sym f.named.1) in
    movable_relabelled old new name at live _ _ _ _ slot lock _ h f (λ directory none. none) w
    (re bytes count holder slot (rw same at owned) s) refl
relocks {at} {live} (fixed bytes holder) h f k loose owned re w = let e = same_lock (fixed_live_is at _ _ f.named) in absurd (omega arith)

pub relocked_there : {old new : List ℕ} {found : Found} {lock : ℕ} (word : ℕ) → HeapAccepted old → IsOne old found → found.lock < fixed_lock → (lock ≡ 0) ⊎ (0 < found.owner) → Relocks old new (found.place.0 - 8) lock → new ≡ overwritten old (found.place.0 - 8 + 4) (u32_bytes word) → Alters old new (found.place.0 - 8) (with_lock lock) × WritesPlain old new
relocked_there {old} {new} {found} {lock} word h f loose owned re is =
    let done = relocks f.chunk h f.finds (fields_of f) loose owned re (wrote_second word h f is) in
    (changed_there old new found (with_lock lock) h f done.0, done.1)

-- ---- another owner

may_stand : (count : ℕ) {lock : ℕ} (owner : ℕ) → lock ≡ count → (0 < lock → 0 < owner)
    → (count ≡ 0) ⊎ (0 < owner)
may_stand zero owner e locked = inl refl
may_stand (suc count) owner e locked = inr (locked (omega arith))

reowns : {old new : List ℕ} {name at owner : ℕ} {found : Found} {live : LiveChunk} (c : Chunk) → HeapAccepted old → (f : Finds old name live c at) → Fields name live found → CanGoTo old found owner → Reowns old new at owner → WroteWithin old new at (at + 8) → Becomes old new (f.before ++ with_owner owner c ∷ f.after) × WritesPlain old new
reowns (free size) h f k can re w = absurd f.named
reowns {old} {new} {name} {at} {owner} {found} {live} (movable bytes count holder slot) h f k can re w =
    let s = finds_spelled old name live (movable bytes count holder slot) at h f in
    let same : found.lock ≡ count = k.lock_is ∙ same_lock (sym f.named.1) in
    movable_relabelled old new name at live _ _ _ _ slot _ _ h f
    (λ at_directory none. can.directory (k.name_is ∙ sym f.named.0 ∙ at_directory)) w
    (re.movable_too bytes count holder slot (may_stand count owner same can.locked) s) refl
reowns {old} {new} {name} {at} {owner} {found} {live} (fixed bytes holder) h f k can re w =
    let s = finds_spelled old name live (fixed bytes holder) at h f in
    let is : found.lock ≡ fixed_lock = k.lock_is ∙ same_lock (sym (fixed_live_is at _ _ f.named)) in
    fixed_relabelled old new name at live _ _ _ _ h f (can.locked (omega arith)) (can.fixed is) w
    (re.fixed_too bytes holder (fixed_owned at _ _ f.named) (can.locked (omega arith)) s) refl

pub reowned_there : {old new : List ℕ} {found : Found} {owner : ℕ} (word : ℕ) → HeapAccepted old → IsOne old found → CanGoTo old found owner → Reowns old new (found.place.0 - 8) owner → new ≡ overwritten old (found.place.0 - 8 + 4) (u32_bytes word) → Alters old new (found.place.0 - 8) (with_owner owner) × WritesPlain old new
reowned_there {old} {new} {found} {owner} word h f can re is =
    let done = reowns f.chunk h f.finds (fields_of f) can re (wrote_second word h f is) in
    (changed_there old new found (with_owner owner) h f done.0, done.1)

-- ---- bytes of a body

pub written_there : (old new : List ℕ) (found : Found) (at : ℕ) (part : List ℕ) → HeapAccepted old → IsOne old found → at + length part ≤ found.length → new ≡ overwritten old (found.place.0 + at) part → Alters old new (found.place.0 - 8) (with_bytes at part) × WritesPlain old new
written_there old new found at part h f within is =
    let there : found.place.0 - 8 + 8 ≡ found.place.0 = omega arith in
    let place : ℕ = found.place.0 - 8 in
    let done = body_written old new _ place at f.live f.chunk part h f.finds (omega arith)
    (is ∙ ap (λ n. overwritten old (n + at) part) (sym there)) in
    (changed_there old new found (with_bytes at part) h f done.0, done.1)
