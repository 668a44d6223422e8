-- What the calls for the store leave behind.
use Rattle.mem_manager.proofs.Words.{◌≡◌, ◌≢◌, ℕ, ◌+◌, ◌-◌, ◌<◌, ◌≤◌, List, ◌++◌, length, Some, None, refl, sym, ap, subst, ◌∙◌, arith, inr, length-take, length-drop, append-nil, drop_all, slice_range, IsSome, Memory, fixed_lock, data_owner, HeapAccepted, directory_of, LiveChunk, held, place_of, MovesNothing, gone, put, Alters, with_bytes, bytes_of, owner_of, Leaves, NamesDirectory, slice-of_slice, length-overwritten, ChangesName, held_updated, changes_move_nothing, name_held, bytes_inside, Found, IsFound, IsOne, CanGoTo, found_held, one_placed, TableStart, IsManaged, IsMovable, StandsAs, IsHere, HoldsHeap, IsLent, KeepsLoan}
use Rattle.heap_model.specs.Bytes.{overwritten}
use Rattle.heap_model.specs.Store.{bytes_under, owner_under}
use Rattle.mem_manager.proofs.StepWords.{one_of, none_there, still_others, altered, managed_still, stays_in_place, same_lock}
use Rattle.mem_manager.proofs.ChunkCalls.{body_there, write_changes}
use Rattle.mem_manager.proofs.KeptLoans.{keeps_others}
use Rattle.mem_manager.proofs.KnownLoans.{here_inside}

-- ---- a name's chunk that was found

one_live : {x y : LiveChunk} → Some x ≡ Some y → x ≡ y
one_live e = cc

bytes_found : {image : List ℕ} {name : ℕ} {found : Found} → HeapAccepted image
    → (f : IsFound image name found) → bytes_under image name ≡ f.live.bytes
unfolding bytes_under
bytes_found {image} {name} {found} h f = ap bytes_of (name_held image name found h f)

pub within_found : {image : List ℕ} {name : ℕ} {found : Found} (end : ℕ) → HeapAccepted image
    → IsFound image name found → end ≤ length (bytes_under image name) → end ≤ found.length
within_found end h f within =
    let len = ap length (bytes_found h f) in let count = f.count in
    omega (arith, len, count, within)

pub within_viewed : {region value : Memory} {name : ℕ} {found : Found} (end : ℕ) → region ≡ value
    → HoldsHeap region → IsFound region.bytes name found
    → end ≤ length (bytes_under value.bytes name) → end ≤ found.length
within_viewed {name} end same h f within = within_found end h.accepted f (rw (← same) at within)

pub body_found : {image : List ℕ} {name : ℕ} {found : Found} → HeapAccepted image
    → IsFound image name found
    → slice_range image found.place.0 (found.place.0 + found.length) ≡ bytes_under image name
body_found h f = (body_there h f).1 ∙ sym (bytes_found h f)

pub slice_found : {image : List ℕ} {name : ℕ} {found : Found} (at count : ℕ) → HeapAccepted image
    → IsFound image name found → at + count ≤ length (bytes_under image name)
    → slice_range image (found.place.0 + at) (found.place.0 + at + count) ≡ slice_range (bytes_under image name) at (at + count)
slice_found {image} {found} at count h f within =
    let fits = within_found (at + count) h f within in
    sym (slice-of_slice image found.place.0 found.length at count fits)
    ∙ ap (λ (x : List ℕ). slice_range x at (at + count)) (body_found h f)

-- ---- a name's chunk that was found in a heap that is seen as another value

there_viewed : {region value : Memory} {name : ℕ} {found : Found} → region ≡ value
    → HeapAccepted region.bytes → (f : IsFound region.bytes name found)
    → held value.bytes name ≡ Some f.live
there_viewed {region} {name} {found} same h f =
    ap (λ (m : Memory). held m.bytes name) (sym same) ∙ name_held region.bytes name found h f

pub some_viewed : {region value : Memory} {name : ℕ} {found : Found} → region ≡ value
    → HoldsHeap region → IsFound region.bytes name found → IsSome (held value.bytes name)
some_viewed same h f = subst IsSome (sym (there_viewed same h.accepted f)) refl

pub owner_viewed : {region value : Memory} {name : ℕ} {found : Found} → region ≡ value
    → HoldsHeap region → IsFound region.bytes name found
    → found.owner ≡ owner_under value.bytes name
unfolding owner_under
owner_viewed same h f = f.owner_is ∙ sym (ap owner_of (there_viewed same h.accepted f))

pub lock_viewed : (region value : Memory) (name : ℕ) (found : Found) (live : LiveChunk)
    → region ≡ value → HeapAccepted region.bytes → IsFound region.bytes name found
    → held value.bytes name ≡ Some live → found.lock ≡ live.lock
lock_viewed region value name found live same h f is =
    f.lock_is ∙ same_lock (one_live (sym (there_viewed same h f) ∙ is))

-- all of a chunk's bytes are written
pub all_written : (old part : List ℕ) → length part ≡ length old → overwritten old 0 part ≡ part
unfolding overwritten
all_written old part len =
    ap (λ (xs : List ℕ). part ++ xs) (drop_all (0 + length part) old (omega arith))
    ∙ append-nil part

-- where the name is known to be a movable one's
pub loose_found : {image : List ℕ} {name : ℕ} {found : Found} → HeapAccepted image
    → IsFound image name found → IsMovable image name → found.lock ≢ fixed_lock
loose_found {image} {name} {found} h f m is = m.movable (sym (same_lock (one_live (sym (name_held image name found h f) ∙ m.is_held))) ∙ sym f.lock_is ∙ is)

pub movable_there : {image : List ℕ} {name : ℕ} → IsMovable image name → IsSome (held image name)
movable_there m = subst IsSome (sym m.is_held) refl

pub movable_loose : {image : List ℕ} {name : ℕ} → IsMovable image name → (live : LiveChunk)
    → held image name ≡ Some live → live.lock ≢ fixed_lock
movable_loose m live e is = m.movable (same_lock (one_live (sym m.is_held ∙ e)) ∙ is)

-- the same of a region that is the heap's value
pub movable_viewed : {inside value : Memory} {name : ℕ} → inside ≡ value
    → IsMovable value.bytes name → IsMovable inside.bytes name
movable_viewed {name} view m = subst (λ (x : Memory). IsMovable x.bytes name) (sym view) m

-- what was found in the heap's value was found in its region
pub found_viewed : {inside value : Memory} {name : ℕ} {found : Found} → inside ≡ value
    → StandsAs value.bytes name found → IsFound inside.bytes name found
found_viewed {name} {found} view s = rw (← view) at s.is

pub stands_found : {region value : Memory} {name : ℕ} {found : Found} → region ≡ value
    → HoldsHeap region → IsMovable value.bytes name → IsFound region.bytes name found
    → StandsAs value.bytes name found
stands_found {name} {found} view h m f =
    record { is = rw view at f; movable = loose_found h.accepted f (movable_viewed view m) }

pub found_under : {image : List ℕ} {name : ℕ} {found : Found} → IsFound image name found
    → bytes_under image found.name.0 ≡ bytes_under image name
found_under {image} f = ap (bytes_under image) f.name_is

-- where the bytes of its chunk alone become others, as many as before, it stands as it was found
pub stands_written : {old new : List ℕ} {name : ℕ} {found : Found} (bytes : List ℕ) → HeapAccepted old → (f : IsFound old name found) → found.lock ≢ fixed_lock → length bytes ≡ length f.live.bytes → ChangesName old new name (Some (record f.live { bytes = bytes })) (Some found.place.0)
    → StandsAs new name found
stands_written {new} {found} bytes h f loose len ch =
    let one = found_held new found (record f.live { bytes = bytes }) ch.frame.accepted (ap (held new) f.name_is ∙ ch.here) (ap (place_of new) f.name_is ∙ ch.place) (f.count ∙ sym len) f.lock_is f.owner_is in
    record { is = subst (λ (n : ℕ). IsFound new n found) f.name_is one; movable = loose }

-- a movable one may go to any owner but the manager
pub may_go_to : {region value : Memory} {name : ℕ} {found : Found} {owner : ℕ} → region ≡ value
    → StandsAs value.bytes name found → name ≢ directory_of value.bytes → 0 < owner
    → owner ≤ data_owner → CanGoTo region.bytes found owner
may_go_to {value = value} {name = name} view s other some most = record {
  fits = most;
  locked = λ locks. some;
  fixed = λ is. absurd (s.movable is);
  directory = λ at. absurd (subst (λ (m : Memory). name ≢ directory_of m.bytes) (sym view) other (sym s.is.name_is ∙ at));
}

-- ---- what is left

pub leaves_gone : {old new : List ℕ} {name : ℕ} → ChangesName old new name None None
    → Leaves old new (gone (held old) name)
leaves_gone {old} {new} {name} ch = record { map = held_updated old new name None None ch; frame = ch.frame; still = still_others ch (inr refl) }

pub gone_moves_nothing : {old new : List ℕ} {name : ℕ} → ChangesName old new name None None
    → MovesNothing old new
gone_moves_nothing {old} {new} {name} ch =
    changes_move_nothing old new name None None ch (λ was is. absurd (none_there ch.here is))

-- where another chunk changes, and nothing moves, a chunk stands as it was found
pub stands_still : (old new : List ℕ) (name : ℕ) (found : Found) → HeapAccepted old
    → HeapAccepted new → StandsAs old name found → held new name ≡ held old name
    → MovesNothing old new → StandsAs new name found
stands_still old new name found h k s same unmoved =
    let f = s.is in let there : held new name ≡ Some f.live = same ∙ name_held old name found h f in
    let place : place_of new found.name.0 ≡ Some found.place.0 = ap (place_of new) f.name_is ∙ unmoved name (subst IsSome (sym (name_held old name found h f)) refl) (subst IsSome (sym there) refl) ∙ ap (place_of old) (sym f.name_is) ∙ one_placed old found h (one_of f) in
    record { is = subst (λ (n : ℕ). IsFound new n found) f.name_is (found_held new found f.live k (ap (held new) f.name_is ∙ there) place f.count f.lock_is f.owner_is); movable = s.movable }

-- ---- bytes of a chunk are written that was found in the heap's value

-- it was found in the heap's region, and its bytes are not lent
pub record IsUsable (memory : Memory) (name : ℕ) (found : Found) : Type 0 where
  pub heap : HoldsHeap memory
  pub is : IsFound memory.bytes name found
  pub movable : found.lock ≢ fixed_lock
  pub here : IsLent memory name → ⊥

pub usable : {region value : Memory} {name : ℕ} {found : Found} → region ≡ value → HoldsHeap region
    → StandsAs value.bytes name found → IsHere value name → IsUsable region name found
usable view h s here = record { heap = h; is = found_viewed view s; movable = s.movable; here = here_inside view h here }

-- a part of it is written
pub record IsWritten (old new : Memory) (name : ℕ) (found : Found) (at : ℕ) (part : List ℕ) : Type 0 where
  pub leaves : Leaves old.bytes new.bytes (put (held old.bytes) name at part)
  pub unmoved : MovesNothing old.bytes new.bytes
  pub stands : StandsAs new.bytes name found
  pub loan : KeepsLoan old new

pub is_written : {old new : Memory} {name : ℕ} {found : Found} (u : IsUsable old name found) (at : ℕ) (part : List ℕ) → new.lents ≡ old.lents → at + length part ≤ found.length → Alters old.bytes new.bytes (found.place.0 - 8) (with_bytes at part)
    → IsWritten old new name found at part
is_written {old} {new} u at part same within made =
    let ch = write_changes at part u.heap.accepted u.is within made in let count = u.is.count in
    record {
      leaves = (altered old (record old { bytes = new.bytes }) (λ live. record live { bytes = overwritten live.bytes at part }) u.heap.accepted u.is ch refl).leaves;
      unmoved = stays_in_place u.heap.accepted u.is ch;
      stands = stands_written (overwritten u.is.live.bytes at part) u.heap.accepted u.is u.movable
          (length-overwritten u.is.live.bytes at part (omega (arith, within, count))) ch;
      loan = keeps_others old new same ch u.here;
    }

-- a part of it has as many bytes
pub part_length : {image : List ℕ} {found : Found} (from count : ℕ) → HeapAccepted image
    → IsOne image found → from + count ≤ found.length
    → length (slice_range image (found.place.0 + from) (found.place.0 + from + count)) ≡ count
part_length {image} {found} from count h f within =
    let inside = bytes_inside image found h f in simp (length-take, length-drop) (omega arith)

-- the same slots are in use where another directory is named
pub managed_named : {start : TableStart} {used freed : ℕ} {names : List ℕ} {old new : Memory} {word : ℕ} → IsManaged old used start freed names → HoldsHeap new → NamesDirectory old.bytes new.bytes word → IsManaged new used start freed names
managed_named m h n =
    managed_still m h n.slots n.tables (λ name some. subst IsSome (sym (n.map name)) some)
