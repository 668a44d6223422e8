-- The step of a chunk that takes another length.
use Rattle.mem_manager.proofs.Words.{◌≡◌, ◌≢◌, ℕ, ◌+◌, ◌-◌, ◌<◌, ◌≤◌, List, [], ◌∷◌, length, Bool, true, false, Option, Some, None, refl, sym, ap, subst, ◌∙◌, arith, inl, inr, cases_eq, eq-eqb, OnTrue_at, nat_tests, ◌==◌, ◌↔◌, if◌then◌else◌, IsSome, IsTrue, Result, Ok, Err, OnOk, OnErr, IfErr, OnTrue, Memory, fixed_lock, need, size_of, HeapAccepted, LiveChunk, held, changed, ShortFor, FitsInPlace, MovesNothing, free_behind, free_front, Check, NoneHolds, FirstBrings, ◌brings◌, Does, Of, IsLocked, reply_of, growth_checks, row_of, Name, Refusal, IsLent, KeepsLoan, HoldsHeap, cond-true, cond-false, ChangesName, fits_not_short_for, name_held, one_held, when_movable, Found, IsFound, IsOne, Resized, TableStart, IsManaged, IsCallers, keeps_itself}
use Rattle.heap_model.specs.Resizing.{GrowsInPlace}
use Rattle.heap_model.specs.declared.call.MemoryCall.TheVariants.{Resize}
use Rattle.heap_model.specs.declared.call.Reply.TheVariants.{Refused, Done}
use Rattle.heap_model.specs.declared.refusal.Refusal.TheVariants.{ChunkLocked, NotEnoughSpace, Lent}
use Rattle.laws_heap.proofs.Resizings.{live_sized, grow_changes, finds_behind}
use Rattle.heap_place.specs.Resizes.{TellsWhetherInPlace}
use Rattle.mem_manager.proofs.KeptLoans.{keeps_still}
use Rattle.mem_manager.proofs.StepWords.{known, of_known, not_of_known, refused, altered, stays_in_place, OnlyBytes, has_chunk, managed_still, no_data, no_lock, same_lents}
use Rattle.mem_manager.proofs.ChunkCalls.{lock_small}
use Rattle.mem_manager.proofs.SlidChunks.{BytesAndSlid}

-- ---- whether it fits where it stands

tells_found : {image : List ℕ} {name : ℕ} {found : Found} (size : ℕ) (told : Bool)
    → (f : IsFound image name found) → TellsWhetherInPlace image found size told
    → IsTrue told ↔ (size ≤ size_of f.chunk + free_front f.finds.after)
tells_found {image} {found} size told f tells = subst (λ (n : ℕ). (g : IsFound image n found) → IsTrue told ↔ (size ≤ size_of g.chunk + free_front g.finds.after)) f.name_is tells f

-- of a movable chunk
own_and_behind : {image : List ℕ} {name : ℕ} {found : Found} → HeapAccepted image → (f : IsFound image name found) → found.lock ≢ 15 → size_of f.chunk + free_front f.finds.after ≡ need (length f.live.bytes) + free_behind image name
own_and_behind {image} {name} {found} h f loose =
    when_movable image name found f (λ c g. size_of c + free_front g.after ≡ need (length f.live.bytes) + free_behind image name) loose
    (λ bytes lock owner slot g.
    let behind = finds_behind image name (found.place.0 - 8) f.live bytes lock owner slot h g in
    let same : need (length bytes) ≡ need (length f.live.bytes) =
    ap (λ (x : LiveChunk). need (length x.bytes)) g.named.1 in
    omega arith)

not_told : (told : Bool) (P : Type 0) → told ≡ false → (IsTrue told ↔ P) → P → ⊥
not_told true P e tells p = absurd cc
not_told false P e tells p = let never = tells.1 p in absurd cc

pub too_large : {image : List ℕ} {name : ℕ} {found : Found} (size : ℕ) {told : Bool} → HeapAccepted image → (f : IsFound image name found) → found.lock ≢ 15 → TellsWhetherInPlace image found size told → told ≡ false → need (length f.live.bytes) + free_behind image name < size
too_large size {told} h f loose tells told_false =
    let same = own_and_behind h f loose in
    let never = not_told told _ told_false (tells_found size told f tells) in omega arith

pub fits_there : {image : List ℕ} {name : ℕ} {found : Found} (size : ℕ) {told : Bool} → HeapAccepted image → (f : IsFound image name found) → found.lock ≢ 15 → TellsWhetherInPlace image found size told → told ≡ true → size ≤ need (length f.live.bytes) + free_behind image name
fits_there size {told} h f loose tells told_true =
    let same = own_and_behind h f loose in
    let fits = (tells_found size told f tells).0 (subst IsTrue (sym told_true) refl) in omega arith

-- so where it doesn't it was not to fit
pub never_fits : {image : List ℕ} {name : ℕ} {found : Found} (size : ℕ) {told : Bool}
    → HeapAccepted image → (f : IsFound image name found) → found.lock ≢ 15
    → TellsWhetherInPlace image found size told → told ≡ false → FitsInPlace image name size → ⊥
never_fits {image} {name} {found} size h f loose tells told_false fits =
    let large = too_large size h f loose tells told_false in
    let enough = fits f.live (name_held image name found h f) in omega arith

-- ---- the checks

abbrev TooLargeWhereLocked : List ℕ → ℕ → ℕ → LiveChunk → Type 0
TooLargeWhereLocked image name size live =
    IsLocked live × (need (length live.bytes) + free_behind image name < need size)

abbrev TooLarge : List ℕ → ℕ → ℕ → LiveChunk → Type 0
TooLarge image name size live =
    (live.lock ≡ 0) × (need (length live.bytes) < need size) × ShortFor image name (need size)

-- by what a map has under the name
abbrev checks_of : Memory → ℕ → ℕ → Option LiveChunk → List Check
checks_of old name size one = (Of one (λ live. IsLent old name) brings Lent) ∷ (Of one (TooLargeWhereLocked old.bytes name size) brings ChunkLocked) ∷ (Of one (TooLarge old.bytes name size) brings NotEnoughSpace) ∷ []

pub growth_locked : {old : Memory} {found : Found} (size : ℕ) {told : Bool} → HoldsHeap old
    → IsOne old.bytes found → (IsLent old found.name.0 → ⊥) → found.lock ≢ 15 → 0 < found.lock
    → TellsWhetherInPlace old.bytes found (need size) told → told ≡ false
    → FirstBrings (growth_checks old (held old.bytes) found.name.0 size) ChunkLocked
growth_locked {old} {found} size h f here loose some tells told_false =
    let lock = f.lock_is in let most = lock_small old.bytes found.name.0 found h.accepted f in
    let locked : IsLocked f.live = (omega arith, omega arith) in
    inr (not_of_known (λ live. IsLent old found.name.0) (one_held old.bytes found h.accepted f) here, inl (of_known (TooLargeWhereLocked old.bytes found.name.0 size) (one_held old.bytes found h.accepted f) (locked, too_large (need size) h.accepted f loose tells told_false), refl))

pub growth_short : {old : Memory} {found : Found} (size : ℕ) {told : Bool} → HoldsHeap old
    → IsOne old.bytes found → (IsLent old found.name.0 → ⊥) → found.lock ≢ 15 → found.lock ≡ 0
    → TellsWhetherInPlace old.bytes found (need size) told → told ≡ false
    → ShortFor old.bytes found.name.0 (need size)
    → FirstBrings (growth_checks old (held old.bytes) found.name.0 size) NotEnoughSpace
growth_short {old} {found} size h f here loose unlocked tells told_false short =
    let k = one_held old.bytes found h.accepted f in let lock = f.lock_is in
    let large = too_large (need size) h.accepted f loose tells told_false in
    inr (not_of_known (λ live. IsLent old found.name.0) k here, inr (not_of_known (TooLargeWhereLocked old.bytes found.name.0 size) k (λ t. let some = t.0.0 in omega arith), inl (of_known (TooLarge old.bytes found.name.0 size) k (sym f.lock_is ∙ unlocked, omega arith, short), refl)))

growth_passes : {old : Memory} {found : Found} (size : ℕ) → HoldsHeap old → (f : IsOne old.bytes found) → (IsLent old found.name.0 → ⊥) → (TooLargeWhereLocked old.bytes found.name.0 size f.live → ⊥) → (ShortFor old.bytes found.name.0 (need size) → ⊥) → NoneHolds (growth_checks old (held old.bytes) found.name.0 size)
growth_passes {old} {found} size h f here reaches room =
    let k = one_held old.bytes found h.accepted f in
    (not_of_known (λ live. IsLent old found.name.0) k here, (not_of_known (TooLargeWhereLocked old.bytes found.name.0 size) k reaches, (not_of_known (TooLarge old.bytes found.name.0 size) k (λ t. room t.2), tt)))

-- ---- where it stands

pub grown_changes : {old : List ℕ} (new : List ℕ) {name : ℕ} {found : Found} (size : ℕ) {told : Bool} → HeapAccepted old → (f : IsFound old name found) → TellsWhetherInPlace old found (need size) told → told ≡ true → OnTrue told (GrowsInPlace old new (found.place.0 - 8) size)
    → ChangesName old new name (Some (live_sized size f.live)) (Some found.place.0)
grown_changes {old} new {name} {found} size {told} h f tells told_true grows =
    let fits = (tells_found (need size) told f tells).0 (subst IsTrue (sym told_true) refl) in
    grow_changes old new name found.place.0 size f.live f.chunk h f.behind_header f.finds fits
    (OnTrue_at told_true grows)

not_short : {image : List ℕ} {name : ℕ} {found : Found} (size : ℕ) → HeapAccepted image
    → (f : IsFound image name found) → found.lock ≢ 15 → 0 < size
    → size ≤ size_of f.chunk + free_front f.finds.after → ShortFor image name size → ⊥
not_short {image} {name} {found} size h f loose some =
    when_movable image name found f
    (λ c g. size ≤ size_of c + free_front g.after → ShortFor image name size → ⊥) loose
    (λ bytes lock owner slot g. fits_not_short_for image name (found.place.0 - 8) size f.live bytes lock owner slot h g some)

pub grown_passes : {old : Memory} {found : Found} (size : ℕ) {told : Bool} → HoldsHeap old
    → IsOne old.bytes found → (IsLent old found.name.0 → ⊥) → found.lock ≢ 15
    → TellsWhetherInPlace old.bytes found (need size) told → told ≡ true
    → NoneHolds (growth_checks old (held old.bytes) found.name.0 size)
grown_passes {old} size {told} h f here loose tells told_true =
    let fits = fits_there (need size) h.accepted f loose tells told_true in
    let enough = (tells_found (need size) told f tells).0 (subst IsTrue (sym told_true) refl) in
    growth_passes size h f here (λ t. let low = t.1 in omega arith)
    (not_short (need size) h.accepted f loose (omega arith) enough)

pub grown_leaves : {old : Memory} (new : Memory) {found : Found} (size : ℕ) {told : Bool} → HoldsHeap old → IsOne old.bytes found → TellsWhetherInPlace old.bytes found (need size) told → told ≡ true → OnTrue told (GrowsInPlace old.bytes new.bytes (found.place.0 - 8) size) → OnlyBytes old new
    → Resized old.bytes new.bytes found.name.0 size
grown_leaves {old} new size h f tells told_true grows rest =
    (altered old new (live_sized size) h.accepted f (grown_changes new.bytes size h.accepted f tells told_true grows) rest).leaves

pub grown_moves_nothing : {old : List ℕ} (new : List ℕ) {name : ℕ} {found : Found} (size : ℕ) {told : Bool} → HeapAccepted old → (f : IsFound old name found) → TellsWhetherInPlace old found (need size) told → told ≡ true → OnTrue told (GrowsInPlace old new (found.place.0 - 8) size) → MovesNothing old new
grown_moves_nothing new size h f tells told_true grows =
    stays_in_place h f (grown_changes new size h f tells told_true grows)

-- ---- elsewhere, or once others have made way

pub moved_passes : {old : Memory} {found : Found} (size : ℕ) → HoldsHeap old → IsOne old.bytes found → (IsLent old found.name.0 → ⊥) → found.lock ≡ 0 → (ShortFor old.bytes found.name.0 (need size) → ⊥) → NoneHolds (growth_checks old (held old.bytes) found.name.0 size)
moved_passes {old} size h f here unlocked room =
    let lock = f.lock_is in growth_passes size h f here (λ t. let some = t.0.0 in omega arith) room

-- ---- the step

abbrev pub PassesAll : Memory → ℕ → ℕ → Type 0
PassesAll old name size = NoneHolds (growth_checks old (held old.bytes) name size)

abbrev pub BringsOne : Memory → ℕ → ℕ → Refusal → Type 0
BringsOne old name size refusal = FirstBrings (growth_checks old (held old.bytes) name size) refusal

-- a caller's chunk is refused by these checks if it is movable and not for data
pub resize_refused : {m : Memory} {name : Name} {found : Found} {refusal : Refusal} (size : ℕ)
    → IsCallers m name.0 found → found.owner ≢ 15 → found.lock ≢ 15
    → BringsOne m name.0 size refusal → FirstBrings (row_of m (Resize name size)).refusals refusal
resize_refused {m} {name} {found} {refusal} size o other loose brought =
    let same = name_held m.bytes name.0 found o.heap.accepted o.is
    ∙ sym (known o.heap.accepted o.is o.callers) in
    inr (has_chunk o, inr (no_data o other, inr (no_lock o fixed_lock loose, rw same at brought)))

-- what is lent stays so
each_still : (old new : List ℕ) (name size : ℕ) → Resized old new name size
    → (other : ℕ) (live : LiveChunk) → other ≢ name → held old other ≡ Some live
    → held new other ≡ Some live
each_still old new name size r other live apart was =
    r.map other ∙ cond-false (other == name) _ _ (grind (arith, nat_tests)) ∙ was

pub keeps_resized : {old : Memory} (new : Memory) (name size : ℕ) → HoldsHeap old
    → new.lents ≡ old.lents → Resized old.bytes new.bytes name size → (IsLent old name → ⊥)
    → KeepsLoan old new
keeps_resized {old} new name size h same r here =
    keeps_still old new h.accepted h.lent same r.still (λ n live is e. elim (cases_eq n name) [
      | inl this ↦ absurd (here (subst (λ (m : ℕ). IsLent old m) this is))
      | inr apart ↦ each_still old.bytes new.bytes name size r n live apart e
    ])

-- by what is answered
pub keeps_replied : {A : Type 0} {old : Memory} (new : Memory) (name size : ℕ) (result : Result A Refusal) → HoldsHeap old → new.lents ≡ old.lents → OnOk result (Resized old.bytes new.bytes name size) → OnErr result (new ≡ old) → (IsLent old name → ⊥) → KeepsLoan old new
keeps_replied {old} new name size (Ok answer) h same done kept here =
    keeps_resized new name size h same done here
keeps_replied {old} new name size (Err refusal) h same done kept here =
    subst (λ (m : Memory). KeepsLoan old m) (sym kept) (keeps_itself old)

-- by what is answered
pub resize_replied : {A : Type 0} {old new : Memory} {name : Name} {found : Found} (size : ℕ) (result : Result A Refusal) → IsCallers old name.0 found → found.owner ≢ 15 → found.lock ≢ 15 → OnOk result (Resized old.bytes new.bytes found.name.0 size)
    → OnOk result (PassesAll old found.name.0 size) → OnErr result (new ≡ old)
    → IfErr result (BringsOne old found.name.0 size) → BytesAndSlid old new
    → Does old (Resize name size) (reply_of (λ answer. Done) result) new
resize_replied {old = old} {new = new} {name = name} {found = found} size (Ok answer) o other loose done could kept why rest =
    let passes = subst (λ (n : ℕ). PassesAll old n size) o.is.name_is could in
    let r = subst (λ (n : ℕ). Resized old.bytes new.bytes n size) o.is.name_is done in
    let there = name_held old.bytes name.0 found o.heap.accepted o.is in
    let all = rw (there ∙ sym (known o.heap.accepted o.is o.callers)) at passes in record {
      before = o.heap.accepted;
      step = ((has_chunk o, (no_data o other, (no_lock o fixed_lock loose, all))), (tt, r.map));
      frame = r.frame;
      still = r.still;
      loan = keeps_resized new name.0 size o.heap (same_lents rest) r
          (λ is. passes.0 (of_known (λ live. IsLent old name.0) there is));
      asks = tt;
      rest = rest;
    }
resize_replied {old = old} {name = name} size (Err refusal) o other loose done could kept why rest =
    subst (λ (m : Memory). Does old (Resize name size) (Refused refusal) m) (sym kept)
    (refused o.heap.accepted (resize_refused size o other loose (rw o.is.name_is at why)))

-- the same slots are in use
pub managed_resized : {A : Type 0} {start : TableStart} {used freed : ℕ} {names : List ℕ} {old new : Memory} (name size : ℕ) (result : Result A Refusal) → IsManaged old used start freed names → HoldsHeap new → OnOk result (Resized old.bytes new.bytes name size) → OnErr result (new ≡ old) → IsManaged new used start freed names
managed_resized {old = old} {new = new} name size (Ok answer) m h done same = managed_still m h done.frame.slots done.frame.tables (λ other some. subst IsSome (sym (done.map other)) (stays other some)) where
  some_changed : (x : Option LiveChunk) → IsSome x → IsSome (changed (live_sized size) x)
  some_changed None some = some
  some_changed (Some live) some = refl

  stays : (other : ℕ) → IsSome (held old.bytes other) → IsSome (if other == name then changed (live_sized size) (held old.bytes name) else held old.bytes other)
  stays other some = elim (cases_eq other name) [
    | inl same ↦ subst IsSome (sym (cond-true (other == name) _ _ (eq-eqb other name same)))
        (some_changed (held old.bytes name) (rw same at some))
    | inr apart ↦ subst IsSome
        (sym (cond-false (other == name) _ _ (grind (arith, nat_tests)))) some
  ]
managed_resized {start = start} {used = used} {freed = freed} {names = names} name size (Err refusal) m h done same = rw (← same) at m

pub growth_lent : {old : Memory} {name : ℕ} {found : Found} (size : ℕ) → HoldsHeap old
    → IsFound old.bytes name found → IsLent old name
    → FirstBrings (growth_checks old (held old.bytes) name size) Lent
growth_lent {old} {name} {found} size h f is =
    inl (of_known (λ live. IsLent old name) (name_held old.bytes name found h.accepted f) is, refl)
