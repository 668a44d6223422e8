-- Locking a chunk for a pointer, and unlocking it.
use Rattle.palmheap_c.proofs.Words.{Bool, ◌≡◌, ◌≢◌, ◌+◌, ◌-◌, ℕ, List, [], length, refl, sym, ap, subst, ◌∙◌, arith, inl, inr, cases_eq, eq-eqb, insert_entry, is_at, set_value, nat_cmp, if◌then◌else◌, Option, Some, None, Result, Ok, IfOk, IfErr, Ptr, IsLent, LiveChunk, Memory, SomeLent, Of, FirstBrings, place_of, store_of, Call, DoesInStore, Reply, number_of, Lock, Locks, Read, Unlock, Data, Locked, Number, Refused, Name, Refusal, ChunkFixed, LockOverflow, some_to, OnLoan, IsOutUnder, also_out_checks, DoesMemory, number_or_refused, Buffer, DoesInC, DoesAlways, DoesData, as_name, Opened, HasBytesOut, HoldsPointers, IsPinned, GivesPointer, LetsLoanGo, LocksAgain, LocksFirst, LocksPointer, RefusesFirst, RefusesPointer, Pointers, CountsPointers, Unlocks, UnlocksLast, UnlocksPointer, WantsEntry, loan_of, locked_times, pinned, pointer_checks, Pinned}
use Rattle.std.specs.Prelude.{Err}
use Rattle.heap_model.specs.Maps.{callers_map, changed}
use Rattle.heap_model.specs.declared.names.Place.{Place}
use Rattle.heap_model.specs.declared.refusal.Refusal.TheVariants.{Lent, OutOfMemory}
use Rattle.palm_store.specs.Loans as stores
use Rattle.palmheap_c.proofs.OutLaws.{puts_out, step_out, takes_out}
use Rattle.palmheap_c.proofs.PinLaws.{insert_other, insert_own, remove_other, set_other, set_own}

-- ---- a chunk whose bytes are out

-- a chunk that is read in vain because it is lent
is_lent : (m new : Memory) (name : Name) → DoesMemory m (Read name 0 0) (Refused Lent) new
    → Of ((store_of m.bytes).map name.0) (λ live. IsLent m name.0)
    × ((store_of m.bytes).map name.0 ≡ None → ⊥)
is_lent m new name does = elim does.step.0 [
  | inl unknown ↦ absurd (let e = unknown.1 in cc)
  | inr later ↦ elim later.1 [
    | inl lent ↦ (lent.0, later.0)
    | inr last ↦ elim last.1 [
      | inl far ↦ absurd (let e = far.1 in cc)
      | inr rest ↦ elim rest.1 [
        | inl short ↦ absurd (let e = short.1 in cc)
        | inr none ↦ absurd none.1
      ]
    ]
  ]
]

has_lock : (o : Option LiveChunk) (count lock : ℕ) → Of o (λ live. count ≡ live.lock) → count ≡ lock
    → Of o (λ live. live.lock ≡ lock)
has_lock None count lock is e = elim is [ ]
has_lock (Some live) count lock is e = sym is ∙ e

has_other : (o : Option LiveChunk) (count lock : ℕ) → Of o (λ live. count ≡ live.lock)
    → count ≢ lock → Of o (λ live. live.lock ≡ lock) → ⊥
has_other None count lock is not other = elim is [ ]
has_other (Some live) count lock is not other = not (is ∙ other)

module _ (m new after : Memory) (name : Name) (count : ℕ)
    (read : DoesMemory m (Read name 0 0) (Refused Lent) new)
    (locks : DoesMemory m (Locks name) (Number count) after) where
  pub fixed_first : count ≡ 15 → FirstBrings (pointer_checks m name.0) ChunkFixed
  unfolding store_of
  fixed_first e =
      let l = is_lent m new name read in
      inr (l.1, inl (has_lock _ count 15 locks.step.1.0 e, refl))

  pub most_first : count ≢ 15 → count ≡ 14 → FirstBrings (pointer_checks m name.0) LockOverflow
  unfolding store_of
  most_first not e =
      let l = is_lent m new name read in
      inr (
        l.1,
        inr (
          has_other _ count 15 locks.step.1.0 not,
          inl (has_lock _ count 14 locks.step.1.0 e, refl),
        ),
      )

  pub lent_first : count ≢ 15 → count ≢ 14 → FirstBrings (pointer_checks m name.0) Lent
  unfolding store_of
  lent_first not less =
      let l = is_lent m new name read in
      inr (
        l.1,
        inr (
          has_other _ count 15 locks.step.1.0 not,
          inr (has_other _ count 14 locks.step.1.0 less, inl (l.0, refl)),
        ),
      )

-- a chunk whose locks are asked for in vain
pub unknown_first : (m after : Memory) (name : Name) (refusal : Refusal)
    → DoesMemory m (Locks name) (Refused refusal) after
    → FirstBrings (pointer_checks m name.0) refusal
unfolding store_of
unknown_first m after name refusal does = elim does.step.0 [
  | inl unknown ↦ inl unknown
  | inr none ↦ absurd none.1
]

-- a chunk that is read, or that isn't read for another reason
pub none_out : (m new : Memory) (name : Name) (bytes : List ℕ)
    → DoesMemory m (Read name 0 0) (Data bytes) new → HasBytesOut m name.0 → ⊥
unfolding store_of
none_out m new name bytes does out = does.step.0.1.0 out

pub none_out_else : (m new : Memory) (name : Name) (refusal : Refusal)
    → DoesMemory m (Read name 0 0) (Refused refusal) new → refusal ≢ Lent → HasBytesOut m name.0 → ⊥
unfolding store_of
none_out_else m new name refusal does other out = elim does.step.0 [
  | inl unknown ↦ subst (λ (o : Option LiveChunk). Of o (λ live. IsLent m name.0)) unknown.0 out
  | inr known ↦ elim known.1 [
    | inl lent ↦ other lent.1
    | inr later ↦ later.0 out
  ]
]

-- After a lock the bytes are taken out if they weren't out before.
out_after : (locked : Memory) (name : ℕ) (live : LiveChunk) (refusal : Refusal)
    → callers_map locked.bytes name ≡ Some live → live.lock ≢ 0 → (IsLent locked name → ⊥)
    → FirstBrings (also_out_checks locked name) refusal → ⊥
out_after locked name live refusal there some here first = elim first [
  | inl unknown ↦ absurd (let e = unknown.0 in cc)
  | inr known ↦ elim known.1 [
    | inl loose ↦ some (subst (λ (o : Option LiveChunk). Of o (λ it. it.lock ≡ 0)) there loose.0)
    | inr later ↦ elim later.1 [
      | inl lent ↦
          here (subst (λ (o : Option LiveChunk). Of o (λ it. IsLent locked name)) there lent.0)
      | inr none ↦ absurd none.1
    ]
  ]
]

pub never_refused : (m locked : Memory) (name : ℕ) (place : Place) (count : ℕ) (refusal : Refusal)
    → DoesMemory m (Lock (as_name name)) (Locked place count) locked
    → ((other : ℕ) → place_of locked.bytes other ≡ place_of m.bytes other)
    → (HasBytesOut m name → ⊥) → FirstBrings (also_out_checks locked name) refusal → ⊥
unfolding store_of
never_refused m locked name place count refusal does unmoved here first =
    by (callers_map m.bytes name) refl does.step.1.0.0 where
      lent : IsLent locked name → IsLent m name
      lent is = subst (SomeLent (λ l. place_of m.bytes name ≡ Some l.at))
          (ap (λ (memory : Memory). memory.lents) does.rest)
          (some_to (λ l. place_of locked.bytes name ≡ Some l.at) (λ l. place_of m.bytes name
          ≡ Some l.at) locked.lents is (λ l there. sym (unmoved name) ∙ there))

      by : (o : Option LiveChunk) → callers_map m.bytes name ≡ o
          → Of o (λ live. count ≡ live.lock + 1) → ⊥
      by None is counted = counted
      by (Some live) is counted =
          let now : LiveChunk = record live { lock = live.lock + 1 } in
          let there : callers_map locked.bytes name ≡ Some now = does.step.1.1.0 name
          ∙ ap (λ (b : Bool). if b then changed (λ it. record it { lock = it.lock + 1 })
          (callers_map m.bytes name) else callers_map m.bytes name) (eq-eqb name name refl)
          ∙ ap (changed (λ it. record it { lock = it.lock + 1 })) is in
          out_after locked name now refusal there (λ none. absurd (omega (arith, none))) (λ out.
          here (subst (λ (o : Option LiveChunk). Of o (λ it. IsLent m name)) (sym is) (lent out)))
          first

-- ---- unlocking

pub unlocks : (old new : Memory) (name : ℕ) (result : Result ℕ Refusal)
    → DoesMemory old (Unlock (record { 0 = name })) (number_or_refused result) new
    → Unlocks old new name
unlocks old new name (Ok left) does = inl (left, does)
unlocks old new name (Err refusal) does = inr (refusal, does)

-- ---- locking

-- a pointer that is out is given once more
pub again : (old new : Opened) (name : ℕ) (it : Pinned) (count : ℕ)
    → pinned old.pointers name ≡ Some it → CountsPointers old new name (it.locks + 1)
    → count ≡ length (loan_of it).part.bytes → LocksPointer old new name it.at count
again old new name it count was relocks counted =
    inl (record { it = it; was = was; more = relocks it was; at_is = refl; count_is = counted })

module _ (old out new : Opened) (name : ℕ) (locked : Memory) (place : Place) (locks : ℕ)
    (loan : OnLoan)
    (locks_it : DoesMemory old.memory (Lock (as_name name)) (Locked place locks) locked)
    (takes : stores.TakesOutOfStore locked out.memory (as_name name) loan)
    (same : out.pointers ≡ old.pointers) where
  -- the first pointer to a chunk
  pub first_given : (result : Result (Ptr × ℕ) Refusal) → pinned old.pointers name ≡ None
      → IfOk result (λ given. GivesPointer out new name loan given.0 given.1)
      → IfOk result (λ given. LocksFirst old new name given.0 given.1)
  first_given (Ok given) none keeps = record {
    none = none;
    locked = locked;
    out = out;
    place = place;
    locks = locks;
    loan = loan;
    locks_it = locks_it;
    takes = takes;
    same = same;
    keeps = keeps;
  }
  first_given (Err refusal) none keeps = tt

  -- it isn't given because an allocation failed
  pub first_refused : (result : Result (Ptr × ℕ) Refusal) → pinned old.pointers name ≡ None
      → IfErr result (λ refusal. (refusal ≡ OutOfMemory) × LetsLoanGo out new name loan)
      → IfErr result (λ refusal. RefusesFirst old new name (number_of refusal))
  first_refused (Ok given) none goes = tt
  first_refused (Err refusal) none goes = (
    none,
    inr (inr (record {
      is = ap number_of goes.0;
      locked = locked;
      out = out;
      place = place;
      locks = locks;
      loan = loan;
      locks_it = locks_it;
      takes = takes;
      same = same;
      goes = goes.1;
    })),
  )

-- ---- the bytes of pointers stay out

none_pinned : (pointers : Pointers) (name : ℕ) (it : Pinned) → pointers ≡ []
    → pinned pointers name ≡ Some it → ⊥
none_pinned pointers name it none was = let e =
    subst (λ (ps : Pointers). pinned ps name ≡ Some it) none was in cc

-- a store without pointers
pub none_held : (store : Opened) → store.pointers ≡ [] → HoldsPointers store
none_held store none name it was = absurd (none_pinned store.pointers name it none was)

-- The same pointers are out, and so are their bytes.
stay : (old new : Opened) → new.pointers ≡ old.pointers
    → ((name : ℕ) (it : Pinned) → pinned old.pointers name ≡ Some it
    → IsOutUnder old.memory name (loan_of it).part → IsOutUnder new.memory name (loan_of it).part)
    → HoldsPointers old → HoldsPointers new
stay old new same keeps holds name it was =
    let there = subst (λ (ps : Pointers). pinned ps name ≡ Some it) same was in
    let is = holds name it there in
    record { named_so = is.named_so; out = keeps name it there is.out; starts = is.starts }

step_keeps : (old new : Opened) (call : Call) (reply : Reply)
    → DoesInStore old.memory call reply new.memory → new.pointers ≡ old.pointers → HoldsPointers old
    → HoldsPointers new
step_keeps old new call reply does same = stay old new same
    (λ name it was. step_out old.memory new.memory call reply name (loan_of it).part does)

-- if other bytes are taken out or put back
pub takes_keep : (old new : Opened) (name : Name) (loan : OnLoan)
    → stores.TakesOutOfStore old.memory new.memory name loan → new.pointers ≡ old.pointers
    → HoldsPointers old → HoldsPointers new
takes_keep old new name loan takes same = stay old new same
    (λ other it was. takes_out old.memory new.memory name loan other (loan_of it).part takes)

pub puts_keep : (old new : Opened) (loan : OnLoan)
    → stores.PutsBackInStore old.memory new.memory loan → pinned old.pointers loan.name.0 ≡ None
    → new.pointers ≡ old.pointers → HoldsPointers old → HoldsPointers new
puts_keep old new loan puts none same = stay old new same (λ other it was.
    puts_out old.memory new.memory loan other (loan_of it).part (apart other it was) puts) where
      apart : (other : ℕ) (it : Pinned) → pinned old.pointers other ≡ Some it → other ≢ loan.name.0
      apart other it was is =
          absurd (let e = subst (λ (n : ℕ). pinned old.pointers n ≡ Some it) is was in cc)

-- Each call leaves the bytes of all pointers out: one that may be refused, one that is never, and one
-- that returns bytes.
pub calls_keep : (old new : Opened) (call : Call) (reply : Reply) (result : ℕ)
    → DoesInC old call reply result new → HoldsPointers old → HoldsPointers new
calls_keep old new call reply result does holds = elim (cases_eq result 0) [
  | inl zero ↦ step_keeps old new call reply (does.done zero) does.pointers holds
  | inr some ↦ let refused = does.refused some in
      step_keeps old new call _ refused.2 does.pointers holds
]

pub always_keep : (old new : Opened) (call : Call) (reply : Reply) → DoesAlways old call reply new
    → HoldsPointers old → HoldsPointers new
always_keep old new call reply does holds =
    step_keeps old new call reply does.done does.pointers holds

pub data_keep : (old new : Opened) (call : Call) (before after : Buffer) (result : ℕ)
    → DoesData old call before after result new → HoldsPointers old → HoldsPointers new
data_keep old new call before after result does holds = elim does.0 [
  | inl done ↦ step_keeps old new call _ done.1 does.1 holds
  | inr refused ↦ step_keeps old new call _ refused.0.2 does.1 holds
]

-- ---- the same for the functions on pointers

one_pin : {it other : Pinned} → Some it ≡ Some other → it ≡ other
one_pin e = cc

unlock_keeps : (old new : Opened) (name : ℕ) → Unlocks old.memory new.memory name
    → new.pointers ≡ old.pointers → HoldsPointers old → HoldsPointers new
unlock_keeps old new name unlocked same holds = elim unlocked [
  | inl done ↦ step_keeps old new _ _ done.1 same holds
  | inr refused ↦ step_keeps old new _ _ refused.1 same holds
]

-- a pointer is out another number of times
counted_keep : (old new : Opened) (name : ℕ) (it : Pinned) (locks : ℕ)
    → pinned old.pointers name ≡ Some it → new ≡ record old {
      pointers = set_value (is_at (nat_cmp name)) old.pointers (locked_times it locks);
    } → HoldsPointers old → HoldsPointers new
counted_keep old new name it locks was more holds =
    subst (λ (o : Opened). HoldsPointers o) (sym more) held where
      held : HoldsPointers (record
          old { pointers = set_value (is_at (nat_cmp name)) old.pointers (locked_times it locks) })
      held other found there = elim (cases_eq other name) [
        | inl same ↦
            let is = holds name it was in
            let now : found ≡ locked_times it locks = one_pin (sym there
            ∙ ap (pinned (set_value (is_at (nat_cmp name)) old.pointers (locked_times it locks)))
            same ∙ set_own old.pointers name it (locked_times it locks) was) in
            subst (λ (x : ℕ × Pinned). IsPinned old.memory x.0 x.1) (λ i. (sym same i, sym now i))
            (record { named_so = is.named_so; out = is.out; starts = is.starts })
        | inr differs ↦ (let is = holds other found
            (sym (set_other old.pointers name other (locked_times it locks) differs) ∙ there) in
            record { named_so = is.named_so; out = is.out; starts = is.starts })
      ]

-- a pointer to the bytes of a loan that is out is given
gives_keep : (old new : Opened) (name : ℕ) (loan : OnLoan) (at : Ptr) (count : ℕ)
    → GivesPointer old new name loan at count → pinned old.pointers name ≡ None
    → loan.name ≡ as_name name → IsOutUnder old.memory name loan.part → HoldsPointers old
    → HoldsPointers new
gives_keep old new name loan at count gives none named out holds =
    subst (λ (o : Opened). HoldsPointers o) (sym gives.more) held where
      it : Pinned
      it = gives.it

      held : HoldsPointers (record old { pointers = insert_entry nat_cmp old.pointers name it })
      held other found there = elim (cases_eq other name) [
        | inl same ↦
            let now : found ≡ it =
            one_pin (sym there ∙ ap (pinned (insert_entry nat_cmp old.pointers name it)) same
            ∙ insert_own old.pointers name it none) in
            let own : IsPinned old.memory name it = record {
              named_so = ap (λ (l : OnLoan). l.name) gives.is ∙ named;
              out = subst (λ (l : OnLoan). IsOutUnder old.memory name l.part) (sym gives.is) out;
              starts = gives.starts ∙ sym (ap (λ (l : OnLoan). l.part.start) gives.is);
            } in
            subst (λ (x : ℕ × Pinned). IsPinned old.memory x.0 x.1)
            (λ i. (sym same i, sym now i)) own
        | inr differs ↦ (let is =
            holds other found (sym (insert_other old.pointers name other it differs) ∙ there) in
            record { named_so = is.named_so; out = is.out; starts = is.starts })
      ]

again_keeps : (old new : Opened) (name : ℕ) (at : Ptr) (count : ℕ)
    → LocksAgain old new name at count → HoldsPointers old → HoldsPointers new
again_keeps old new name at count again =
    counted_keep old new name again.it (again.it.locks + 1) again.was again.more

first_keeps : (old new : Opened) (name : ℕ) (at : Ptr) (count : ℕ)
    → LocksFirst old new name at count → HoldsPointers old → HoldsPointers new
first_keeps old new name at count first holds =
    let locked : Opened = record { memory = first.locked; pointers = old.pointers } in
    let held = step_keeps old locked _ _ first.locks_it refl holds in
    let out = takes_keep locked first.out (as_name name) first.loan first.takes first.same held in
    gives_keep first.out new name first.loan at count first.keeps
    (ap (λ (ps : Pointers). pinned ps name) first.same ∙ first.none) first.takes.name_is
    first.takes.out out

pub lock_keeps : (old new : Opened) (name : ℕ) (at : Ptr) (count : ℕ)
    → LocksPointer old new name at count → HoldsPointers old → HoldsPointers new
lock_keeps old new name at count locks = elim locks [
  | inl again ↦ again_keeps old new name at count again
  | inr first ↦ first_keeps old new name at count first
]

wants_keeps : (old new : Opened) (name result : ℕ) → pinned old.pointers name ≡ None
    → WantsEntry old new name result → HoldsPointers old → HoldsPointers new
wants_keeps old new name result none wants holds =
    let locked : Opened = record { memory = wants.locked; pointers = old.pointers } in
    let back : Opened = record { memory = wants.goes.back; pointers = wants.out.pointers } in
    let held = step_keeps old locked _ _ wants.locks_it refl holds in
    let out = takes_keep locked wants.out (as_name name) wants.loan wants.takes wants.same held in
    let gone : pinned wants.out.pointers wants.loan.name.0 ≡ None =
    ap (λ (n : Name). pinned wants.out.pointers n.0) wants.takes.name_is
    ∙ ap (λ (ps : Pointers). pinned ps name) wants.same ∙ none in
    let put = puts_keep wants.out back wants.loan wants.goes.puts gone refl out in
    unlock_keeps back new name wants.goes.unlocks wants.goes.same put

pub refused_keeps : (old new : Opened) (name result : ℕ) → RefusesPointer old new name result
    → HoldsPointers old → HoldsPointers new
refused_keeps old new name result refuses holds = elim refuses [
  | inl most ↦ subst (λ (o : Opened). HoldsPointers o) (sym most.same) holds
  | inr first ↦ elim first.1 [
    | inl elsewhere ↦ subst (λ (o : Opened). HoldsPointers o) (sym elsewhere.same) holds
    | inr later ↦ elim later [
      | inl lock ↦ step_keeps old new _ _ lock.refused lock.same holds
      | inr wants ↦ wants_keeps old new name result first.0 wants holds
    ]
  ]
]

last_keeps : (old new : Opened) (name result : ℕ) → UnlocksLast old new name result
    → HoldsPointers old → HoldsPointers new
last_keeps old new name result last holds = elim last.lets.unlocked [
  | inl done ↦ step_keeps back new _ _ done.1.1 refl put
  | inr refused ↦ step_keeps back new _ _ refused.2 refl put
] where
  back : Opened
  back = record { memory = last.lets.back; pointers = new.pointers }

  apart : (other : ℕ) → other ≢ name → other ≢ (loan_of last.it).name.0
  apart other differs is =
      differs (is ∙ ap (λ (n : Name). n.0) (holds name last.it last.was).named_so)

  put : HoldsPointers back
  put other it there = elim (cases_eq other name) [
    | inl same ↦ absurd (let e = subst (λ (n : ℕ). pinned new.pointers n ≡ Some it) same there in
        let none = last.lets.gone in cc)
    | inr differs ↦
        let was = sym (ap (λ (ps : Pointers). pinned ps other) last.lets.less
        ∙ remove_other old.pointers name other differs) ∙ there in
        let is = holds other it was in
        record {
          named_so = is.named_so;
          out = puts_out old.memory last.lets.back (loan_of last.it) other (loan_of it).part
              (apart other differs) last.lets.puts is.out;
          starts = is.starts;
        }
  ]

pub unlock_pointer_keeps : (old new : Opened) (name result : ℕ) → UnlocksPointer old new name result
    → HoldsPointers old → HoldsPointers new
unlock_pointer_keeps old new name result unlocked holds = elim unlocked [
  | inl none ↦ subst (λ (o : Opened). HoldsPointers o) (sym none.same) holds
  | inr out ↦ elim out [
    | inl one ↦ counted_keep old new name one.it (one.it.locks - 1) one.was one.less holds
    | inr last ↦ last_keeps old new name result last holds
  ]
]
