-- Chains of free chunks: their length is determined, they visit no chunk twice, and what keeps
-- them.
use Rattle.heap_place.proofs.Words.{◌≡◌, ◌≢◌, ℕ, zero, suc, ◌+◌, ◌^◌, ◌<◌, ◌≤◌, List, length, replicate, refl, sym, ap, subst, ◌∙◌, arith, inl, inr, ◌⊎◌, slice_index, get_or-set_same, get_or-set_other, get_or-replicate, length-set, BeginsFree, class_count, IsOfClass, IsFreeOf, second_of, Chain, OnChain, IsList, AreLists, Any, ButAt, HasLists, KeepsOne, KeepsFree, Pushes, cases_eq}
use Rattle.std.proofs.Math.ListN.{set}
use Rattle.std.proofs.Math.Nat.{pow-le-pow_right}

-- ---- classes

not_above : {k j n : ℕ} → IsOfClass k n → IsOfClass j n → k < j → ⊥
not_above {k} {j} a b less =
    let steps : 2 ^ (k + 1) ≤ 2 ^ j = pow-le-pow_right (omega arith) (omega arith) in omega arith

-- a size is of one class
pub one_class : {k j n : ℕ} → IsOfClass k n → IsOfClass j n → k ≢ j → ⊥
one_class {k} {j} a b apart = elim (sides k j apart) [ inl less ↦ not_above a b less | inr more ↦ not_above b a more ] where
  sides : (k j : ℕ) → k ≢ j → (k < j) ⊎ (j < k)
  sides k j apart = grind arith

-- ---- chains

pub one_length : (image : List ℕ) (class n m at : ℕ) → Chain image class n at
    → Chain image class m at → n ≡ m
one_length image class zero zero at a b = refl
one_length image class zero (suc m) at a b = absurd (omega arith)
one_length image class (suc n) zero at a b = absurd (omega arith)
one_length image class (suc n) (suc m) at a b = ap (λ k. suc k) (one_length _ _ n m _ a.1 b.1)

-- a shorter chain does not come to where a longer one begins
pub chain_apart : (image : List ℕ) (class n m at here : ℕ) → Chain image class n at
    → Chain image class m here → n < m → OnChain (ButAt here) image n at
chain_apart image class zero m at here a b less = tt
chain_apart image class (suc n) m at here a b less = (
  λ same. let e = one_length image class (suc n) m here (rw same at a) b in omega arith,
  chain_apart image class n m (second_of image at) here a.1 b (omega arith),
)

-- each chunk of a chain is free, and of its class
pub chain_each : (P : ℕ → Type 0) (image : List ℕ) (class n at : ℕ)
    → ((x : ℕ) → IsFreeOf image class x → P x) → Chain image class n at → OnChain P image n at
chain_each P image class zero at each c = tt
chain_each P image class (suc n) at each c = (each at c.0, chain_each P _ _ n _ each c.1)

pub weaker : (P Q : ℕ → Type 0) (image : List ℕ) (class n at : ℕ) → ((x : ℕ) → IsFreeOf image class x → P x → Q x) → Chain image class n at → OnChain P image n at → OnChain Q image n at
weaker P Q image class zero at each c on = tt
weaker P Q image class (suc n) at each c on = (each at c.0 on.0, weaker P Q _ _ n _ each c.1 on.1)

pub free_kept : {old new : List ℕ} {class at : ℕ} → IsFreeOf old class at → KeepsOne old new at
    → IsFreeOf new class at
free_kept f k = record { begins = k.begins; of_class = rw (← k.first) at f.of_class; positive = f.positive }

pub chain_kept : (P : ℕ → Type 0) {old new : List ℕ} (class n at : ℕ) → KeepsFree P old new
    → Chain old class n at → OnChain P old n at → Chain new class n at
chain_kept P class zero at keeps c on = c
chain_kept P {old} {new} class (suc n) at keeps c on =
    let k = keeps at on.0 c.0.begins in
    (free_kept c.0 k, rw (← k.second) at (chain_kept P class n (second_of old at) keeps c.1 on.1))

pub each_kept : (P : ℕ → Type 0) (old new : List ℕ) (class n at : ℕ) → KeepsFree P old new
    → Chain old class n at → OnChain P old n at → OnChain P new n at
each_kept P old new class zero at keeps c on = tt
each_kept P old new class (suc n) at keeps c on =
    let k = keeps at on.0 c.0.begins in
    (on.0, rw (← k.second) at (each_kept P old new class n (second_of old at) keeps c.1 on.1))

-- ---- lists

-- what keeps the free chunks keeps the lists
pub list_kept : (P : ℕ → Type 0) {old new : List ℕ} {class head : ℕ} → KeepsFree P old new
    → IsList P old class head → IsList P new class head
list_kept P {old} {new} {head} keeps l = record { count = l.count; chain = chain_kept P _ _ head keeps l.chain l.each; each = each_kept P old new _ _ head keeps l.chain l.each }

pub lists_kept : (P : ℕ → Type 0) (old new heads : List ℕ) → KeepsFree P old new
    → AreLists P old heads → AreLists P new heads
lists_kept P old new heads keeps a = record { count = a.count; lists = λ class below. list_kept P keeps (a.lists class below) }

pub lists_weaker : (P Q : ℕ → Type 0) (image heads : List ℕ)
    → ((x : ℕ) → BeginsFree image x → P x → Q x) → AreLists P image heads → AreLists Q image heads
lists_weaker P Q image heads each a = record {
  count = a.count;
  lists = λ class below.
      let l = a.lists class below in
      record { count = l.count; chain = l.chain; each = weaker P Q _ _ _ _ (λ x f. each x f.begins) l.chain l.each };
}

pub lists_any : (P : ℕ → Type 0) (image heads : List ℕ) → AreLists P image heads
    → HasLists image heads
lists_any P image heads a = lists_weaker P Any image heads (λ x b p. tt) a

-- the empty lists
pub no_lists : (P : ℕ → Type 0) (image heads : List ℕ) → length heads ≡ class_count
    → ((class : ℕ) → class < class_count → slice_index heads class ≡ 0) → AreLists P image heads
no_lists P image heads len none = record { count = len; lists = λ class below. record { count = 0; chain = none _ below; each = tt } }

pub new_lists : (P : ℕ → Type 0) (image : List ℕ) → AreLists P image (replicate class_count 0)
new_lists P image = no_lists P _ _ refl (λ class below. get_or-replicate class_count class 0 0 below)

-- the head of a list, and the others
pub record IsHead (image heads : List ℕ) (class at : ℕ) : Type 0 where
  pub free : IsFreeOf image class at
  pub count : ℕ
  pub rest : Chain image class count (second_of image at)

pub head_free : {image heads : List ℕ} (class : ℕ) → HasLists image heads → class < class_count
    → 0 < slice_index heads class → IsHead image heads class (slice_index heads class)
head_free {image} {heads} class a below some = by_count _ (a.lists class below).chain where
  by_count : (n : ℕ) → Chain image class n (slice_index heads class)
      → IsHead image heads class (slice_index heads class)
  by_count zero c = absurd (omega arith)
  by_count (suc n) c = record { free = c.0; count = n; rest = c.1 }

-- the lists, one by its own proof
pub one_and_others : (P : ℕ → Type 0) (image heads : List ℕ) (class : ℕ)
    → length heads ≡ class_count → IsList P image class (slice_index heads class)
    → ((k : ℕ) → k < class_count → k ≢ class → IsList P image k (slice_index heads k))
    → AreLists P image heads
one_and_others P image heads class count here others = record {
  count = count;
  lists = λ k low. elim (cases_eq k class) [ inl same ↦ subst (λ j. IsList P image j (slice_index heads j)) (sym same) here | inr apart ↦ others k low apart ];
}

-- and with another head
changed_list : (P : ℕ → Type 0) (image heads : List ℕ) (class to : ℕ) → length heads ≡ class_count → class < class_count → IsList P image class to → ((k : ℕ) → k < class_count → k ≢ class → IsList P image k (slice_index heads k)) → AreLists P image (set heads class to)
changed_list P image heads class to count below here others =
    one_and_others P _ _ _ (length-set heads class to ∙ count) (rw (← (get_or-set_same heads class to 0 (omega arith))) at here)
    (λ k low apart. rw (← (get_or-set_other heads class k to 0 apart)) at (others k low apart))

-- without its head a list is one of the others
pub popped : {image heads : List ℕ} (class : ℕ) {at : ℕ} → HasLists image heads → class < class_count → at ≡ slice_index heads class → 0 < at → AreLists (ButAt at) image (set heads class (second_of image at))
popped {image} {heads} class {at} a below is some = changed_list _ _ _ _ _ a.count below rest other where
  head : IsHead image heads class at
  head = rw (← is) at (head_free class a below (rw is at some))

  rest : IsList (ButAt at) image class (second_of image at)
  rest = record { count = head.count; chain = head.rest; each = chain_apart _ _ _ (suc head.count) (second_of image at) at head.rest (head.free, head.rest) (omega arith) }

  other : (k : ℕ) → k < class_count → k ≢ class → IsList (ButAt at) image k (slice_index heads k)
  other k low apart =
      let l = a.lists k low in record {
        count = l.count;
        chain = l.chain;
        each = chain_each (ButAt at) image k l.count (slice_index heads k)
            (λ x f e. one_class f.of_class (rw (← e) at head.free.of_class) apart) l.chain;
      }

-- a free chunk that is in none of the lists in front of one
pub pushed : (P : ℕ → Type 0) {image heads : List ℕ} {class at : ℕ} → AreLists P image heads → class < class_count → IsFreeOf image class at → P at → second_of image at ≡ slice_index heads class → AreLists P image (set heads class at)
pushed P {image} {class} {at} a below free holds next = changed_list P _ _ _ at a.count below longer (λ k low apart. a.lists k low) where
  longer : IsList P image class at
  longer =
      let l = a.lists class below in
      record { count = suc l.count; chain = (free, rw (← next) at l.chain); each = (holds, rw (← next) at l.each) }

-- so after the push
pub push_lists : (P Q : ℕ → Type 0) {old new heads after : List ℕ} {at : ℕ} → AreLists P old heads → ((x : ℕ) → BeginsFree old x → P x → Q x × (x ≢ at)) → Q at → Pushes old new heads after at → AreLists Q new after
push_lists P Q {old} {new} {heads} {at} a each here p =
    let both = lists_weaker P (λ x. Q x × (x ≢ at)) old heads each a in
    let kept = lists_kept (λ x. Q x × (x ≢ at)) old new _ (λ x q b. p.links.keeps x q.1 b) both in
    let q = lists_weaker (λ x. Q x × (x ≢ at)) Q new heads (λ x b q. q.0) kept in
    subst (λ hs. AreLists Q new hs) (sym p.is_head) (pushed Q q p.below p.free here p.links.second)
