-- A free chunk is taken out of its list, wherever it stands there.
use Rattle.heap_place.proofs.Words.{◌≡◌, ◌≢◌, ℕ, zero, suc, ◌+◌, ◌<◌, List, refl, sym, subst, ◌∙◌, arith, slice_index, u32_at, size_field, BeginsFree, class_count, IsOfClass, IsFreeOf, second_of, Chain, OnChain, IsList, AreLists, HasLists, Any, ButAt, KeepsOne, KeepsFree, Links, Walked, Looking}
use Rattle.heap_place.proofs.ListLaws.{one_class, one_length, chain_apart, chain_each, chain_kept, each_kept, weaker, free_kept, one_and_others}

-- ---- a walk along a list

pub walk_more : (P : ℕ → Type 0) {image : List ℕ} {class : ℕ} (n : ℕ) {from here : ℕ} → Walked P image class n from here → IsFreeOf image class here → P here → Walked P image class (suc n) from (second_of image here)
walk_more P {image} {class} zero {here} w f p = subst (λ x. Walked P image class 1 x (second_of image here)) (sym w) (f, p, refl)
walk_more P (suc n) w f p = (w.0, w.1, walk_more P n w.2 f p)

pub walk_chain : (P : ℕ → Type 0) {image : List ℕ} {class : ℕ} (n m : ℕ) {from : ℕ} (here : ℕ) → Walked P image class n from here → Chain image class m here → OnChain P image m here → IsList P image class from
walk_chain P {image} {class} zero m here w c on = subst (λ x. IsList P image class x) (sym w) record { count = m; chain = c; each = on }
walk_chain P (suc n) m here w c on =
    let l = walk_chain P n m here w.2 c on in
    record { count = suc l.count; chain = (w.0, l.chain); each = (w.1, l.each) }

walk_length : (P : ℕ → Type 0) (image : List ℕ) (class n m from here : ℕ)
    → Walked P image class n from here → Chain image class m here → Chain image class (n + m) from
walk_length P image class zero m from here w c = rw (let e : m ≡ 0 + m = omega arith in e) at (rw (← w) at c)
walk_length P image class (suc n) m from here w c =
    let next : suc (n + m) ≡ suc n + m = omega arith in
    subst (λ k. Chain image class k from) next (w.0, walk_length P _ _ n m _ here w.2 c)

-- the chunks of a walk are others than the one to which it leads, and stay with what keeps those
walk_kept : {old new : List ℕ} {class : ℕ} (n m from : ℕ) {here : ℕ} (at : ℕ) → KeepsFree (ButAt here) old new → ((x : ℕ) → IsFreeOf old class x → KeepsOne old new x → IsFreeOf new class x) → Walked (ButAt at) old class n from here → Chain old class m here → Walked (ButAt at) new class n from here
walk_kept zero m from at keeps free w c = w
walk_kept {old} {new} {class} (suc n) m from {here} at keeps free w c =
    let other : from ≢ here =
    λ same. let e = one_length old _ _ m here (rw same at (walk_length (ButAt at) old class (suc n) m from here w c)) c in omega arith in
    let k = keeps from other w.0.begins in
    (free from w.0 k, w.1, rw (← k.second) at (walk_kept n m _ at keeps free w.2 c))

-- ---- the chunk is found

-- its list, once the second word of the one in front of it leads past it
pub spliced : {old new : List ℕ} {class : ℕ} (n m : ℕ) {head here at : ℕ} → Walked (ButAt at) old class n head here → here ≢ at → Chain old class (suc (suc m)) here → second_of old here ≡ at → BeginsFree new here → u32_at new here ≡ u32_at old here → KeepsFree (ButAt here) old new
    → second_of new here ≡ second_of old at → IsList (ButAt at) new class head
spliced {old} {new} {class} n m {head} {here} {at} w other c next begins first keeps second =
    let at_chain = subst (λ x. Chain old class (suc m) x) next c.1 in
    let rest : Chain old class m (second_of old at) = at_chain.1 in
    let not_here = chain_apart old _ m (suc (suc m)) (second_of old at) here rest c (omega arith) in
    let not_at = chain_apart old class m (suc m) _ at rest at_chain (omega arith) in
    let rest_now = chain_kept (ButAt here) class m (second_of old at) keeps rest not_here in
    let both = pair m _ not_here not_at in
    let both_now = each_kept (λ x. (x ≢ here) × (x ≢ at)) old new _ m _ (λ x p b. keeps x p.0 b) rest both in
    let on_now = weaker (λ x. (x ≢ here) × (x ≢ at)) _ new _ m _ (λ x f p. p.1) rest_now both_now in
    let here_now : IsFreeOf new class here = record { begins = begins; of_class = rw (← first) at c.0.of_class; positive = c.0.positive } in
    walk_chain (ButAt at) n (suc m) here (walk_kept n (suc (suc m)) head at keeps (λ x f k. free_kept f k) w c) (here_now, rw (← second) at rest_now) (other, rw (← second) at on_now) where
      pair : (k x : ℕ) → OnChain (ButAt here) old k x → OnChain (ButAt at) old k x
          → OnChain (λ y. (y ≢ here) × (y ≢ at)) old k x
      pair zero x a b = tt
      pair (suc k) x a b = ((a.0, b.0), pair k (second_of old x) a.1 b.1)

-- the other lists hold neither
other_list : {old new : List ℕ} {class k : ℕ} (here at : ℕ) {head : ℕ} → k ≢ class → IsOfClass class (size_field (u32_at old here)) → IsOfClass class (size_field (u32_at old at)) → KeepsFree (ButAt here) old new → IsList Any old k head → IsList (ButAt at) new k head
other_list {old} {new} {class} {k} here at {head} apart here_is at_is keeps l =
    let not : (y : ℕ) → IsOfClass class (size_field (u32_at old y)) → OnChain (ButAt y) old l.count head =
    λ y y_is. chain_each _ old k _ head (λ x f e. one_class f.of_class (rw (← e) at y_is) apart) l.chain in
    let both =
    chain_each (λ x. (x ≢ here) × (x ≢ at)) old k l.count head (λ x f. (
      λ e. one_class f.of_class (rw (← e) at here_is) apart,
      λ e. one_class f.of_class (rw (← e) at at_is) apart,
    )) l.chain in
    let chain_now = chain_kept (ButAt here) k l.count head keeps l.chain (not here here_is) in
    let both_now = each_kept (λ x. (x ≢ here) × (x ≢ at)) old new k _ head (λ x p b. keeps x p.0 b) l.chain both in
    record { count = l.count; chain = chain_now; each = weaker (λ x. (x ≢ here) × (x ≢ at)) _ new k _ head (λ x f p. p.1) chain_now both_now }

record Two (image : List ℕ) (class here : ℕ) : Type 0 where
  more : ℕ
  chain : Chain image class (suc (suc more)) here

two_there : (image : List ℕ) (class left : ℕ) {here at : ℕ} → Chain image class left here → here ≢ 0
    → second_of image here ≡ at → 0 < at → Two image class here
two_there image class zero c some next positive = absurd (some c)
two_there image class (suc zero) c some next positive = absurd (omega arith)
two_there image class (suc (suc n)) c some next positive = record { more = n; chain = c }

pub splice_lists : {old new heads : List ℕ} {class here at word : ℕ} → HasLists old heads → class < class_count → Looking old heads class here at → 0 < at → second_of old here ≡ at → here ≢ 0 → Links old new here word → BeginsFree new here → word ≡ second_of old at → AreLists (ButAt at) new heads
splice_lists {old} {new} {class} {here} {at} a below s positive next some l now is = one_and_others _ new _ _ a.count
    (spliced _ _ s.walked s.other two.chain next now (l.firsts here two.chain.0.begins) l.keeps (l.second ∙ is))
    (λ k low apart. other_list here at apart two.chain.0.of_class (rw next at two.chain.1.0.of_class) l.keeps (a.lists k low)) where
      two : Two old class here
      two = two_there old class s.left s.rest some next positive

-- ---- the chunk is not there

pub not_listed : (image heads : List ℕ) (class at : ℕ) → HasLists image heads → class < class_count → Looking image heads class 0 at → IsOfClass class (size_field (u32_at image at)) → AreLists (ButAt at) image heads
not_listed image heads class at a below s at_is = one_and_others _ _ _ _ a.count (walk_chain _ _ 0 0 s.walked refl tt) others where
  others : (k : ℕ) → k < class_count → k ≢ class → IsList (ButAt at) image k (slice_index heads k)
  others k low apart =
      let l = a.lists k low in record {
        count = l.count;
        chain = l.chain;
        each = chain_each _ _ k _ _ (λ x f e. one_class f.of_class (rw (← e) at at_is) apart) l.chain;
      }

-- ---- the search

pub look_more : {image heads : List ℕ} {class here at : ℕ} → Looking image heads class here at
    → here ≢ 0 → second_of image here ≢ at → Looking image heads class (second_of image here) at
look_more {image} {heads} {class} {here} {at} s some other = by_left s.left s.rest where
  by_left : (n : ℕ) → Chain image class n here → Looking image heads class (second_of image here) at
  by_left zero c = absurd (some c)
  by_left (suc n) c = record { steps = suc s.steps; walked = walk_more (ButAt at) s.steps s.walked c.0 s.other; other = other; left = n; rest = c.1 }

-- the one to which it has come
pub looked_free : {image heads : List ℕ} {class here at : ℕ} → Looking image heads class here at
    → here ≢ 0 → IsFreeOf image class here
looked_free {image} {class} {here} s some = by_left s.left s.rest where
  by_left : (n : ℕ) → Chain image class n here → IsFreeOf image class here
  by_left zero c = absurd (some c)
  by_left (suc n) c = c.0
