-- What is lent is no chunk of an owner, while that owner's chunks are made free.
use Rattle.heap_place.proofs.Words.{◌≡◌, ◌≢◌, ℕ, ◌+◌, ◌-◌, ◌≤◌, false, List, [], ◌∷◌, ◌++◌, refl, sym, ap, subst, ◌∙◌, arith, inl, inr, IsTrue, Memory, Lent, EachLent, IsAmong, Chunk, free, size_of, total, is_owned_by, HeapAccepted, AnyPlaced, area_start, chunks_of, Becomes, Alters, freed, LentHere, IsLentBody, LendsBodies, LendsOther, LendsNoneOf, true_or_false, AnyPlaced-parts, AnyPlaced-mid, any-layout, becomes_start, any_replaced, exchanges_parts, each_of, each_to, stays_here, apart, in_front, one, behind, named_not_free, Found, IsOne}
use Rattle.laws_heap.proofs.OwnedChunks.{named_owned}

-- the chunk at an offset is lent, and is another owner's
abbrev LentAside : ℕ → Lent → ℕ → Chunk → Type 0
LentAside owner lent at c = LentHere lent at c × (is_owned_by owner c ≡ false)

none_free : (owner : ℕ) (lent : Lent) (at size : ℕ) → LentAside owner lent at (free size) → ⊥
none_free owner lent at size h = h.0

owned_size : (owner : ℕ) (c : Chunk) → IsTrue (is_owned_by owner c) → 8 ≤ size_of c
owned_size owner (free size) own = absurd cc
owned_size owner c own = omega arith

lent_aside : (m : Memory) (owner : ℕ) (lent : Lent) → IsAmong lent m.lents → IsLentBody m.bytes lent → LendsNoneOf m owner → AnyPlaced (LentAside owner lent) (area_start m.bytes) (chunks_of m.bytes)
lent_aside m owner lent is x none =
    let start : ℕ = area_start m.bytes in
    let p = AnyPlaced-parts (LentHere lent) start (chunks_of m.bytes) x in
    let there = (stays_here lent (start + total p.before) p.chunk p.holds).there in
    let not_own : is_owned_by owner p.chunk ≡ false = elim (true_or_false _) [
      | inl own ↦
          let other = each_of (λ z. z.at ≢ area_start m.bytes + total _ + 8) lent _ (none _ p.chunk p.after p.parts own) is in
          absurd (other there)
      | inr away ↦ away
    ] in
    subst (λ cs. AnyPlaced (LentAside owner lent) start cs) (sym p.parts) (AnyPlaced-mid _ _ _ _ _ (p.holds, not_own))

aside_other : (image : List ℕ) (owner : ℕ) (lent : Lent) → AnyPlaced (LentAside owner lent) (area_start image) (chunks_of image) → (b : List Chunk) (c : Chunk) (a : List Chunk) → chunks_of image ≡ b ++ c ∷ a → IsTrue (is_owned_by owner c) → lent.at ≢ area_start image + total b + 8
aside_other image owner lent x b c a e own = λ same.
    let p = AnyPlaced-parts (LentAside owner lent) (area_start image) (chunks_of image) x in
    let s = stays_here lent (area_start image + total p.before) p.chunk p.holds.0 in
    let size = owned_size owner c own in
    elim (apart b c a p.before p.chunk p.after (sym e ∙ p.parts)) [
      | in_front k ↦ omega arith
      | one t is ↦ let twice = sym own ∙ ap (is_owned_by owner) is ∙ p.holds.1 in absurd cc
      | behind k ↦ omega arith
    ]

-- one that is found is not lent
pub owned_not_lent : (m : Memory) {owner : ℕ} {found : Found} → LendsNoneOf m owner
    → (f : IsOne m.bytes found) → found.owner ≡ owner → LendsOther m found.place.0
owned_not_lent m {found} none f own =
    let e : area_start m.bytes + total f.finds.before + 8 ≡ found.place.0 = omega arith in
    subst (λ n. LendsOther m n) e (none _ f.chunk f.finds.after f.finds.chunks (named_owned _ _ _ _ _ f.finds.named (sym f.owner_is ∙ own)))

-- and once it is free, still none of the others is
pub freed_none_lent : (old new : Memory) (owner : ℕ) {found : Found} → HeapAccepted old.bytes → LendsBodies old → LendsNoneOf old owner → new.lents ≡ old.lents → (f : IsOne old.bytes found) → LendsOther old found.place.0 → Alters old.bytes new.bytes (found.place.0 - 8) freed → LendsNoneOf new owner
freed_none_lent old new owner {found} h l none same f other x = λ b c a e own.
    subst (λ y. EachLent (λ z. z.at ≢ area_start new.bytes + total b + 8) y) (sym same)
    (each_to (IsLentBody old.bytes) (λ z. z.at ≢ area_start new.bytes + total b + 8) old.lents l
    (λ lent is y. aside_other _ _ lent (still lent (each_of (λ z. z.at ≢ found.place.0) lent _ other is) (lent_aside old _ lent is y none)) b c a e own)) where
      start : ℕ
      start = area_start old.bytes

      becomes : Becomes old.bytes new.bytes (f.finds.before ++ ((freed f.chunk ∷ []) ++ f.finds.after))
      becomes = (exchanges_parts _ _ _ (λ c. freed c ∷ []) _ _ _ h (named_not_free _ _ _ _ f.finds.named) f.finds.chunks f.finds.there).0 x

      still : (lent : Lent) → lent.at ≢ found.place.0 → AnyPlaced (LentAside owner lent) start (chunks_of old.bytes) → AnyPlaced (LentAside owner lent) (area_start new.bytes) (chunks_of new.bytes)
      still lent o y =
          let parts = rw f.finds.chunks at y in
          let replaced =
          any_replaced _ start f.finds.before (f.chunk ∷ []) (freed f.chunk ∷ []) f.finds.after refl
          (λ (z : AnyPlaced (LentAside owner lent) (area_start old.bytes + total f.finds.before) (f.chunk ∷ [])). elim z [
            | inl here ↦ let at_is = (stays_here lent _ _ here.0).there in absurd (o (omega arith))
            | inr no_more ↦ absurd no_more
          ]) parts in
          subst (λ n. AnyPlaced (LentAside owner lent) n (chunks_of new.bytes)) (sym (becomes_start _ _ (f.finds.before ++ ((freed f.chunk ∷ []) ++ f.finds.after)) becomes))
          (any-layout (LentAside owner lent) (none_free owner lent) start (f.finds.before ++ ((freed f.chunk ∷ []) ++ f.finds.after)) (chunks_of new.bytes) (sym becomes.layout) replaced)
