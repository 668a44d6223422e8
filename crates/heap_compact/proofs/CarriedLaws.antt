-- Bytes that move up spell the same chunks, carried. Bytes that move down spell the same live chunk.
use Rattle.heap_compact.proofs.Words.{◌≡◌, ℕ, ◌+◌, ◌-◌, ◌≤◌, List, [], ◌∷◌, length, take, drop, refl, sym, ap, subst, ◌∙◌, arith, u32_at, Chunk, free, movable, fixed, need, seen, size_of, total, IsLive, Spelled, SpelledAll, carried, all_carried, Carries, Carries-within, u32_at-carried, slice-carried, IsFree-carried, IsLive-carried, SpelledAll-end}

pub carried_size : (by : ℕ) (c : Chunk) → size_of (carried by c) ≡ size_of c
carried_size by (free size) = refl
carried_size by (movable bytes lock owner slot) = refl
carried_size by (fixed bytes owner) = refl

pub carried_total : (by : ℕ) (cs : List Chunk) → total (all_carried by cs) ≡ total cs
carried_total by [] = refl
carried_total by (c ∷ cs) = let size = carried_size by c in let rest = carried_total by cs in omega arith

pub Spelled-carried : {xs ys : List ℕ} {at by : ℕ} (c : Chunk) → Carries by at (at + size_of c) xs ys → at + by + size_of c ≤ length ys → Spelled xs at c → Spelled ys (at + by) (carried by c)
Spelled-carried (free size) carry inside s = IsFree-carried _ _ _ _ _ carry inside s
Spelled-carried {at} (movable bytes lock owner slot) carry inside s =
    (s.0, IsLive-carried _ _ _ _ _ _ _ _ carry inside s.1, s.2, s.3, omega arith)
Spelled-carried (fixed bytes owner) carry inside s = IsLive-carried _ _ _ _ _ _ _ _ carry inside s

-- moved up, the same bytes spell the same chunks, carried
pub SpelledAll-carried : {xs ys : List ℕ} (at : ℕ) {by : ℕ} (cs : List Chunk) {end : ℕ} → Carries by at end xs ys → end + by ≤ length ys → SpelledAll xs at cs end → SpelledAll ys (at + by) (all_carried by cs) (end + by)
SpelledAll-carried at {by} [] carry inside s = ap (λ (n : ℕ). n + by) s
SpelledAll-carried {xs} {ys} at {by} (c ∷ cs) {end} carry inside s =
    let e : end ≡ at + size_of c + total cs = SpelledAll-end xs (at + size_of c) cs end s.1 in
    let size = carried_size by c in
    let next : at + size_of c + by ≡ at + by + size_of (carried by c) = omega arith in (
      Spelled-carried c (Carries-within _ _ _ at _ _ _ carry (omega arith) (omega arith)) (omega arith) s.0,
      subst (λ (n : ℕ). SpelledAll ys n (all_carried by cs) (end + by)) next
          (SpelledAll-carried (at + size_of c) cs (Carries-within _ _ _ (at + size_of c) end _ _ carry (omega arith) (omega arith)) inside s.1),
    )

-- moved down, the bytes of a live chunk have the same header and body
pub IsLive-carried_down : {xs ys : List ℕ} {at by : ℕ} {bytes : List ℕ} {lock owner way : ℕ} → Carries by at (at + need (length bytes)) xs ys → at + need (length bytes) ≤ length xs → IsLive ys (at + by) bytes lock owner way → IsLive xs at bytes lock owner way
IsLive-carried_down {ys} {at} {by} {bytes} {lock} {owner} carry inside s =
    let first = u32_at-carried at by _ _ _ _ carry (omega arith) (omega arith) in
    let second = u32_at-carried (at + 4) by _ _ _ _ carry (omega arith) (omega arith) in
    let body = slice-carried _ _ by _ _ _ _ carry (omega arith) (omega arith) (omega arith) (omega arith) in
    let e : at + by + 4 ≡ at + 4 + by = omega arith in
    let f : at + by + 8 ≡ at + 8 + by = omega arith in record {
      first_word = sym first ∙ s.first_word;
      size_fits = s.size_fits;
      second_word = sym second ∙ sym (ap (u32_at ys) e) ∙ s.second_word;
      lock_fits = s.lock_fits;
      owner_fits = s.owner_fits;
      h_offset_fits = s.h_offset_fits;
      body = ap (seen lock owner) (sym body ∙ sym (ap (λ n. take (n + length bytes - n) (drop n ys)) f)) ∙ s.body;
      inside = inside;
    }
