-- What bytes with holes are once some of them are written.
use Rattle.std.proofs.Common.{◌≡◌, ℕ, ◌+◌, ◌-◌, ◌≤◌, List, [], ◌++◌, length, take, drop, replicate, slice_range, refl, sym, ap, ◌∙◌, arith, length-take, length-drop, length-append}
use Rattle.std.proofs.lemmas.List.{take_all, drop_all, append-nil, length-replicate}
use Rattle.core.specs.List.{refill}
use Rattle.heap_model.specs.Bytes.{overwritten, u16_bytes, u32_bytes}
use Rattle.raw_region.specs.declared.gapped.Gapped.{Gapped}
use Rattle.raw_region.specs.Lends.{with_part}
use Rattle.byteorder.specs.Endian.{big_bytes}
use Rattle.raw_region.specs.ByteChanges.{changed_every}
use Rattle.raw_region.proofs.ChangeLaws.{length-changed_every}
use Rattle.raw_region.proofs.PartLaws.{overwritten_by_part, part-written, slid_in_part}

-- as many bytes take the place of all
pub refill_all : (n : ℕ) (old new : List ℕ) → length new ≡ n → length old ≡ n → refill n old new ≡ new
refill_all n old new many same =
    let rest : drop (length new) old ≡ [] = drop_all (length new) old (omega (arith, many, same)) in
    ap (λ (l : List ℕ). take n (new ++ l)) rest ∙ ap (λ (l : List ℕ). take n l) (append-nil new) ∙ take_all n new (omega (arith, many))

pub length-over : (old part : List ℕ) (at : ℕ) → at + length part ≤ length old → length (overwritten old at part) ≡ length old
unfolding overwritten
length-over old part at within =
    let a = length-append (take at old) part in
    let b = length-append (take at old ++ part) (drop (at + length part) old) in
    let c = length-take at old in
    let d = length-drop (at + length part) old in
    omega (arith, a, b, c, d)

pub written_is : (g : Gapped) (at : ℕ) (bytes : List ℕ) → at + length bytes ≤ g.len → (with_part g at bytes).bytes ≡ overwritten g.bytes at bytes
written_is g at bytes fits =
    let ok = g.ok.0 in
    refill_all g.len g.bytes (overwritten g.bytes at bytes) (length-over g.bytes bytes at (omega (arith, ok, fits)) ∙ sym ok) (sym ok)

-- what a part becomes is what it was lent to become
pub part_written : (g : Gapped) (at n : ℕ) (new part : List ℕ) → at + n ≤ g.len → length part ≡ n → new ≡ part
    → (with_part g at new).bytes ≡ overwritten g.bytes at part
part_written g at n new part inside many is =
    ap (λ (l : List ℕ). (with_part g at l).bytes) is ∙ written_is g at part (omega (arith, many, inside))

-- the bytes of a part are as many
pub length-part_of : (g : Gapped) (at n : ℕ) → at + n ≤ g.len → length (slice_range g.bytes at (at + n)) ≡ n
length-part_of g at n inside =
    let ok = g.ok.0 in
    let d = length-drop at g.bytes in
    let t = length-take (at + n - at) (drop at g.bytes) in
    omega (arith, ok, inside, d, t)

-- ---- the writes of each kind

pub copied : (g : Gapped) (at : ℕ) (new bytes : List ℕ) → at + length bytes ≤ g.len → new ≡ bytes
    → (with_part g at new).bytes ≡ overwritten g.bytes at bytes
copied g at new bytes inside is = part_written g at (length bytes) new bytes inside refl is

pub number_written : (g : Gapped) (at n : ℕ) (new number : List ℕ) → at + n ≤ g.len → length number ≡ n
    → new ≡ number ++ drop n (slice_range g.bytes at (at + n)) → (with_part g at new).bytes ≡ overwritten g.bytes at number
number_written g at n new number inside many is =
    let fits : at + n ≤ length g.bytes = omega (arith, g.ok.0, inside) in
    part_written g at n new number inside many (is ∙ part-written g.bytes number at n fits)

pub u16_written : (g : Gapped) (at n : ℕ) (new : List ℕ) → at + 2 ≤ g.len
    → new ≡ big_bytes 2 n ++ drop 2 (slice_range g.bytes at (at + 2)) → (with_part g at new).bytes ≡ overwritten g.bytes at (u16_bytes n)
unfolding u16_bytes
u16_written g at n new inside is = number_written g at 2 new (big_bytes 2 n) inside refl is

pub u32_written : (g : Gapped) (at n : ℕ) (new : List ℕ) → at + 4 ≤ g.len
    → new ≡ big_bytes 4 n ++ drop 4 (slice_range g.bytes at (at + 4)) → (with_part g at new).bytes ≡ overwritten g.bytes at (u32_bytes n)
unfolding u32_bytes
u32_written g at n new inside is = number_written g at 4 new (big_bytes 4 n) inside refl is

pub filled : (g : Gapped) (at n byte : ℕ) (new : List ℕ) → at + n ≤ g.len
    → new ≡ replicate (length (slice_range g.bytes at (at + n))) byte → (with_part g at new).bytes ≡ overwritten g.bytes at (replicate n byte)
filled g at n byte new inside is =
    part_written g at n new (replicate n byte) inside (length-replicate n byte) (is ∙ ap (λ (k : ℕ). replicate k byte) (length-part_of g at n inside))

pub all_changed : (g : Gapped) (at n skip step : ℕ) (change : ℕ → ℕ) (new : List ℕ) → at + n ≤ g.len
    → new ≡ changed_every change step skip (slice_range g.bytes at (at + n))
    → (with_part g at new).bytes ≡ overwritten g.bytes at (changed_every change step skip (slice_range g.bytes at (at + n)))
all_changed g at n skip step change new inside is =
    let part : List ℕ = slice_range g.bytes at (at + n) in
    part_written g at n new (changed_every change step skip part) inside (length-changed_every change step skip part ∙ length-part_of g at n inside) is

-- bytes that slid among those of a part
pub slid_among : (g : Gapped) (at count from to n : ℕ) (new : List ℕ) → at + count ≤ g.len → (at ≤ from) × (from + n ≤ at + count) → (at ≤ to) × (to + n ≤ at + count)
    → new ≡ overwritten (slice_range g.bytes at (at + count)) (to - at) (slice_range (slice_range g.bytes at (at + count)) (from - at) (from - at + n))
    → (with_part g at new).bytes ≡ overwritten g.bytes to (slice_range g.bytes from (from + n))
slid_among g at count from to n new inside source target is =
    let all : List ℕ = g.bytes in
    let low = from - at in let high = to - at in
    let from_low = source.0 in let from_end = source.1 in let to_low = target.0 in let to_end = target.1 in
    let fits : at + count ≤ length all = omega (arith, g.ok.0, inside) in
    let within : at + count - at ≡ count = omega arith in
    let few : low + n - low ≡ n = omega arith in
    let part : List ℕ = take count (drop at all) in
    let by : new ≡ overwritten part high (take n (drop low part)) =
    is ∙ (λ i. overwritten (take (within i) (drop at all)) high (take (few i) (drop low (take (within i) (drop at all))))) in
    let slid : take at all ++ (new ++ drop count (drop at all)) ≡ overwritten all (at + high) (take n (drop (at + low) all)) =
    slid_in_part all new at count low high n fits (omega (arith, from_low, from_end)) (omega (arith, to_low, to_end)) by in
    let moved : List ℕ = take n (drop low part) in
    let have : length part ≡ count = omega (arith, length-take count (drop at all), length-drop at all, fits) in
    let size : length moved ≡ n = omega (arith, length-take n (drop low part), length-drop low part, have, from_low, from_end) in
    let long : length new ≡ count = ap length by ∙ length-over part moved high (omega (arith, have, size, to_low, to_end)) ∙ have in
    let there : at + high ≡ to = omega (arith, to_low) in
    let here : at + low ≡ from = omega (arith, from_low) in
    let same : from + n - from ≡ n = omega arith in
    part_written g at count new new inside long refl
    ∙ sym (overwritten_by_part all at count new new refl (sym long))
    ∙ slid
    ∙ (λ i. overwritten all (there i) (take (sym same i) (drop (here i) all)))
