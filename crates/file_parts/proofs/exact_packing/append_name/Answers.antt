-- `append_name` appends the name and the bytes after it, by the laws of ExactPacked.
use Rattle.file_parts.proofs.AllLaws.{◌≡◌, ◌-◌, ℕ, List, Option, length, drop, take, sym, ap, ◌∙◌, arith, option_map, replicate, drop-replicate, take-replicate, after_name_of, AfterName, appended_twice}
use Rattle.file_parts.proofs.exact_packing.append_name.Goals as goal

-- the zeros after a name of this length
zeros_left : (n : ℕ) → take {A = ℕ} (32 - n) (drop n (replicate 32 0)) ≡ replicate (32 - n) 0
zeros_left n = ap (take {A = ℕ} (32 - n)) (drop-replicate {X = ℕ} n 32 0)
    ∙ take-replicate {X = ℕ} (32 - n) (32 - n) 0 (omega arith)

pub returns-in-None-clause-items : goal.returns-in-None-clause-items
returns-in-None-clause-items g c =
    let name : List ℕ = c.args.exact.now.listed.header.name in
    let size : ℕ = length c.name-in-None.result.now in
    let said : Option AfterName → List ℕ =
    λ after. after_name_of name (option_map (λ (one : AfterName). one.bytes) after) in
    let after : said c.args.exact.now.lines.after_name ≡ replicate (32 - length name) 0 =
    ap said c.in-None.is in
    let zeros : take {A = ℕ} (32 - size) (drop size (replicate 32 0))
    ≡ replicate (32 - length name) 0 = zeros_left size
    ∙ ap (λ (xs : List ℕ). replicate (32 - length xs) 0) c.name-in-None.ensures.is in
    appended_twice c.append-in-None.result c.args.bytes.now.items _ c.append-in-None.new.bytes.items
    _ _ _ _ c.in_ok-append.ensures.items c.name.ensures.is
    (zeros ∙ sym after) c.append-in-None.ensures.items
