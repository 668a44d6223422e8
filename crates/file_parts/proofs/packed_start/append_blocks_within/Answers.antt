-- `append_blocks_within` appends the blocks, up to `most` bytes in all.
use Rattle.file_parts.proofs.AllLaws.{◌≡◌, ◌+◌, ◌<◌, ◌≤◌, ◌++◌, ℕ, List, length, take, sym, ap, ◌∙◌, arith, append-nil, append_assoc, take_all, data_in, block_bytes, database_listed, filled, part_at, blocks_on, block_here, blocks_end, length-take_most, take_front}
use Rattle.file_parts.proofs.packed_start.append_blocks_within.Goals as goal

pub loop-rank-preserved : goal.loop-rank-preserved
loop-rank-preserved g c =
    let listed = c.args.listed.now in
    let parts = c.args.parts.now in
    let most = c.args.most in
    let rank = c.loop-rank.rank in
    let count = c.requires.parts.count in
    let below : rank < length (data_in (database_listed listed)) = omega arith in
    let part : List ℕ = c.part_bytes.result.now in
    let old : List ℕ = c.loop-rank.bytes.items in
    let is = c.part_bytes.ensures
    ∙ ap (λ name. block_bytes (filled (part_at parts rank) name)) c.part.ensures in
    let here = block_here listed parts rank part below is in
    let new_is : c.append_within.new.bytes.items ≡ take most (old ++ part) =
    c.in_ok-append_within.ensures.items in
    let long = ap (λ (xs : List ℕ). length xs) new_is in
    let fits = length-take_most most (old ++ part) in
    record {
      text = ap (λ (xs : List ℕ). take most (xs ++ blocks_on listed parts (rank + 1))) new_is
          ∙ take_front most (old ++ part) (blocks_on listed parts (rank + 1))
          ∙ ap (take most) (append_assoc old part (blocks_on listed parts (rank + 1)))
          ∙ ap (λ (xs : List ℕ). take most (old ++ xs)) (sym here)
          ∙ c.loop-rank.invariant.text;
      room = omega (arith, long, fits);
    }

pub returns-clause-items : goal.returns-clause-items
returns-clause-items g c =
    let listed = c.args.listed.now in
    let parts = c.args.parts.now in
    let most = c.args.most in
    let old : List ℕ = c.loop-rank.bytes.items in
    let count = c.requires.parts.count in
    let past : length (data_in (database_listed listed)) ≤ c.loop-rank.rank = omega arith in
    sym (take_all most old c.loop-rank.invariant.room)
    ∙ ap (take most) (sym (append-nil old))
    ∙ ap (λ xs. take most (old ++ xs)) (sym (blocks_end listed parts c.loop-rank.rank past))
    ∙ c.loop-rank.invariant.text
