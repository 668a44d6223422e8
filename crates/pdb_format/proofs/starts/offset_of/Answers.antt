-- `offset_of` returns the offset of the block of a rank, by the laws of GoodFiles.
use Rattle.std.proofs.Common.{◌≡◌, ◌-◌, ◌<◌, ◌≤◌, ℕ, suc, sym, ap, ◌∙◌, arith, rules, get_or}
use Rattle.heap_model.specs.Database.{entry_count_in}
use Rattle.heap_model.specs.Files.{offsets_in}
use Rattle.pdb_format.proofs.GoodFiles.{offset_count, app_offset, sort_offset, entry_offset_is}
use Rattle.pdb_format.proofs.starts.offset_of.Goals as goal

pub entry_slot-requires-clause-inside : goal.entry_slot-requires-clause-inside
entry_slot-requires-clause-inside g c =
    let count = offset_count (g.B.FileBytes.bytes c.args.file.now) in
    let inside = c.requires.inside in
    let two : 2 ≤ c.args.rank = search rules in
    omega arith

pub returns-in-0 : goal.returns-in-0
returns-in-0 g c =
    c.app_info.ensures ∙ sym (app_offset (g.B.FileBytes.bytes c.args.file.now))
    ∙ ap (λ (rank : ℕ). get_or (offsets_in (g.B.FileBytes.bytes c.args.file.now)) rank 0)
    (sym c.in-0.is)

pub returns-in-1 : goal.returns-in-1
returns-in-1 g c =
    c.sort_info.ensures ∙ sym (sort_offset (g.B.FileBytes.bytes c.args.file.now))
    ∙ ap (λ (rank : ℕ). get_or (offsets_in (g.B.FileBytes.bytes c.args.file.now)) rank 0)
    (sym c.in-1.is)

pub returns-in_default : goal.returns-in_default
returns-in_default g c =
    let count = offset_count (g.B.FileBytes.bytes c.args.file.now) in
    let inside = c.requires.inside in
    let two : 2 ≤ c.args.rank = search rules in
    let less : c.args.rank - 2 < entry_count_in (g.B.FileBytes.bytes c.args.file.now) =
    omega arith in
    let rank_is : suc (suc (c.args.rank - 2)) ≡ c.args.rank = omega arith in
    c.entry_slot.ensures
    ∙ sym (entry_offset_is (g.B.FileBytes.bytes c.args.file.now) (c.args.rank - 2) less)
    ∙ ap (λ (rank : ℕ). get_or (offsets_in (g.B.FileBytes.bytes c.args.file.now)) rank 0) rank_is
