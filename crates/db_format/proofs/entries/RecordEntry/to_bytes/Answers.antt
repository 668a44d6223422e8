use Rattle.std.proofs.Common.{false, ℕ, ◌++◌, ◌∷◌, ap, ◌∙◌, arith}
use Rattle.heap_model.specs.Bytes.{u24_bytes, u32_bytes}
use Rattle.heap_model.specs.Database.{entry_bytes}
use Rattle.db_format.specs.Entries.{record_of}
use Rattle.db_format.proofs.EntryLaws.{entry_written}
use Rattle.db_format.proofs.WordLaws.{put_thrice}
use Rattle.db_format.proofs.entries.RecordEntry.to_bytes.Goals as goal

pub returns-clause-is : goal.returns-clause-is
unfolding entry_bytes
returns-clause-is c =
    put_thrice _ _ _ 4 5 8 _ _ _ c.put_u32.ensures.front c.put_u8.ensures.front c.put_u24.ensures.front (omega arith)
    ∙ ap (λ (attributes : ℕ). u32_bytes c.args.self.slot ++ (attributes ∷ u24_bytes c.args.self.id)) (c.bits.ensures tt)

pub returns-clause-written : goal.returns-clause-written
returns-clause-written c = let bits = c.bits.ensures tt in entry_written false (record_of c.args.self) _ (omega arith, omega arith, c.put_u32.ensures.small) (returns-clause-is c)
