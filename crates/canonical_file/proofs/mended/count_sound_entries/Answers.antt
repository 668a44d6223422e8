-- `count_sound_entries` returns the number of the sound entries, by the laws of WholeEntries and
-- SoundEntries.
use Rattle.std.proofs.Common.{◌≡◌, ◌∙◌, ℕ, ◌<◌, arith}
use Rattle.db_format.specs.EitherEntry.{entry_of}
use Rattle.canonical_file.proofs.WholeEntries.{whole_entry}
use Rattle.canonical_file.proofs.SoundEntries.{count_all, count_more, count_stays}
use Rattle.canonical_file.proofs.mended.count_sound_entries.Goals as goal
use Rattle.canonical_file.proofs.mended.count_sound_entries.Goals.{then-is_sound_entry, else-is_sound_entry}

pub read-requires-clause-inside : goal.read-requires-clause-inside
read-requires-clause-inside c =
    whole_entry c.args.file.now c.loop-index.index c.requires
    (rw c.whole_entries-index-end.ensures.is at c.loop-index-test.true)

pub loop-index-preserved : goal.loop-index-preserved
loop-index-preserved c = elim c.if-is_sound_entry.branch [
  | then-is_sound_entry w ↦ record {
    same = w.count-is
        ∙ count_more c.args.file.now c.loop-index.index c.loop-index.count (entry_of c.read.result)
        c.is_sound_entry.result c.loop-index.invariant.same c.read.ensures.is
        c.is_sound_entry.ensures w.if-is_sound_entry.true;
    few = (let is = w.count-is in let few = c.loop-index.invariant.few in omega arith);
  }
  | else-is_sound_entry w ↦ record {
    same = w.count-is
        ∙ count_stays c.args.file.now c.loop-index.index c.loop-index.count (entry_of c.read.result)
        c.is_sound_entry.result c.loop-index.invariant.same c.read.ensures.is
        c.is_sound_entry.ensures w.if-is_sound_entry.false;
    few = (let is = w.count-is in let few = c.loop-index.invariant.few in omega arith);
  }
]

pub returns : goal.returns
returns c =
    let past = c.loop-index-test.false in
    let all : c.loop-index.index ≡ c.whole_entries-index-end.result = omega arith in
    count_all c.args.file.now c.loop-index.index c.loop-index.count c.loop-index.invariant.same
    (all ∙ c.whole_entries-index-end.ensures.is)
