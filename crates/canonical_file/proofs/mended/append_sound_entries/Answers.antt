-- `append_sound_entries` appends the sound entries to a vector that has room for them, by the laws
-- of WholeEntries and SoundEntries.
use Rattle.std.proofs.Common.{◌≡◌, ◌∙◌, ◌<◌, ◌+◌, ◌++◌, ℕ, List, length, ap, sym, arith}
use Rattle.db_format.specs.EitherEntry.{entry_of}
use Rattle.canonical_file.specs.Salvage.{whole_entries}
use Rattle.canonical_file.proofs.WholeEntries.{whole_entry}
use Rattle.canonical_file.proofs.SoundEntries.{bytes_all, bytes_more, bytes_stay, front_fits, long_more, text_more}
use Rattle.canonical_file.proofs.mended.append_sound_entries.Goals as goal
use Rattle.canonical_file.proofs.mended.append_sound_entries.Goals.{then-is_sound_entry, else-is_sound_entry}

pub read-entry-requires-clause-inside : goal.read-entry-requires-clause-inside
read-entry-requires-clause-inside c =
    whole_entry c.args.file.now c.loop-index.index c.requires.header
    (rw c.whole_entries-index-end.ensures.is at c.loop-index-test.true)

pub append-requires : goal.append-requires
append-requires c =
    let file = c.args.file.now in
    let index = c.loop-index.index in
    let more = bytes_more file index (entry_of c.read-entry.result) c.is_sound_entry.result
    c.as_slice.result.now c.read-entry.ensures.is c.is_sound_entry.ensures c.if-is_sound_entry.true
    (c.as_slice.ensures ∙ c.to_bytes.ensures.is) in
    let long = long_more file c.as_slice.result.now index more in
    let below : index < whole_entries file =
    rw c.whole_entries-index-end.ensures.is at c.loop-index-test.true in
    let fits = front_fits file (index + 1) (omega arith) in
    let len = c.loop-index.invariant.len in
    let capacity = c.loop-index.invariant.capacity in
    let room = c.requires.room in
    omega arith

pub loop-index-preserved : goal.loop-index-preserved
loop-index-preserved c = elim c.if-is_sound_entry.branch [
  | then-is_sound_entry w ↦ rw (w.bytes-is) (
      let file = c.args.file.now in
      let index = c.loop-index.index in
      let more = bytes_more file index (entry_of c.read-entry.result) c.is_sound_entry.result
      w.as_slice.result.now c.read-entry.ensures.is c.is_sound_entry.ensures
      w.if-is_sound_entry.true (w.as_slice.ensures ∙ w.to_bytes.ensures.is) in
      let long = long_more file w.as_slice.result.now index more in
      let len = c.loop-index.invariant.len in
      let added = w.append.ensures.len in
      let capacity = c.loop-index.invariant.capacity in
      let kept = w.append.ensures.capacity in
      record {
        text = text_more file c.args.bytes.now.items c.loop-index.bytes.items
            w.append.new.bytes.items w.as_slice.result.now index c.loop-index.invariant.text
            w.append.ensures.items more;
        len = omega arith;
        capacity = omega arith;
      })
  | else-is_sound_entry w ↦ rw (w.bytes-is) (
      let file = c.args.file.now in
      let index = c.loop-index.index in
      let stays = bytes_stay file index (entry_of c.read-entry.result) c.is_sound_entry.result
      c.read-entry.ensures.is c.is_sound_entry.ensures w.if-is_sound_entry.false in
      let same = ap length stays in
      let len = c.loop-index.invariant.len in
      record {
        text = c.loop-index.invariant.text
            ∙ ap (λ (xs : List ℕ). c.args.bytes.now.items ++ xs) (sym stays);
        len = omega arith;
        capacity = c.loop-index.invariant.capacity;
      })
]

pub returns-clause-items : goal.returns-clause-items
returns-clause-items c =
    let past = c.loop-index-test.false in
    let all : c.loop-index.index ≡ c.whole_entries-index-end.result = omega arith in
    c.loop-index.invariant.text
    ∙ ap (λ (xs : List ℕ). c.args.bytes.now.items ++ xs)
    (bytes_all c.args.file.now c.loop-index.index (all ∙ c.whole_entries-index-end.ensures.is))

pub returns-clause-len : goal.returns-clause-len
returns-clause-len c =
    let past = c.loop-index-test.false in
    let all : c.loop-index.index ≡ c.whole_entries-index-end.result = omega arith in
    let same = ap length
    (bytes_all c.args.file.now c.loop-index.index (all ∙ c.whole_entries-index-end.ensures.is)) in
    let len = c.loop-index.invariant.len in
    omega arith
