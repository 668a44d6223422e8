-- The entry that was read is the one at the index, of the database's kind.
use Rattle.palm_store.proofs.Words.{arith, rules, entry_of}
use Rattle.palm_store.proofs.EntriesHere.{count_fits, header_inside, entry_inside, read_is, kind_is, fits_at}
use Rattle.palm_store.proofs.entries.reading.read_entry.Goals as goal

pub overflow_cast-index : goal.overflow_cast-index
overflow_cast-index c =
    omega (arith, count_fits _ _ c.requires.accepted c.requires.opened.number, c.requires.inside)

pub read-requires : goal.read-requires
read-requires c =
    let r = c.requires in
    let has = r.opened.number in
    let header = c.header_in.ensures.is in record {
      header = header_inside _ _ _ r.accepted has header;
      inside = entry_inside _ _ _ _ r.accepted has header r.inside;
    }

pub returns : goal.returns
returns c =
    let r = c.requires in
    let has = r.opened.number in
    let header = c.header_in.ensures.is in
    let is = read_is _ _ _ _ (entry_of c.read.result) has header r.inside c.read.ensures.is in
    let kind = kind_is _ _ _ _ header c.read.ensures.kind in
    record { is = is; kind = kind; id = search rules; fits = fits_at _ _ _ _ _ r.accepted has is kind }
