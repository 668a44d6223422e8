-- A fixed chunk stands in for the chunk, gets its bytes, and takes its name once the chunk is free.
use Rattle.heap_compact.proofs.Laws.{◌≢◌, sym, ap, ◌∙◌, ℕ, ◌+◌, subst, arith, plain_then, SameFrame, Found, LendsOther, lists_kept, other_still, loose_other, spot_other, same_lents, stand_apart, relocated_found, slot_emptied, freed_keeps, owner_fits}
use Rattle.heap_compact.proofs.relocate.relocate_other.Goals.{After-stand_in_at-there, After-copy_bytes}
use Rattle.heap_compact.proofs.relocate.relocate_other.Goals as goal

-- the stand-in has another name than the chunk
apart : (c : After-stand_in_at-there) → c.args.found.name.0 ≢ c.stand_in_at-there.result.name.0
apart c e =
    stand_apart _ _ c.requires.heap.accepted c.requires.room c.requires.enough c.requires.found
    (e ∙ ap (λ (x : Found). x.name.0) c.stand_in_at-there.ensures.is)

-- neither of them is lent
other_from : (c : After-stand_in_at-there)
    → LendsOther c.stand_in_at-there.new.region c.args.found.place.0
other_from c =
    other_still c.args.region.now c.stand_in_at-there.new.region _ (same_lents c.stand_in_at-there.ensures.rest)
    (loose_other c.args.region.now c.args.found c.requires.heap.lent c.requires.found c.requires.unlocked)

other_to : (c : After-stand_in_at-there)
    → LendsOther c.stand_in_at-there.new.region c.stand_in_at-there.result.place.0
other_to c =
    let there = ap (λ (x : Found). x.place.0) c.stand_in_at-there.ensures.is in
    let spot = spot_other c.args.region.now _ _ c.requires.heap.lent c.requires.room (omega (arith, c.requires.enough)) in
    subst (λ (n : ℕ). LendsOther c.stand_in_at-there.new.region n) (sym there)
    (other_still c.args.region.now c.stand_in_at-there.new.region (c.args.room.at + 8) (same_lents c.stand_in_at-there.ensures.rest) spot)

-- the bytes are copied
copied : (c : After-copy_bytes)
    → SameFrame c.stand_in_at-there.new.region.bytes c.copy_bytes.new.region.bytes
copied c = (c.copy_bytes.ensures.copied (c.stand_in_at-there.ensures.others c.args.found c.requires.found)).frame

pub copy_bytes-requires : goal.copy_bytes-requires
copy_bytes-requires c =
    let x = (goal.at.copy_bytes-requires c).After-stand_in_at-there in
    let s = c.stand_in_at-there.ensures in
    record { heap = s.heap; from = s.others c.args.found c.requires.found; to = s.found; other_from = other_from x; other_to = other_to x; apart = apart x }

pub release_listed-requires : goal.release_listed-requires
release_listed-requires c =
    let frame = copied (goal.at.release_listed-requires c).After-copy_bytes in
    let k = c.copy_bytes.ensures in record {
      heap = k.heap;
      found = k.from;
      other = other_still c.stand_in_at-there.new.region c.copy_bytes.new.region _ k.out
          (other_from (goal.at.release_listed-requires c).After-stand_in_at-there);
      no_directory = λ e. c.requires.no_directory (e ∙ frame.directory ∙ (c.stand_in_at-there.ensures.made c.requires.room).frame.directory);
      lists = lists_kept _ _ _ _ k.keeps c.stand_in_at-there.ensures.lists;
    }

pub take_name-requires : goal.take_name-requires
take_name-requires c =
    let x = (goal.at.take_name-requires c).After-stand_in_at-there in
    let frame = copied (goal.at.take_name-requires c).After-copy_bytes in
    let k = c.copy_bytes.ensures in let gone = c.release_listed.ensures.gone in
    let emptied = slot_emptied c.release_listed.new.region.bytes c.args.found frame.accepted k.from c.requires.unlocked gone in
    record {
      heap = c.release_listed.ensures.heap;
      found = freed_keeps c.release_listed.new.region.bytes c.args.found c.stand_in_at-there.result frame.accepted k.from gone (λ e. apart x (sym e)) k.to;
      other = other_still c.copy_bytes.new.region c.release_listed.new.region _ (same_lents c.release_listed.ensures.rest)
          (other_still c.stand_in_at-there.new.region c.copy_bytes.new.region _ k.out (other_to x));
      fixed = ap (λ (f : Found). f.lock) c.stand_in_at-there.ensures.is;
      slot = emptied.0;
      empty = emptied.1;
      owner = owner_fits c.args.found c.requires.heap.accepted c.requires.found;
    }

pub returns-clause-moved : goal.returns-clause-moved
returns-clause-moved c f =
    relocated_found _ _ _ _ _ _ c.requires.heap.accepted f c.requires.unlocked
    c.requires.room c.requires.enough c.stand_in_at-there.ensures.is c.stand_in_at-there.ensures.made c.stand_in_at-there.ensures.others c.copy_bytes.ensures.copied c.release_listed.ensures.gone c.take_name.ensures.made

pub returns-clause-plain : goal.returns-clause-plain
returns-clause-plain c =
    plain_then _ _ _
    (plain_then _ _ _ (plain_then _ _ _ c.stand_in_at-there.ensures.plain c.copy_bytes.ensures.plain) c.release_listed.ensures.plain) c.take_name.ensures.plain

pub returns-clause-frame : goal.returns-clause-frame
returns-clause-frame c = (returns-clause-moved c c.requires.found c.requires.room).frame

pub returns-clause-lists : goal.returns-clause-lists
returns-clause-lists c = lists_kept _ _ _ _ c.take_name.ensures.keeps c.release_listed.ensures.lists
