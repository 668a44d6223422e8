-- The room of the stretch is opened after the chunk, which grows over it.
use Rattle.heap_compact.proofs.Laws.{rules, is_loose, loose_slid, slid_then, slid_alone, opens_slides, fits_opened}
use Rattle.heap_compact.proofs.growing.grow_in_stretch.Goals as goal

pub grow_named-requires : goal.grow_named-requires
grow_named-requires c =
    let h = c.holds.ensures.accepted in
    let slides = opens_slides _ c.requires.fits c.open_behind.ensures.opened in record {
      loose = loose_slid h slides (is_loose c.args.found h c.requires.found c.requires.unlocked);
      fits = fits_opened _ h c.requires.found c.requires.fits c.open_behind.ensures.opened;
    }

pub returns : goal.returns
returns c =
    let slides = opens_slides c.open_behind.new.self.bytes c.requires.fits c.open_behind.ensures.opened in
    record {
      resized = slid_then c.grow_named.new.space.bytes c.args.found.name.0 c.args.count c.holds.ensures.accepted slides c.grow_named.ensures.resized;
      one_stretch = slid_alone c.grow_named.new.space.bytes c.args.found.name.0 c.holds.ensures.accepted slides c.grow_named.ensures.alone;
      rest = search rules;
      heap = search rules;
    }
