-- `palmheap_run` runs a script in place, or reports which buffers are too short, by the laws of
-- RunLaws.
use Rattle.std.proofs.Common.{map, refl, inl, inr}
use Rattle.palmheap_c.specs.Runs.{written}
use Rattle.palmheap_c.proofs.RunLaws.{in_place, too_short}
use Rattle.palmheap_c.proofs.runs.palmheap_run.Goals as goal

pub returns-then-not-have_room : goal.returns-then-not-have_room
returns-then-not-have_room c =
    inr (inl (
      refl,
      too_short c.args.script.now (map (λ file. file.now) c.args.files.now)
          (written c.args.image.now c.args.printed.now c.args.exported.now c.args.exported_ends.now
          c.args.sizes.now) c.in-Ok.done.0.bytes c.in-Ok.done.1 c.sizes.result c.in-Ok.ensures.ran
          (record {
            printed = c.sizes.ensures.printed;
            exported = c.sizes.ensures.exported;
            files_are = c.sizes.ensures.files;
          }) (c.have_room.ensures.short c.if-not-have_room.true),
      refl,
    ))

pub returns : goal.returns
returns c =
    let inputs = map (λ file. file.now) c.args.files.now in
    let results = c.in-Ok.done in
    let old = written c.args.image.now c.args.printed.now c.args.exported.now
    c.args.exported_ends.now c.args.sizes.now in
    let new = written c.copy_from_slice.new.self c.put.new.printed c.put.new.exported c.put.new.ends
    c.sizes.result in
    inl (
      refl,
      in_place c.args.script.now inputs old new results.1 (rw
          (c.copy_from_slice.ensures.after, c.as_slice.ensures.is) c.in-Ok.ensures.ran) (record {
            printed = c.sizes.ensures.printed;
            exported = c.sizes.ensures.exported;
            files_are = c.sizes.ensures.files;
          }) c.put.ensures.printed c.put.ensures.exported c.put.ensures.ends,
    )
