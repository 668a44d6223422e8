-- What an image holds is read from its layout, which the two images share.
use Rattle.std.proofs.Common.{sym, ap, ◌∙◌}
use Rattle.std.specs.Prelude.{sum_by}
use Rattle.heap_model.specs.Chunk.{free_size}
use Rattle.heap_model.specs.Slots.{area_start}
use Rattle.heap_model.specs.Reading.{chunks_of, live_under}
use Rattle.heap_model.specs.Space.{rooms_of, stretches, place_under}
use Rattle.heap_model.specs.Layout.{layout_of}
use Rattle.laws_heap.proofs.Layouts.{no_run-layout}
use Rattle.laws_heap.proofs.SameLayouts.{held-layout, place-layout, free-layout, rooms-layout}
use Rattle.laws_heap.proofs.laws.layout_tells.Goals as goal

pub returns : goal.returns
returns c image other accepted accepts starts same = record {
  holds = λ name.
      held-layout image name ∙ ap (λ n. live_under n (layout_of image) name) starts
      ∙ ap (λ cs. live_under (area_start other) cs name) same ∙ sym (held-layout other name);
  places = λ name.
      place-layout image name ∙ ap (λ n. place_under n (layout_of image) name) starts
      ∙ ap (λ cs. place_under (area_start other) cs name) same ∙ sym (place-layout other name);
  free_bytes = free-layout image ∙ ap (sum_by free_size) same ∙ sym (free-layout other);
  room = rooms-layout image ∙ ap (λ cs. rooms_of (stretches cs)) same ∙ sym (rooms-layout other);
  runs = λ size. (no_run-layout _ _ size same, no_run-layout _ (chunks_of image) size (sym same));
}
