-- The picture of an image before its lines are written, and the faults for which none is written.
use Rattle.std.specs.Prelude.{◌≡◌, ℕ, List}
use Rattle.heap_model.specs.Store.{Accepted}
use Rattle.store_check.specs.Faults.{IsFirstStoreFault}
use Rattle.store_check.specs.declared.fault.StoreFault.{StoreFault}
use Rattle.store_check.specs.declared.fault.StoreFault.TheVariants as checks
use Rattle.heap_map.specs.declared.picture.Picture.{Picture}
use Rattle.heap_map.specs.declared.picture.MapFault.{MapFault}
use Rattle.heap_map.specs.declared.picture.MapFault.TheVariants.{BadImage, OutOfMemory, Write}
use Rattle.heap_map.specs.Cells.{cell_size, marks}

-- the marks of an image, and the size of its cells
pub record IsPicture (image : List ℕ) (picture : Picture) : Type 0 where
  pub size : picture.size ≡ cell_size image
  pub marks_are : picture.marks.items ≡ marks image

-- the fault of a picture, from that of the check
abbrev pub map_fault : StoreFault → MapFault
map_fault (checks.Heap fault) = BadImage (checks.Heap fault)
map_fault (checks.BadDirectorySlot index) = BadImage (checks.BadDirectorySlot index)
map_fault (checks.BadHeader db) = BadImage (checks.BadHeader db)
map_fault (checks.BadEntry db index) = BadImage (checks.BadEntry db index)
map_fault (checks.SharedChunk slot) = BadImage (checks.SharedChunk slot)
map_fault (checks.StrayChunk slot) = BadImage (checks.StrayChunk slot)
map_fault (checks.BadId db index) = BadImage (checks.BadId db index)
map_fault (checks.BadName db) = BadImage (checks.BadName db)
map_fault (checks.SameName db) = BadImage (checks.SameName db)
map_fault checks.OutOfMemory = OutOfMemory

-- this fault is why no picture was written, or not all of it
abbrev pub IsMapFault : List ℕ → MapFault → Type 0
IsMapFault image (BadImage fault) = (Accepted image → ⊥) × IsFirstStoreFault image fault
IsMapFault image OutOfMemory = Unit {0}
IsMapFault image Write = Accepted image
