-- Pictures that are written and then flushed.
use Rattle.std.proofs.Common.{◌≡◌, List, ℕ, Bool, true, false, Option, inl, subst}
use Rattle.heap_model.specs.Store.{Accepted}
use Rattle.store_check.specs.declared.fault.StoreFault.{StoreFault}
use Rattle.heap_map.specs.declared.picture.MapFault.{MapFault}
use Rattle.heap_map.specs.declared.picture.MapFault.TheVariants.{BadImage}
use Rattle.heap_map.specs.Pictures.{IsMapFault}
use Rattle.palm_text.specs.Counted.{Writing, Writes, Flushes}
use Rattle.palm_text.specs.Output.{Puts, output}
use Rattle.palm_text.proofs.Parts.{then_flush}
use Rattle.image_commands.specs.FaultLines.{PutsBadImage, fault_line}
use Rattle.heap_map.specs.Text.{map_text}
use Rattle.map_commands.specs.Mapping.{PutsMap}

-- the flush after all of the picture succeeded
pub flushed : {V : Type 0} (image : List ℕ) (contents : V → Option (List ℕ)) (old between new : Writing V) → Writes contents old between (map_text image) true → Flushes contents between new true → PutsMap image (output contents old new) true
flushed image contents old between new writes flush = then_flush contents old between new (map_text image) true writes flush

-- it failed
pub flush_fails : {V : Type 0} (image : List ℕ) (contents : V → Option (List ℕ)) (old between new : Writing V) → Writes contents old between (map_text image) true → Flushes contents between new false → PutsMap image (output contents old new) false
flush_fails image contents old between new writes flush = then_flush contents old between new (map_text image) false writes flush

-- a write of it failed
pub stops : {V : Type 0} (image : List ℕ) (contents : V → Option (List ℕ)) (old new : Writing V) → Writes contents old new (map_text image) false → PutsMap image (output contents old new) false
stops image contents old new writes = inl writes

-- the line for a fault of an image that is its first one
pub puts_first : {V : Type 0} (contents : V → Option (List ℕ)) (old new : Writing V) (image : List ℕ) (fault : MapFault) (first : StoreFault) (ok : Bool) → fault ≡ BadImage first → IsMapFault image fault → Puts contents old new (fault_line first) ok → PutsBadImage image (output contents old new) ok
puts_first contents old new image fault first ok is why puts = (first, (subst (IsMapFault image) is why).1, puts)

-- an image with a fault is not accepted
pub not_accepted : (image : List ℕ) (fault : MapFault) (first : StoreFault) → fault ≡ BadImage first → IsMapFault image fault → Accepted image → ⊥
not_accepted image fault first is why = (subst (IsMapFault image) is why).0
