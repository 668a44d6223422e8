-- The result of looking up a slot.
use Rattle.std.specs.Prelude.{◌≡◌, ◌≤◌, ◌+◌, ℕ, List, length, slice_range, Option, Some, None}
use Rattle.heap_model.specs.declared.names.Place.{Place}
use Rattle.heap_model.specs.Store.{bytes_under}
use Rattle.chunk_format.specs.declared.header.Header.{Header}
use Rattle.chunk_format.specs.declared.header.Header.TheVariants as headers
use Rattle.store_check.specs.declared.lookup.Body.{Body}

-- the slot's chunk has these bytes of the image for its body
pub record HasBody (image : List ℕ) (slot : ℕ) (body : Body) : Type 0 where
  pub bytes : bytes_under image slot ≡ slice_range image body.place.0 (body.place.0 + body.length)
  pub inside : body.place.0 + body.length ≤ length image

-- the body at a place of the movable chunk with this header
abbrev pub body_if_movable : Header → Place → Option Body
body_if_movable (headers.Free size) place = None
body_if_movable (headers.Movable length lock owner slot) place = Some (record { place = place; length = length })
body_if_movable (headers.Fixed length owner) place = None
