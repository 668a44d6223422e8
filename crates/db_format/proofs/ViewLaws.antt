-- What is read off the bytes of a database, as the database says it.
use Rattle.std.proofs.Common.{◌≡◌, ℕ, ◌+◌, ◌<◌, ◌≤◌, Bool, length, Some, List, refl, sym, ap, subst, ◌∙◌, arith}
use Rattle.std.proofs.lemmas.List.FromFn.{length-map-range_with_len, get_or-map-range_with_len}
use Rattle.std.proofs.lemmas.Option.{slice_get-get_or}
use Rattle.std.specs.Prelude.{Option, slice_get}
use Rattle.heap_model.specs.Bytes.{u16_at}
use Rattle.heap_model.specs.DatabaseFields.{attributes_at}
use Rattle.heap_model.specs.Database.{Entry, database_in, header_in, entry_in, entry_count_in, resources_in, has_resources, entry_offset, IsSpelled}
use Rattle.heap_model.specs.EntrySteps.{OfEntry, HasId}
use Rattle.heap_model.specs.Store.{unique_id}
use Rattle.laws_store.proofs.Shapes.{offset_below, spelled_shape}

pub attributes_read : (body : List ℕ) → (database_in body).header.attributes ≡ u16_at body attributes_at
unfolding database_in header_in
attributes_read body = refl

pub length-read : (body : List ℕ) → length (database_in body).entries ≡ entry_count_in body
unfolding database_in
length-read body = length-map-range_with_len (entry_in body) 0 (entry_count_in body)

pub entry_read : (body : List ℕ) (index : ℕ) → index < entry_count_in body → slice_get (database_in body).entries index ≡ Some (entry_in body index)
unfolding database_in
entry_read body index below =
    let long = length-map-range_with_len (entry_in body) 0 (entry_count_in body) in
    slice_get-get_or (database_in body).entries index (entry_in body index) (omega arith)
    ∙ ap (λ (entry : Entry ℕ). Some entry) (get_or-map-range_with_len (entry_in body) 0 (entry_count_in body) index index (entry_in body index) below (omega arith))

-- ---- its entries

pub kind_read : (body : List ℕ) (resources : Bool) → has_resources (database_in body).header.attributes ≡ resources → resources_in body ≡ resources
kind_read body resources kind = ap has_resources (sym (attributes_read body)) ∙ kind

pub entry_inside : (body : List ℕ) (resources : Bool) (index : ℕ) → IsSpelled (database_in body) body → resources_in body ≡ resources → index < length (database_in body).entries → entry_offset resources (index + 1) ≤ length body
entry_inside body resources index spelled kind below =
    let ends : length body ≡ entry_offset resources (entry_count_in body) = (spelled_shape (database_in body) body spelled).ends ∙ ap (λ (resources : Bool). entry_offset resources (entry_count_in body)) kind in
    let count = length-read body in
    let least = offset_below resources index (entry_count_in body) (omega (arith, count, below)) in
    omega (arith, ends, least)

pub entry_there : (body : List ℕ) (index : ℕ) (entry : Entry ℕ) → index < length (database_in body).entries → entry ≡ entry_in body index → slice_get (database_in body).entries index ≡ Some entry
entry_there body index entry below is =
    let count = length-read body in
    entry_read body index (omega (arith, count, below)) ∙ ap (λ (e : Entry ℕ). Some e) (sym is)

pub id_read : (body : List ℕ) (index id : ℕ) → index < length (database_in body).entries → Some id ≡ unique_id (entry_in body index) → OfEntry (slice_get (database_in body).entries index) (HasId id)
id_read body index id below is =
    let count = length-read body in
    subst (λ (x : Option (Entry ℕ)). OfEntry x (HasId id)) (sym (entry_read body index (omega (arith, count, below)))) (sym is)
