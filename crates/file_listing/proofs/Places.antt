-- The field of a fault lies within the file.
use Rattle.std.proofs.Common.{◌≡◌, ℕ, ◌+◌, ◌<◌, ◌≤◌, Bool, true, false, List, [], ◌∷◌, ◌++◌, length, sym, subst, arith}
use Rattle.std.specs.List.{All}
use Rattle.std.proofs.lemmas.List.Elements.{All-head}
use Rattle.heap_model.specs.DatabaseFields.{header_size}
use Rattle.heap_model.specs.Database.{resources_in, entry_count_in, entry_offset}
use Rattle.heap_model.specs.Files.{entries_end, IsFirstFault}
use Rattle.heap_model.specs.declared.names.Which.{Which}
use Rattle.heap_model.specs.declared.names.Which.TheVariants.{App, Sort}
use Rattle.heap_model.specs.declared.file_fault.FileFault.{FileFault}
use Rattle.heap_model.specs.declared.file_fault.FileFault.TheVariants.{Truncated, BadOffset}
use Rattle.db_format.specs.Headers.{info_block_at}
use Rattle.pdb_format.proofs.FaultLaws.{IsWithout}
use Rattle.pdb_format.proofs.GoodFiles.{whole_file}
use Rattle.file_listing.specs.Damage.{data_field}

pub info_near : (which : Which) → info_block_at which ≤ 78
info_near App = omega arith
info_near Sort = omega arith

same_head : {X : Type 0} (x y : X) (xs ys : List X) → x ∷ xs ≡ y ∷ ys → x ≡ y
same_head x y xs ys e = cc

others : (index : ℕ) → Truncated ≡ BadOffset index → ⊥
others index e = cc

-- a file whose first fault is a later one isn't truncated
whole : (file : List ℕ) (index : ℕ) (before after rest : List FileFault) → Truncated ∷ rest ≡ before ++ BadOffset index ∷ after → All (IsWithout file) before → IsWithout file Truncated
whole file index [] after rest order earlier = absurd (others index (same_head Truncated (BadOffset index) rest after order))
whole file index (one ∷ before) after rest order earlier =
    subst (IsWithout file) (sym (same_head Truncated one rest (before ++ BadOffset index ∷ after) order)) (All-head (IsWithout file) one before earlier)

-- so it has its header and its entries
pub entries_there : (file : List ℕ) (index : ℕ) → IsFirstFault file (BadOffset index) → (header_size ≤ length file) × (entries_end file ≤ length file)
entries_there file index first = whole_file file (whole file index first.before first.after _ first.order first.earlier)

field_inside : (resources : Bool) (index count end : ℕ) → index < count → entry_offset resources count ≤ end → entry_offset resources index + data_field resources ≤ end
field_inside true index count end inside within = omega arith
field_inside false index count end inside within = omega arith

-- and the field of the entry
pub place_inside : (file : List ℕ) (index : ℕ) → IsFirstFault file (BadOffset index) → entry_offset (resources_in file) index + data_field (resources_in file) ≤ length file
place_inside file index first = field_inside (resources_in file) index (entry_count_in file) (length file) first.here.0 (entries_there file index first).1
