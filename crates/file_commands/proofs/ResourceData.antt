-- Each resource of a file without fault has data, and a block that is found is the one that is wanted.
use Rattle.std.proofs.Common.{◌≡◌, ℕ, ◌+◌, ◌<◌, true, false, List, Option, None, Some, get_or, refl, ap, sym, ◌∙◌}
use Rattle.std.specs.Prelude.{is_some}
use Rattle.heap_model.specs.Database.{Entry, a_record, a_resource, entry_count_in, entry_in}
use Rattle.heap_model.specs.Files.{HasNoFault, blocks_in}
use Rattle.heap_model.specs.FileSteps.{size_of_block}
use Rattle.heap_model.specs.ResourceSteps.{HasTypeAndId}
use Rattle.pdb_format.proofs.FileBlocks.{none_planned, resource_block}
use Rattle.file_parts.specs.Replacing.{has_block_of_rank}
use Rattle.file_commands.specs.WantedBlocks.{IsFirstResource, IsWantedBlock, IsWantedRank, block_of_rank}
use Rattle.file_commands.specs.declared.block_words.WantedBlock.{WantedBlock}

entry_has_data : (file : List ℕ) (kind id index : ℕ) (entry : Entry ℕ) → HasNoFault file → index < entry_count_in file → entry ≡ entry_in file index → HasTypeAndId kind id entry → get_or (blocks_in file) (2 + index) None ≡ None → ⊥
entry_has_data file kind id index (a_record attributes own at) good inside is here none = here
entry_has_data file kind id index (a_resource own_kind own at) good inside is here none =
    resource_block file index own_kind own at good inside is (none_planned file index (a_resource own_kind own at) inside is (ap size_of_block none))

some_of : (block : Option (List ℕ)) → (block ≡ None → ⊥) → is_some block ≡ true
some_of None never = absurd (never refl)
some_of (Some bytes) never = refl

pub resource_has_data : (file : List ℕ) (kind id index : ℕ) → HasNoFault file → IsFirstResource file kind id index → has_block_of_rank file (2 + index) ≡ true
resource_has_data file kind id index good first = some_of (get_or (blocks_in file) (2 + index) None) (λ none. entry_has_data file kind id index (entry_in file index) good first.inside refl first.here none)

false_true : false ≡ true → ⊥
false_true e = cc

pub wanted_has : (file : List ℕ) (wanted : WantedBlock) (rank : ℕ) (bytes : List ℕ) → IsWantedRank file wanted rank → Some bytes ≡ block_of_rank file rank → IsWantedBlock file wanted bytes
wanted_has file wanted rank bytes is here = (rank, is, sym here)

pub never_none : (file : List ℕ) (rank : ℕ) → None ≡ block_of_rank file rank → has_block_of_rank file rank ≡ true → ⊥
never_none file rank none some = false_true (ap is_some none ∙ some)
