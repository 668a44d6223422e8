-- Files that are imported one after the other.
use Rattle.std.proofs.Common.{◌≡◌, ◌≢◌, ℕ, ◌+◌, ◌<◌, ◌≤◌, List, [], ◌∷◌, ◌++◌, length, get_or, take, refl, sym, subst, inl, inr, Option}
use Rattle.std.proofs.lemmas.List.{take_all, take_more, get_or_read}
use Rattle.std.proofs.lemmas.List.Elements.{All-push}
use Rattle.std.specs.Prelude.{All}
use Rattle.heap_model.specs.Memory.{Memory}
use Rattle.heap_model.specs.Files.{HasNoFault, IsFirstFault}
use Rattle.heap_model.specs.declared.names.Db.{Db}
use Rattle.heap_model.specs.declared.file_fault.FileFault.{FileFault}
use Rattle.heap_model.specs.declared.call.Reply.TheVariants.{Database, Refused as RefusedBy}
use Rattle.heap_model.specs.declared.refusal.Refusal.{Refusal}
use Rattle.heap_model.specs.declared.refusal.Refusal.TheVariants.{BadFile, OutOfMemory}
use Rattle.chunk_format.specs.Blank.{IsRegionSize, LeavesRoom}
use Rattle.palm_text.specs.Counted.{Writing}
use Rattle.program_io.specs.declared.status.Status.{Status}
use Rattle.program_io.specs.declared.status.Status.TheVariants.{Done, Refused, BadWords, ReadFault, WriteFault, NoMemory}
use Rattle.store_commands.specs.declared.imports.ImageChoice.{ImageChoice}
use Rattle.store_commands.specs.declared.imports.NewImage.{NewImage}
use Rattle.store_commands.specs.declared.imports.NotImported.{NotImported}
use Rattle.store_commands.specs.declared.imports.NotImported.TheVariants as why
use Rattle.store_commands.specs.Imports.{size_for, Imports, ImportsAll, IsChosen, IsNew, IsNoImage, IsNotImported, IsStopped, IsWhy, StayWithinLimits, EndsImportBy, EndsRefusedBy}
use Rattle.palm_text.specs.Output.{output}

-- one file more
imports_one : (old mid new : Memory) (files : List (List ℕ)) (file : List ℕ) (db : Db) → ImportsAll old files mid → Imports mid file (Database db) new → ImportsAll old (files ++ file ∷ []) new
imports_one old mid new [] file db same does = (db, new, subst (λ (m : Memory). Imports m file (Database db) new) same does, refl)
imports_one old mid new (first ∷ files) file db (other, between, done, rest) does = (other, between, done, imports_one between mid new files file db rest does)

-- the file of an index, after those before it
pub imports_next : (old mid new : Memory) (files : List (List ℕ)) (index : ℕ) (file : List ℕ) (db : Db) → index < length files → file ≡ get_or files index file → ImportsAll old (take index files) mid → Imports mid file (Database db) new → ImportsAll old (take (index + 1) files) new
imports_next old mid new files index file db inside is all does =
    subst (λ (some : List (List ℕ)). ImportsAll old some new) (sym (take_more files index file inside))
    (imports_one old mid new (take index files) (get_or files index file) db all (subst (λ (f : List ℕ). Imports mid f (Database db) new) is does))

-- the file of an index is refused
pub import_stops : (old mid new : Memory) (files : List (List ℕ)) (index : ℕ) (file : List ℕ) (refusal : Refusal) → index < length files → file ≡ get_or files index file → refusal ≢ OutOfMemory → ImportsAll old (take index files) mid → Imports mid file (RefusedBy refusal) new → IsStopped old files (why.RefusedFile index refusal)
import_stops old mid new files index file refusal inside is real all does =
    (inside, real, (mid, new, all, subst (λ (f : List ℕ). Imports mid f (RefusedBy refusal) new) (get_or_read files index file inside is []) does))

pub not_imported_stops : (old mid new : Memory) (files : List (List ℕ)) (index : ℕ) (file : List ℕ) (refusal : Refusal) (reason : NotImported) → index < length files → file ≡ get_or files index file → ImportsAll old (take index files) mid → Imports mid file (RefusedBy refusal) new → IsNotImported index refusal reason → IsStopped old files reason
not_imported_stops old mid new files index file refusal (why.RefusedFile at which) inside is all does (same_index, same_refusal, real) =
    rw (same_index, same_refusal) (import_stops old mid new files index file refusal inside is real all does)
not_imported_stops old mid new files index file refusal why.TooLarge inside is all does none = absurd none
not_imported_stops old mid new files index file refusal why.BadSize inside is all does none = absurd none
not_imported_stops old mid new files index file refusal why.BadSlotCount inside is all does none = absurd none
not_imported_stops old mid new files index file refusal why.OutOfMemory inside is all does same = tt

pub memory_alone : (index : ℕ) (refusal : Refusal) (reason : NotImported) → IsNotImported index refusal reason → reason ≡ why.OutOfMemory → refusal ≡ OutOfMemory
memory_alone index refusal (why.RefusedFile at which) is same = absurd cc
memory_alone index refusal why.TooLarge none same = absurd none
memory_alone index refusal why.BadSize none same = absurd none
memory_alone index refusal why.BadSlotCount none same = absurd none
memory_alone index refusal why.OutOfMemory is same = is

-- the file of an index has no fault, as those before it
pub good_more : (files : List (List ℕ)) (index : ℕ) (file : List ℕ) → index < length files → file ≡ get_or files index file → All HasNoFault (take index files) → HasNoFault file → All HasNoFault (take (index + 1) files)
good_more files index file inside is all good =
    subst (All HasNoFault) (sym (take_more files index file inside)) (All-push HasNoFault (take index files) (get_or files index file) all (subst HasNoFault is good))

-- or it has one
pub fault_why : (choice : ImageChoice) (files : List (List ℕ)) (index : ℕ) (file : List ℕ) (fault : FileFault) → index < length files → file ≡ get_or files index file → All HasNoFault (take index files) → IsFirstFault file fault → IsWhy choice files (why.RefusedFile index (BadFile fault))
fault_why choice files index file fault inside is all first = record {
  inside = inside;
  not_memory = λ same. absurd cc;
  refused = inl (fault, refl, subst (λ (f : List ℕ). IsFirstFault f fault) (get_or_read files index file inside is []) first, all);
}

-- all of them
pub imports_whole : (old new : Memory) (files : List (List ℕ)) (index : ℕ) → length files ≤ index → ImportsAll old (take index files) new → ImportsAll old files new
imports_whole old new files index past all = subst (λ (some : List (List ℕ)). ImportsAll old some new) (take_all index files past) all

-- ---- why there is no store

pub no_image : (choice : ImageChoice) (files : List (List ℕ)) (image : NewImage) (reason : NotImported) → StayWithinLimits choice files → IsChosen choice files image → IsNoImage image reason → IsWhy choice files reason
no_image choice files image (why.RefusedFile index refusal) within chosen none = absurd none
no_image choice files image why.TooLarge within chosen none = absurd none
no_image choice files image why.BadSize within chosen none = (within, subst (λ (size : ℕ). IsRegionSize size → ⊥) chosen.size none)
no_image choice files image why.BadSlotCount within chosen none =
    (within, subst IsRegionSize chosen.size none.0, subst (λ (slots : ℕ). LeavesRoom (size_for choice files) slots → ⊥) chosen.slots (subst (λ (size : ℕ). LeavesRoom size image.slots → ⊥) chosen.size none.1))
no_image choice files image why.OutOfMemory within chosen none = tt

pub stopped : (choice : ImageChoice) (files : List (List ℕ)) (image : NewImage) (blank : Memory) (reason : NotImported) → All HasNoFault files → IsChosen choice files image → IsNew image blank → IsStopped blank files reason → IsWhy choice files reason
stopped choice files image blank (why.RefusedFile index refusal) good chosen new (inside, real, (mid, after, all, does)) = record {
  inside = inside;
  not_memory = real;
  refused = inr (good, (image, blank, mid, after, chosen, new, all, does));
}
stopped choice files image blank why.TooLarge good chosen new none = absurd none
stopped choice files image blank why.BadSize good chosen new none = absurd none
stopped choice files image blank why.BadSlotCount good chosen new none = absurd none
stopped choice files image blank why.OutOfMemory good chosen new none = tt

-- ---- how the command ends

module _ {W V : Type 0} (choice : ImageChoice) (files : List (List ℕ)) (image_contents : W → Option (List ℕ)) (image_old image_new : Writing W) (contents : V → Option (List ℕ)) (old new : Writing V) (word : Option ℕ) where
  pub refused_ends : (status : Status) → image_new ≡ image_old → EndsRefusedBy choice files (output contents old new) word status → EndsImportBy choice files (output image_contents image_old image_new) (output contents old new) word status
  refused_ends Done same ends = absurd ends
  refused_ends Refused same ends = (ends, same)
  refused_ends BadWords same ends = (ends, same)
  refused_ends NoMemory same ends = (ends.0, same, ends.1)
  refused_ends WriteFault same (inl refused) = inr (inr (inl (refused, same)))
  refused_ends WriteFault same (inr bad) = inr (inr (inr (bad, same)))
  refused_ends ReadFault same ends = absurd ends
