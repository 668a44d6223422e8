-- The statuses of `unpack` and `pack`.
use Rattle.std.proofs.Common.{◌≡◌, ◌<◌, ◌≤◌, ℕ, true, false, Option, List, length, refl, inl, inr}
use Rattle.std.specs.Prelude.{◌⊎◌, codes}
use Rattle.palm_text.specs.Counted.{Writing}
use Rattle.palm_text.specs.Output.{Puts}
use Rattle.canonical_file.specs.Canonical.{most_bytes}
use Rattle.script_lines.specs.declared.fault.LineFault.{LineFault}
use Rattle.file_parts.specs.Either.{HasFolderParts, IsFaultyText, IsFolderPackFault, IsListedFolder, IsPackedOf, folder_count, folder_size}
use Rattle.file_parts.specs.declared.either.ListedFolder.{ListedFolder}
use Rattle.file_parts.specs.declared.either.ListedFolder.TheVariants as listed
use Rattle.file_parts.specs.declared.packing.PackFault.TheVariants.{BadLine, TooLarge}
use Rattle.file_commands.specs.LineFaults as lines
use Rattle.program_io.specs.declared.status.Status.{Status}
use Rattle.program_io.specs.declared.status.Status.TheVariants.{Done, Refused, BadWords, ReadFault, WriteFault, NoMemory}
use Rattle.file_commands.specs.Ends.{PutsFault, written_line}
use Rattle.file_commands.specs.Parts.{NotUnpacked, NotListed, EndsPack}

none_of : (x y z : Status) → (x ≡ y) ⊎ (x ≡ z) → (x ≡ y → ⊥) → (x ≡ z → ⊥) → ⊥
none_of x y z (inl e) first second = first e
none_of x y z (inr e) first second = second e

-- a folder with as many parts as it names has its parts
pub has_parts : (folder : ListedFolder) (parts : List (List ℕ)) → IsListedFolder folder → length parts ≡ folder_count folder → HasFolderParts folder parts
has_parts (listed.Canonical database) parts good count = record { good = good; count = count }
has_parts (listed.Exact exact) parts good count = record { good = good; count = count }

-- a folder of either form is refused as too large only if its file is
is_large : (folder : ListedFolder) (parts : List (List ℕ)) → IsFolderPackFault folder parts TooLarge → most_bytes < folder_size folder parts
is_large (listed.Canonical database) parts large = large
is_large (listed.Exact exact) parts large = large

module _ {V : Type 0} (contents : V → Option (List ℕ)) where
  pub not_unpacked : (old new : Writing V) (file : List ℕ) (status : Status) → (status ≡ Refused) ⊎ (status ≡ WriteFault) → (status ≡ Refused → PutsFault file contents old new true) → (status ≡ WriteFault → PutsFault file contents old new false)
      → NotUnpacked file contents old new status
  not_unpacked old new file Refused either refused fails = refused refl
  not_unpacked old new file WriteFault either refused fails = fails refl
  not_unpacked old new file Done either refused fails = none_of Done Refused WriteFault either (λ e. cc) (λ e. cc)
  not_unpacked old new file BadWords either refused fails = none_of BadWords Refused WriteFault either (λ e. cc) (λ e. cc)
  not_unpacked old new file ReadFault either refused fails = none_of ReadFault Refused WriteFault either (λ e. cc) (λ e. cc)
  not_unpacked old new file NoMemory either refused fails = absurd (none_of NoMemory Refused WriteFault either (λ e. cc) (λ e. cc))

  pub not_listed : (old new : Writing V) (text : List ℕ) (fault : LineFault) (status : Status) → IsFaultyText text fault → (status ≡ Refused) ⊎ (status ≡ WriteFault) ⊎ (status ≡ NoMemory)
      → (status ≡ Refused → lines.PutsScriptRefused fault contents old new true) → (status ≡ WriteFault → lines.PutsScriptRefused fault contents old new false) → (status ≡ NoMemory → new ≡ old) → NotListed text contents old new status
  not_listed old new text fault Refused is either refused fails short = (fault, is, refused refl)
  not_listed old new text fault WriteFault is either refused fails short = (fault, is, fails refl)
  not_listed old new text fault NoMemory is either refused fails short = short refl
  not_listed old new text fault Done is (inl e) refused fails short = cc
  not_listed old new text fault Done is (inr (inl e)) refused fails short = cc
  not_listed old new text fault Done is (inr (inr e)) refused fails short = cc
  not_listed old new text fault BadWords is (inl e) refused fails short = cc
  not_listed old new text fault BadWords is (inr (inl e)) refused fails short = cc
  not_listed old new text fault BadWords is (inr (inr e)) refused fails short = cc
  not_listed old new text fault ReadFault is (inl e) refused fails short = cc
  not_listed old new text fault ReadFault is (inr (inl e)) refused fails short = cc
  not_listed old new text fault ReadFault is (inr (inr e)) refused fails short = cc

module _ {W V : Type 0} (file_contents : W → Option (List ℕ)) (contents : V → Option (List ℕ)) where
  -- the line after the whole file
  pub packed : (folder : ListedFolder) (parts : List (List ℕ)) (bytes : List ℕ) (file_old file_new : Writing W) (old new : Writing V) (status : Status) → IsPackedOf folder parts bytes → folder_size folder parts ≤ most_bytes → Puts file_contents file_old file_new bytes true
      → (status ≡ Done) ⊎ (status ≡ WriteFault) → (status ≡ Done → Puts contents old new (written_line (length bytes)) true) → (status ≡ WriteFault → Puts contents old new (written_line (length bytes)) false)
      → EndsPack folder parts file_contents file_old file_new contents old new status
  packed folder parts bytes file_old file_new old new Done is fits whole either done fails = record { bytes = bytes; packed = is; fits = fits; written = whole; told = done refl }
  packed folder parts bytes file_old file_new old new WriteFault is fits whole either done fails = inr (inl (record { bytes = bytes; packed = is; fits = fits; written = whole; told = fails refl }))
  packed folder parts bytes file_old file_new old new Refused is fits whole either done fails = absurd (none_of Refused Done WriteFault either (λ e. cc) (λ e. cc))
  packed folder parts bytes file_old file_new old new BadWords is fits whole either done fails = none_of BadWords Done WriteFault either (λ e. cc) (λ e. cc)
  packed folder parts bytes file_old file_new old new ReadFault is fits whole either done fails = none_of ReadFault Done WriteFault either (λ e. cc) (λ e. cc)
  packed folder parts bytes file_old file_new old new NoMemory is fits whole either done fails = absurd (none_of NoMemory Done WriteFault either (λ e. cc) (λ e. cc))

  -- a write of the file failed
  pub cut_off : (folder : ListedFolder) (parts : List (List ℕ)) (bytes : List ℕ) (file_old file_new : Writing W) (old : Writing V) → IsPackedOf folder parts bytes → Puts file_contents file_old file_new bytes false → EndsPack folder parts file_contents file_old file_new contents old old WriteFault
  cut_off folder parts bytes file_old file_new old is part = inl ((bytes, is, part), refl)

  -- the file would be too large
  pub too_large : (folder : ListedFolder) (parts : List (List ℕ)) (file_old : Writing W) (old new : Writing V) (status : Status) → IsFolderPackFault folder parts TooLarge → (status ≡ Refused) ⊎ (status ≡ WriteFault)
      → (status ≡ Refused → Puts contents old new (codes "bad TooLarge\n") true) → (status ≡ WriteFault → Puts contents old new (codes "bad TooLarge\n") false) → EndsPack folder parts file_contents file_old file_old contents old new status
  too_large folder parts file_old old new Refused large either refused fails = inl ((is_large folder parts large, refused refl), refl)
  too_large folder parts file_old old new WriteFault large either refused fails = inr (inr (inl ((is_large folder parts large, fails refl), refl)))
  too_large folder parts file_old old new Done large either refused fails = absurd (none_of Done Refused WriteFault either (λ e. cc) (λ e. cc))
  too_large folder parts file_old old new BadWords large either refused fails = none_of BadWords Refused WriteFault either (λ e. cc) (λ e. cc)
  too_large folder parts file_old old new ReadFault large either refused fails = none_of ReadFault Refused WriteFault either (λ e. cc) (λ e. cc)
  too_large folder parts file_old old new NoMemory large either refused fails = absurd (none_of NoMemory Refused WriteFault either (λ e. cc) (λ e. cc))

  -- a line can't be kept
  pub misplaced : (folder : ListedFolder) (parts : List (List ℕ)) (fault : LineFault) (file_old : Writing W) (old new : Writing V) (status : Status) → IsFolderPackFault folder parts (BadLine fault) → (status ≡ Refused) ⊎ (status ≡ WriteFault) ⊎ (status ≡ NoMemory)
      → (status ≡ Refused → lines.PutsScriptRefused fault contents old new true) → (status ≡ WriteFault → lines.PutsScriptRefused fault contents old new false) → (status ≡ NoMemory → new ≡ old)
      → EndsPack folder parts file_contents file_old file_old contents old new status
  misplaced folder parts fault file_old old new Refused is either refused fails short = inr ((fault, is, refused refl), refl)
  misplaced folder parts fault file_old old new WriteFault is either refused fails short = inr (inr (inr ((fault, is, fails refl), refl)))
  misplaced folder parts fault file_old old new NoMemory is either refused fails short = (refl, short refl)
  misplaced folder parts fault file_old old new Done is (inl e) refused fails short = absurd cc
  misplaced folder parts fault file_old old new Done is (inr (inl e)) refused fails short = absurd cc
  misplaced folder parts fault file_old old new Done is (inr (inr e)) refused fails short = absurd cc
  misplaced folder parts fault file_old old new BadWords is (inl e) refused fails short = cc
  misplaced folder parts fault file_old old new BadWords is (inr (inl e)) refused fails short = cc
  misplaced folder parts fault file_old old new BadWords is (inr (inr e)) refused fails short = cc
  misplaced folder parts fault file_old old new ReadFault is (inl e) refused fails short = cc
  misplaced folder parts fault file_old old new ReadFault is (inr (inl e)) refused fails short = cc
  misplaced folder parts fault file_old old new ReadFault is (inr (inr e)) refused fails short = cc
