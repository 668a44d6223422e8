-- The JSON document of a file, for C.
use Rattle.std.specs.Prelude.{◌≡◌, ◌<◌, ◌≤◌, ◌⊎◌, List, ℕ, None, length}
use Rattle.heap_model.specs.Files.{HasNoFault, IsFirstFault}
use Rattle.heap_model.specs.declared.file_fault.FileFault.{FileFault}
use Rattle.allowance.specs.Refusals.{GrowthRefused}
use Rattle.canonical_file.specs.Canonical.{most_bytes}
use Rattle.file_listing.specs.declared.listing.ListFault.{ListFault}
use Rattle.file_listing.specs.declared.listing.ListFault.TheVariants.{BadFile, OutOfMemory, Write}
use Rattle.file_listing.specs.Listing.{IsListingBy, fault_row}
use Rattle.json_documents.specs.RowTexts.{listing_json}
use Rattle.palmheap_c.specs.Answers.{IsMemoryAnswer, too_large}
use Rattle.palmheap_c.specs.Buffers.{Buffer, PutsBytes}
use Rattle.palmheap_c.specs.declared.answers.Answer.{Answer}

-- the document of a fault of a file
unfoldable pub fault_document : List ℕ → FileFault → List ℕ
fault_document file fault = listing_json None (fault_row file fault)

-- the document of a file that has no fault, or of its first fault
abbrev pub IsDocument : (file text : List ℕ) → Type 0
IsDocument file text =
    (HasNoFault file × IsListingBy (listing_json None) file text)
    ⊎ ((fault : FileFault) × IsFirstFault file fault × (text ≡ fault_document file fault))

-- the first fault of the file, or an allocation failed
abbrev pub IsDocumentFault : List ℕ → ListFault → Type 0
IsDocumentFault file (BadFile fault) = IsFirstFault file fault
IsDocumentFault file OutOfMemory = GrowthRefused
IsDocumentFault file Write = GrowthRefused

-- The document was written, or the buffer is too short for it. Otherwise the file is longer than
-- `most_bytes`, or an allocation failed, and nothing was written.
abbrev pub IsDocumentAnswer : List ℕ → (old new : Buffer) → Answer → Type 0
IsDocumentAnswer file old new found =
    ((text : List ℕ) × IsDocument file text × PutsBytes text old.bytes new.bytes new.count found)
    ⊎ ((((found ≡ too_large) × (most_bytes < length file)) ⊎ ((length file ≤ most_bytes) × IsMemoryAnswer found)) × (new ≡ old))
