-- Texts about an image, for C.
use Rattle.std.specs.Prelude.{◌≡◌, ◌⊎◌, ℕ, List}
use Rattle.heap_model.specs.Store.{Accepted, store_of}
use Rattle.heap_map.specs.Text.{map_text}
use Rattle.heap_svg.specs.Drawing.{IsDrawing}
use Rattle.program_io.specs.declared.command_line.Form.{Form}
use Rattle.store_commands.specs.DatabaseForms.{rows_in_form}
use Rattle.store_commands.specs.Databases.{listed_rows}
use Rattle.palmheap_c.specs.Answers.{IsImageFault, IsMemoryAnswer}
use Rattle.palmheap_c.specs.Buffers.{Buffer, PutsBytes}
use Rattle.palmheap_c.specs.declared.answers.Answer.{Answer}
use Rattle.palmheap_c.specs.declared.pictures.PictureForm.{PictureForm}
use Rattle.palmheap_c.specs.declared.pictures.PictureForm.TheVariants.{Text, Svg}

-- the picture of an image in each form
abbrev pub IsDrawnIn : PictureForm → (image text : List ℕ) → Type 0
IsDrawnIn Text image text = text ≡ map_text image
IsDrawnIn Svg image text = IsDrawing image text

-- the image is accepted, and this is its picture, as text or as SVG
pub record IsPictureIn (form : PictureForm) (image text : List ℕ) : Type 0 where
  pub accepted : Accepted image
  pub drawn : IsDrawnIn form image text

-- the image is accepted, and these are the lines of its databases, or their document
pub record AreDatabasesIn (form : Form) (image text : List ℕ) : Type 0 where
  pub accepted : Accepted image
  pub text_is : text ≡ rows_in_form form (listed_rows (store_of image))

-- an allocation failed, or this is the first fault of the image
abbrev pub IsTextRefusal : List ℕ → Answer → Type 0
IsTextRefusal image found = IsMemoryAnswer found ⊎ IsImageFault image found

-- A text with `IsSuch` was written, or the buffer is too short for it. Otherwise this is the image's
-- first fault, or an allocation failed, and nothing was written.
abbrev pub IsTextAnswer : (List ℕ → List ℕ → Type 0) → (image : List ℕ) → (old new : Buffer) → Answer → Type 0
IsTextAnswer IsSuch image old new found =
    ((text : List ℕ) × IsSuch image text × PutsBytes text old.bytes new.bytes new.count found)
    ⊎ (IsTextRefusal image found × (new ≡ old))
