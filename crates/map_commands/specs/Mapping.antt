-- The output of `map`. If the last argument of a definition is a `Bool`, it is whether all writes
-- succeeded.
use Rattle.std.specs.Prelude.{◌≡◌, ◌≢◌, ℕ, Bool, true, false, List, Result, Err, OnOk, IfErr}
use Rattle.heap_model.specs.Store.{Accepted}
use Rattle.heap_map.specs.Pictures.{IsMapFault}
use Rattle.heap_map.specs.Text.{map_text}
use Rattle.heap_map.specs.declared.picture.MapFault.{MapFault}
use Rattle.heap_map.specs.declared.picture.MapFault.TheVariants.{OutOfMemory, Write}
use Rattle.palm_text.specs.Output.{Output, PutsTo}
use Rattle.image_commands.specs.FaultLines.{PutsBadImage}
use Rattle.image_commands.specs.Printed.{EndsPrinted}
use Rattle.program_io.specs.declared.status.Status.{Status}

-- the output is the picture of an image as text
abbrev pub PutsMap : {V : Type 0} → List ℕ → Output V → Bool → Type 0
PutsMap image out ok = PutsTo out (map_text image) ok

-- the output of `map` for an image, by the status with which it ends
abbrev pub EndsMap : {V : Type 0} → List ℕ → Output V → Status → Type 0
EndsMap image out = EndsPrinted image (PutsMap image out) (PutsBadImage image out) out

-- A picture of an image was written and flushed, or why not. `puts` is what was written, by whether
-- all writes succeeded, and `unused` that nothing was.
pub record PutsPicture (image : List ℕ) (puts : Bool → Type 0) (unused is_short : Type 0) (result : Result (Unit {0}) MapFault) : Type 0 where
  pub accepted : OnOk result (Accepted image)
  pub done : OnOk result (puts true)
  pub why : IfErr result (IsMapFault image)
  pub untouched : IfErr result (λ fault. fault ≢ Write → unused)
  pub write : result ≡ Err Write → puts false
  pub short : result ≡ Err OutOfMemory → is_short
