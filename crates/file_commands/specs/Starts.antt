-- Parts of a file that is read at offsets, and a file of which only the first bytes were read.
use Rattle.std.specs.Prelude.{◌≡◌, ◌⊎◌, ◌<◌, ◌≤◌, ◌^◌, ◌++◌, ◌-◌, min, replicate, ℕ, List, Option, length, take, drop, IfSome, None, Some}
use Rattle.heap_model.specs.Bytes.{AreBytes, u32_at}
use Rattle.heap_model.specs.DatabaseFields.{app_info_at}
use Rattle.pdb_format.specs.FileStarts.{app_start, most_start}
use Rattle.program_io.specs.declared.input.InputFault.{InputFault}
use Rattle.program_io.specs.declared.input.InputFault.TheVariants.{Open, Read, TooLong, LongerThan, Memory}
use Rattle.command_files.specs.declared.region_input.SizedFault.{SizedFault}
use Rattle.command_files.specs.declared.region_input.SizedFault.TheVariants.{Input, OtherSize}

-- if the bytes of the file are known: these are the bytes from an offset on, as many as `count` if
-- the file has them
abbrev pub IsPartOfFile : Option (List ℕ) → ℕ → ℕ → List ℕ → Type 0
IsPartOfFile file offset count part = IfSome file (λ all. part ≡ take count (drop offset all))

-- if the bytes of the file are known: it has this size, and begins with these bytes
abbrev pub BeginsWith : Option (List ℕ) → List ℕ → ℕ → Type 0
BeginsWith file start size = IfSome file (λ all. (start ≡ take (length start) all) × (length all ≡ size) × AreBytes all)

-- the bytes after those that were read: those of the file if it is known, or else others
abbrev pub rest_of : Option (List ℕ) → List ℕ → List ℕ → List ℕ
rest_of None start other = other
rest_of (Some all) start other = drop (length start) all

-- bytes after these that have AppInfo at its offset, as far as a file of this size goes, and zeros
abbrev pub zeros_with : List ℕ → List ℕ → ℕ → List ℕ
zeros_with start app size =
    let at = u32_at start app_info_at in
    replicate (min at size - length start) 0 ++ (app ++ replicate (size - at - length app) 0)

-- the first bytes of a file of this size, the first bytes of its AppInfo, and its other bytes
pub record IsSplit (start app : List ℕ) (size : ℕ) (rest : List ℕ) : Type 0 where
  pub length_is : size ≡ length (start ++ rest)
  pub short : size < 2 ^ 63
  pub long : most_start ≤ length start
  pub app_is : app ≡ app_start (start ++ rest)
  pub numbers : AreBytes (start ++ rest)

-- a seek or a read failed
abbrev pub IsOfSeeking : InputFault → Type 0
IsOfSeeking (Open error) = Unit {0}
IsOfSeeking (Read failure) = Unit {0}
IsOfSeeking TooLong = ⊥
IsOfSeeking (LongerThan most) = ⊥
IsOfSeeking Memory = ⊥

-- an allocation failed, or a read did, with a fault that reads of the file may have; or the file has
-- another size
abbrev pub FailsBy : (Fails : InputFault → Type 0) → SizedFault → Type 0
FailsBy Fails (Input fault) = (fault ≡ Memory) ⊎ Fails fault
FailsBy Fails OtherSize = Unit {0}
