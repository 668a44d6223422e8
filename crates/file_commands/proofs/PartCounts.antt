-- The number of files in a folder, and the line for a faulty line of its text.
use Rattle.std.proofs.Common.{◌≡◌, ◌+◌, ℕ, suc, List, Option, Some, None, sym, ap, ◌∙◌, arith}
use Rattle.std.specs.Prelude.{is_some, if◌then◌else◌, Result, Ok, Err, IfOk, IsOkAnd}
use Rattle.script_lines.specs.declared.fault.LineFault.{LineFault}
use Rattle.file_parts.specs.Either.{IsTakenPart, taken_part}
use Rattle.file_parts.specs.declared.either.TakenApart.{TakenApart}
use Rattle.file_parts.specs.declared.either.TakenApart.TheVariants as taken
use Rattle.file_parts.specs.declared.unpacked.Part.{Part}
use Rattle.file_commands.specs.LineFaults.{IsFaultLine}
use Rattle.file_commands.specs.Parts.{parts_below}

-- a part that is returned is there
is_there : (file : TakenApart) (number : ℕ) (part : Part) → IsTakenPart file number part → Some part.bytes.now ≡ taken_part file number
is_there (taken.Canonical unpacked) number part is = is.block
is_there (taken.Exact unpacked) number part is = is.bytes

next_by : (file : TakenApart) (number : ℕ) (block : Option (List ℕ)) → taken_part file number ≡ block
    → parts_below file (number + 1) ≡ (if is_some block then parts_below file number + 1 else parts_below file number)
unfolding parts_below
next_by file number block is =
    let e : suc number ≡ number + 1 = omega arith in
    ap (parts_below file) (sym e) ∙ ap (λ (there : Option (List ℕ)). if is_some there then parts_below file number + 1 else parts_below file number) is

pub none_yet : (file : TakenApart) (number : ℕ) → number ≡ 0 → parts_below file number ≡ 0
unfolding parts_below
none_yet file number first = ap (parts_below file) first

pub one_more : (file : TakenApart) (number : ℕ) (part : Part) → IsTakenPart file number part → parts_below file (number + 1) ≡ parts_below file number + 1
one_more file number part is = next_by file number (Some part.bytes.now) (sym (is_there file number part is))

pub none_more : (file : TakenApart) (number : ℕ) → taken_part file number ≡ None → parts_below file (number + 1) ≡ parts_below file number
none_more file number none = next_by file number None none

-- the text that was printed is the line for the fault
pub line_said : {A E : Type 0} (bytes : A → List ℕ) (fault : LineFault) (Prints : List ℕ → Type 0) (line : Result A E) → IfOk line (λ text. IsFaultLine fault (bytes text)) → IsOkAnd line (λ text. Prints (bytes text))
    → (text : List ℕ) × IsFaultLine fault text × Prints text
line_said bytes fault Prints (Ok text) is printed = (bytes text, is, printed)
line_said bytes fault Prints (Err error) is printed = absurd printed
