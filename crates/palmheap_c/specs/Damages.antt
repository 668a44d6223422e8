-- The place of the first fault of a file and what is allowed there, for C.
use Rattle.std.specs.Prelude.{◌≡◌, ◌<◌, ◌≤◌, ◌⊎◌, ◌-◌, ◌^◌, ℕ, Bool, List, false, true, length}
use Rattle.canonical_file.specs.Canonical.{most_bytes}
use Rattle.file_listing.specs.Damage.{damage_of, fault_place}
use Rattle.file_listing.specs.declared.damage.Damage as files
use Rattle.file_listing.specs.declared.damage.Damage.TheVariants.{Short, NotZero, Zero, InfoOutside, RecordOutside, ResourceOutside}
use Rattle.heap_model.specs.Files.{HasNoFault, IsFirstFault}
use Rattle.heap_model.specs.declared.file_fault.FileFault.{FileFault}
use Rattle.palmheap_c.specs.Answers.{no_fault, of_file, too_large}
use Rattle.palmheap_c.specs.declared.answers.Answer.{Answer}
use Rattle.palmheap_c.specs.declared.damages.Damage.{Damage}

-- the number at an offset, and the numbers that are allowed there
abbrev pub damaged : (at found least most : ℕ) → (or_zero : Bool) → Damage
damaged at found least most or_zero = record { at = at; found = found; least = least; most = most; or_zero = or_zero }

-- The same for each kind of damage. A file that is too short may have any size from the least one on.
abbrev pub of_damage : ℕ → files.Damage → Damage
of_damage at (Short found least) = damaged at found least (2 ^ 64 - 1) false
of_damage at (NotZero found) = damaged at found 0 0 true
of_damage at Zero = damaged at 0 1 255 false
of_damage at (InfoOutside found least most) = damaged at found least most true
of_damage at (RecordOutside found least most) = damaged at found least most true
of_damage at (ResourceOutside found least most) = damaged at found least most false

-- this is the first fault of a file, and what is at its place
abbrev pub HasDamage : List ℕ → Damage → Answer → Type 0
HasDamage file damage found = (fault : FileFault) × IsFirstFault file fault × (found ≡ of_file fault) × (damage ≡ of_damage (fault_place file fault) (damage_of file fault))

-- The file is longer than `most_bytes`, or it has no fault, and the damage is unchanged. Otherwise
-- this is its first fault, and the damage is set.
abbrev pub IsDamageAnswer : List ℕ → (old new : Damage) → Answer → Type 0
IsDamageAnswer file old new found =
    ((found ≡ too_large) × (most_bytes < length file) × (new ≡ old))
    ⊎ ((length file ≤ most_bytes) × (((found ≡ no_fault) × HasNoFault file × (new ≡ old)) ⊎ HasDamage file new found))
