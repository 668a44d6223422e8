-- A file without fault whose records get IDs is known (`Known`), and keeps its IDs if they are the
-- same.
use Rattle.std.proofs.Common.{◌≡◌, ℕ, ◌+◌, ◌<◌, ◌≤◌, Bool, true, false, Option, List, length, refl, sym, ap, subst, ◌∙◌, arith}
use Rattle.std.specs.Prelude.{◌↔◌, All, not, IsTrue, IsFalse}
use Rattle.heap_model.specs.Bytes.{AreBytes}
use Rattle.heap_model.specs.Lists.{Distinct}
use Rattle.heap_model.specs.UniqueIds.{greatest_id}
use Rattle.heap_model.specs.Database.{Database, database_in}
use Rattle.heap_model.specs.Store.{unique_ids}
use Rattle.heap_model.specs.Files.{HasNoFault, Reads, entries_end}
use Rattle.pdb_format.specs.ReadFiles.{database_read}
use Rattle.pdb_format.proofs.FileIds.{given_long}
use Rattle.pdb_format.proofs.ReadFiles.{blocks_read_are, reads}
use Rattle.pdb_format.proofs.ReadIds.{given_same}
use Rattle.pdb_format.specs.Opened.{most_file_bytes}
use Rattle.canonical_file.specs.Changes.{KeepsIds, IsSetUnless}
use Rattle.canonical_file.specs.Given.{AreGivenIn}
use Rattle.pdb_format.proofs.WrittenOffsets.{all_bytes}
use Rattle.canonical_file.proofs.Kept.{Known}
use Rattle.canonical_file.proofs.Lengths.{file_long}

-- they are the IDs of its records
ids_are : (file ids : List ℕ) (seed : ℕ) → AreGivenIn file ids seed
    → (d : Database (Option (List ℕ))) → (read : Reads file d)
    → (unique_ids d ≡ ids) × (read.last_seed ≡ seed)
ids_are file ids seed given d read = given_same _ _ _ _ _ ids _ seed read.ids given.have

pub known_of : (file ids : List ℕ) (seed : ℕ) → AreBytes file → length file ≤ most_file_bytes
    → HasNoFault file → AreGivenIn file ids seed → Known file (database_read file ids seed)
known_of file ids seed bytes short good given =
    let read = reads file ids seed good given.have in
    let are = ids_are file ids seed given (database_read file ids seed) read in
    let most = given.most in
    let same = are.1 in
    record {
      bytes = bytes;
      short = short;
      reads = read;
      long = file_long file ids seed good
          ∙ ap (λ (blocks : List (Option (List ℕ))).
          entries_end file + 2 + length (all_bytes blocks)) (sym (blocks_read_are file ids seed));
      fit = rw (← are.0) at given.fit;
      distinct = subst (λ (xs : List ℕ). Distinct xs) (sym are.0) given.distinct;
      seed = omega arith;
    }

-- there are as many as the file has
pub ids_long : (file ids : List ℕ) (seed : ℕ) → AreGivenIn file ids seed
    → length ids ≡ length (unique_ids (database_in file))
ids_long file ids seed given = given_long _ _ _ _ ids seed given.have

not_said : (b : Bool) → IsFalse (not b) → IsTrue b
not_said true e = refl
not_said false e = absurd cc

not_said_if : (b : Bool) → IsTrue b → IsFalse (not b)
not_said_if true e = refl
not_said_if false e = absurd cc

pub says_not : (b : Bool) (P : Type 0) → (IsTrue b ↔ P) → IsSetUnless (not b) P
says_not b P is = (λ e. is.0 (not_said b e), λ p. not_said_if b (is.1 p))

-- they are the file's exactly if each record keeps its own
pub ids_kept : (file ids : List ℕ) (seed : ℕ) → HasNoFault file → AreGivenIn file ids seed
    → ((ids ≡ unique_ids (database_in file)) ↔ KeepsIds file)
ids_kept file ids seed good given = (
  λ same. (λ d read. (ids_are file ids seed given d read).0 ∙ same),
  λ keeps. (
      let read = reads file ids seed good given.have in
      sym (ids_are file ids seed given _ read).0 ∙ keeps (database_read file ids seed) read),
)

pub says_ids : (file ids : List ℕ) (seed : ℕ) (b : Bool) → HasNoFault file
    → AreGivenIn file ids seed → (IsTrue b ↔ (ids ≡ unique_ids (database_in file)))
    → IsSetUnless (not b) (KeepsIds file)
says_ids file ids seed b good given is =
    let both = ids_kept file ids seed good given in
    says_not b (KeepsIds file) (λ e. both.0 (is.0 e), λ keeps. is.1 (both.1 keeps))
