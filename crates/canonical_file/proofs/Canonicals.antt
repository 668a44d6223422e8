-- A file has no change exactly if it is its canonical form.
use Rattle.std.proofs.Common.{◌≡◌, ℕ, ◌≤◌, Bool, true, false, Option, List, length, refl, sym, ap, subst, ◌∙◌}
use Rattle.std.specs.Prelude.{◌↔◌, ◌||◌, not, IsTrue, IsFalse, Result, Ok, Err, IfOk}
use Rattle.heap_model.specs.Bytes.{AreBytes}
use Rattle.heap_model.specs.Database.{Database, HasName}
use Rattle.heap_model.specs.Store.{unique_ids}
use Rattle.heap_model.specs.Files.{HasNoFault, file_of}
use Rattle.pdb_format.specs.ReadFiles.{database_read}
use Rattle.pdb_format.proofs.FileNames.{file_named}
use Rattle.pdb_format.proofs.ReadFiles.{reads}
use Rattle.pdb_format.proofs.ReadOnce.{read_once}
use Rattle.palm_text.specs.Counted.{Writing}
use Rattle.file_ids.specs.declared.give.GivenIds.{GivenIds}
use Rattle.pdb_format.specs.Opened.{most_file_bytes}
use Rattle.canonical_file.specs.Canonical.{GetsIds, IsCanonical, WritesCanonical, WritesOne, WroteCanonical, WroteOne}
use Rattle.canonical_file.specs.declared.canonical.CanonicalFault.{CanonicalFault}
use Rattle.canonical_file.specs.declared.changes.Changes.{Changes}
use Rattle.canonical_file.specs.Changes.{NoneIsBusy, HasPlainFiller, KeepsIds, HasPlainName, IsInOrder, IsSetUnless, is_none, AreChanges}
use Rattle.canonical_file.specs.Given.{AreGivenIn}
use Rattle.canonical_file.proofs.Kept.{Known, file_stays, all_kept}
use Rattle.canonical_file.proofs.Given.{known_of, says_not}

-- ---- words that are not said

pub record NoneSaid (changes : Changes) : Type 0 where
  pub busy : IsFalse changes.busy
  pub filler : IsFalse changes.filler
  pub ids : IsFalse changes.ids
  pub name : IsFalse changes.name
  pub order : IsFalse changes.order

first_false : (a b : Bool) → IsTrue (not (a || b)) → IsFalse a × IsTrue (not b)
first_false true b e = absurd cc
first_false false b e = (refl, e)

last_false : (a : Bool) → IsTrue (not a) → IsFalse a
last_false true e = absurd cc
last_false false e = refl

pub none_said : (changes : Changes) → IsTrue (is_none changes) → NoneSaid changes
none_said changes e =
    let busy = first_false changes.busy
    (changes.filler || (changes.ids || (changes.name || changes.order))) e in
    let filler =
    first_false changes.filler (changes.ids || (changes.name || changes.order)) busy.1 in
    let ids = first_false changes.ids (changes.name || changes.order) filler.1 in
    let name = first_false changes.name changes.order ids.1 in
    record {
      busy = busy.0;
      filler = filler.0;
      ids = ids.0;
      name = name.0;
      order = last_false changes.order name.1;
    }

more_false : (a b : Bool) → IsFalse a → IsTrue (not b) → IsTrue (not (a || b))
more_false true b e f = absurd cc
more_false false b e f = f

one_false : (a : Bool) → IsFalse a → IsTrue (not a)
one_false true e = absurd cc
one_false false e = refl

pub said_none : (changes : Changes) → NoneSaid changes → IsTrue (is_none changes)
said_none changes none =
    more_false _ _ none.busy
    (more_false _ _ none.filler
    (more_false _ _ none.ids (more_false _ _ none.name (one_false _ none.order))))

-- ---- the changes of a file

-- what the tests of a file say
pub record AreTested (file : List ℕ) (changes : Changes) : Type 0 where
  pub busy : IsSetUnless changes.busy (NoneIsBusy file)
  pub filler : IsSetUnless changes.filler (HasPlainFiller file)
  pub ids : IsSetUnless changes.ids (KeepsIds file)
  pub name : IsSetUnless changes.name (HasPlainName file)
  pub order : IsSetUnless changes.order (IsInOrder file)

stays : (file : List ℕ) (d : Database (Option (List ℕ))) (changes : Changes) → Known file d
    → AreTested file changes → (IsTrue (is_none changes) ↔ (file_of d ≡ file))
stays file d changes known tested = (
  λ e. (
      let none = none_said changes e in
      file_stays file d known (record {
        busy = tested.busy.0 none.busy;
        filler = tested.filler.0 none.filler;
        ids = tested.ids.0 none.ids d known.reads;
        name = tested.name.0 none.name;
        order = tested.order.0 none.order;
      })),
  λ same. (
      let kept = all_kept file d known same in
      said_none changes (record {
        busy = tested.busy.1 kept.busy;
        filler = tested.filler.1 kept.filler;
        ids = tested.ids.1
            (λ other read.
            ap (λ (x : Database (Option (List ℕ))). unique_ids x)
            (read_once file other d read known.reads) ∙ kept.ids);
        name = tested.name.1 kept.name;
        order = tested.order.1 kept.order;
      })),
)

canonical_is : (file bytes : List ℕ) (d : Database (Option (List ℕ))) → Known file d
    → (is : IsCanonical file bytes) → bytes ≡ file_of d
canonical_is file bytes d known is =
    is.written ∙ ap file_of (read_once file _ d is.reads known.reads)

pub are_changes : (file ids : List ℕ) (seed : ℕ) (changes : Changes) → AreBytes file
    → length file ≤ most_file_bytes → HasNoFault file → AreGivenIn file ids seed
    → AreTested file changes → AreChanges file changes
are_changes file ids seed changes bytes short good given tested =
    let d : Database (Option (List ℕ)) = database_read file ids seed in
    let known = known_of file ids seed bytes short good given in
    let both = stays file d changes known tested in
    record {
      busy = tested.busy;
      filler = tested.filler;
      ids = tested.ids;
      name = tested.name;
      order = tested.order;
      canonical = λ form is. (
          let written = canonical_is file form d known is in
          (λ e. written ∙ both.0 e, λ same. both.1 (sym written ∙ same)));
    }

-- a file of which no word is said is its own canonical form
pub same_form : (file ids : List ℕ) (seed : ℕ) (changes : Changes) → HasNoFault file
    → AreGivenIn file ids seed → AreChanges file changes → IsTrue (is_none changes)
    → IsCanonical file file
same_form file ids seed changes good given are none =
    let d : Database (Option (List ℕ)) = database_read file ids seed in
    let form : IsCanonical file (file_of d) =
    record { database = d; reads = reads file ids seed good given.have; written = refl } in
    subst (IsCanonical file) ((are.canonical (file_of d) form).0 none) form

-- ---- the file that is written with the IDs of a canonical form

canonical_by : (file bytes : List ℕ) (given : GivenIds) → HasNoFault file → GetsIds file given
    → bytes ≡ file_of (database_read file given.ids.items given.seed) → IsCanonical file bytes
canonical_by file bytes given good gets written = record {
  database = database_read file given.ids.items given.seed;
  reads = reads file given.ids.items given.seed good gets.have;
  written = written;
}

pub canonical_if : {T E : Type 0} (file : List ℕ) (given : GivenIds) (text : T → List ℕ)
    (result : Result T E)
    → HasNoFault file → GetsIds file given
    → IfOk result (λ one. text one ≡ file_of (database_read file given.ids.items given.seed))
    → IfOk result (λ one. IsCanonical file (text one))
canonical_if file given text (Ok one) good gets is = canonical_by file (text one) given good gets is
canonical_if file given text (Err fault) good gets is = is

pub wrote_canonical : {W : Type 0} (file : List ℕ) (given : GivenIds)
    (contents : W → Option (List ℕ)) (old new : Writing W) (result : Result ℕ CanonicalFault)
    → HasNoFault file → GetsIds file given
    → IfOk result (WroteOne (λ bytes. bytes ≡ file_of (database_read file given.ids.items given.seed)) contents old new)
    → IfOk result (WroteCanonical file contents old new)
wrote_canonical file given contents old new (Err fault) good gets wrote = wrote
wrote_canonical file given contents old new (Ok count) good gets wrote =
    (wrote.0, canonical_by file wrote.0 given good gets wrote.1, wrote.2, wrote.3)

pub cut_canonical : {W : Type 0} (file : List ℕ) (given : GivenIds) (contents : W → Option (List ℕ))
    (old new : Writing W)
    → HasNoFault file → GetsIds file given
    → WritesOne (λ bytes. bytes ≡ file_of (database_read file given.ids.items given.seed)) contents old new false
    → WritesCanonical file contents old new false
cut_canonical file given contents old new good gets wrote =
    (wrote.0, canonical_by file wrote.0 given good gets wrote.1, wrote.2)

-- ---- the name

pub says_name : (file : List ℕ) (b : Bool) → HasNoFault file → (IsTrue b ↔ HasName file)
    → IsSetUnless (not b) (HasPlainName file)
says_name file b good is =
    says_not b (HasPlainName file)
    (λ e. (is.0 e).field, λ plain. is.1 (record { name = file_named file good; field = plain }))
