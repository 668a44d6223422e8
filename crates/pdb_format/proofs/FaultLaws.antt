-- The first fault of a file, or that it has none, from the faults that it doesn't have.
use Rattle.std.proofs.Common.{◌≡◌, ℕ, zero, suc, ◌<◌, ◌≤◌, ◌+◌, ◌++◌, List, [], ◌∷◌, take, drop, get_or, map, refl, sym, ap, ◌∙◌, arith, drop-cons}
use Rattle.std.specs.List.{All, range_with_len}
use Rattle.std.proofs.lemmas.List.{take-append-drop}
use Rattle.std.proofs.lemmas.List.Elements.{All-nil, All-cons, All-append}
use Rattle.std.proofs.lemmas.List.FromFn.{length-map-range_with_len, take-map-range_with_len, get_or-map-range_with_len}
use Rattle.heap_model.specs.Lists.{Least, numbered}
use Rattle.heap_model.specs.Database.{entry_count_in}
use Rattle.heap_model.specs.Files.{HasFault, IsFirstFault, HasNoFault}
use Rattle.heap_model.specs.declared.names.Which.TheVariants.{App, Sort}
use Rattle.heap_model.specs.declared.file_fault.FileFault.{FileFault}
use Rattle.heap_model.specs.declared.file_fault.FileFault.TheVariants.{Truncated, ChainedList, EmptyName, BadInfo, BadOffset}

-- a file doesn't have a fault
abbrev pub IsWithout : List ℕ → FileFault → Type 0
IsWithout file fault = HasFault file fault → ⊥

-- the faults that are looked for before those of entries
abbrev pub head_faults : List FileFault
head_faults = Truncated ∷ ChainedList ∷ EmptyName ∷ BadInfo App ∷ BadInfo Sort ∷ []

pub record HasGoodHead (file : List ℕ) : Type 0 where
  pub whole : IsWithout file Truncated
  pub ends : IsWithout file ChainedList
  pub named : IsWithout file EmptyName
  pub app_info : IsWithout file (BadInfo App)
  pub sort_info : IsWithout file (BadInfo Sort)

pub good_head : (file : List ℕ) → HasGoodHead file → All (IsWithout file) head_faults
good_head file good =
    let none = All-nil (IsWithout file) in
    let sort = All-cons (IsWithout file) (BadInfo Sort) [] good.sort_info none in
    let app = All-cons (IsWithout file) (BadInfo App) (BadInfo Sort ∷ []) good.app_info sort in
    let name =
    All-cons (IsWithout file) EmptyName (BadInfo App ∷ BadInfo Sort ∷ []) good.named app in
    let chained = All-cons (IsWithout file) ChainedList
    (EmptyName ∷ BadInfo App ∷ BadInfo Sort ∷ []) good.ends name in
    All-cons (IsWithout file) Truncated
    (ChainedList ∷ EmptyName ∷ BadInfo App ∷ BadInfo Sort ∷ []) good.whole chained

-- ---- the first fault of the head

pub truncated_first : (file : List ℕ) → HasFault file Truncated → IsFirstFault file Truncated
truncated_first file fault = record {
  before = [];
  after =
      ChainedList ∷ EmptyName ∷ BadInfo App ∷ BadInfo Sort
      ∷ numbered BadOffset (entry_count_in file);
  order = refl;
  earlier = All-nil (IsWithout file);
  here = fault;
}

pub chained_first : (file : List ℕ) → IsWithout file Truncated → HasFault file ChainedList
    → IsFirstFault file ChainedList
chained_first file whole fault = record {
  before = Truncated ∷ [];
  after = EmptyName ∷ BadInfo App ∷ BadInfo Sort ∷ numbered BadOffset (entry_count_in file);
  order = refl;
  earlier = All-cons (IsWithout file) Truncated [] whole (All-nil (IsWithout file));
  here = fault;
}

two_good : (file : List ℕ) → IsWithout file Truncated → IsWithout file ChainedList
    → All (IsWithout file) (Truncated ∷ ChainedList ∷ [])
two_good file whole ends =
    All-cons (IsWithout file) Truncated (ChainedList ∷ []) whole
    (All-cons (IsWithout file) ChainedList [] ends (All-nil (IsWithout file)))

pub unnamed_first : (file : List ℕ) → IsWithout file Truncated → IsWithout file ChainedList
    → HasFault file EmptyName → IsFirstFault file EmptyName
unnamed_first file whole ends fault = record {
  before = Truncated ∷ ChainedList ∷ [];
  after = BadInfo App ∷ BadInfo Sort ∷ numbered BadOffset (entry_count_in file);
  order = refl;
  earlier = two_good file whole ends;
  here = fault;
}

pub app_first : (file : List ℕ) → IsWithout file Truncated → IsWithout file ChainedList
    → IsWithout file EmptyName → HasFault file (BadInfo App) → IsFirstFault file (BadInfo App)
app_first file whole ends named fault = record {
  before = Truncated ∷ ChainedList ∷ EmptyName ∷ [];
  after = BadInfo Sort ∷ numbered BadOffset (entry_count_in file);
  order = refl;
  earlier =
      All-append (IsWithout file) (Truncated ∷ ChainedList ∷ []) (EmptyName ∷ [])
      (two_good file whole ends)
      (All-cons (IsWithout file) EmptyName [] named (All-nil (IsWithout file)));
  here = fault;
}

pub sort_first : (file : List ℕ) → IsWithout file Truncated → IsWithout file ChainedList
    → IsWithout file EmptyName → IsWithout file (BadInfo App) → HasFault file (BadInfo Sort)
    → IsFirstFault file (BadInfo Sort)
sort_first file whole ends named app fault = record {
  before = Truncated ∷ ChainedList ∷ EmptyName ∷ BadInfo App ∷ [];
  after = numbered BadOffset (entry_count_in file);
  order = refl;
  earlier =
      All-append (IsWithout file) (Truncated ∷ ChainedList ∷ []) (EmptyName ∷ BadInfo App ∷ [])
      (two_good file whole ends)
      (All-cons (IsWithout file) EmptyName (BadInfo App ∷ []) named
      (All-cons (IsWithout file) (BadInfo App) [] app (All-nil (IsWithout file))));
  here = fault;
}

-- ---- the faults of entries

-- what holds at each index below a number holds of each of the list
all_numbered : {X : Type 0} (P : X → Type 0) (each : ℕ → X) (from count : ℕ)
    → ((index : ℕ) → from ≤ index → index < from + count → P (each index))
    → All P (map each (range_with_len from count))
all_numbered P each from zero holds = All-nil P
all_numbered P each from (suc count) holds =
    All-cons P (each from) (map each (range_with_len (from + 1) count))
    (holds from (omega arith) (omega arith))
    (all_numbered P each (from + 1) count
    (λ index low high. holds index (omega arith) (omega arith)))

-- that list, parted before an index
numbered_parts : {X : Type 0} (each : ℕ → X) (index count : ℕ) → index < count
    → numbered each count
    ≡ numbered each index ++ each index ∷ drop (suc index) (numbered each count)
numbered_parts each index count inside =
    let xs = numbered each count in
    let long = length-map-range_with_len each 0 count in
    sym (take-append-drop index xs)
    ∙ ap (λ ys. take index xs ++ ys) (drop-cons xs index (each index) (omega arith))
    ∙ ap (λ ys. ys ++ get_or xs index (each index) ∷ drop (suc index) xs)
    (take-map-range_with_len each 0 count index (omega arith))
    ∙ ap (λ y. numbered each index ++ y ∷ drop (suc index) xs)
    (get_or-map-range_with_len each 0 count index index (each index) inside (omega arith))

pub first_of_entries : (file : List ℕ) (index : ℕ) → HasGoodHead file
    → Least (λ entry. HasFault file (BadOffset entry)) index → IsFirstFault file (BadOffset index)
first_of_entries file index good least = record {
  before = head_faults ++ numbered BadOffset index;
  after = drop (suc index) (numbered BadOffset (entry_count_in file));
  order =
      ap (λ faults. head_faults ++ faults)
      (numbered_parts BadOffset index (entry_count_in file) least.here.0);
  earlier = All-append (IsWithout file) head_faults (numbered BadOffset index) (good_head file good)
      (all_numbered (IsWithout file) BadOffset 0 index
      (λ entry low high. least.none_below entry (omega arith)));
  here = least.here;
}

pub no_fault : (file : List ℕ) → HasGoodHead file
    → ((index : ℕ) → index < entry_count_in file → IsWithout file (BadOffset index))
    → HasNoFault file
no_fault file good entries =
    All-append (IsWithout file) head_faults (numbered BadOffset (entry_count_in file))
    (good_head file good)
    (all_numbered (IsWithout file) BadOffset 0 (entry_count_in file)
    (λ index low high. entries index (omega arith)))
