-- What the tests ask to be made can be the header and the entries of a database.
use Rattle.std.proofs.Common.{◌≡◌, ◌≢◌, ℕ, ◌<◌, true, false, List, [], ◌∷◌, Some, None, refl, sym, ap, subst, arith}
use Rattle.std.proofs.lemmas.List.Elements.{All-nil, All-cons}
use Rattle.std.proofs.lemmas.List.Kept.{AllPairs-cons}
use Rattle.std.specs.Prelude.{All}
use Rattle.std.specs.List.{AllPairs}
use Rattle.heap_model.specs.Lists.{Distinct}
use Rattle.heap_model.specs.Database.{IsDatabaseName, has_resources}
use Rattle.heap_model.specs.declared.database.DbInfo.{DbInfo}
use Rattle.palm_store.specs.declared.entries.infos.EntryInfo.TheVariants as infos
use Rattle.palm_store.specs.WholeDatabases.{CanCome, CanBeWhole}

one_letter : IsDatabaseName (87 ∷ [])
one_letter = record { some = omega arith; room = omega arith; none_zero = All-cons (λ byte. 0 < byte) 87 [] (omega arith) (All-nil (λ byte. 0 < byte)) }

none_twice : Distinct {X = ℕ} []
none_twice i j d less below = absurd (omega arith)

one_once : (x : ℕ) → Distinct (x ∷ [])
one_once x i j d less below = absurd (omega arith)

two_once : (x y : ℕ) → x ≢ y → Distinct (x ∷ y ∷ [])
two_once x y apart = AllPairs-cons (λ one other. one ≢ other) x (y ∷ []) (All-cons (λ other. x ≢ other) y [] apart (All-nil (λ other. x ≢ other))) (one_once y)

pub records_can : (info : DbInfo) → info.name ≡ 87 ∷ [] → info.attributes ≡ 8 → info.entry_count ≡ 2 → CanBeWhole info ((infos.Record 65 12, Some 10) ∷ (infos.Record 128 11, None) ∷ [])
records_can info name attributes count =
    let kind : has_resources info.attributes ≡ false = ap has_resources attributes in
    record {
      name = subst (λ (xs : List ℕ). IsDatabaseName xs) (sym name) one_letter;
      entry_count = count;
      few = omega arith;
      each = All-cons (CanCome (has_resources info.attributes)) (infos.Record 65 12, Some 10) ((infos.Record 128 11, None) ∷ []) (kind, omega arith, omega arith, λ e. absurd cc)
          (All-cons (CanCome (has_resources info.attributes)) (infos.Record 128 11, None) [] (kind, omega arith, omega arith, λ e. refl) (All-nil (CanCome (has_resources info.attributes))));
      ids = two_once 12 11 (λ e. omega arith);
    }

pub resources_can : (info : DbInfo) → info.name ≡ 87 ∷ [] → info.attributes ≡ 1 → info.entry_count ≡ 2 → CanBeWhole info ((infos.Resource 1951618130 1000, Some 0) ∷ (infos.Resource 1951618130 1000, Some 5) ∷ [])
resources_can info name attributes count =
    let kind : has_resources info.attributes ≡ true = ap has_resources attributes in
    record {
      name = subst (λ (xs : List ℕ). IsDatabaseName xs) (sym name) one_letter;
      entry_count = count;
      few = omega arith;
      each = All-cons (CanCome (has_resources info.attributes)) (infos.Resource 1951618130 1000, Some 0) ((infos.Resource 1951618130 1000, Some 5) ∷ []) (kind, refl)
          (All-cons (CanCome (has_resources info.attributes)) (infos.Resource 1951618130 1000, Some 5) [] (kind, refl) (All-nil (CanCome (has_resources info.attributes))));
      ids = none_twice;
    }
