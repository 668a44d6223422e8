-- A heap that holds nothing is accepted with its databases: there are none, and it means the empty
-- store.
use Rattle.std.proofs.Common.{◌≡◌, ℕ, ◌-◌, ◌%◌, List, [], ◌∷◌, length, map, None, refl, sym, ap, subst, arith}
use Rattle.std.specs.Prelude.{All}
use Rattle.std.proofs.lemmas.List.Elements.{All-nil}
use Rattle.std.specs.List.{AllZip}
use Rattle.heap_model.specs.Chunk.{free}
use Rattle.heap_model.specs.Slots.{start_behind}
use Rattle.heap_model.specs.Lists.{u32s_in, Distinct}
use Rattle.heap_model.specs.Heap.{HeapAccepted, directory_of}
use Rattle.heap_model.specs.Reading.{held}
use Rattle.heap_model.specs.Maps.{not_owned}
use Rattle.heap_model.specs.Store.{StoredDatabase, bytes_of, owner_of, bytes_under, owner_under, directory_bytes, listed, database_under, databases, names_of, IsHeaderSlot, IsDatabase, Accepted, SpelledUnder, Means, store_of}
use Rattle.laws_heap.proofs.Meanings.{heap_holds}
use Rattle.chunk_format.specs.Blank.{IsBlank, IsEmpty}

module _ (image : List ℕ) (nothing : (name : ℕ) → held image name ≡ None) where
  owner_is : (slot : ℕ) → owner_under image slot ≡ 16
  unfolding owner_under
  owner_is slot = ap owner_of (nothing slot)

  bytes_are : directory_bytes image ≡ []
  unfolding directory_bytes bytes_under
  bytes_are = ap bytes_of (nothing (directory_of image))

  listed_are : listed image ≡ []
  unfolding listed
  listed_are = ap u32s_in bytes_are

  databases_are : databases image ≡ []
  unfolding databases
  databases_are = ap (map (database_under image)) listed_are

  distinct_none : {X : Type 0} (xs : List X) → xs ≡ [] → Distinct xs
  distinct_none xs e = λ i j d low high. absurd (let none : length xs ≡ 0 = ap length e in omega arith)

  nothing_accepted : HeapAccepted image → Accepted image
  nothing_accepted h = record {
    heap = h;
    whole = ap (λ (bytes : List ℕ). length bytes % 4) bytes_are;
    few = let none : length (listed image) ≡ 0 = ap length listed_are in omega arith;
    distinct = distinct_none (listed image) listed_are;
    headers = subst (All (IsHeaderSlot image)) (sym listed_are) (All-nil (IsHeaderSlot image));
    each = subst (All (IsDatabase image)) (sym databases_are) (All-nil (IsDatabase image));
    own_names = distinct_none (names_of (databases image)) (ap names_of databases_are);
    data_once = λ slot e. let own = owner_is slot in absurd (omega arith);
    all_listed = λ slot e. let own = owner_is slot in absurd (omega arith);
  }

  none_spelled : (slots : List ℕ) (stored : List StoredDatabase) → slots ≡ [] → stored ≡ [] → AllZip (SpelledUnder (held image)) slots stored
  none_spelled [] [] e f = tt
  none_spelled [] (one ∷ stored) e f = absurd (let none : length (one ∷ stored) ≡ 0 = ap length f in omega arith)
  none_spelled (slot ∷ slots) stored e f = absurd (let none : length (slot ∷ slots) ≡ 0 = ap length e in omega arith)

  nothing_means : HeapAccepted image → Means image (store_of image)
  unfolding store_of
  nothing_means h = record {
    all = held image;
    holds = heap_holds image h;
    map_is = refl;
    spelled = none_spelled (listed image) (databases image) listed_are databases_are;
  }

  nothing_empty : IsEmpty (store_of image)
  unfolding store_of
  nothing_empty = record { map = λ name. ap (not_owned 0) (nothing name); databases = databases_are }

pub blank_accepted : (size slots : ℕ) (image : List ℕ) → IsBlank size slots image → Accepted image
blank_accepted size slots image b = nothing_accepted image b.nothing (free (size - start_behind slots) ∷ [], b.heap)

pub blank_means : (size slots : ℕ) (image : List ℕ) → IsBlank size slots image → Means image (store_of image)
blank_means size slots image b = nothing_means image b.nothing (free (size - start_behind slots) ∷ [], b.heap)

pub blank_empty : (size slots : ℕ) (image : List ℕ) → IsBlank size slots image → IsEmpty (store_of image)
blank_empty size slots image b = nothing_empty image b.nothing
