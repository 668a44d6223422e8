-- Chunks of zeros that were made for data: one, several in order, and all of them freed again.
use Rattle.palm_store.proofs.Words.{◌≡◌, ◌≢◌, ℕ, suc, ◌+◌, ◌-◌, ◌<◌, ◌≤◌, List, [], ◌∷◌, ◌++◌, length, get_or, set, take, drop, replicate, Option, Some, None, refl, sym, ap, subst, ◌∙◌, arith, length-append, inl, inr, cases_eq, map-append, get_or-map, length-map, take-map, take-append-drop, take_more, take_more_set, IfOk, OnOk, Ok, Err, is_some, AllZip, need, HeapAccepted, directory_of, LiveChunk, ChunkMap, Of, IsLocked, held, rooms, times, gone, Part, Lowers, Leaves, none_some, same-least, owner_under, all_gone, Name, Refusal, BlockSizes, frame_then, held-zero, same-yes, same-no, times-cons, times-append, directory_owner, slots_made, MakesNew, IsMovable, makings, WholeEntry, size_of_data, data_sizes, numbers_in, IsGained, GainsZeros, RunsOut, Spends, MakesAll, AreOwnChunks}
use Rattle.std.specs.Prelude.{Result}
use Rattle.laws_store.proofs.Edited.{here as updated_here, apart as updated_apart}
use Rattle.palm_store.proofs.Maps.{gone_out, gone_in, kept, owner_none, held_some, still_through}
use Rattle.palm_store.proofs.NamedChunks.{freed_one, freed_more}
use Rattle.palm_store.proofs.TwoChanges.{is_there}
use Rattle.palm_store.proofs.WholeRooms.{spends_both, makings-append, runs_more, runs_then}

-- pairs of lists
pub zip_weaken : {A B : Type 0} (R Q : A → B → Type 0) (xs : List A) (ys : List B) → ((x : A) (y : B) → R x y → Q x y) → AllZip R xs ys → AllZip Q xs ys
zip_weaken R Q (x ∷ xs) (y ∷ ys) weaken all = (weaken x y all.0, zip_weaken R Q xs ys weaken all.1)
zip_weaken R Q xs ys weaken all = all

zip_append : {A B : Type 0} (R : A → B → Type 0) (xs zs : List A) (ys ws : List B) → AllZip R xs ys → AllZip R zs ws → AllZip R (xs ++ zs) (ys ++ ws)
zip_append R [] zs [] ws all more = more
zip_append R (x ∷ xs) zs (y ∷ ys) ws all more = (all.0, zip_append R xs zs ys ws all.1 more)
zip_append R xs zs ys ws all more = absurd all

-- names that came
abbrev pub zeros_of : ℕ → LiveChunk
zeros_of size = record { bytes = replicate size 0; lock = 0; owner = 15 }

-- a name stood for nothing, and stands for a chunk of zeros now
pub record IsNew (old new : ChunkMap) (name : ℕ) : Type 0 where
  pub size : ℕ
  pub fresh : old name ≡ None
  pub there : new name ≡ Some (zeros_of size)

pub gained : (old new : ChunkMap) (sizes : List (Option ℕ)) (names : List ℕ) → AllZip (IsGained old new) sizes names → (name : ℕ) → 0 < name → 0 < times name names → IsNew old new name
gained old new [] [] all name some at = absurd (omega arith)
gained old new (None ∷ sizes) (one ∷ names) all name some at =
    let zero_is : one ≡ 0 = all.0 in
    let no = same-no one name (λ e. omega arith) in
    gained old new sizes names all.1 name some (omega (arith, times-cons name one names))
gained old new (Some size ∷ sizes) (one ∷ names) all name some at = elim (cases_eq one name) [
  | inl e ↦ record { size = size; fresh = ap old (sym e) ∙ all.0.1; there = ap new (sym e) ∙ all.0.2 }
  | inr ne ↦ gained old new sizes names all.1 name some (omega (arith, times-cons name one names, same-no one name ne))
]
gained old new sizes names all name some at = absurd all

-- a name that stood for something is none of those that came
pub not_gained : (old new : ChunkMap) (sizes : List (Option ℕ)) (names : List ℕ) → GainsZeros old new sizes names → (name : ℕ) (live : LiveChunk) → old name ≡ Some live → 0 < name → times name names ≡ 0
not_gained old new sizes names g name live e some = elim (cases_eq (times name names) 0) [
  | inl none ↦ none
  | inr more ↦ absurd (none_some (old name) live (gained old new sizes names g.each name some (omega arith)).fresh e)
]

pub kept_gaining : (old new : ChunkMap) (sizes : List (Option ℕ)) (names : List ℕ) → GainsZeros old new sizes names → (name : ℕ) (live : LiveChunk) → old name ≡ Some live → new name ≡ Some live
kept_gaining old new sizes names g name live e = g.others name (not_gained old new sizes names g name live e) ∙ e

-- a name that stands for nothing afterwards stood for nothing
pub none_before : (old new : ChunkMap) (sizes : List (Option ℕ)) (names : List ℕ) → GainsZeros old new sizes names → (name : ℕ) → new name ≡ None → old name ≡ None
none_before old new sizes names g name none = by (old name) refl where
  by : (o : Option LiveChunk) → old name ≡ o → old name ≡ None
  by None e = e
  by (Some live) e = absurd (none_some (new name) live none (kept_gaining old new sizes names g name live e))

-- one after the other
pub gains_both : (first mid last : ChunkMap) (sizes more : List (Option ℕ)) (names others : List ℕ) → GainsZeros first mid sizes names → GainsZeros mid last more others → GainsZeros first last (sizes ++ more) (names ++ others)
gains_both first mid last sizes more names others g h = record {
  each = zip_append (IsGained first last) sizes more names others (zip_weaken (IsGained first mid) (IsGained first last) sizes names (λ size name. front size name) g.each)
      (zip_weaken (IsGained mid last) (IsGained first last) more others (λ size name. back size name) h.each);
  once = λ name some. elim (cases_eq (times name names) 0) [
    | inl none ↦ omega (arith, times-append name names others, h.once name some)
    | inr here ↦
        let is = gained first mid sizes names g.each name some (omega arith) in
        omega (arith, times-append name names others, g.once name some, not_gained mid last more others h name (zeros_of is.size) is.there some)
  ];
  others = λ name none.
      h.others name (λ some. omega (arith, times-append name names others, none some))
      ∙ g.others name (λ some. omega (arith, times-append name names others, none some));
} where
  front : (size : Option ℕ) (name : ℕ) → IsGained first mid size name → IsGained first last size name
  front None name is = is
  front (Some size) name is = (is.0, is.1, kept_gaining mid last more others h name (zeros_of size) is.2)

  back : (size : Option ℕ) (name : ℕ) → IsGained mid last size name → IsGained first last size name
  back None name is = is
  back (Some size) name is = (is.0, none_before first mid sizes names g name is.1, is.2)

pub makes_both : (old mid new : List ℕ) (sizes more : List (Option ℕ)) (names others : List ℕ) → MakesAll old mid sizes names → MakesAll mid new more others → MakesAll old new (sizes ++ more) (names ++ others)
makes_both old mid new sizes more names others m n =
    let parts = makings-append sizes more in
    let kept : (name : ℕ) (live : LiveChunk) → held old name ≡ Some live → held mid name ≡ Some live = kept_gaining (held old) (held mid) sizes names m.gains in
    record {
      gains = gains_both (held old) (held mid) (held new) sizes more names others m.gains n.gains;
      frame = frame_then old mid new m.frame n.frame;
      still = still_through old mid new m.still n.still (λ name live e locked. kept name live e);
      spends = subst (λ (done : List Part). Spends (rooms old) done (rooms new)) (sym parts) (spends_both (rooms old) (makings sizes) (rooms mid) (makings more) (rooms new) m.spends n.spends);
      stretches = λ name there now.
          let one = is_there (held old name) there in
          let mid_there = ap is_some (kept name one.0 one.1) in
          n.stretches name mid_there now ∙ m.stretches name there mid_there;
      slots = omega (arith, m.slots, n.slots, length-append (makings sizes) (makings more), ap length parts);
    }

-- one, or none
pub makes_one : (old new : List ℕ) (name size : ℕ) → HeapAccepted old → MakesNew old new name size 15 → Lowers old new (need size) → MakesAll old new (Some size ∷ []) (name ∷ [])
makes_one old new name size h m lowers =
    let there : held new name ≡ Some (zeros_of size) = m.leaves.map name ∙ updated_here (held old) name (Some (zeros_of size)) name refl in
    let apart : (other : ℕ) → other ≢ name → held new other ≡ held old other = λ other ne. m.leaves.map other ∙ updated_apart (held old) name (Some (zeros_of size)) other ne in
    let some : 0 < name = held_some new name (zeros_of size) m.leaves.frame.accepted there (omega arith) in
    record {
      gains = record {
        each = ((some, m.fresh, there), tt);
        once = λ other positive. omega (arith, times-cons other name [], same-least name other);
        others = λ other none. apart other (λ e. (let one = same-yes name other (sym e) in let cons = times-cons other name [] in let nothing = none (omega arith) in omega arith));
      };
      frame = m.leaves.frame;
      still = m.leaves.still;
      spends = (rooms new, lowers.room, refl);
      stretches = lowers.kept;
      slots = slots_made old new name h m.leaves.frame.accepted m.leaves.frame.slots apart;
    }

-- freed again
pub own_chunks : (old new : List ℕ) (sizes : List (Option ℕ)) (names : List ℕ) → HeapAccepted old → MakesAll old new sizes names → AreOwnChunks new names
own_chunks old new sizes names h m = record {
  movable = λ name some at. (let is = gained (held old) (held new) sizes names m.gains.each name some at in record { live = zeros_of is.size; is_held = is.there; movable = λ e. omega arith });
  unlocked = λ name some at locked. (let is = gained (held old) (held new) sizes names m.gains.each name some at in let held_fast = (subst (λ (o : Option LiveChunk). Of o IsLocked) is.there locked).0 in omega arith);
  once = m.gains.once;
  no_directory = λ name some at e.
      let is = gained (held old) (held new) sizes names m.gains.each name some at in
      let none = owner_none old name is.fresh in
      let word : name ≡ directory_of old = e ∙ m.frame.directory in
      let own = ap (owner_under old) word ∙ directory_owner old h (omega arith) in
      omega arith;
}

pub taken_back : (old mid new : List ℕ) (sizes : List (Option ℕ)) (names : List ℕ) → HeapAccepted old → MakesAll old mid sizes names → Leaves mid new (all_gone (held mid) names) → Leaves old new (held old)
taken_back old mid new sizes names h m l = record {
  map = λ name. elim (cases_eq (times name names) 0) [
    | inl none ↦ l.map name ∙ gone_out (held mid) names name none ∙ m.gains.others name (λ some. none)
    | inr more ↦ l.map name ∙ gone_in (held mid) names name (omega arith) ∙ sym (nothing name (omega arith))
  ];
  frame = frame_then old mid new m.frame l.frame;
  still = still_through old mid new m.still l.still (λ name live e locked. kept_gaining (held old) (held mid) sizes names m.gains name live e);
} where
  nothing : (name : ℕ) → 0 < times name names → held old name ≡ None
  nothing name at = elim (cases_eq name 0) [
    | inl e ↦ ap (held old) e ∙ held-zero old h
    | inr some ↦ (gained (held old) (held mid) sizes names m.gains.each name (omega arith) at).fresh
  ]

-- one name after another: an element of a list, by its index
pub record IsAt {A : Type 0} (xs : List A) (index : ℕ) (x none : A) : Type 0 where
  pub below : index < length xs
  pub is : x ≡ get_or xs index none

next_of : {A : Type 0} (xs : List A) (index : ℕ) (x none : A) → IsAt xs index x none → take (index + 1) xs ≡ take index xs ++ x ∷ []
next_of xs index x none at = take_more xs index none at.below ∙ ap (λ y. take index xs ++ y ∷ []) (sym at.is)

pub number_at : (names : List Name) (index : ℕ) (name : Name) → index < length names → name ≡ get_or names index (record { 0 = 0 }) → IsAt (numbers_in names) index name.0 0
number_at names index name below is = record {
  below = (let long = length-map names (λ (one : Name). one.0) in omega arith);
  is = ap (λ (one : Name). one.0) is ∙ sym (get_or-map (λ (one : Name). one.0) names index (record { 0 = 0 }) 0 below);
}

passed_once : (names : List ℕ) (index name : ℕ) → IsAt names index name 0 → times name (take index names) + 1 ≤ times name names
passed_once names index name at =
    let whole = ap (times name) (take-append-drop (index + 1) names) in
    let both = times-append name (take (index + 1) names) (drop (index + 1) names) in
    let front = ap (times name) (next_of names index name 0 at) in
    let pieces = times-append name (take index names) (name ∷ []) in
    let cons = times-cons name name [] in
    let one = same-yes name name refl in
    omega (arith, whole, both, front, pieces, cons, one)

module _ (old mid : List ℕ) (names : List ℕ) (index name : ℕ) (own : AreOwnChunks old names) (l : Leaves old mid (all_gone (held old) (take index names))) (at : IsAt names index name 0) (some : 0 < name) where
  among : 0 < times name names
  among = omega (arith, passed_once names index name at)

  stays : held mid name ≡ held old name
  stays = kept old mid (take index names) name l (omega (arith, passed_once names index name at, own.once name some))

  pub own_movable : IsMovable mid name
  own_movable = let m = own.movable name some among in record { live = m.live; is_held = stays ∙ m.is_held; movable = m.movable }

  pub own_unlocked : Of (held mid name) IsLocked → ⊥
  own_unlocked locked = own.unlocked name some among (rw stays at locked)

  pub own_beside : name ≡ directory_of mid → ⊥
  own_beside e = own.no_directory name some among (e ∙ l.frame.directory)

pub freed_upto : (old mid new : List ℕ) (names : List ℕ) (index name : ℕ) → Leaves old mid (all_gone (held old) (take index names)) → Leaves mid new (gone (held mid) name) → IsAt names index name 0 → Leaves old new (all_gone (held old) (take (index + 1) names))
freed_upto old mid new names index name l m at =
    subst (λ (passed : List ℕ). Leaves old new (all_gone (held old) passed)) (sym (next_of names index name 0 at)) (freed_more old mid new (take index names) (name ∷ []) l (freed_one mid new name m))

-- one size after another
abbrev pub IsSizeAt : List (Option ℕ) → ℕ → Option ℕ → Type 0
IsSizeAt sizes index size = IsAt sizes index size None

pub makes_more : (old mid new : List ℕ) (sizes : List (Option ℕ)) (names : List Name) (index : ℕ) (size : Option ℕ) (name : Name) → MakesAll old mid (take index sizes) (take index (numbers_in names)) → MakesAll mid new (size ∷ []) (name.0 ∷ [])
    → IsSizeAt sizes index size → index < length names → MakesAll old new (take (index + 1) sizes) (take (index + 1) (numbers_in (set names index name)))
makes_more old mid new sizes names index size name m n at below =
    let names_are : take (index + 1) (numbers_in (set names index name)) ≡ take index (numbers_in names) ++ name.0 ∷ [] =
    take-map (λ (one : Name). one.0) (index + 1) (set names index name)
    ∙ ap (λ (xs : List Name). numbers_in xs) (take_more_set names index name below)
    ∙ map-append (λ (one : Name). one.0) (take index names) (name ∷ [])
    ∙ ap (λ (xs : List ℕ). xs ++ name.0 ∷ []) (sym (take-map (λ (one : Name). one.0) index names)) in
    subst (λ (done : List (Option ℕ)). MakesAll old new done (take (index + 1) (numbers_in (set names index name)))) (sym (next_of sizes index size None at))
    (subst (λ (done : List ℕ). MakesAll old new (take index sizes ++ size ∷ []) done) (sym names_are) (makes_both old mid new (take index sizes) (size ∷ []) (take index (numbers_in names)) (name.0 ∷ []) m n))

-- where there is no room for one of them there is none for all
pub runs_at : (old mid : List ℕ) (sizes : List (Option ℕ)) (names : List ℕ) (index : ℕ) (size : Option ℕ) → MakesAll old mid (take index sizes) names → IsSizeAt sizes index size → RunsOut mid (length (makings (size ∷ []))) (makings (size ∷ []))
    → RunsOut old (length (makings sizes)) (makings sizes)
runs_at old mid sizes names index size m at lacks =
    let done : List Part = makings (take index sizes) in
    let here : List Part = makings (size ∷ []) in
    let rest : List Part = makings (drop (index + 1) sizes) in
    let parts : makings sizes ≡ (done ++ here) ++ rest =
    ap makings (sym (take-append-drop (index + 1) sizes)) ∙ makings-append (take (index + 1) sizes) (drop (index + 1) sizes)
    ∙ ap (λ (xs : List (Option ℕ)). makings xs ++ rest) (next_of sizes index size None at) ∙ ap (λ (xs : List Part). xs ++ rest) (makings-append (take index sizes) (size ∷ [])) in
    let both = runs_then old mid done here (length here) m.spends m.slots lacks in
    let more = runs_more old (length done + length here) (length rest) (done ++ here) rest both in
    let count : (length done + length here) + length rest ≡ length ((done ++ here) ++ rest) = omega (arith, length-append done here, length-append (done ++ here) rest) in
    rw parts (rw count at more)

-- what the call that makes one answers
pub made_sized : (old new : List ℕ) (asked : Option ℕ) (size : ℕ) (result : Result Name Refusal) → asked ≡ Some size → HeapAccepted old → IfOk result (λ name. MakesNew old new name.0 size 15) → OnOk result (Lowers old new (need size))
    → IfOk result (λ name. MakesAll old new (asked ∷ []) (name.0 ∷ []))
made_sized old new asked size (Ok name) is h m lowers = rw is (makes_one old new name.0 size h m lowers)
made_sized old new asked size (Err refusal) is h m lowers = tt

-- the sizes that are asked for
pub size_behind : (blocks : BlockSizes) (entries : List WholeEntry) (index : ℕ) (one : WholeEntry) → 2 ≤ index → index < 2 + length entries → size_of_data (get_or entries (index - 2) one) ≡ get_or (data_sizes blocks entries) index None
size_behind blocks entries index one past below =
    let is : index ≡ suc (suc (index - 2)) = omega arith in
    sym (get_or-map size_of_data entries (index - 2) one None (omega arith)) ∙ ap (λ (k : ℕ). get_or (data_sizes blocks entries) k None) (sym is)
