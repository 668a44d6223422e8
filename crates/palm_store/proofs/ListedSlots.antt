-- A slot listed last in the directory, which is made for it or grows by it, and what refuses that.
use Rattle.palm_store.proofs.Words.{◌≡◌, ◌≢◌, ℕ, ◌+◌, ◌-◌, ◌*◌, ◌/◌, ◌<◌, ◌≤◌, List, ◌++◌, length, replicate, Some, None, refl, sym, ap, subst, ◌∙◌, arith, length-append, inl, inr, cases_eq, length-map-range_with_len, append-nil, take_all, drop_all, length-replicate, take-append_seam, u32_at, u32_bytes, overwritten, sized_to, HeapAccepted, directory_of, Memory, IsLent, LiveChunk, held, need, ShortFor, gone, put, sized, same_some, bytes_under, directory_bytes, owner_under, Accepted, listed, Leaves, length-u32_bytes, MakesNew, directory_owner, managers_loose, FirstBrings, growth_checks, Refusal, NotEnoughSpace, IsMovable, all_written, ListsLast}
use Rattle.heap_model.specs.Leaving.{NamesDirectory}
use Rattle.laws_heap.proofs.Resizings.{length-sized_to}
use Rattle.laws_store.proofs.Edited.{here as updated_here, apart as updated_apart}
use Rattle.mem_manager.proofs.KeptLoans.{named_still}
use Rattle.palm_store.proofs.Numbers.{no_directory}
use Rattle.palm_store.proofs.Maps.{name_now, chunk_now, others_now, owner_none, bytes_held, Owned, owned, held_some}
use Rattle.palm_store.proofs.TwoSteps.{changed_keeps, made_keeps, still_after, then_again}

abbrev pub chunk_of : List ℕ → LiveChunk
chunk_of bytes = record { bytes = bytes; lock = 0; owner = 0 }

-- what was made: it has no lock
pub made_chunk : (old new : List ℕ) (name size owner : ℕ) → MakesNew old new name size owner → held new name ≡ Some (record { bytes = replicate size 0; lock = 0; owner = owner })
made_chunk old new name size owner m = name_now name _ m.leaves

pub made_here : (old new : List ℕ) (name size : ℕ) → MakesNew old new name size 0 → held new name ≡ Some (chunk_of (replicate size 0))
made_here old new name size m = made_chunk old new name size 0 m

-- a chunk that was made is freed again
pub given_back : {owner : ℕ} (old mid new : List ℕ) (slot size : ℕ) → MakesNew old mid slot size owner → Leaves mid new (gone (held mid) slot) → Leaves old new (held old)
given_back old mid new slot size m g =
    let both = then_again slot _ None (made_keeps slot _ m.fresh m.leaves) m.leaves g in
    record {
      map = λ name. both.map name ∙ elim (cases_eq name slot) [
        | inl e ↦ updated_here (held old) slot None name e ∙ sym (ap (held old) e ∙ m.fresh)
        | inr ne ↦ updated_apart (held old) slot None name ne
      ];
      frame = both.frame;
      still = both.still;
    }

-- what was written
pub put_here : (old new : List ℕ) (name at : ℕ) (part : List ℕ) (live : LiveChunk) → Leaves old new (put (held old) name at part) → held old name ≡ Some live → held new name ≡ Some (record live { bytes = overwritten live.bytes at part })
put_here old new name at part live l e = chunk_now name (λ x. record x { bytes = overwritten x.bytes at part }) l e

pub put_apart : (old new : List ℕ) (name at : ℕ) (part : List ℕ) → Leaves old new (put (held old) name at part) → (other : ℕ) → other ≢ name → held new other ≡ held old other
put_apart old new name at part l other ne = others_now name _ l other ne

pub sized_here : (old new : List ℕ) (name size : ℕ) (live : LiveChunk) → Leaves old new (sized (held old) name size) → held old name ≡ Some live → held new name ≡ Some (record live { bytes = sized_to live.bytes size })
sized_here old new name size live l e = chunk_now name (λ x. record x { bytes = sized_to x.bytes size }) l e

pub lock_of : (image : List ℕ) (name : ℕ) (one other : LiveChunk) → held image name ≡ Some one → one.lock ≡ 0 → held image name ≡ Some other → other.lock ≡ 0
lock_of image name one other e none f = ap (λ live. live.lock) (same_some other one (sym f ∙ e)) ∙ none

-- bytes that were written after those of a chunk that grew for them
pub more_written : (old part : List ℕ) (size at : ℕ) → size ≡ length old + length part → at ≡ length old → overwritten (sized_to old size) at part ≡ old ++ part
unfolding overwritten
more_written old part size at long end =
    let zeros : List ℕ = replicate (length part) 0 in
    let count = length-replicate {A = ℕ} (length part) 0 in
    let both = length-append old zeros in
    let grown : sized_to old size ≡ old ++ zeros = ap (λ (xs : List ℕ). xs ++ replicate (size - length old) 0) (take_all size old (omega arith)) ∙ (let more : size - length old ≡ length part = omega arith in rw more refl) in
    rw (grown, end) (rw (take-append_seam old zeros, drop_all (length old + length part) (old ++ zeros) (omega arith), append-nil) refl)

-- the directory that there is
pub directory_owned : (image : List ℕ) (name : ℕ) → HeapAccepted image → 0 < directory_of image → name ≡ directory_of image → owner_under image name ≡ 0
directory_owned image name h some is = ap (owner_under image) is ∙ directory_owner image h some

pub the_directory : (image : List ℕ) (name : ℕ) → HeapAccepted image → 0 < directory_of image → name ≡ directory_of image → Owned image name 0
the_directory image name h some is = owned image name 0 (directory_owned image name h some is) (omega arith)

directory_held : (image : List ℕ) (name : ℕ) (live : LiveChunk) → directory_of image ≡ name → held image name ≡ Some live → directory_bytes image ≡ live.bytes
unfolding directory_bytes
directory_held image name live is e = ap (bytes_under image) is ∙ bytes_held image name live e

-- the name of a chunk that was made is no directory's
pub made_apart : {owner : ℕ} (old mid : List ℕ) (slot size : ℕ) → owner < 16 → HeapAccepted old → MakesNew old mid slot size owner → slot ≢ directory_of mid
made_apart {owner} old mid slot size low h m e =
    let some = held_some mid slot _ m.leaves.frame.accepted (made_chunk old mid slot size owner m) low in
    let there : slot ≡ directory_of old = e ∙ m.leaves.frame.directory in
    let own = directory_owned old slot h (omega arith) there in
    let none = owner_none old slot m.fresh in
    omega arith

pub fresh_apart : (old mid : List ℕ) (slot size : ℕ) → HeapAccepted old → MakesNew old mid slot size 0 → slot ≢ directory_of mid
fresh_apart old mid slot size h m = made_apart old mid slot size (omega arith) h m

-- a slot is listed
pub begun : (old first second new : List ℕ) (name slot : ℕ) (word : List ℕ) → HeapAccepted old → directory_of old ≡ 0 → MakesNew old first name 4 0 → Leaves first second (put (held first) name 0 word) → NamesDirectory second new name → word ≡ u32_bytes slot → ListsLast old new slot
begun old first second new name slot word h none m l n is =
    let four : length word ≡ 4 = ap length is ∙ length-u32_bytes slot in
    let both = then_again name _ _ (made_keeps name _ m.fresh m.leaves) m.leaves l in
    let wrote = put_here first second name 0 word (chunk_of (replicate 4 0)) l (made_here old first name 4 m) in
    let now : held new name ≡ Some (chunk_of word) = n.map name ∙ wrote ∙ ap (λ (bytes : List ℕ). Some (chunk_of bytes)) (all_written (replicate 4 0) word four) in
    record {
      accepted = n.accepted;
      len = n.len ∙ both.frame.len;
      tables = n.tables ∙ both.frame.tables;
      still = still_after old second new (made_keeps name _ m.fresh both) both.still (named_still n);
      some = omega (arith, held_some new name (chunk_of word) n.accepted now (omega arith));
      directory = inr (none, ap (held old) n.directory ∙ m.fresh);
      last = directory_held new name (chunk_of word) n.directory now ∙ is ∙ ap (λ (xs : List ℕ). xs ++ u32_bytes slot) (sym (no_directory old h none));
      others = λ other ne. n.map other ∙ others_now name _ both other (λ e. ne (e ∙ sym n.directory));
    }

pub extended : (old first new : List ℕ) (directory slot size at : ℕ) (word : List ℕ) → HeapAccepted old → 0 < directory_of old → directory ≡ directory_of old → at ≡ length (bytes_under old directory) → size ≡ at + 4 → Leaves old first (sized (held old) directory size)
    → Leaves first new (put (held first) directory at word) → word ≡ u32_bytes slot → ListsLast old new slot
unfolding directory_bytes
extended old first new directory slot size at word h some is at_is size_is s l word_is =
    let o = the_directory old directory h some is in
    let bytes = bytes_held old directory o.live o.there in
    let four : length word ≡ 4 = ap length word_is ∙ length-u32_bytes slot in
    let at_end : at ≡ length o.live.bytes = at_is ∙ ap length bytes in
    let both = then_again directory _ _ (changed_keeps old first directory (λ x. record x { bytes = sized_to x.bytes size }) (λ live. refl) s) s l in
    let word_stays = both.frame.directory in
    record {
      accepted = both.frame.accepted;
      len = both.frame.len;
      tables = both.frame.tables;
      still = both.still;
      some = omega arith;
      directory = inl word_stays;
      last = directory_held new directory _ (word_stays ∙ sym is) (put_here first new directory at word _ l (sized_here old first directory size o.live s o.there))
          ∙ more_written o.live.bytes word size at (omega arith) at_end ∙ rw (word_is, ← bytes, is) refl;
      others = λ other ne. others_now directory _ both other (λ e. ne (e ∙ is ∙ sym word_stays));
    }

-- it lists 1,024 databases at most
pub few_bytes : (image : List ℕ) → Accepted image → length (directory_bytes image) ≤ 4096
unfolding listed
few_bytes image a = omega (arith, length-map-range_with_len (λ i. u32_at (directory_bytes image) (4 * i)) 0 (length (directory_bytes image) / 4))

-- what refuses a chunk without a lock to grow is want of room, where it isn't lent
pub growth_short : (old : Memory) (name size : ℕ) (live : LiveChunk) (refusal : Refusal) → held old.bytes name ≡ Some live → live.lock ≡ 0 → (IsLent old name → ⊥) → FirstBrings (growth_checks old (held old.bytes) name size) refusal
    → (refusal ≡ NotEnoughSpace) × (need (length live.bytes) < need size) × ShortFor old.bytes name (need size)
growth_short old name size live refusal e loose here brings =
    let brought = rw e at brings in
    elim brought [
      | inl lent ↦ absurd (here lent.0)
      | inr rest ↦ elim rest.1 [
        | inl locked ↦ (let held_fast = locked.0.0 in absurd (omega arith))
        | inr more ↦ elim more.1 [ inl short ↦ (short.1, short.0.1, short.0.2) | inr none ↦ absurd none.1 ]
      ]
    ]

-- the chunk of the directory: a chunk without a lock is a movable one
pub loose_movable : (image : List ℕ) (name : ℕ) (live : LiveChunk) → held image name ≡ Some live → live.lock ≡ 0 → IsMovable image name
loose_movable image name live there loose = record { live = live; is_held = there; movable = λ e. omega arith }

pub made_movable : (old new : List ℕ) (name size owner : ℕ) → MakesNew old new name size owner → IsMovable new name
made_movable old new name size owner m = loose_movable new name _ (made_chunk old new name size owner m) refl

pub directory_loose : (image : List ℕ) (name : ℕ) → HeapAccepted image → Owned image name 0 → IsMovable image name
directory_loose image name h o = loose_movable image name o.live o.there (managers_loose image name o.live h o.there o.own)

pub directory_few : (image body : List ℕ) (name : ℕ) → name ≡ directory_of image → length (directory_bytes image) ≤ 4096 → body ≡ bytes_under image name → length body ≤ 4096
unfolding directory_bytes
directory_few image body name is few body_is = rw (body_is, is) few

pub directory_short : (image body : List ℕ) (name size : ℕ) → name ≡ directory_of image → body ≡ bytes_under image name → size ≡ length body + 4 → ShortFor image name (need size) → ShortFor image (directory_of image) (need (length (directory_bytes image) + 4))
unfolding directory_bytes
directory_short image body name size is body_is size_is short = subst (λ (n : ℕ). ShortFor image (directory_of image) (need n)) (rw (size_is, body_is, is) refl) (rw is at short)

-- it has room for one slot more once it has grown
pub grown_room : (old new body word : List ℕ) (name size slot : ℕ) → (o : Owned old name 0) → Leaves old new (sized (held old) name size) → body ≡ bytes_under old name → size ≡ length body + 4 → word ≡ u32_bytes slot → length body + length word ≤ length (bytes_under new name)
grown_room old new body word name size slot o l body_is size_is word_is =
    let four = ap length word_is ∙ length-u32_bytes slot in
    let now = ap length (bytes_held new name _ (sized_here old new name size o.live l o.there)) ∙ length-sized_to o.live.bytes size in
    omega (arith, four, now, size_is)
