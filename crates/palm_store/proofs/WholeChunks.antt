-- The chunks of a new database, made and listed; and why there was no room for them.
use Rattle.palm_store.proofs.Words.{◌≡◌, ◌≢◌, ℕ, ◌+◌, ◌<◌, List, [], ◌∷◌, ◌++◌, length, replicate, Option, Some, None, refl, sym, ap, subst, ◌∙◌, arith, inl, inr, cases_eq, eq-eqb, ne_eqb, ◌⊎◌, is_some, u32_bytes, need, header_size, create_parts, create_slots, HeapAccepted, directory_of, LiveChunk, held, rooms, free_slots, Stuck, times, Part, making, Lowers, KeepsStretches, directory_bytes, Leaves, rewritten, managers_loose, slots_made, directory_like, one_grown, MakesNew, HasNoRoomToList, makings, listing_part, listing_slots, whole_parts, whole_slots, same_frame, same_some, none_some, IsGained, RunsOut, MakesAll, MakesAndLists, ListsLast, ListsNew, ListsWhole}
use Rattle.palm_store.proofs.Maps.{chunk_now, others_now, owner_none, bytes_held, still_through}
use Rattle.palm_store.proofs.TwoSteps.{with_bytes, made_keeps, still_after}
use Rattle.palm_store.proofs.ListedSlots.{chunk_of, made_here, lock_of, the_directory, directory_owned, fresh_apart}
use Rattle.palm_store.proofs.WholeRooms.{runs_then}
use Rattle.palm_store.proofs.GainedChunks.{zip_weaken, zeros_of, gained, kept_gaining, none_before}

-- the directory is as it was
pub record KeepsDirectory (old new : List ℕ) : Type 0 where
  pub word : directory_of new ≡ directory_of old
  pub kept : (name : ℕ) (live : LiveChunk) → held old name ≡ Some live → held new name ≡ Some live

pub keeps_made : (old mid : List ℕ) (slot size : ℕ) → MakesNew old mid slot size 0 → KeepsDirectory old mid
keeps_made old mid slot size m = record {
  word = m.leaves.frame.directory;
  kept = λ name live e. others_now slot _ m.leaves name (λ same. none_some (held old name) live (ap (held old) same ∙ m.fresh) e) ∙ e;
}

pub keeps_makes : (old mid : List ℕ) (sizes : List (Option ℕ)) (names : List ℕ) → MakesAll old mid sizes names → KeepsDirectory old mid
keeps_makes old mid sizes names m = record { word = m.frame.directory; kept = kept_gaining (held old) (held mid) sizes names m.gains }

pub same_bytes : (old mid : List ℕ) → HeapAccepted old → HeapAccepted mid → KeepsDirectory old mid → directory_bytes mid ≡ directory_bytes old
same_bytes old mid h g k = directory_like old mid h g k.word (λ some. (let o = the_directory old (directory_of old) h some refl in k.kept (directory_of old) o.live o.there ∙ sym o.there))

pub made_directory : (old mid : List ℕ) (slot size : ℕ) → HeapAccepted old → MakesNew old mid slot size 0 → directory_bytes mid ≡ directory_bytes old
made_directory old mid slot size h m = same_bytes old mid h m.leaves.frame.accepted (keeps_made old mid slot size m)

pub same_part : (old mid : List ℕ) → HeapAccepted old → KeepsDirectory old mid → KeepsStretches old mid → listing_part mid ≡ listing_part old
unfolding directory_bytes
same_part old mid h k stretches = elim (cases_eq (directory_of old) 0) [
  | inl none ↦ rw (k.word, eq-eqb (directory_of old) 0 none) refl
  | inr some ↦
      let o = the_directory old (directory_of old) h (omega arith) refl in
      let there = k.kept (directory_of old) o.live o.there in
      let stretch = stretches (directory_of old) (ap is_some o.there) (ap is_some there) in
      let bytes = bytes_held mid (directory_of old) o.live there ∙ sym (bytes_held old (directory_of old) o.live o.there) in
      rw (k.word, ne_eqb (directory_of old) 0 some, stretch, bytes) refl
]

-- why there was no room
pub no_listing_part : (image : List ℕ) → HeapAccepted image → HasNoRoomToList image → RunsOut image (listing_slots image) (listing_part image ∷ [])
no_listing_part image h lacks = elim lacks [
  | inl begins ↦ rw (eq-eqb (directory_of image) 0 begins.0) (elim begins.1 [ inl slots ↦ inl (omega arith) | inr short ↦ inr (inl short) ])
  | inr grown ↦
      let some = grown.0 in
      let o = the_directory image (directory_of image) h some refl in
      rw (ne_eqb (directory_of image) 0 (λ e. omega arith)) (inr ((one_grown image (directory_of image) (length (directory_bytes image) + 4) o.live h o.there (managers_loose image (directory_of image) o.live h o.there o.own)).1 grown.1))
]

-- the directory is to take one slot more after these parts, as before them
alike : (old mid : List ℕ) (slots : ℕ → ℕ) (parts : List Part) → HeapAccepted old → KeepsDirectory old mid → KeepsStretches old mid
    → RunsOut mid (slots (listing_slots mid)) (parts ++ listing_part mid ∷ []) → RunsOut mid (slots (listing_slots old)) (parts ++ listing_part old ∷ [])
alike old mid slots parts h k stretches lacks =
    subst (λ (part : Part). RunsOut mid (slots (listing_slots old)) (parts ++ part ∷ [])) (same_part old mid h k stretches)
    (subst (λ (count : ℕ). RunsOut mid (slots count) (parts ++ listing_part mid ∷ [])) (rw k.word refl) lacks)

-- parts that found room, and then none to list one more
pub no_listing_then : (old mid : List ℕ) (sizes : List (Option ℕ)) (names : List ℕ) → HeapAccepted old → MakesAll old mid sizes names → HasNoRoomToList mid
    → RunsOut old (length (makings sizes) + listing_slots old) (makings sizes ++ listing_part old ∷ [])
no_listing_then old mid sizes names h m lacks =
    runs_then old mid (makings sizes) (listing_part old ∷ []) (listing_slots old) m.spends m.slots
    (alike old mid (λ slots. slots) [] h (keeps_makes old mid sizes names m) m.stretches (no_listing_part mid m.frame.accepted lacks))

-- the header's chunk, and then no room for the rest
pub no_rest_room : (old mid : List ℕ) (slot size : ℕ) (sizes : List (Option ℕ)) → HeapAccepted old → MakesNew old mid slot size 0 → Lowers old mid (need size)
    → RunsOut mid (length (makings sizes) + listing_slots mid) (makings sizes ++ listing_part mid ∷ []) → RunsOut old (whole_slots old sizes) (whole_parts old size sizes)
no_rest_room old mid slot size sizes h m lowers lacks =
    runs_then old mid (making size ∷ []) (makings sizes ++ listing_part old ∷ []) (length (makings sizes) + listing_slots old) (rooms mid, lowers.room, refl)
    (slots_made old mid slot h m.leaves.frame.accepted m.leaves.frame.slots (others_now slot _ m.leaves))
    (alike old mid (λ slots. length (makings sizes) + slots) (makings sizes) h (keeps_made old mid slot size m) lowers.kept lacks)

-- the same for an empty database
pub no_listing : (old mid : List ℕ) (slot : ℕ) → HeapAccepted old → MakesNew old mid slot header_size 0 → Lowers old mid (need header_size) → HasNoRoomToList mid → (free_slots old < create_slots old) ⊎ Stuck (rooms old) (create_parts old)
no_listing old mid slot h m lowers lacks =
    let runs = no_rest_room old mid slot header_size [] h m lowers
    (elim (no_listing_part mid m.leaves.frame.accepted lacks) [ inl few ↦ inl (omega arith) | inr stuck ↦ inr stuck ]) in
    elim (cases_eq (directory_of old) 0) [
      | inl none ↦ (let none_is = eq-eqb (directory_of old) 0 none in rw none_is (rw none_is at runs))
      | inr some ↦ (let some_is = ne_eqb (directory_of old) 0 some in rw some_is (rw some_is at runs))
    ]

-- all of it is made and listed
pub listed_whole : (old mid new : List ℕ) (slot size : ℕ) (sizes : List (Option ℕ)) (names : List ℕ) → HeapAccepted old → MakesNew old mid slot size 0 → MakesAndLists mid new slot sizes names → ListsWhole old new slot (replicate size 0) sizes names
listed_whole old mid new slot size sizes names h m both =
    let filled : List ℕ = both.mid in
    let mk = both.makes in
    let l = both.lists in
    let word : directory_of filled ≡ directory_of old = mk.frame.directory ∙ m.leaves.frame.directory in
    let header : held filled slot ≡ Some (chunk_of (replicate size 0)) = kept_gaining (held mid) (held filled) sizes names mk.gains slot _ (made_here old mid slot size m) in
    let apart : slot ≢ directory_of new = elim l.directory [
      | inl stays ↦ λ e. fresh_apart old mid slot size h m (e ∙ stays ∙ mk.frame.directory)
      | inr begins ↦ λ e. none_some (held filled slot) (chunk_of (replicate size 0)) (ap (held filled) e ∙ begins.1) header
    ] in
    record {
      accepted = l.accepted;
      len = l.len ∙ mk.frame.len ∙ m.leaves.frame.len;
      tables = l.tables ∙ mk.frame.tables ∙ m.leaves.frame.tables;
      still = still_after old mid new (made_keeps slot _ m.fresh m.leaves) m.leaves.still
          (still_through mid filled new mk.still l.still (λ name live e locked. kept_gaining (held mid) (held filled) sizes names mk.gains name live e));
      some = l.some;
      directory = elim l.directory [
        | inl stays ↦ inl (stays ∙ word)
        | inr begins ↦ inr (sym word ∙ begins.0, sym (others_now slot _ m.leaves (directory_of new) (λ e. apart (sym e))) ∙ none_before (held mid) (held filled) sizes names mk.gains (directory_of new) begins.1)
      ];
      last = l.last ∙ ap (λ (xs : List ℕ). xs ++ u32_bytes slot) (same_bytes mid filled m.leaves.frame.accepted mk.frame.accepted (keeps_makes mid filled sizes names mk) ∙ made_directory old mid slot size h m);
      fresh = m.fresh;
      apart = apart;
      chunk = l.others slot apart ∙ header;
      each = zip_weaken (IsGained (held mid) (held filled)) (IsGained (held old) (held new)) sizes names gain mk.gains.each;
      once = mk.gains.once;
      others = λ name ne other none. l.others name other ∙ mk.gains.others name none ∙ others_now slot _ m.leaves name ne;
    } where
      gain : (count : Option ℕ) (name : ℕ) → IsGained (held mid) (held both.mid) count name → IsGained (held old) (held new) count name
      gain None name is = is
      gain (Some count) name is =
          let other : name ≢ slot = λ e. none_some (held mid name) (chunk_of (replicate size 0)) is.1 (ap (held mid) e ∙ made_here old mid slot size m) in
          let beside : name ≢ directory_of new = λ e. elim both.lists.directory [
            | inl stays ↦
                let some = both.lists.some in
                let word : directory_of new ≡ directory_of mid = stays ∙ both.makes.frame.directory in
                let own = directory_owned mid name m.leaves.frame.accepted (omega arith) (e ∙ word) in
                let none = owner_none mid name is.1 in
                omega arith
            | inr begins ↦ none_some (held both.mid name) (zeros_of count) (ap (held both.mid) e ∙ begins.1) is.2
          ] in
          (is.0, sym (others_now slot _ m.leaves name other) ∙ is.1, both.lists.others name beside ∙ is.2)

makes_none : (image : List ℕ) → HeapAccepted image → MakesAll image image [] []
makes_none image h = record {
  gains = record { each = tt; once = λ name some. omega arith; others = λ name none. refl };
  frame = same_frame image h;
  still = λ name live e locked there. refl;
  spends = refl;
  stretches = λ name was is. refl;
  slots = omega arith;
}

-- an empty database has no data
pub listed_new : (old mid new : List ℕ) (slot size : ℕ) → HeapAccepted old → MakesNew old mid slot size 0 → ListsLast mid new slot → ListsNew old new slot (replicate size 0)
listed_new old mid new slot size h m l =
    let w = listed_whole old mid new slot size [] [] h m (record { mid = mid; makes = makes_none mid m.leaves.frame.accepted; lists = l }) in
    record {
      accepted = w.accepted;
      len = w.len;
      tables = w.tables;
      still = w.still;
      some = w.some;
      directory = w.directory;
      last = w.last;
      fresh = w.fresh;
      apart = w.apart;
      chunk = w.chunk;
      others = λ name ne other. w.others name ne other (λ some. refl);
    }

-- a chunk with a lock is another than those that came or are the manager's
locked_kept : (old mid : List ℕ) (slot : ℕ) (bytes : List ℕ) (sizes : List (Option ℕ)) (names : List ℕ) → HeapAccepted old → ListsWhole old mid slot bytes sizes names → (name : ℕ) (live : LiveChunk) → held old name ≡ Some live → 0 < live.lock → held mid name ≡ Some live
locked_kept old mid slot bytes sizes names h l name live e locked =
    l.others name (λ same. none_some (held old name) live (ap (held old) same ∙ l.fresh) e)
    (λ directory. elim l.directory [
      | inl stays ↦
          let o = the_directory old name h (omega arith) (directory ∙ stays) in
          let none = lock_of old name o.live live o.there (managers_loose old name o.live h o.there o.own) e in
          omega arith
      | inr begins ↦ none_some (held old name) live (ap (held old) directory ∙ begins.1) e
    ])
    (λ some. elim (cases_eq (times name names) 0) [
      | inl none ↦ none
      | inr more ↦ absurd (none_some (held old name) live (gained (held old) (held mid) sizes names l.each name some (omega arith)).fresh e)
    ]) ∙ e

pub whole_written : (old mid new : List ℕ) (slot : ℕ) (before bytes : List ℕ) (sizes : List (Option ℕ)) (names : List ℕ) → HeapAccepted old → ListsWhole old mid slot before sizes names → Leaves mid new (rewritten (held mid) slot bytes) → ListsWhole old new slot bytes sizes names
whole_written old mid new slot before bytes sizes names h l w =
    let word = w.frame.directory in
    let kept = others_now slot _ w in
    let listing = directory_like mid new l.accepted w.frame.accepted word (λ some. kept (directory_of mid) (λ e. l.apart (sym e))) in
    record {
      accepted = w.frame.accepted;
      len = w.frame.len ∙ l.len;
      tables = w.frame.tables ∙ l.tables;
      still = still_through old mid new l.still w.still (locked_kept old mid slot before sizes names h l);
      some = omega arith;
      directory = elim l.directory [ inl stays ↦ inl (word ∙ stays) | inr begins ↦ inr (begins.0, ap (held old) word ∙ begins.1) ];
      last = listing ∙ l.last;
      fresh = l.fresh;
      apart = λ e. l.apart (e ∙ word);
      chunk = chunk_now slot (with_bytes bytes) w l.chunk;
      each = zip_weaken (IsGained (held old) (held mid)) (IsGained (held old) (held new)) sizes names gain l.each;
      once = l.once;
      others = λ name ne other none. kept name ne ∙ l.others name ne (λ e. other (e ∙ sym word)) none;
    } where
      gain : (size : Option ℕ) (name : ℕ) → IsGained (held old) (held mid) size name → IsGained (held old) (held new) size name
      gain None name is = is
      gain (Some size) name is = (is.0, is.1, others_now slot _ w name (λ e. different (same_some (zeros_of size) (chunk_of before) (sym is.2 ∙ ap (held mid) e ∙ l.chunk))) ∙ is.2) where
        different : zeros_of size ≡ chunk_of before → ⊥
        different e = let owners = ap (λ live. live.owner) e in omega arith
