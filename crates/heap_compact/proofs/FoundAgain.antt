-- A found chunk is found again after another directory was named, or free chunks were joined.
use Rattle.heap_compact.proofs.Words.{◌≡◌, ◌≢◌, ℕ, ◌-◌, ◌≤◌, List, [], ◌∷◌, refl, sym, ap, ◌∙◌, arith, area_start, chunks_of, merged, layout_of, exchanged, Becomes, Alters, freed, need, managers_owner, HeapAccepted, directory_of, held, IsSpot, with_length, Relocates, NamesDirectory, Found, IsOne, RelocatesFound, becomes_held, becomes_place, becomes_start, frame_then, held_parts, relocate_changes, one_held, when_movable}
use Rattle.heap_model.specs.Store.{owner_of, owner_under}
use Rattle.heap_compact.proofs.RelocateLaws.{found_held, one_placed}
use Rattle.laws_heap.proofs.Meanings.{held-zero}
use Rattle.laws_heap.proofs.Directory.{named_finds, directory_owned}

-- it is found as it was
abbrev pub named_one : {old new : List ℕ} {word : ℕ} (found : Found) → NamesDirectory old new word
    → IsOne old found → IsOne new found
named_one found n f = record {
  live = f.live;
  chunk = f.chunk;
  finds = named_finds _ _ _ _ _ _ _ n f.finds;
  behind_header = f.behind_header;
  name_is = f.name_is;
  count = f.count;
  lock_is = f.lock_is;
  owner_is = f.owner_is;
}

-- the name 0 names no chunk that was found
pub some_name : {image : List ℕ} (found : Found) → HeapAccepted image → IsOne image found
    → found.name.0 ≢ 0
some_name {image} found h f none = let nothing = sym (one_held _ _ h f) ∙ ap (held image) none ∙ held-zero _ h in absurd cc

-- the directory's chunk is the manager's once it was moved
pub moved_owner : {old mid : List ℕ} (new : List ℕ) (found : Found) {at size : ℕ} (count : ℕ) → HeapAccepted old → IsOne old found → found.lock ≡ 0 → found.name.0 ≡ directory_of old → NamesDirectory old mid 0 → IsSpot mid at size → need count ≤ size → RelocatesFound mid new found at size count
    → owner_under new found.name.0 ≡ managers_owner
unfolding owner_under
moved_owner {old} {mid} new found {at} {size} count h f unlocked is n r fits moved =
    let g : IsOne mid found = named_one found n f in
    let owned = directory_owned _ _ h (sym (ap (held old) is) ∙ one_held _ _ h f) in
    when_movable _ _ _ g (λ c k. Relocates mid new (found.place.0 - 8) at size (with_length count c) → owner_of (held new found.name.0) ≡ managers_owner) (λ e. omega arith)
    (λ bytes lock owner slot k x. ap owner_of (relocate_changes _ new _ _ _ _ _ _ _ _ _ _ n.accepted k r fits x).here ∙ owned)
    (moved g)

-- ---- free chunks are joined

-- what was found is found still, where the layout is the same
pub same_found : {old new : List ℕ} (found : Found) → HeapAccepted old
    → Becomes old new (chunks_of old) → IsOne old found → IsOne new found
same_found {old} found h b f = found_held _ found f.live b.frame.accepted (becomes_held _ _ _ found.name.0 b ∙ sym (held_parts old (chunks_of old) found.name.0 refl) ∙ one_held _ found h f) (becomes_place _ _ _ found.name.0 b ∙ one_placed _ found h f) f.count f.lock_is f.owner_is

pub then_freed : {old mid : List ℕ} (new : List ℕ) (found : Found) → HeapAccepted old → Becomes old mid (chunks_of old) → IsOne old found → Alters mid new (found.place.0 - 8) freed → Alters old new (found.place.0 - 8) freed
then_freed {old} {mid} new found h b f x =
    record { frame = frame_then _ _ _ b.frame x.frame; layout = x.layout ∙ ap merged (ap (λ cs. exchanged (found.place.0 - 8) (λ chunk. freed chunk ∷ []) (area_start mid) cs) b.layout ∙ ap (λ n. exchanged (found.place.0 - 8) (λ chunk. freed chunk ∷ []) n (layout_of old)) (becomes_start _ _ _ b)) }
