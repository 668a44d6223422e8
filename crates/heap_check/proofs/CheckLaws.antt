-- A fault before which there is none is the first, and an image is accepted exactly if it has none.
use Rattle.heap_check.proofs.Words.{◌≡◌, ◌≢◌, ℕ, ◌≤◌, false, List, [], ◌∷◌, length, sym, ◌∙◌, Option, Some, None, Result, Ok, Err, refl, subst, arith, inl, inr, IfErr, OnErr, u32_at, Chunk, Table, slots_of, area_start, is_chained, first_next, further_tables, IsHead, TableHere, IsChain, IsTablePlace, Tiles, IsKnownIfFixed, HasDirectory, IsHeap, HeapAccepted, AnyPlaced, EveryPlaced, FirstWithout, EveryOne, FirstOne, HoldsBody, NamesItsSlot, chunks_of, FirstWithout-not, FirstOne-not, stuck_run, some_place, chain_length, heap_of_read, BadChunk, BadTable, SlotMismatch, ChunkWithoutSlot, BadFixedOwner, BadDirectory, Survey, IsFirstWithout, IsMarked, IsSurvey, IsPaired, IsTooShort, HasBadSize, HasBadSlotCount, IsBadChunk, Leads, IsBadTable, IsSlotMismatch, IsChunkWithoutSlot, IsBadFixedOwner, HasBadDirectory, slot_faults, area_faults, FirstBrought, IsFirstHeapFault}
use Rattle.laws_heap.proofs.Tables.{no_chain, no_further}
use Rattle.laws_heap.proofs.Bodies.{tied_halves, halves_tied}
use Rattle.heap_check.specs.declared.fault.HeapFault.{HeapFault}
use Rattle.heap_check.proofs.SlotLaws.{all_hold, first_mismatch}

-- ---- what rules a fault out

not_short : (image : List ℕ) → IsHead image → IsTooShort image → ⊥
not_short image h f = let least = h.least in let size = h.size_is in
    elim f [ inl short ↦ omega arith | inr cut ↦ let less = cut.1 in omega arith ]

not_size : (image : List ℕ) → IsHead image → HasBadSize image → ⊥
not_size image h f = elim f [
  | inl other ↦ other h.size_is
  | inr never ↦ never record { least = h.least; most = h.most; whole = h.whole }
]

not_count : (image : List ℕ) → IsHead image → HasBadSlotCount image → ⊥
not_count image h f = elim f [
  | inl none ↦ let some = h.some_slot in omega arith
  | inr small ↦ let fits = h.a_chunk_fits in omega arith
]

not_chunk : (image : List ℕ) → Tiles image (chunks_of image) → (at : ℕ) → IsBadChunk image at → ⊥
not_chunk image t at f = stuck_run image (area_start image) at f.before
    (chunks_of image) f.spelled f.inside f.nothing t.area

-- the chain after tables that are along it
chain_behind : (image : List ℕ) (cs : List Chunk) (next : ℕ) (ts us : List Table) (last : ℕ)
    → IsChain image cs next ts → Leads image cs next us last
    → (rest : List Table) × IsChain image cs last rest × (length rest ≤ length ts)
chain_behind image cs next ts [] last chain leads =
    (ts, subst (λ (w : ℕ). IsChain image cs w ts) leads chain, omega arith)
chain_behind image cs next [] (u ∷ us) last chain leads = let low =
    some_place image u (area_start image) cs leads.1 in let place = leads.0 in absurd (omega arith)
chain_behind image cs next (t ∷ ts) (u ∷ us) last chain leads =
    let same : t.place ≡ u.place = sym chain.0 ∙ leads.0 in
    let more = chain_behind image cs (u32_at image u.place) ts us last
    (subst (λ (p : ℕ). IsChain image cs (u32_at image p) ts) same chain.2) leads.3 in
    let shorter = more.2 in
    (more.0, more.1, omega arith)

-- a chain leads to no word that isn't 0 and not the place of another table
chain_leads : (image : List ℕ) (cs : List Chunk) (next : ℕ) (ts us : List Table) (last : ℕ)
    → IsChain image cs next ts → Leads image cs next us last → last ≢ 0 → ((table : Table)
    → AnyPlaced (TableHere table) (area_start image) cs → table.place ≡ last → IsTablePlace us last)
    → ⊥
chain_leads image cs next [] [] last chain leads some other = some (sym leads ∙ chain)
chain_leads image cs next (t ∷ ts) [] last chain leads some other =
    other t chain.1 (sym chain.0 ∙ leads)
chain_leads image cs next [] (u ∷ us) last chain leads some other = let low =
    some_place image u (area_start image) cs leads.1 in let place = leads.0 in absurd (omega arith)
chain_leads image cs next (t ∷ ts) (u ∷ us) last chain leads some other =
    let same : t.place ≡ u.place = sym chain.0 ∙ leads.0 in
    let behind : IsChain image cs (u32_at image u.place) ts =
    subst (λ (p : ℕ). IsChain image cs (u32_at image p) ts) same chain.2 in
    chain_leads image cs (u32_at image u.place) ts us last behind leads.3 some
    (λ table here place. elim (other table here place) [
      | inl again ↦
          let rest = chain_behind image cs (u32_at image u.place) ts us last behind leads.3 in
          let shorter = rest.2 in
          let long = chain_length image cs next (t ∷ ts) rest.0 chain
          (subst (λ (w : ℕ). IsChain image cs w rest.0) (sym again ∙ sym leads.0) rest.1) in
          absurd (omega arith)
      | inr later ↦ later
    ])

not_table : (image : List ℕ) → Tiles image (chunks_of image) → (number : ℕ)
    → IsBadTable image number → ⊥
not_table image t number f = chain_leads image (chunks_of image) (first_next image)
    (further_tables image) f.tables f.next t.chain f.leads f.more f.no_other

-- ---- faults in their order

-- no fault of the head, and then one of the others
past_head : (image : List ℕ) (fault : HeapFault) → IsHead image
    → FirstBrought (area_faults image) fault → IsFirstHeapFault image fault
past_head image fault h f =
    inr (
      λ other b. not_short image h b.0,
      inr (
        λ other b. b.0 h.magic_is,
        inr (
          λ other b. not_size image h b.0,
          inr (
            λ other b. not_count image h b.0,
            inr (
              λ other b. b.0 h.reserved,
              inr (
                λ other b. b.0.1 (h.padding b.0.0),
                f,
              ),
            ),
          ),
        ),
      ),
    )

-- the chunks, and the later tests so far as they were passed
abbrev pub Slotted : List ℕ → Type 0
Slotted image = EveryOne (HoldsBody image (chunks_of image)) (slots_of image)

abbrev pub Named : List ℕ → Type 0
Named image = EveryPlaced (NamesItsSlot image) (area_start image) (chunks_of image)

abbrev pub Owned : List ℕ → Type 0
Owned image =
    EveryPlaced (IsKnownIfFixed (further_tables image)) (area_start image) (chunks_of image)

not_mismatch : (image : List ℕ) → Slotted image → (slot : ℕ) → IsSlotMismatch image slot → ⊥
not_mismatch image s slot f =
    FirstOne-not (HoldsBody image (chunks_of image)) (slots_of image) slot f.1 s

not_without : (image : List ℕ) → Named image → (at : ℕ) → IsChunkWithoutSlot image at → ⊥
not_without image n at f =
    FirstWithout-not (NamesItsSlot image) (area_start image) (chunks_of image) at f.1 n

not_owner : (image : List ℕ) → Owned image → (at : ℕ) → IsBadFixedOwner image at → ⊥
not_owner image o at f = FirstWithout-not (IsKnownIfFixed (further_tables image)) (area_start image)
    (chunks_of image) at f.1 o

-- no chunk out of shape either
past_chunks : (image : List ℕ) (fault : HeapFault) → Tiles image (chunks_of image)
    → FirstBrought (slot_faults image) fault → IsFirstHeapFault image fault
past_chunks image fault t f = past_head image fault t.head
    (inr (λ other b. not_chunk image t b.0 b.1, inr (λ other b. not_table image t b.0 b.1, f)))

-- a chunk out of shape
pub first_chunk : (image : List ℕ) (at : ℕ) → IsHead image → IsBadChunk image at
    → IsFirstHeapFault image (BadChunk at)
first_chunk image at h f = past_head image (BadChunk at) h (inl (at, f, refl))

-- or no table where one should be
pub first_table : (image : List ℕ) (number : ℕ) → IsHead image → IsBadTable image number
    → IsFirstHeapFault image (BadTable number)
first_table image number h f = past_head image (BadTable number) h (inr (
  λ other b. stuck_run image (area_start image) b.0 b.1.before
      (chunks_of image) b.1.spelled b.1.inside b.1.nothing f.area,
  inl (number, f, refl),
))

pub first_slot : (image : List ℕ) (slot : ℕ) → IsSlotMismatch image slot
    → IsFirstHeapFault image (SlotMismatch slot)
first_slot image slot f = past_chunks image (SlotMismatch slot) f.0 (inl (slot, f, refl))

pub first_without : (image : List ℕ) (at : ℕ) → Slotted image → IsChunkWithoutSlot image at
    → IsFirstHeapFault image (ChunkWithoutSlot at)
first_without image at s f = past_chunks image (ChunkWithoutSlot at) f.0
    (inr (λ other b. not_mismatch image s b.0 b.1, inl (at, f, refl)))

pub first_owner : (image : List ℕ) (at : ℕ) → Slotted image → Named image → IsBadFixedOwner image at
    → IsFirstHeapFault image (BadFixedOwner at)
first_owner image at s n f = past_chunks image (BadFixedOwner at) f.0 (inr (
  λ other b. not_mismatch image s b.0 b.1,
  inr (λ other b. not_without image n b.0 b.1, inl (at, f, refl)),
))

pub first_directory : (image : List ℕ) → Slotted image → Named image → Owned image
    → HasBadDirectory image → IsFirstHeapFault image BadDirectory
first_directory image s n o f = past_chunks image BadDirectory f.0 (inr (
  λ other b. not_mismatch image s b.0 b.1,
  inr (
    λ other b. not_without image n b.0 b.1,
    inr (λ other b. not_owner image o b.0 b.1, inl (f, refl)),
  ),
))

-- ---- an image with a fault is no heap, and one without is one

pub faultless_heap : (image : List ℕ) → Tiles image (chunks_of image) → Slotted image → Named image
    → Owned image → HasDirectory image (chunks_of image) → HeapAccepted image
faultless_heap image t s n o d = (
  chunks_of image,
  record {
    tiles = t;
    tied = halves_tied image (chunks_of image) s n;
    fixed_are_known = o;
    directory = d;
  },
)

pub refuses : (image : List ℕ) (fault : HeapFault) → IsFirstHeapFault image fault
    → HeapAccepted image → ⊥
refuses image fault f accepted = head f where
  heap : IsHeap image (chunks_of image)
  heap = heap_of_read image accepted.0 accepted.1

  halves : Slotted image × Named image
  halves = tied_halves image (chunks_of image) heap.tied

  slots : FirstBrought (slot_faults image) fault → ⊥
  slots f = elim f [
    | inl b ↦ not_mismatch image halves.0 b.0 b.1
    | inr p ↦ elim p.1 [
      | inl b ↦ not_without image halves.1 b.0 b.1
      | inr p ↦ elim p.1 [
        | inl b ↦ not_owner image heap.fixed_are_known b.0 b.1
        | inr p ↦ elim p.1 [ inl b ↦ b.0.1 heap.directory | inr p ↦ p.1 ]
      ]
    ]
  ]

  area : FirstBrought (area_faults image) fault → ⊥
  area f = elim f [
    | inl b ↦ not_chunk image heap.tiles b.0 b.1
    | inr p ↦ elim p.1 [ inl b ↦ not_table image heap.tiles b.0 b.1 | inr p ↦ slots p.1 ]
  ]

  head : IsFirstHeapFault image fault → ⊥
  head f = elim f [
    | inl b ↦ not_short image heap.tiles.head b.0
    | inr p ↦ elim p.1 [
      | inl b ↦ b.0 heap.tiles.head.magic_is
      | inr p ↦ elim p.1 [
        | inl b ↦ not_size image heap.tiles.head b.0
        | inr p ↦ elim p.1 [
          | inl b ↦ not_count image heap.tiles.head b.0
          | inr p ↦ elim p.1 [
            | inl b ↦ b.0 heap.tiles.head.reserved
            | inr p ↦ elim p.1 [ inl b ↦ b.0.1 (heap.tiles.head.padding b.0.0) | inr p ↦ area p.1 ]
          ]
        ]
      ]
    ]
  ]

pub refused_by : {A : Type 0} (image : List ℕ) (answer : Result A HeapFault)
    → IfErr answer (IsFirstHeapFault image) → OnErr answer (HeapAccepted image → ⊥)
refused_by image (Ok x) f = tt
refused_by image (Err fault) f = refuses image fault f

-- ---- what a survey proves once the later tests passed

-- the tiling and the marks that a survey ends with
pub surveyed_tiles : (image : List ℕ) (survey : Survey) (marks : List ℕ) → is_chained image ≡ false
    → IsHead image → IsSurvey image survey marks → Tiles image (chunks_of image)
surveyed_tiles image survey marks plain h s =
    record { head = h; area = s.spelled; chain = no_chain image (chunks_of image) plain }

pub surveyed_mismatch : (image : List ℕ) (survey : Survey) (marks : List ℕ) (slot : ℕ)
    → is_chained image ≡ false → IsHead image → IsSurvey image survey marks
    → FirstOne (IsMarked image marks) (slots_of image) slot
    → IsFirstHeapFault image (SlotMismatch slot)
surveyed_mismatch image survey marks slot plain h s f = first_slot image slot (
  surveyed_tiles image survey marks plain h s,
  first_mismatch image (chunks_of image) marks slot s.surveys.marked f,
)

pub surveyed_slots : (image : List ℕ) (survey : Survey) (marks : List ℕ)
    → IsSurvey image survey marks → EveryOne (IsMarked image marks) (slots_of image) → Slotted image
surveyed_slots image survey marks s every =
    all_hold image (chunks_of image) marks s.surveys.marked every

-- what an offset that was found, or not found, proves
pub found_first : (P : ℕ → Chunk → Type 0) (at : ℕ) (cs : List Chunk) (found : Option ℕ) (there : ℕ)
    → IsFirstWithout P at cs found → found ≡ Some there → FirstWithout P at cs there
found_first P at cs found there f is = subst (λ (o : Option ℕ). IsFirstWithout P at cs o) is f

pub found_none : (P : ℕ → Chunk → Type 0) (at : ℕ) (cs : List Chunk) (found : Option ℕ)
    → IsFirstWithout P at cs found → found ≡ None → EveryPlaced P at cs
found_none P at cs found f is = subst (λ (o : Option ℕ). IsFirstWithout P at cs o) is f

pub surveyed_without : (image : List ℕ) (survey : Survey) (marks : List ℕ) (at : ℕ)
    → is_chained image ≡ false → IsHead image → IsSurvey image survey marks
    → EveryOne (IsMarked image marks) (slots_of image) → survey.without_slot ≡ Some at
    → IsFirstHeapFault image (ChunkWithoutSlot at)
surveyed_without image survey marks at plain h s every is =
    first_without image at (surveyed_slots image survey marks s every) (
      surveyed_tiles image survey marks plain h s,
      found_first (NamesItsSlot image) (area_start image)
          (chunks_of image) survey.without_slot at s.surveys.without_slot is,
    )

pub surveyed_names : (image : List ℕ) (survey : Survey) (marks : List ℕ)
    → IsSurvey image survey marks → survey.without_slot ≡ None → Named image
surveyed_names image survey marks s none = found_none (NamesItsSlot image) (area_start image)
    (chunks_of image) survey.without_slot s.surveys.without_slot none

pub surveyed_owner : (image : List ℕ) (survey : Survey) (marks : List ℕ) (at : ℕ)
    → is_chained image ≡ false → IsHead image → IsSurvey image survey marks
    → EveryOne (IsMarked image marks) (slots_of image) → survey.without_slot ≡ None
    → survey.bad_owner ≡ Some at → IsFirstHeapFault image (BadFixedOwner at)
surveyed_owner image survey marks at plain h s every none is = first_owner image at
    (surveyed_slots image survey marks s every) (surveyed_names image survey marks s none) (
      surveyed_tiles image survey marks plain h s,
      subst (λ (ts : List Table). FirstWithout (IsKnownIfFixed ts) (area_start image)
          (chunks_of image) at) (sym (no_further image plain)) (found_first (IsKnownIfFixed [])
          (area_start image) (chunks_of image) survey.bad_owner at s.surveys.bad_owner is),
    )

pub surveyed_owners : (image : List ℕ) (survey : Survey) (marks : List ℕ) → is_chained image ≡ false
    → IsSurvey image survey marks → survey.bad_owner ≡ None → Owned image
surveyed_owners image survey marks plain s none =
    subst (λ (ts : List Table). EveryPlaced (IsKnownIfFixed ts) (area_start image)
    (chunks_of image)) (sym (no_further image plain)) (found_none (IsKnownIfFixed [])
    (area_start image) (chunks_of image) survey.bad_owner s.surveys.bad_owner none)

-- everything but the directory was tested
pub record Passed (image : List ℕ) (survey : Survey) (marks : List ℕ) : Type 0 where
  pub plain : is_chained image ≡ false
  pub head : IsHead image
  pub surveyed : IsSurvey image survey marks
  pub marked : EveryOne (IsMarked image marks) (slots_of image)
  pub without_slot : survey.without_slot ≡ None
  pub bad_owner : survey.bad_owner ≡ None

pub passed_paired : (image : List ℕ) (survey : Survey) (marks : List ℕ) → Passed image survey marks
    → IsPaired image
passed_paired image survey marks p = record {
  tiles = surveyed_tiles image survey marks p.plain p.head p.surveyed;
  slots = surveyed_slots image survey marks p.surveyed p.marked;
  names = surveyed_names image survey marks p.surveyed p.without_slot;
}

pub passed_directory : (image : List ℕ) (survey : Survey) (marks : List ℕ)
    → Passed image survey marks → (HasDirectory image (chunks_of image) → ⊥)
    → IsFirstHeapFault image BadDirectory
passed_directory image survey marks p none =
    let paired = passed_paired image survey marks p in
    first_directory image paired.slots paired.names
    (surveyed_owners image survey marks p.plain p.surveyed p.bad_owner) (paired.tiles, none)

pub passed_heap : (image : List ℕ) (survey : Survey) (marks : List ℕ) → Passed image survey marks
    → HasDirectory image (chunks_of image) → HeapAccepted image
passed_heap image survey marks p directory =
    let paired = passed_paired image survey marks p in
    faultless_heap image paired.tiles paired.slots paired.names
    (surveyed_owners image survey marks p.plain p.surveyed p.bad_owner) directory
