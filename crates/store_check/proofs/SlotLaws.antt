-- A pass over the directory finds its first bad word, or marks all slots that it lists.
use Rattle.store_check.proofs.Terms.{◌≡◌, ℕ, zero, suc, ◌+◌, ◌*◌, ◌<◌, ◌≤◌, List, [], ◌∷◌, ◌++◌, length, refl, sym, ap, subst, ◌∙◌, arith, inl, inr, cases_eq, cases_lt, ◌⊎◌, ◌↔◌, managers_owner, directory_of, same, times, numbered, owner_under, directory_bytes, listed, most_databases, IsHeaderSlot, same-yes, same-no, times-cons, numbered_more, listed_at, listed_count, FirstBrought, BadDirectorySlot, IsBadSlot, directory_faults, met, AreMarks}
use Rattle.store_check.proofs.IndexLaws.{times_index, index_times}

-- a complete word of the directory, by its owner and its mark
pub word_bad : (image : List ℕ) (index slot : ℕ) → 4 * index + 4 ≤ length (directory_bytes image)
    → index < most_databases → slot ≡ listed_at image index
    → ((((owner_under image slot ≡ managers_owner) → ⊥) ⊎ (0 < times slot (met image index)))
    ↔ IsBadSlot image index)
word_bad image index slot whole few is = (there, back) where
  word : ℕ → ℕ
  word = listed_at image

  count : times slot (met image index)
      ≡ same (directory_of image) slot + times slot (numbered word index)
  count = times-cons slot (directory_of image) (numbered word index)

  there : (((owner_under image slot ≡ managers_owner) → ⊥) ⊎ (0 < times slot (met image index)))
      → IsBadSlot image index
  there (inl other) =
      (omega arith, inr (inr (inl (λ h. other (ap (owner_under image) is ∙ h.owner)))))
  there (inr some) = elim (cases_eq (directory_of image) slot) [
    | inl own ↦ (omega arith, inr (inr (inl (λ h. h.other (sym is ∙ sym own)))))
    | inr ne ↦
        let no = same-no (directory_of image) slot ne in
        let sum = count in
        let t = times_index word slot index (omega arith) in
        (omega arith, inr (inr (inr (t.0, t.1, t.2 ∙ is))))
  ]

  slot_bad : (IsHeaderSlot image (listed_at image index) → ⊥)
      → ((owner_under image slot ≡ managers_owner) → ⊥) ⊎ (0 < times slot (met image index))
  slot_bad other = elim (cases_eq (directory_of image) slot) [
    | inl own ↦ let yes = same-yes _ _ own in let sum = count in inr (omega arith)
    | inr ne ↦ inl (λ owner. other (record {
      owner = sym (ap (owner_under image) is) ∙ owner;
      other = λ e. ne (sym (is ∙ e));
    }))
  ]

  back : IsBadSlot image index
      → ((owner_under image slot ≡ managers_owner) → ⊥) ⊎ (0 < times slot (met image index))
  back bad = elim bad.1 [
    | inl short ↦ absurd (omega arith)
    | inr rest ↦ elim rest [
      | inl many ↦ absurd (omega arith)
      | inr rest ↦ elim rest [
        | inl other ↦ slot_bad other
        | inr twice ↦ let t = index_times word _ index twice.0 twice.1 (twice.2 ∙ sym is) in
            let sum = count in inr (omega arith)
      ]
    ]
  ]

-- the words so far
pub record SlotsSoFar (image marks : List ℕ) (index : ℕ) : Type 0 where
  pub none_bad : (earlier : ℕ) → earlier < index → IsBadSlot image earlier → ⊥
  pub marked : AreMarks (met image index) marks
  pub few : index ≤ most_databases

pub slot_first : (image marks : List ℕ) (index : ℕ) → SlotsSoFar image marks index
    → IsBadSlot image index → FirstBrought (directory_faults image) (BadDirectorySlot index)
slot_first image marks index g bad =
    inl (index, record { here = bad; none_below = g.none_bad }, refl)

-- a word that isn't bad is complete, and one of the first 1,024
good_word : (image : List ℕ) (index : ℕ) → 4 * index < length (directory_bytes image)
    → (IsBadSlot image index → ⊥)
    → (4 * index + 4 ≤ length (directory_bytes image)) × (index < most_databases)
good_word image index inside good = (
  elim (cases_lt (length (directory_bytes image))
      (4 * index + 4)) [ inl short ↦ absurd (good (inside, inl short)) | inr whole ↦ whole ],
  elim (cases_lt index 1024) [ inl few ↦ few | inr many ↦ absurd (good (inside, inr (inl many))) ],
)

pub word_complete : (image : List ℕ) (index : ℕ) → 4 * index < length (directory_bytes image)
    → (IsBadSlot image index → ⊥) → 4 * index + 4 ≤ length (directory_bytes image)
word_complete image index inside good = (good_word image index inside good).0

met_more : (image : List ℕ) (index slot : ℕ) → slot ≡ listed_at image index
    → met image index ++ slot ∷ [] ≡ met image (index + 1)
met_more image index slot e =
    let next : index + 1 ≡ suc index = omega arith in
    ap (λ (s : ℕ). met image index ++ s ∷ []) e ∙ sym (ap (λ (xs : List ℕ). directory_of image ∷ xs)
    (ap (numbered (listed_at image)) next ∙ numbered_more (listed_at image) index))

pub slots_more : (image marks new : List ℕ) (index slot : ℕ) → slot ≡ listed_at image index
    → 4 * index < length (directory_bytes image) → (IsBadSlot image index → ⊥)
    → AreMarks (met image index ++ slot ∷ []) new → SlotsSoFar image marks index
    → SlotsSoFar image new (index + 1)
slots_more image marks new index slot e inside good m g = record {
  none_bad = λ k below bad. elim (cases_lt k index) [
    | inl less ↦ g.none_bad k less bad
    | inr last ↦ let is : k ≡ index = omega arith in good (subst (IsBadSlot image) is bad)
  ];
  marked = subst (λ (xs : List ℕ). AreMarks xs new) (met_more image index slot e) m;
  few = let w = (good_word image index inside good).1 in omega arith;
}

-- ---- at the end

-- the last word was complete
pub slots_marked : (image marks : List ℕ) (index : ℕ) → length (directory_bytes image) ≤ 4 * index
    → 4 * index < length (directory_bytes image) + 4 → SlotsSoFar image marks index
    → AreMarks (directory_of image ∷ listed image) marks
unfolding listed
slots_marked image marks index all near g =
    subst (λ (n : ℕ). AreMarks (directory_of image ∷ numbered (listed_at image) n) marks)
    (count index all near g) g.marked where
      count : (n : ℕ) → length (directory_bytes image) ≤ 4 * n
          → 4 * n < length (directory_bytes image) + 4 → SlotsSoFar image marks n
          → n ≡ listed_count image
      count zero all near g = omega arith
      count (suc n) all near g = let w =
          word_complete image n (omega arith) (λ bad. g.none_bad n (omega arith) bad) in omega arith
