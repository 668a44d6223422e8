-- The entries of a database in four parts, and the bytes that spell them.
use Rattle.database_edits.proofs.Words.{◌≡◌, ℕ, ◌+◌, ◌-◌, ◌*◌, ◌≤◌, Bool, List, ◌++◌, length, refl, take, drop, sym, ap, ◌∙◌, append_assoc, arith, length-append, length-take, take-append-drop, drop-drop, take_at, drop_at, All, slice_range, flat_map, entry_size, Entry, Database, header_bytes, entry_bytes, spelled, EntryFits, entry_offset, SpellsHere, database_here, bytes_under, length-entries, length-header_bytes, HasKindHere}
use Rattle.std.proofs.lemmas.Grind.{flat_map-append}
use Rattle.std.proofs.lemmas.List.Edits.{length-between, split_between}
use Rattle.std.proofs.lemmas.List.Elements.{All-drop, All-same, All-take}
use Rattle.database_edits.proofs.Entries.{offset_more}

-- a list in four parts
pub in_parts : {X : Type 0} (xs : List X) (i j k : ℕ) → i ≤ j → j ≤ k
    → xs ≡ take i xs ++ (slice_range xs i j ++ (slice_range xs j k ++ drop k xs))
in_parts xs i j k low high =
    let sum : j + (k - j) ≡ k = omega arith in
    split_between xs i j low
    ∙ ap (λ (ys : List _). take i xs ++ (slice_range xs i j ++ ys))
    (sym (take-append-drop (k - j) (drop j xs))
    ∙ ap (λ (ys : List _). slice_range xs j k ++ ys)
    (drop-drop (k - j) j xs ∙ ap (λ (n : ℕ). drop n xs) sum))

-- the bytes of entries
abbrev pub entries_bytes : List (Entry ℕ) → List ℕ
entries_bytes entries = flat_map entry_bytes entries

pub four_parts : (a b c d : List (Entry ℕ)) → entries_bytes (a ++ (b ++ (c ++ d)))
    ≡ entries_bytes a ++ (entries_bytes b ++ (entries_bytes c ++ entries_bytes d))
four_parts a b c d = rw (
  flat_map-append entry_bytes a (b ++ (c ++ d)),
  flat_map-append entry_bytes b (c ++ d),
  flat_map-append entry_bytes c d,
)

all_of_both : (P : Entry ℕ → Type 0) (front back : List (Entry ℕ)) → All P (front ++ back)
    → All P front × All P back
all_of_both P front back all = (
  All-same P front _ (sym (take_at front back _ refl)) (All-take P (length front) _ all),
  All-same P back _ (sym (drop_at front back _ refl)) (All-drop P (length front) _ all),
)

-- The bytes of a database of this kind whose entries are these four parts. The second part begins
-- at index `i`, the third one at `j`, and the last at `k`.
pub record Parts (resources : Bool) (d : Database ℕ) (body : List ℕ)
    (front first second back : List (Entry ℕ)) (i j k : ℕ) : Type 0 where
  pub is : body ≡ (header_bytes d ++ entries_bytes front)
      ++ (entries_bytes first ++ (entries_bytes second ++ entries_bytes back))
  pub at : entry_offset resources i ≡ length (header_bytes d ++ entries_bytes front)
  pub next : entry_offset resources j ≡ entry_offset resources i + length (entries_bytes first)
  pub end : entry_offset resources k ≡ entry_offset resources j + length (entries_bytes second)
  pub slid : (other : ℕ) → other ≡ i + length second → entry_offset resources other
      ≡ entry_offset resources i + length (entries_bytes second)

pub parts_here : {image : List ℕ} {db : ℕ} {resources : Bool}
    (front first second back : List (Entry ℕ)) (i j k : ℕ) → SpellsHere image db
    → HasKindHere image db resources
    → (database_here image db).entries ≡ front ++ (first ++ (second ++ back))
    → i ≡ length front → j ≡ i + length first → k ≡ j + length second
    → Parts resources (database_here image db) (bytes_under image db) front first second back i j k
unfolding spelled
parts_here {image} {db} {resources} front first second back i j k s kind parts i_is j_is k_is =
    let d : Database ℕ = database_here image db in
    let fit : Entry ℕ → Type 0 = EntryFits resources in
    let fits = all_of_both fit front (first ++ (second ++ back))
    (rw (kind, ← parts) s.spelled.fits.entries) in
    let seconds = all_of_both fit first (second ++ back) fits.1 in
    let thirds = all_of_both fit second back seconds.1 in
    let header = length-header_bytes d s.spelled.fits.name in
    let both = length-append (header_bytes d) (entries_bytes front) in
    let front_size = length-entries resources front fits.0
    ∙ ap (λ (n : ℕ). entry_size resources * n) (sym i_is) in
    let first_size = length-entries resources first seconds.0 in
    let second_size = length-entries resources second thirds.0 in
    record {
      is = s.spelled.bytes_are
          ∙ ap (λ (es : List (Entry ℕ)). header_bytes d ++ entries_bytes es) parts
          ∙ ap (λ (xs : List ℕ). header_bytes d ++ xs) (four_parts front first second back)
          ∙ sym (append_assoc (header_bytes d) (entries_bytes front) _);
      at = omega (arith, header, both, front_size);
      next = omega (arith, first_size, offset_more resources i j (length first) j_is);
      end = omega (arith, second_size, offset_more resources j k (length second) k_is);
      slid = λ other is. omega (arith, second_size, offset_more resources i other (length second) is);
    }

-- the same at three indexes
pub slices_here : {image : List ℕ} {db : ℕ} {resources : Bool} (i j k : ℕ) → SpellsHere image db
    → HasKindHere image db resources → i ≤ j → j ≤ k
    → k ≤ length (database_here image db).entries
    → Parts resources (database_here image db) (bytes_under image db)
    (take i (database_here image db).entries) (slice_range (database_here image db).entries i j)
    (slice_range (database_here image db).entries j k) (drop k (database_here image db).entries)
    i j k
slices_here {image} {db} i j k s kind low high inside =
    let es : List (Entry ℕ) = (database_here image db).entries in
    let front = length-take i es in
    let first = length-between es i j (omega arith) in
    let second = length-between es j k inside in
    parts_here _ _ _ _ i j k s kind (in_parts es i j k low high) (omega arith) (omega arith)
    (omega arith)
