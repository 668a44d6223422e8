-- A file without fault is salvaged as its canonical form, and there is no line about it.
use Rattle.std.proofs.Common.{◌≡◌, ℕ, zero, suc, ◌<◌, ◌≤◌, Bool, true, false, Option, List, [], ◌∷◌, ◌++◌, length, get_or, refl, sym, ap, subst, ◌∙◌, arith, inl, inr}
use Rattle.std.specs.Prelude.{◌==◌, not, codes}
use Rattle.std.specs.List.{AllZip, concat}
use Rattle.std.proofs.lemmas.Bool.{eqb-true, ne_eqb, leb-true}
use Rattle.std.proofs.lemmas.List.FromFn.{length-map-range_with_len, get_or-map-range_with_len}
use Rattle.laws_heap.proofs.Tests.{leb-is-true}
use Rattle.heap_model.specs.Bytes.{u32_at}
use Rattle.heap_model.specs.Lists.{numbered}
use Rattle.heap_model.specs.Database.{Database, DatabaseHeader, entry_data, name_in, header_in, entry_in}
use Rattle.heap_model.specs.UniqueIds.{seed_in, with_seed}
use Rattle.heap_model.specs.Store.{unique_ids}
use Rattle.heap_model.specs.Files.{HasNoFault, HaveIds, IsReadAs, Reads, entries_end}
use Rattle.heap_model.specs.declared.file_fault.FileFault.TheVariants.{Truncated}
use Rattle.pdb_format.proofs.FaultLaws.{no_fault}
use Rattle.pdb_format.proofs.GoodFiles.{good_offset, not_truncated}
use Rattle.canonical_file.specs.Changes.{word}
use Rattle.canonical_file.specs.Salvage.{IsSalvaged, chain_line, count_line, cut_line, dropped_at, dropped_entry, has_all_entries, head_lines, is_none_or_sound, is_sound_entry, lost_entry_line, lost_entry_lines, lost_info_line, lost_info_lines, name_line, salvage_lines, whole_entries}
use Rattle.canonical_file.specs.SalvageLaws.{GoodFilesAreCanonical, GoodFilesHaveNoLine}
use Rattle.canonical_file.specs.declared.salvage.SalvagedIds.TheVariants.{Distinct}
use Rattle.canonical_file.proofs.SoundFiles.{all_whole, entry_good, entry_not_bad, good_blocks, good_header, good_parts, info_good, info_not_bad}

-- ---- the canonical form

seeded : DatabaseHeader → DatabaseHeader → ℕ → DatabaseHeader
seeded file header last = record header { seed = with_seed file.seed last }

reads_as : (file : List ℕ) (d : Database (Option (List ℕ))) → HasNoFault file
    → IsSalvaged Distinct file d → Reads file d
unfolding seeded
reads_as file d good is =
    let same = good_parts file good in
    record {
      good = good;
      last_seed = is.last_seed;
      ids = rw same at is.ids;
      header = is.header
          ∙ ap (λ (h : DatabaseHeader). seeded (header_in file) h is.last_seed)
          (good_header file good);
      entries = subst (λ (x : Database ℕ). AllZip IsReadAs x.entries d.entries) same is.entries;
      blocks = is.blocks ∙ sym (good_blocks file good);
    }

salvaged_as : (file : List ℕ) (d : Database (Option (List ℕ))) → Reads file d
    → IsSalvaged Distinct file d
unfolding seeded
salvaged_as file d read =
    let good = read.good in
    let same = sym (good_parts file good) in
    record {
      last_seed = read.last_seed;
      ids = rw same at read.ids;
      header = read.header
          ∙ ap (λ (h : DatabaseHeader). seeded (header_in file) h read.last_seed)
          (sym (good_header file good));
      entries = subst (λ (x : Database ℕ). AllZip IsReadAs x.entries d.entries) same read.entries;
      blocks = read.blocks ∙ good_blocks file good;
    }

pub good_canonical : GoodFilesAreCanonical
good_canonical file bytes good = (
  λ is.
      record { database = is.database; reads = reads_as file _ good is.salvaged; written = is.written },
  λ is.
      record { database = is.database; salvaged = salvaged_as file _ is.reads; written = is.written },
)

-- ---- lines that aren't there

both_none : (xs ys : List ℕ) → xs ++ ys ≡ [] → (xs ≡ []) × (ys ≡ [])
both_none [] ys e = (refl, e)
both_none (x ∷ xs) ys e = absurd cc

none_both : (xs ys : List ℕ) → xs ≡ [] → ys ≡ [] → xs ++ ys ≡ []
none_both xs ys e f = ap (λ (zs : List ℕ). zs ++ ys) e ∙ f

all_none : (xss : List (List ℕ)) → concat xss ≡ [] → (k : ℕ) (d : List ℕ) → k < length xss
    → get_or xss k d ≡ []
all_none [] e k d inside = absurd (omega arith)
all_none (xs ∷ xss) e zero d inside = (both_none xs (concat xss) e).0
all_none (xs ∷ xss) e (suc k) d inside =
    all_none xss (both_none xs (concat xss) e).1 k d (omega arith)

none_all : (xss : List (List ℕ)) → ((k : ℕ) (d : List ℕ) → k < length xss → get_or xss k d ≡ [])
    → concat xss ≡ []
none_all [] each = refl
none_all (xs ∷ xss) each =
    none_both xs (concat xss) (each 0 [] (omega arith))
    (none_all xss (λ k d inside. each (suc k) d (omega arith)))

-- a line that isn't empty is there exactly if the test fails
quiet : (test : Bool) (x : ℕ) (xs : List ℕ) → word (not test) (x ∷ xs) ≡ [] → test ≡ true
quiet true x xs e = refl
quiet false x xs e = absurd cc

loud : (test : Bool) (x : ℕ) (xs : List ℕ) → word test (x ∷ xs) ≡ [] → test ≡ false
loud false x xs e = refl
loud true x xs e = absurd cc

passes : (test : Bool) (text : List ℕ) → test ≡ true → word (not test) text ≡ []
passes test text e = ap (λ (b : Bool). word (not b) text) e

-- ---- no line, no fault

no_zero : (x : ℕ) → (x == 0) ≡ true → (x ≡ 0 → ⊥) → ⊥
no_zero x e ne = ne (eqb-true x 0 e)

long_name : (name : List ℕ) → (length name == 0) ≡ false → name ≡ [] → ⊥
long_name [] e none = absurd cc
long_name (x ∷ xs) e none = absurd cc

no_entry : (file : List ℕ) → lost_entry_lines file ≡ [] → (index : ℕ) → index < whole_entries file
    → is_sound_entry file (entry_in file index) ≡ true
no_entry file none index below =
    let lines = numbered (lost_entry_line file) (whole_entries file) in
    let long = length-map-range_with_len (lost_entry_line file) 0 (whole_entries file) in
    let here = all_none lines none index [] (omega arith) in
    let is = get_or-map-range_with_len (lost_entry_line file) 0
    (whole_entries file) index index [] below (omega arith) in
    quiet (is_sound_entry file (entry_in file index)) _ _ (sym is ∙ here)

quiet_good : (file : List ℕ) → 78 ≤ length file → salvage_lines file ≡ [] → HasNoFault file
unfolding salvage_lines
quiet_good file header none =
    let parts = both_none (head_lines file) (lost_info_lines file ++ lost_entry_lines file) none in
    let head = both_none (cut_line file) (chain_line file ++ name_line file) parts.0 in
    let chain = both_none (chain_line file) (name_line file) head.1 in
    let rest = both_none (lost_info_lines file) (lost_entry_lines file) parts.1 in
    let info = both_none (lost_info_line file (codes "app") (u32_at file 52))
    (lost_info_line file (codes "sort") (u32_at file 56)) rest.0 in
    let ends =
    leb-true (entries_end file) (length file) (quiet (has_all_entries file) _ _ head.0) in
    let all = all_whole file ends in
    no_fault file (record {
      whole = elim [ inl short ↦ absurd (omega arith) | inr cut ↦ absurd (omega arith) ];
      ends = no_zero (u32_at file 72) (quiet (u32_at file 72 == 0) _ _ chain.0);
      named = long_name (name_in file) (loud (length (name_in file) == 0) _ _ chain.1);
      app_info = info_not_bad file (u32_at file 52)
          (quiet (is_none_or_sound file (u32_at file 52)) _ _ info.0);
      sort_info = info_not_bad file (u32_at file 56)
          (quiet (is_none_or_sound file (u32_at file 56)) _ _ info.1);
    }) (λ index below bad. entry_not_bad file _ (no_entry file rest.1 index (omega arith)) bad.1)

-- ---- no fault, no line

zero_there : (x : ℕ) → (x ≡ 0 → ⊥) → (x == 0) ≡ false
zero_there x ne = ne_eqb x 0 ne

not_chained : (x : ℕ) → ((x ≡ 0 → ⊥) → ⊥) → (x == 0) ≡ true
not_chained zero none = refl
not_chained (suc x) none = absurd (none (λ e. absurd (omega arith)))

some_name : (name text : List ℕ) → (name ≡ [] → ⊥) → word (length name == 0) text ≡ []
some_name [] text some = absurd (some refl)
some_name (x ∷ xs) text some =
    ap (λ (b : Bool). word b text) (ne_eqb (length (x ∷ xs)) 0 (λ e. omega arith))

good_quiet : (file : List ℕ) → HasNoFault file → salvage_lines file ≡ []
unfolding salvage_lines
good_quiet file good =
    let ends = (not_truncated file good).1 in
    let all = all_whole file ends in
    let cut : cut_line file ≡ [] = passes (has_all_entries file) (count_line file)
    (leb-is-true (entries_end file) (length file) ends) in
    let chain : chain_line file ≡ [] =
    passes (u32_at file 72 == 0) (codes "chained list: ignored\n")
    (not_chained (u32_at file 72) (good 1 Truncated (omega arith))) in
    let name : name_line file ≡ [] =
    some_name (name_in file) (codes "name empty: Recovered\n") (good 2 Truncated (omega arith)) in
    let app = passes (is_none_or_sound file (u32_at file 52))
    (codes "app" ++ dropped_at file (u32_at file 52))
    (info_good file (u32_at file 52) (good 3 Truncated (omega arith))) in
    let sort = passes (is_none_or_sound file (u32_at file 56))
    (codes "sort" ++ dropped_at file (u32_at file 56))
    (info_good file (u32_at file 56) (good 4 Truncated (omega arith))) in
    let lines = numbered (lost_entry_line file) (whole_entries file) in
    let long = length-map-range_with_len (lost_entry_line file) 0 (whole_entries file) in
    let entries : concat lines ≡ [] = none_all lines (λ k d inside.
    let below : k < whole_entries file = omega arith in
    get_or-map-range_with_len (lost_entry_line file) 0 (whole_entries file) k k d below
    (omega arith)
    ∙ passes (is_sound_entry file (entry_in file k))
    (dropped_entry file k (entry_data (entry_in file k)))
    (entry_good file (entry_in file k) (good_offset file good k (omega arith)))) in
    none_both (head_lines file) (lost_info_lines file ++ lost_entry_lines file)
    (none_both (cut_line file) (chain_line file ++ name_line file) cut
    (none_both (chain_line file) (name_line file) chain name))
    (none_both (lost_info_lines file) (lost_entry_lines file)
    (none_both (lost_info_line file (codes "app") (u32_at file 52))
    (lost_info_line file (codes "sort") (u32_at file 56)) app sort) entries)

pub good_no_line : GoodFilesHaveNoLine
good_no_line file header = (quiet_good file header, good_quiet file)
