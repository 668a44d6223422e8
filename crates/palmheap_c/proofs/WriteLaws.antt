-- The file that is put together from values of a caller.
use Rattle.palmheap_c.proofs.Words.{true, ◌≡◌, ◌<◌, ◌≤◌, ◌+◌, ◌∷◌, [], ℕ, List, length, length-append, sym, ap, subst, ◌∙◌, arith, ◌&&◌, map, AllPass, list_all, and_parts, length-map, data_in, entry_data, has_resources, most_bytes, ExactFile, IsExactly, exact_bytes, exact_size, is_misplaced, bytes_are, LineFault, Given, HasMisplaced, IsFileOf, are_inside, exact_from_c, has_data_inside, is_inside, named_database, named_entry, part_from_c, parts_from_c, text_from_c}
use Rattle.std.proofs.lemmas.List.Sums.{AllPass-from_list_all}
use Rattle.file_parts.specs.ExactListed.{HasExactParts, IsExactlyPacked, IsListedExact, IsMisplacedFault, exact_listed, exact_packed}
use Rattle.file_parts.specs.ExactTexts.{ExactText, exact_of_parts}
use Rattle.file_parts.specs.declared.exact_listed.ListedExact.{ListedExact}
use Rattle.file_parts.proofs.ExactPackedBack.{packed_back}

-- each block that is there lies within the bytes
pub app_inside : (it : Given) → are_inside it ≡ true → is_inside (length it.bytes) it.app ≡ true
app_inside it is = (and_parts (is_inside (length it.bytes) it.app) (is_inside (length it.bytes)
    it.sort && list_all (has_data_inside (length it.bytes)) it.entries) is).0

rest_inside : (it : Given) → are_inside it ≡ true → (is_inside (length it.bytes) it.sort ≡ true)
    × (list_all (has_data_inside (length it.bytes)) it.entries ≡ true)
rest_inside it is = and_parts (is_inside (length it.bytes) it.sort)
    (list_all (has_data_inside (length it.bytes)) it.entries)
    (and_parts (is_inside (length it.bytes) it.app) (is_inside (length it.bytes) it.sort
    && list_all (has_data_inside (length it.bytes)) it.entries) is).1

pub sort_inside : (it : Given) → are_inside it ≡ true → is_inside (length it.bytes) it.sort ≡ true
sort_inside it is = (rest_inside it is).0

pub all_inside : (it : Given) → are_inside it ≡ true
    → AllPass (has_data_inside (length it.bytes)) it.entries
all_inside it is =
    AllPass-from_list_all (has_data_inside (length it.bytes)) it.entries (rest_inside it is).1

-- there is a part for each block, and one for the filler
part_count : (it : Given) → length (parts_from_c it) ≡ length (data_in (named_database it)) + 1
part_count it =
    let resources = has_resources it.header.attributes in
    let named = map (named_entry resources) it.entries in
    let all = length-append (map (part_from_c it.bytes) it.entries) (it.filler ∷ []) in
    let parts = length-map it.entries (part_from_c it.bytes) in
    let blocks = length-map named entry_data in
    let entries = length-map it.entries (named_entry resources) in
    omega (arith, all, parts, blocks, entries)

pub has_parts : (it : Given) (exact : ListedExact) (parts : List (List ℕ)) → IsListedExact exact
    → exact_listed exact ≡ text_from_c it → parts ≡ parts_from_c it → HasExactParts exact parts
has_parts it exact parts good text are = record {
  good = good;
  count = ap length are ∙ part_count it
      ∙ ap (λ (text : ExactText). length (data_in text.database) + 1) (sym text);
}

same_file : (it : Given) (exact : ListedExact) (parts : List (List ℕ))
    → exact_listed exact ≡ text_from_c it → parts ≡ parts_from_c it
    → exact_packed exact parts ≡ exact_from_c it
same_file it exact parts text are = ap (λ (text : ExactText). exact_of_parts text parts) text
    ∙ ap (exact_of_parts (text_from_c it)) are

pub file_from_c : (it : Given) (exact : ListedExact) (parts : List (List ℕ)) (bytes : List ℕ)
    → are_inside it ≡ true → IsListedExact exact → exact_listed exact ≡ text_from_c it
    → parts ≡ parts_from_c it → IsExactlyPacked exact parts bytes
    → exact_size (exact_packed exact parts) ≤ most_bytes → IsFileOf it bytes
file_from_c it exact parts bytes inside good text are packed fits =
    let same = same_file it exact parts text are in
    let spelled = packed.file ∙ ap exact_bytes same in
    record {
      inside = inside;
      fits = subst (λ (file : ExactFile). exact_size file ≤ most_bytes) same fits;
      spelled = spelled;
      exactly = subst (IsExactly bytes) same
          (packed_back exact parts bytes (has_parts it exact parts good text are) packed fits);
      back = λ file are_bytes is. spelled ∙ bytes_are file (exact_from_c it) are_bytes is;
    }

-- ---- refusals

pub too_long : (it : Given) (exact : ListedExact) (parts : List (List ℕ))
    → exact_listed exact ≡ text_from_c it → parts ≡ parts_from_c it
    → most_bytes < exact_size (exact_packed exact parts) → most_bytes < exact_size (exact_from_c it)
too_long it exact parts text are =
    subst (λ (file : ExactFile). most_bytes < exact_size file) (same_file it exact parts text are)

pub misplaced : (it : Given) (exact : ListedExact) (parts : List (List ℕ)) (fault : LineFault)
    → exact_listed exact ≡ text_from_c it → parts ≡ parts_from_c it
    → IsMisplacedFault exact parts fault → HasMisplaced it
misplaced it exact parts fault text are (index, line, inside, is, here, named) = (
  index,
  subst (λ (file : ExactFile). is_misplaced file index ≡ true)
      (same_file it exact parts text are) is,
)
