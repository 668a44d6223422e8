-- The blocks of a database that names chunks for data alone, one by one.
use Rattle.pdb_files.proofs.Words.{◌≡◌, ℕ, suc, ◌<◌, List, refl, sym, subst, ◌∙◌, arith, Memory, u32_at, app_info_at, sort_info_at, entry_data, entry_in, entry_count_in, length-named, first_named, second_named, entry_named, MayBeRead, NamesReadableData}

pub app_own : (memory : Memory) (bytes : List ℕ) (slot : ℕ) → NamesReadableData memory bytes
    → slot ≡ u32_at bytes app_info_at → MayBeRead memory slot
app_own memory bytes slot names is = (let long = length-named bytes in
    subst (MayBeRead memory) (first_named bytes 0 refl ∙ sym is) (names 0 0 (omega arith)))

pub sort_own : (memory : Memory) (bytes : List ℕ) (slot : ℕ) → NamesReadableData memory bytes
    → slot ≡ u32_at bytes sort_info_at → MayBeRead memory slot
sort_own memory bytes slot names is = (let long = length-named bytes in
    subst (MayBeRead memory) (second_named bytes 1 refl ∙ sym is) (names 1 0 (omega arith)))

pub entry_own : (memory : Memory) (bytes : List ℕ) (index slot : ℕ) → NamesReadableData memory bytes
    → index < entry_count_in bytes → slot ≡ entry_data (entry_in bytes index)
    → MayBeRead memory slot
entry_own memory bytes index slot names below is =
    let long = length-named bytes in
    subst (MayBeRead memory) (entry_named bytes index below ∙ sym is)
    (names (suc (suc index)) 0 (omega arith))
