-- The directory that was made has four bytes, over which the slot's are written.
use Rattle.palm_store.proofs.Laws.{refl, ap, ◌∙◌, arith, ℕ, length, rules, length-replicate, length-u32_bytes, keeps_then, made_here, put_here, begun, loose_movable, bytes_held, owner_held, owned_here}
use Rattle.palm_store.proofs.databases.creating.begin_directory.Goals as goal

pub sys_find-chunk-requires : goal.sys_find-chunk-requires
sys_find-chunk-requires c =
    loose_movable _ _ _ (made_here _ _ _ 4 c.in_ok-directory.ensures.made) refl

pub sys_write-requires : goal.sys_write-requires
sys_write-requires c =
    let made = made_here _ _ _ 4 c.in_ok-directory.ensures.made in
    let bytes = ap length (bytes_held _ _ _ made) in
    let four = length-replicate {A = ℕ} 4 0 in
    let word = ap length c.slot_bytes.ensures ∙ length-u32_bytes _ in record {
      stands = search rules;
      here = owned_here _ _ _ made refl;
      within = omega (arith, bytes, four, word);
    }

pub set_directory-requires : goal.set_directory-requires
set_directory-requires c =
    let made = made_here _ _ _ 4 c.in_ok-directory.ensures.made in
    record { managers = owner_held _ _ _ (put_here _ _ _ 0 _ _ c.sys_write.ensures.leaves made) }

pub returns-clause-lists : goal.returns-clause-lists
returns-clause-lists c =
    begun _ _ _ _ _ _ _ c.requires.heap c.requires.none c.in_ok-directory.ensures.made
    c.sys_write.ensures.leaves c.set_directory.ensures.names c.slot_bytes.ensures

pub returns-clause-kept : goal.returns-clause-kept
returns-clause-kept c = record { loan = search (rules, keeps_then); rest = search rules }
