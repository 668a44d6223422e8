-- `append_head` writes the part of a new file before its blocks into an empty vector that has room
-- for it, by the laws of Lengths and WrittenOffsets.
use Rattle.std.proofs.Common.{◌≡◌, ℕ, List, [], ◌∷◌, ◌++◌, length, sym, ap, ◌∙◌, arith, append_assoc}
use Rattle.heap_model.specs.Files.{blocks_in}
use Rattle.pdb_format.specs.FileTexts.{header_text, entries_text}
use Rattle.pdb_format.specs.ReadFiles.{entries_read, database_read}
use Rattle.pdb_format.proofs.WrittenOffsets.{all_bytes}
use Rattle.canonical_file.specs.Written.{ids_of, seed_of}
use Rattle.canonical_file.proofs.Lengths.{header_long, entries_read_long, parts_read}
use Rattle.canonical_file.proofs.canonical.append_head.Goals as goal

pub append-requires : goal.append-requires
append-requires g c =
    let file = c.args.file.now in
    let ids = ids_of file c.args.ids in
    let seed = seed_of file c.args.ids in
    let head = ap length (c.header_bytes.ensures ids)
    ∙ header_long file ids c.seed_for.result c.know_file.ensures.good in
    let entries = entries_read_long file ids 0 in
    let none = c.requires.none in
    let room = c.requires.room in
    omega arith

pub append_entries-requires-clause-room : goal.append_entries-requires-clause-room
append_entries-requires-clause-room g c =
    let file = c.args.file.now in
    let ids = ids_of file c.args.ids in
    let seed = seed_of file c.args.ids in
    let head = ap length (c.header_bytes.ensures ids)
    ∙ header_long file ids c.seed_for.result c.know_file.ensures.good in
    let entries = entries_read_long file ids c.data_start.result in
    let none = c.requires.none in
    let room = c.requires.room in
    let len = c.append.ensures.len in
    let kept = c.append.ensures.capacity in
    omega arith

pub append-requires-2 : goal.append-requires-2
append-requires-2 g c =
    let file = c.args.file.now in
    let ids = ids_of file c.args.ids in
    let seed = seed_of file c.args.ids in
    let head = ap length (c.header_bytes.ensures ids)
    ∙ header_long file ids c.seed_for.result c.know_file.ensures.good in
    let entries = entries_read_long file ids c.data_start.result in
    let none = c.requires.none in
    let room = c.requires.room in
    let len = c.append.ensures.len in
    let kept = c.append.ensures.capacity in
    let more = c.append_entries.ensures.len in
    let kept_more = c.append_entries.ensures.capacity in
    omega arith

pub returns-clause-len : goal.returns-clause-len
returns-clause-len g c =
    let file = c.args.file.now in
    let ids = ids_of file c.args.ids in
    let seed = seed_of file c.args.ids in
    let head = ap length (c.header_bytes.ensures ids)
    ∙ header_long file ids c.seed_for.result c.know_file.ensures.good in
    let entries = entries_read_long file ids c.data_start.result in
    let none = c.requires.none in
    let len = c.append.ensures.len in
    let more = c.append_entries.ensures.len in
    let two = c.append-2.ensures.len in
    omega arith

-- parts that are put one after the other, and what follows them
joined : (b0 b1 b2 b3 h e z k : List ℕ) → b0 ≡ [] → b1 ≡ b0 ++ h → b2 ≡ b1 ++ e → b3 ≡ b2 ++ z
    → b3 ++ k ≡ h ++ (e ++ (z ++ k))
joined b0 b1 b2 b3 h e z k none first second third =
    ap (λ (xs : List ℕ). xs ++ k)
    (third
    ∙ ap (λ (xs : List ℕ). xs ++ z)
    (second ∙ ap (λ (xs : List ℕ). xs ++ e) (first ∙ ap (λ (xs : List ℕ). xs ++ h) none)))
    ∙ append_assoc (h ++ e) z k ∙ append_assoc h e (z ++ k)

pub returns-clause-items : goal.returns-clause-items
returns-clause-items g c =
    let file = c.args.file.now in
    let ids = ids_of file c.args.ids in
    let seed = seed_of file c.args.ids in
    let place = c.data_start.ensures.is ids seed in
    let text = entries_text c.data_start.result (entries_read file ids) in
    let entries = ap (λ (at : ℕ). entries_text at (entries_read file ids)) place in
    let header = c.header_bytes.ensures ids
    ∙ ap (λ (n : ℕ). header_text (database_read file ids n)) c.seed_for.ensures.is in
    joined c.args.bytes.now.items c.append.new.bytes.items c.append_entries.new.bytes.items
    c.append-2.new.bytes.items c.header_bytes.result
    text (0 ∷ 0 ∷ []) (all_bytes (blocks_in file)) c.requires.empty c.append.ensures.items
    c.append_entries.ensures.items c.append-2.ensures.items
    ∙ ap (λ (xs : List ℕ). xs ++ (text ++ (0 ∷ 0 ∷ [] ++ all_bytes (blocks_in file)))) header
    ∙ ap (λ (xs : List ℕ).
    header_text (database_read file ids seed) ++ (xs ++ (0 ∷ 0 ∷ [] ++ all_bytes (blocks_in file))))
    entries
    ∙ sym (parts_read file ids seed)
