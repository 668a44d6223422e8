-- The block is that of the header that was found, and the attributes tell whether it may be written.
use Rattle.palm_store.proofs.Laws.{ℕ, List, sym, ap, ◌∙◌, both_ways, database_in, info_block, attributes_in_store, block_here, may_be_written, may_not_be_written}
use Rattle.palm_store.proofs.databases.blocks.find_writable_block.Goals as goal

pub returns-then-is_read_only-clause-refused : goal.returns-then-is_read_only-clause-refused
returns-then-is_read_only-clause-refused c =
    let has = c.in_ok-opened.ensures.opened.number in
    let attributes = attributes_in_store _ _ _ _ has c.header_in-header.ensures.is c.attributes.ensures in
    rw (← c.in_ok-opened.ensures.db)
    (may_not_be_written _ _ _ attributes (sym c.is_read_only.ensures ∙ c.if-is_read_only.true))

pub returns-clause-is : goal.returns-clause-is
returns-clause-is c =
    let header = c.header_in-header.ensures.is in
    rw (← c.in_ok-opened.ensures.db)
    (c.block_in.ensures ∙ ap (λ (body : List ℕ). info_block c.args.which (database_in body)) header
    ∙ sym (block_here _ _ _ c.in_ok-opened.ensures.opened.number))

pub returns-clause-passes : goal.returns-clause-passes
returns-clause-passes c =
    let has = c.in_ok-opened.ensures.opened.number in
    let attributes = attributes_in_store _ _ _ _ has c.header_in-header.ensures.is c.attributes.ensures in
    rw (← c.in_ok-opened.ensures.db) (may_be_written _ _ _ attributes
    (λ set. both_ways _ c.if-is_read_only.false (c.is_read_only.ensures ∙ set)))
