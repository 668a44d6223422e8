-- The block of the header that was found is that of the store, or there is none.
use Rattle.palm_store.proofs.Laws.{◌≡◌, ℕ, List, sym, ap, ◌∙◌, database_in, info_block, info_block_under, store_of, ask_viewed, block_here, known_number, no_block_there, block_told}
use Rattle.palm_store.proofs.store.Store.info_block.Goals as goal

pub returns-then-name-eq0 : goal.returns-then-name-eq0
returns-then-name-eq0 c =
    let image : List ℕ = c.self.inside.heap.bytes in
    let known = c.in_ok-find_header.ensures.known in
    let is : c.block_in-name.result ≡ info_block_under (store_of image) c.args.db c.args.which =
    c.block_in-name.ensures ∙ ap (λ (body : List ℕ). info_block c.args.which (database_in body)) c.in_ok-find_header.ensures.is ∙ sym (block_here image c.args.db c.args.which known) in
    ask_viewed c.self.inside.heap c.args.self.now _ _ c.self.view_is
    (no_block_there c.self.inside.heap c.args.db c.args.which c.self.invariant.accepted (known_number image c.args.db known) (sym is ∙ c.if-name-eq0.true))

pub returns : goal.returns
returns c =
    let image : List ℕ = c.self.inside.heap.bytes in
    let known = c.in_ok-find_header.ensures.known in
    let is : c.block_in-name.result ≡ info_block_under (store_of image) c.args.db c.args.which =
    c.block_in-name.ensures ∙ ap (λ (body : List ℕ). info_block c.args.which (database_in body)) c.in_ok-find_header.ensures.is ∙ sym (block_here image c.args.db c.args.which known) in
    ask_viewed c.self.inside.heap c.args.self.now _ _ c.self.view_is
    (block_told c.self.inside.heap c.args.db c.args.which _ c.self.invariant.accepted (known_number image c.args.db known) (λ e. c.if-name-eq0.false (is ∙ e)) is)
