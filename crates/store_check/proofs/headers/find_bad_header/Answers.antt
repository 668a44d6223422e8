-- `find_bad_header` returns the first database with a bad header, or a table of all headers, by the
-- laws of PassLaws.
use Rattle.store_check.proofs.Lemmas.{refl, arith, false≢true, header_bytes, header_good, header_first, headers_more, headers_noted}
use Rattle.store_check.proofs.headers.find_bad_header.Goals as goal

pub returns-then-not-has_header-clause-some : goal.returns-then-not-has_header-clause-some
returns-then-not-has_header-clause-some c =
    let count = c.requires.listing.count in
    let is = header_bytes c.args.region.now.bytes c.bytes_of.result.now c.loop-db.db
    c.find_header-header.result c.find_header-header.ensures c.bytes_of.ensures in
    header_first c.args.region.now.bytes _ c.loop-db.db is (omega arith)
    (λ h. false≢true ((c.if-not-has_header.ensures c.args.region.now.bytes c.requires.listing.heap
    c.requires.owners).1 h)) c.loop-db.invariant.none_bad

pub loop-db-preserved : goal.loop-db-preserved
loop-db-preserved c =
    let few = c.requires.listing.few in
    let room = c.requires.room in
    let is = header_bytes c.args.region.now.bytes c.bytes_of.result.now c.loop-db.db
    c.find_header-header.result c.find_header-header.ensures c.bytes_of.ensures in
    headers_more _ _ _ _ _ refl (omega arith) c.find_header-header.ensures
    (header_good _ _ c.loop-db.db is ((c.if-not-has_header.ensures c.args.region.now.bytes
    c.requires.listing.heap c.requires.owners).0 refl)) c.loop-db.invariant

pub returns-clause-noted : goal.returns-clause-noted
returns-clause-noted c =
    let count = c.requires.listing.count in
    let few = c.requires.listing.few in
    let room = c.requires.room in
    headers_noted _ _ _ _ c.requires.listing (omega arith) (omega arith) c.loop-db.invariant
