-- `find_header` returns the header and entries of a database, by the laws of LookupLaws.
use Rattle.store_check.proofs.LookupLaws.{header_owner, listed_body}
use Rattle.store_check.proofs.lookup.find_header.Goals as goal

pub body_under-requires-clause-managers : goal.body_under-requires-clause-managers
body_under-requires-clause-managers c = header_owner c.args.region.now.bytes c.args.directory.now
    c.args.db c.word_at.result c.requires.listing c.requires.below c.word_at.ensures

pub returns : goal.returns
returns c = listed_body _ _ c.args.db _ _ c.requires.listing c.word_at.ensures c.body_under.ensures
