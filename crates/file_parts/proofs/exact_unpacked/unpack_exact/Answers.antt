-- `unpack_exact` takes a file apart as it stands, by the laws of ExactFolders and ExactRead.
use Rattle.file_parts.proofs.AllLaws.{◌≤◌, List, ℕ, length, sym, subst, most_bytes, packs_exactly, is_exactly}
use Rattle.file_parts.proofs.exact_unpacked.unpack_exact.Goals as goal

pub returns-in-Ok-ranks_in-clause-done : goal.returns-in-Ok-ranks_in-clause-done
returns-in-Ok-ranks_in-clause-done g c = record {
  short = subst (λ (file : List ℕ). length file ≤ most_bytes) (sym c.in-Ok.ensures.same) c.requires;
  good = c.know_file.ensures.good;
  order = c.in-Ok-ranks_in.ensures.order;
}

pub returns-in-Ok-ranks_in-clause-exactly : goal.returns-in-Ok-ranks_in-clause-exactly
returns-in-Ok-ranks_in-clause-exactly g c =
    is_exactly c.in-Ok.file _ c.know_file.ensures.good c.in-Ok-ranks_in.ensures.order

pub returns-in-Ok-ranks_in-clause-packs : goal.returns-in-Ok-ranks_in-clause-packs
returns-in-Ok-ranks_in-clause-packs g c =
    packs_exactly _ _ c.know_file.ensures.numbers (returns-in-Ok-ranks_in-clause-exactly g c)
