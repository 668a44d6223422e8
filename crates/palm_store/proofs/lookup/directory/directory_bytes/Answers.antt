-- The bytes are those of the directory, or none if there is no directory.
use Rattle.palm_store.proofs.Laws.{no_directory, directory_movable, directory_read, counts, directory_here}
use Rattle.std.proofs.Common.{[], sym, ◌∙◌}
use Rattle.palm_store.proofs.lookup.directory.directory_bytes.Goals as goal

pub sys_body-requires : goal.sys_body-requires
sys_body-requires c =
    let is = c.directory-directory.ensures in record {
      here = directory_here _ _ c.requires.heap is c.if-directory-eq0.false;
      movable = directory_movable _ _ c.requires.heap is c.if-directory-eq0.false;
    }

pub returns-then-directory-eq0-clause-is : goal.returns-then-directory-eq0-clause-is
returns-then-directory-eq0-clause-is c =
    let none = sym c.directory-directory.ensures ∙ c.if-directory-eq0.true in
    sym (no_directory _ c.requires.heap none)

pub returns-then-directory-eq0-clause-listed : goal.returns-then-directory-eq0-clause-listed
returns-then-directory-eq0-clause-listed c = counts _ [] (returns-then-directory-eq0-clause-is c)

pub returns-else-directory-eq0-clause-is : goal.returns-else-directory-eq0-clause-is
returns-else-directory-eq0-clause-is c =
    directory_read _ _ _ c.directory-directory.ensures c.sys_body.ensures

pub returns-else-directory-eq0-clause-listed : goal.returns-else-directory-eq0-clause-listed
returns-else-directory-eq0-clause-listed c = counts _ _ (returns-else-directory-eq0-clause-is c)
