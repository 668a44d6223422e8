-- The bytes are those of the chunk for data, and of none under the name 0.
use Rattle.palm_store.proofs.Laws.{◌∙◌, none_seen, data_seen, lent_movable}
use Rattle.palm_store.proofs.store.Store.chunk_bytes.Goals as goal

pub sys_body-requires : goal.sys_body-requires
sys_body-requires c =
    let h = c.self.invariant.accepted.heap in record {
      here = record { not_lent = λ other lent. c.requires.here (rw (← c.self.view_is) lent) };
      movable = lent_movable _ _ h (rw c.self.view_is c.requires.names) c.if-name-eq0.false;
    }

pub returns-then-name-eq0 : goal.returns-then-name-eq0
returns-then-name-eq0 c =
    rw (← c.self.view_is) (none_seen _ _ c.self.invariant.accepted.heap c.if-name-eq0.true)

pub returns-else-name-eq0 : goal.returns-else-name-eq0
returns-else-name-eq0 c =
    rw (← c.self.view_is) (c.sys_body.ensures
    ∙ data_seen _ _ (rw c.self.view_is c.requires.names) c.if-name-eq0.false)
