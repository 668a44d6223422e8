-- The bytes of all entries are those of the records with their new attributes.
use Rattle.database_edits.proofs.Laws.{◌-◌, ℕ, List, length, ap, managers, rebodied_as, written}
use Rattle.database_edits.proofs.Recorded.{body_changed}
use Rattle.database_edits.proofs.attributes.change_attributes.Goals as goal

pub returns-clause-changed : goal.returns-clause-changed
returns-clause-changed g c = (rebodied_as
    (body_changed (g.C.ByteChange.made c.args.change) (length c.sys_body_found.result.now - 78)
    c.requires.opened.spells c.requires.records
    (ap (λ (bytes : List ℕ). length bytes - 78) c.sys_body_found.ensures))
    (written 78 _ (managers _ _ c.requires.opened.spells) c.sys_change_every.ensures.leaves)).leaves
