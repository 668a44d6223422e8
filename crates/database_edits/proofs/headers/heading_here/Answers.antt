-- The fields that are read are those of the database.
use Rattle.database_edits.proofs.Laws.{ℕ, List, ap, ◌∙◌, u32_at, resources_in, header_inside, kind_read, database_in, header_in}
use Rattle.database_edits.proofs.headers.heading_here.Goals as goal

pub has_resources-requires : goal.has_resources-requires
has_resources-requires c =
    rw c.sys_body_found-body.ensures (header_inside _ _ c.requires.opened.spells)

pub modification_number-requires : goal.modification_number-requires
modification_number-requires c =
    rw c.sys_body_found-body.ensures (header_inside _ _ c.requires.opened.spells)

pub seed-requires : goal.seed-requires
seed-requires c = rw c.sys_body_found-body.ensures (header_inside _ _ c.requires.opened.spells)

pub returns : goal.returns
unfolding database_in header_in
returns c = record {
  kind = c.has_resources.ensures ∙ ap resources_in c.sys_body_found-body.ensures
      ∙ kind_read c.requires.opened.spells;
  modification_number = c.modification_number.ensures
      ∙ ap (λ (body : List ℕ). u32_at body 48) c.sys_body_found-body.ensures;
  seed = c.seed.ensures ∙ ap (λ (body : List ℕ). u32_at body 68) c.sys_body_found-body.ensures;
}
