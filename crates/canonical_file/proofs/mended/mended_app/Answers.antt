-- `mended_app` returns the first bytes of the AppInfo of the mended file, by the laws of
-- MendedStarts.
use Rattle.std.proofs.Common.{ℕ, take, drop, ap, ◌∙◌, sym}
use Rattle.pdb_format.specs.FileStarts.{most_app}
use Rattle.canonical_file.proofs.MendedStarts.{no_app, same_app}
use Rattle.canonical_file.proofs.mended.mended_app.Goals as goal

pub returns-then-at-eq0 : goal.returns-then-at-eq0
returns-then-at-eq0 c =
    c.part_of.ensures
    ∙ no_app c.args.file.now c.args.start.now c.know_bytes.ensures c.know_bytes-2.ensures
    c.requires.header c.requires.starts (sym c.app_info-at.ensures ∙ c.if-at-eq0.true)

pub returns-else-at-eq0 : goal.returns-else-at-eq0
returns-else-at-eq0 c =
    c.part_of-else-at-eq0.ensures
    ∙ ap (λ (n : ℕ). take most_app (drop n c.args.file.now)) c.app_info-at.ensures
    ∙ same_app _ _ c.know_bytes.ensures c.know_bytes-2.ensures c.requires.header c.requires.starts
    (λ none. c.if-at-eq0.false (c.app_info-at.ensures ∙ none))
