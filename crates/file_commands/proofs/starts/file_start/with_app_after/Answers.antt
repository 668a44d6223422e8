use Rattle.std.proofs.Common.{rules, ◌≡◌, ◌-◌, ℕ, Option, List, length, min, take, subst, sym}
use Rattle.heap_model.specs.Bytes.{AreBytes, u32_at}
use Rattle.heap_model.specs.DatabaseFields.{app_info_at}
use Rattle.pdb_format.specs.FileStarts.{most_app, most_start}
use Rattle.file_commands.specs.Starts.{BeginsWith, IsPartOfFile}
use Rattle.file_commands.proofs.Splits.{split_after}
use Rattle.file_commands.proofs.starts.file_start.with_app_after.Goals as goal

pub of-requires : goal.of-requires
of-requires g c κs within =
    let first = c.args.start.items in
    let start = c.truncate.new.self.items in
    let app = c.in_ok-app.app.items in
    let at = c.app_info-at.result in
    let file = g.F.ReadsAt.bytes c.read_app.new.file in
    let same : g.F.ReadsAt.bytes c.args.file.now ≡ file = sym c.in_ok-app.ensures.same in
    let place : at ≡ u32_at first app_info_at = search rules in
    let cut : start ≡ take most_start first = search rules in
    let numbers : AreBytes start = subst AreBytes c.deref-2.ensures.value c.know_numbers.ensures in
    let app_numbers : AreBytes app = subst AreBytes c.deref-3.ensures.value c.know_numbers-2.ensures in
    let count : length app ≡ min (c.args.size - at) most_app = c.in_ok-app.ensures.len in
    let part : IsPartOfFile (g.F.ReadsAt.bytes c.args.file.now) at (min (c.args.size - at) most_app) app = c.in_ok-app.ensures.part in (
      within,
      split_after file first start app c.args.size at c.requires.len c.requires.long c.requires.short c.requires.after cut place numbers app_numbers
          (subst (λ (f : Option (List ℕ)). BeginsWith f first c.args.size) same c.requires.begins) count
          (subst (λ (f : Option (List ℕ)). IsPartOfFile f at (min (c.args.size - at) most_app) app) same part),
    )
