-- `app` returns the first bytes of the AppInfo block, at most `MOST_APP`, by the laws of StartLaws.
use Rattle.std.proofs.Common.{◌≡◌, ◌-◌, ℕ, List, Some, None, take, sym, ap, ◌∙◌, arith}
use Rattle.std.specs.Prelude.{option_map, slice_index_or, slice_range}
use Rattle.heap_model.specs.Bytes.{u32_at}
use Rattle.heap_model.specs.DatabaseFields.{app_info_at}
use Rattle.heap_model.specs.Files.{blocks_in}
use Rattle.pdb_format.specs.Blocks.{bytes_at}
use Rattle.pdb_format.specs.FileStarts.{most_app, app_start}
use Rattle.pdb_format.proofs.GoodFiles.{app_offset}
use Rattle.pdb_format.proofs.Places.{start_of_place, place_starts}
use Rattle.pdb_format.proofs.StartLaws.{app_part}
use Rattle.pdb_format.proofs.pdb_file.PdbFile.app.Goals as goal

pub returns-in-Some : goal.returns-in-Some
returns-in-Some g c =
    let file : List ℕ = c.args.self.now in
    let start : ℕ = c.in-Some.block.start in
    let end : ℕ = c.in-Some.block.end in
    let begins : start ≡ u32_at file app_info_at = ap start_of_place (sym c.in-Some.is)
    ∙ place_starts file 0 c.block.result (omega arith) c.block.ensures.place ∙ app_offset file in
    let whole : Some (slice_range file start end) ≡ slice_index_or (blocks_in file) 0 None =
    ap (bytes_at file) (sym c.in-Some.is) ∙ c.block.ensures.is in
    let taken : c.front.result.now ≡ take (end - start) (app_start file) =
    c.front.ensures ∙ ap (take (end - start)) (c.app.ensures ∙ ap app_start c.self.view_is) in
    ap (λ (bytes : List ℕ). Some bytes) (taken ∙ app_part file start end begins)
    ∙ ap (option_map (take most_app)) whole
