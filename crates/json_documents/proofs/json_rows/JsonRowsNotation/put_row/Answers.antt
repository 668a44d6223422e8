use Rattle.std.proofs.Common.{ℕ, sym, subst}
use Rattle.std.specs.Prelude.{codes, decimal, is_ok, option_map}
use Rattle.palm_text.specs.Counted.{Writes}
use Rattle.file_listing.specs.declared.rows.Row.{Row}
use Rattle.json_documents.specs.RowTexts.{member, listing_json}
use Rattle.json_documents.proofs.json_rows.JsonRowsNotation.put_row.Goals as goal

pub returns-in-Fault : goal.returns-in-Fault
returns-in-Fault g c =
    subst (λ (row : Row). Writes g.W.Write.contents c.args.out.now c.put_started_fault.new.out (listing_json (option_map (λ path. path.now) c.args.self.now.path) row) (is_ok c.put_started_fault.result)) (sym c.in-Fault.is) c.put_started_fault.ensures

pub returns-in-Size : goal.returns-in-Size
returns-in-Size g c =
    subst (λ (row : Row). Writes g.W.Write.contents c.args.out.now c.put_started_size.new.out (listing_json (option_map (λ path. path.now) c.args.self.now.path) row) (is_ok c.put_started_size.result)) (sym c.in-Size.is) c.put_started_size.ensures

pub returns-in-Attributes : goal.returns-in-Attributes
returns-in-Attributes g c =
    subst (λ (row : Row). Writes g.W.Write.contents c.args.out.now c.put_number.new.out (listing_json (option_map (λ path. path.now) c.args.self.now.path) row) (is_ok c.put_number.result)) (sym c.in-Attributes.is)
    (subst (λ (bits : ℕ). Writes g.W.Write.contents c.args.out.now c.put_number.new.out (member (codes "\"attributes\":") (decimal bits)) (is_ok c.put_number.result)) c.from.ensures c.put_number.ensures)

pub returns-in-Created : goal.returns-in-Created
returns-in-Created g c =
    subst (λ (row : Row). Writes g.W.Write.contents c.args.out.now c.put_dated.new.out (listing_json (option_map (λ path. path.now) c.args.self.now.path) row) (is_ok c.put_dated.result)) (sym c.in-Created.is) c.put_dated.ensures

pub returns-in-Modified : goal.returns-in-Modified
returns-in-Modified g c =
    subst (λ (row : Row). Writes g.W.Write.contents c.args.out.now c.put_dated-in-Modified.new.out (listing_json (option_map (λ path. path.now) c.args.self.now.path) row) (is_ok c.put_dated-in-Modified.result)) (sym c.in-Modified.is) c.put_dated-in-Modified.ensures

pub returns-in-Backup : goal.returns-in-Backup
returns-in-Backup g c =
    subst (λ (row : Row). Writes g.W.Write.contents c.args.out.now c.put_dated-in-Backup.new.out (listing_json (option_map (λ path. path.now) c.args.self.now.path) row) (is_ok c.put_dated-in-Backup.result)) (sym c.in-Backup.is) c.put_dated-in-Backup.ensures

pub returns-in-Creator : goal.returns-in-Creator
returns-in-Creator g c =
    subst (λ (row : Row). Writes g.W.Write.contents c.args.out.now c.put_four_bytes-in-Creator.new.out (listing_json (option_map (λ path. path.now) c.args.self.now.path) row) (is_ok c.put_four_bytes-in-Creator.result)) (sym c.in-Creator.is) c.put_four_bytes-in-Creator.ensures
