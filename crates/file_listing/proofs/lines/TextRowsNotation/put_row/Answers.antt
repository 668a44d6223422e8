use Rattle.std.proofs.Common.{List, ℕ, sym, subst}
use Rattle.std.specs.Prelude.{codes, is_ok, option_map}
use Rattle.palm_text.specs.Counted.{Writes}
use Rattle.palm_text.specs.Pieces.{script_spelled}
use Rattle.file_listing.specs.declared.rows.Row.{Row}
use Rattle.file_listing.specs.Lines.{line, listing_line}
use Rattle.file_listing.proofs.lines.TextRowsNotation.put_row.Goals as goal

pub returns-in-Fault : goal.returns-in-Fault
returns-in-Fault g c =
    subst (λ (row : Row). Writes g.W.Write.contents c.args.out.now c.put_headed_fault.new.out (listing_line (option_map (λ path. path.now) c.args.self.now.path) row) (is_ok c.put_headed_fault.result)) (sym c.in-Fault.is) c.put_headed_fault.ensures

pub returns-in-Size : goal.returns-in-Size
returns-in-Size g c =
    subst (λ (row : Row). Writes g.W.Write.contents c.args.out.now c.put_headed_size.new.out (listing_line (option_map (λ path. path.now) c.args.self.now.path) row) (is_ok c.put_headed_size.result)) (sym c.in-Size.is) c.put_headed_size.ensures

pub returns-in-Name : goal.returns-in-Name
returns-in-Name g c =
    subst (λ (row : Row). Writes g.W.Write.contents c.args.out.now c.put_line.new.out (listing_line (option_map (λ path. path.now) c.args.self.now.path) row) (is_ok c.put_line.result)) (sym c.in-Name.is)
    (subst (λ (name : List ℕ). Writes g.W.Write.contents c.args.out.now c.put_line.new.out (line (codes "name ") (script_spelled name)) (is_ok c.put_line.result)) c.name.ensures.is c.put_line.ensures)

pub returns-in-Attributes : goal.returns-in-Attributes
returns-in-Attributes g c =
    subst (λ (row : Row). Writes g.W.Write.contents c.args.out.now c.put_line-in-Attributes.new.out (listing_line (option_map (λ path. path.now) c.args.self.now.path) row) (is_ok c.put_line-in-Attributes.result)) (sym c.in-Attributes.is) c.put_line-in-Attributes.ensures

pub returns-in-Creator : goal.returns-in-Creator
returns-in-Creator g c =
    subst (λ (row : Row). Writes g.W.Write.contents c.args.out.now c.put_line-in-Creator.new.out (listing_line (option_map (λ path. path.now) c.args.self.now.path) row) (is_ok c.put_line-in-Creator.result)) (sym c.in-Creator.is) c.put_line-in-Creator.ensures
