-- `put_databases_note` writes the databases of the legend.
use Rattle.heap_svg.proofs.Words.{◌≡◌, ◌+◌, ◌<◌, ◌≤◌, List, ℕ, true, false, length, ap, sym, subst, arith, directory_bytes, listed_count, Writes, then, stops, nothing, database_note, database_at, databases_note, rest_lines, line_here, none_left}
use Rattle.db_format.specs.Headers.{AreWholeBytes}
use Rattle.heap_map.proofs.ReadingLaws.{header_whole}
use Rattle.heap_map.proofs.NumberLaws.{few_listed}
use Rattle.heap_svg.proofs.legend.put_databases_note.Goals as goal

pub loop-db-init : goal.loop-db-init
unfolding databases_note
loop-db-init g c = λ new ok w. w

pub put_database_note-requires-clause-whole : goal.put_database_note-requires-clause-whole
put_database_note-requires-clause-whole g c =
    let len = ap length c.directory_in-directory.ensures in
    subst AreWholeBytes (sym c.header_in.ensures)
    (header_whole _ c.loop-db.db c.requires.accepted (omega arith))

pub loop-db-preserved : goal.loop-db-preserved
loop-db-preserved g c = λ new ok w.
    let image = c.args.region.now.bytes in
    let i = c.loop-db.db in
    let len = ap length c.directory_in-directory.ensures in
    let inside : i < listed_count image = omega arith in
    let line = rw c.header_in.ensures at c.in-Ok.ensures in
    c.loop-db.invariant new ok
    (subst (λ (text : List ℕ). Writes g.W.Write.contents c.loop-db.out new text ok)
    (sym (line_here (database_at image c.args.rows) _ i inside)) (then g.W.Write.contents
    c.loop-db.out c.put_database_note.new.out new (database_at image c.args.rows i)
    (rest_lines (database_at image c.args.rows) (listed_count image) (i + 1)) ok line w))

pub returns-in-Err : goal.returns-in-Err
returns-in-Err g c =
    let image = c.args.region.now.bytes in
    let i = c.loop-db.db in
    let len = ap length c.directory_in-directory.ensures in
    let inside : i < listed_count image = omega arith in
    let line = rw c.header_in.ensures at c.in-Err.ensures in
    c.loop-db.invariant c.put_database_note.new.out false
    (subst (λ (text : List ℕ). Writes g.W.Write.contents c.loop-db.out c.put_database_note.new.out
    text false) (sym (line_here (database_at image c.args.rows) _ i inside))
    (stops g.W.Write.contents c.loop-db.out c.put_database_note.new.out (database_at image
    c.args.rows i) (rest_lines (database_at image c.args.rows) (listed_count image) (i + 1)) line))

pub returns : goal.returns
returns g c =
    let image = c.args.region.now.bytes in
    let i = c.loop-db.db in
    let len = ap length c.directory_in-directory.ensures in
    let past : listed_count image ≤ i = omega arith in
    c.loop-db.invariant c.loop-db.out true (rw (none_left (database_at image c.args.rows) _ i past)
    (nothing g.W.Write.contents c.loop-db.out))

pub overflow_cast-db : goal.overflow_cast-db
overflow_cast-db g c =
    let len = ap length c.directory_in-directory.ensures in
    let few = few_listed c.args.region.now.bytes c.requires.accepted in
    omega arith

pub put_database_note-requires-clause-db : goal.put_database_note-requires-clause-db
put_database_note-requires-clause-db g c =
    let len = ap length c.directory_in-directory.ensures in
    let few = few_listed c.args.region.now.bytes c.requires.accepted in
    omega arith
