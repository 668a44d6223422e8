-- `put_databases` writes the lines of the databases of an accepted image, by the laws of LineLaws.
use Rattle.heap_map.proofs.Laws.{◌≡◌, ◌+◌, ◌<◌, ◌≤◌, List, ℕ, true, false, length, ap, sym, subst, arith, directory_bytes, AreWholeBytes, listed_count, Writes, then, stops, nothing, map_database_line, database_line, database_lines, rest_lines, line_here, none_left, header_whole, few_listed}
use Rattle.heap_map.proofs.text.put_databases.Goals as goal

pub loop-db-init : goal.loop-db-init
unfolding database_lines
loop-db-init g c = λ new ok w. w

pub put_database-requires-clause-whole : goal.put_database-requires-clause-whole
put_database-requires-clause-whole g c =
    let len = ap length c.directory_in-directory.ensures in
    subst AreWholeBytes (sym c.header_in.ensures)
    (header_whole _ c.loop-db.db c.requires.accepted (omega arith))

pub loop-db-preserved : goal.loop-db-preserved
loop-db-preserved g c = λ new ok w.
    let image = c.args.region.now.bytes in
    let i = c.loop-db.db in
    let len = ap length c.directory_in-directory.ensures in
    let inside : i < listed_count image = omega arith in
    let line = rw c.header_in.ensures at c.in-Ok.ensures in
    c.loop-db.invariant new ok
    (subst (λ (text : List ℕ). Writes g.W.Write.contents c.loop-db.out new text ok)
    (sym (line_here (database_line image) _ i inside))
    (then g.W.Write.contents c.loop-db.out c.put_database.new.out new (database_line image i)
    (rest_lines (database_line image) (listed_count image) (i + 1)) ok line w))

pub returns-in-Err : goal.returns-in-Err
returns-in-Err g c =
    let image = c.args.region.now.bytes in
    let i = c.loop-db.db in
    let len = ap length c.directory_in-directory.ensures in
    let inside : i < listed_count image = omega arith in
    let line = rw c.header_in.ensures at c.in-Err.ensures in
    c.loop-db.invariant c.put_database.new.out false
    (subst (λ (text : List ℕ). Writes g.W.Write.contents c.loop-db.out c.put_database.new.out text
    false) (sym (line_here (database_line image) _ i inside))
    (stops g.W.Write.contents c.loop-db.out c.put_database.new.out (database_line image i)
    (rest_lines (database_line image) (listed_count image) (i + 1)) line))

pub returns : goal.returns
returns g c =
    let image = c.args.region.now.bytes in
    let i = c.loop-db.db in
    let len = ap length c.directory_in-directory.ensures in
    let past : listed_count image ≤ i = omega arith in
    c.loop-db.invariant c.loop-db.out true
    (rw (none_left (database_line image) _ i past) (nothing g.W.Write.contents c.loop-db.out))

pub overflow_cast-db : goal.overflow_cast-db
overflow_cast-db g c =
    let len = ap length c.directory_in-directory.ensures in
    let few = few_listed c.args.region.now.bytes c.requires.accepted in
    omega arith

pub overflow_add-db : goal.overflow_add-db
overflow_add-db g c =
    let len = ap length c.directory_in-directory.ensures in
    let few = few_listed c.args.region.now.bytes c.requires.accepted in
    omega arith
