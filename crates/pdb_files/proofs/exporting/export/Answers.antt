-- `export` writes the file of a database, or refuses one that is unknown or has a block that is
-- lent.
use Rattle.pdb_files.proofs.Laws.{ℕ, true, false, subst, ap, ◌∙◌, refl, Any, both_ways, Writes, Database, data_in, database_in, IsLent, content, store_of, file_of, exportable, not_none, numbered, same_database, lent_here, lent_number, in_this, of_this, none_in}
use Rattle.std.specs.Prelude.{length}
use Rattle.pdb_files.proofs.exporting.export.Goals as goal

pub lends_data-requires : goal.lends_data-requires
lends_data-requires g c = numbered c.args.store.now.bytes c.args.db.0
    (database_in c.in-Some.bytes.now) c.in-Some.ensures.is

pub returns-then-lends_data-clause-unknown : goal.returns-then-lends_data-clause-unknown
returns-then-lends_data-clause-unknown g c = (
  λ e. absurd cc,
  λ none. absurd (not_none c.args.store.now.bytes c.args.db.0
      (database_in c.in-Some.bytes.now) c.in-Some.ensures.is none),
)

pub returns-then-lends_data-clause-lent : goal.returns-then-lends_data-clause-lent
returns-then-lends_data-clause-lent g c = (
  λ e. in_this c.args.store.now c.args.db (database_in c.in-Some.bytes.now) c.in-Some.ensures.is
      (lent_here c.args.store.now c.in-Some.bytes.now c.args.db.0 c.in-Some.ensures.is
      (c.lends_data.ensures.0 c.if-lends_data.true)),
  λ lent. refl,
)

pub returns-then-lends_data-clause-written : goal.returns-then-lends_data-clause-written
returns-then-lends_data-clause-written g c = λ database has unlent.
    absurd (unlent (subst (λ (d : Database ℕ). Any (IsLent c.args.store.now) (data_in d))
    (same_database c.args.store.now.bytes c.args.db.0 (database_in c.in-Some.bytes.now) database
    c.in-Some.ensures.is has) (lent_here c.args.store.now c.in-Some.bytes.now c.args.db.0
    c.in-Some.ensures.is (c.lends_data.ensures.0 c.if-lends_data.true))))

pub put_file-requires : goal.put_file-requires
put_file-requires g c = exportable c.args.store.now c.in-Some.bytes.now c.args.db.0
    c.in-Some.ensures.accepted c.in-Some.ensures.is c.in-Some.ensures.spelled
    c.in-Some.ensures.shape (λ lent. both_ways _ c.if-lends_data.false (c.lends_data.ensures.1
    (lent_number c.args.store.now c.in-Some.bytes.now c.args.db.0 c.in-Some.ensures.is lent)))

pub file_size-requires : goal.file_size-requires
file_size-requires g c = exportable c.args.store.now c.in-Some.bytes.now c.args.db.0
    c.in-Some.ensures.accepted c.in-Some.ensures.is c.in-Some.ensures.spelled
    c.in-Some.ensures.shape (λ lent. both_ways _ c.if-lends_data.false (c.lends_data.ensures.1
    (lent_number c.args.store.now c.in-Some.bytes.now c.args.db.0 c.in-Some.ensures.is lent)))

pub returns-in-Ok-clause-unknown : goal.returns-in-Ok-clause-unknown
returns-in-Ok-clause-unknown g c = (
  λ e. absurd cc,
  λ none. absurd (not_none c.args.store.now.bytes c.args.db.0
      (database_in c.in-Some.bytes.now) c.in-Some.ensures.is none),
)

pub returns-in-Ok-clause-lent : goal.returns-in-Ok-clause-lent
returns-in-Ok-clause-lent g c = (
  λ e. absurd cc,
  λ lent. absurd (both_ways _ c.if-lends_data.false (c.lends_data.ensures.1
      (lent_number c.args.store.now c.in-Some.bytes.now c.args.db.0 c.in-Some.ensures.is (of_this
      c.args.store.now c.args.db (database_in c.in-Some.bytes.now) c.in-Some.ensures.is lent)))),
)

pub returns-in-Ok-clause-written : goal.returns-in-Ok-clause-written
returns-in-Ok-clause-written g c =
    λ database has unlent. subst (λ (d : Database ℕ). Writes g.W.Write.contents c.args.out.now
    c.put_file.new.out (file_of (content (store_of c.args.store.now.bytes).map d)) true)
    (same_database c.args.store.now.bytes c.args.db.0
    (database_in c.in-Some.bytes.now) database c.in-Some.ensures.is has) c.in-Ok.ensures

pub returns-in-Ok-clause-size : goal.returns-in-Ok-clause-size
returns-in-Ok-clause-size g c = λ database has. c.file_size.ensures
    ∙ ap (λ (d : Database ℕ). length (file_of (content (store_of c.args.store.now.bytes).map d)))
    (same_database c.args.store.now.bytes c.args.db.0
    (database_in c.in-Some.bytes.now) database c.in-Some.ensures.is has)

pub returns-in-Err-clause-unknown : goal.returns-in-Err-clause-unknown
returns-in-Err-clause-unknown g c = (
  λ e. absurd cc,
  λ none. absurd (not_none c.args.store.now.bytes c.args.db.0
      (database_in c.in-Some.bytes.now) c.in-Some.ensures.is none),
)

pub returns-in-Err-clause-lent : goal.returns-in-Err-clause-lent
returns-in-Err-clause-lent g c = (
  λ e. absurd cc,
  λ lent. absurd (both_ways _ c.if-lends_data.false (c.lends_data.ensures.1
      (lent_number c.args.store.now c.in-Some.bytes.now c.args.db.0 c.in-Some.ensures.is (of_this
      c.args.store.now c.args.db (database_in c.in-Some.bytes.now) c.in-Some.ensures.is lent)))),
)

pub returns-in-Err-clause-written : goal.returns-in-Err-clause-written
returns-in-Err-clause-written g c =
    λ database has unlent. subst (λ (d : Database ℕ). Writes g.W.Write.contents c.args.out.now
    c.put_file.new.out (file_of (content (store_of c.args.store.now.bytes).map d)) false)
    (same_database c.args.store.now.bytes c.args.db.0
    (database_in c.in-Some.bytes.now) database c.in-Some.ensures.is has) c.in-Err.ensures

pub returns-in_default-clause-lent : goal.returns-in_default-clause-lent
returns-in_default-clause-lent g c = (
  λ e. absurd cc,
  λ lent. absurd (none_in c.args.store.now c.args.db c.in_default.ensures.none lent),
)

pub returns-in_default-clause-written : goal.returns-in_default-clause-written
returns-in_default-clause-written g c = λ database has unlent.
    absurd (not_none c.args.store.now.bytes c.args.db.0 database has c.in_default.ensures.none)
