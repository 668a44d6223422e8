-- A text is read by its header, and then by its entries.
use Rattle.file_parts.proofs.AllWords.{◌≡◌, ℕ, Bool, Option, List, [], sym, ap, ◌∙◌, Ok, Err, Result, lines, DatabaseHeader, Database, Entry, has_resources, LineFault, Left, left, Read, database_with, header_with, read_database, read_database_from, read_entries, read_head, unless_fault}
use Rattle.file_parts.specs.declared.header.Head.{Head}

-- what comes of the entries
go_on : Head → Left → Result (Database (Option (List ℕ))) LineFault
go_on head rest = database_with (header_with head.title head.counts head.kinds) head.infos
    (read_entries (has_resources head.title.attributes) [] rest.number rest.texts)

by_head : (start : Left) (read : Read Head) → read_head start ≡ read
    → read_database_from start ≡ unless_fault read go_on
unfolding go_on
by_head start read e = ap (λ (r : Read Head). unless_fault r go_on) e

-- a whole text is read from its first line on
pub read_from : (text : List ℕ) (start : Left) → start ≡ left 0 (lines text)
    → read_database text ≡ read_database_from start
unfolding read_database
read_from text start is = ap read_database_from (sym is)

pub head_faulty : (start : Left) (fault : LineFault) → read_head start ≡ Err fault
    → read_database_from start ≡ Err fault
head_faulty start fault e = by_head start (Err fault) e

by_entries : (start rest : Left) (head : Head) (r : Bool)
    (entries : Result (List (Entry (Option (List ℕ)))) LineFault)
    → read_head start ≡ Ok (head, rest) → r ≡ has_resources head.title.attributes
    → read_entries r [] rest.number rest.texts ≡ entries → read_database_from start
    ≡ database_with (header_with head.title head.counts head.kinds) head.infos entries
unfolding go_on
by_entries start rest head r entries e kind f = by_head start (Ok (head, rest)) e
    ∙ ap (λ b. database_with (header_with head.title head.counts head.kinds) head.infos
    (read_entries b [] rest.number rest.texts)) (sym kind)
    ∙ ap (λ (es : Result (List (Entry (Option (List ℕ)))) LineFault).
    database_with (header_with head.title head.counts head.kinds) head.infos es) f

pub entries_faulty : (start rest : Left) (head : Head) (r : Bool) (fault : LineFault)
    → read_head start ≡ Ok (head, rest) → r ≡ has_resources head.title.attributes
    → read_entries r [] rest.number rest.texts ≡ Err fault → read_database_from start ≡ Err fault
entries_faulty start rest head r fault e kind f = by_entries start rest head r (Err fault) e kind f

whole : Head → List (Entry (Option (List ℕ))) → DatabaseHeader → Database (Option (List ℕ))
whole head entries header = record {
  header = header;
  app_info = head.infos.app;
  sort_info = head.infos.sort;
  entries = entries;
}

pub listed_read : (start rest : Left) (head : Head) (r : Bool)
    (entries : List (Entry (Option (List ℕ)))) (header : DatabaseHeader)
    → read_head start ≡ Ok (head, rest) → r ≡ has_resources head.title.attributes
    → read_entries r [] rest.number rest.texts ≡ Ok entries
    → header ≡ header_with head.title head.counts head.kinds
    → read_database_from start ≡ Ok (record {
      header = header;
      app_info = head.infos.app;
      sort_info = head.infos.sort;
      entries = entries;
    })
unfolding whole
listed_read start rest head r entries header e kind f g = by_entries start rest head r _ e kind f
    ∙ ap (λ (h : DatabaseHeader). Ok (whole head entries h)) (sym g)
