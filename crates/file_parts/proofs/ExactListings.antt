-- What the text of an exact folder says after its first line, or its first faulty line.
use Rattle.file_parts.proofs.AllWords.{◌≡◌, ℕ, ◌+◌, ◌<◌, false, List, [], Option, Some, None, length, sym, arith, inl, inr, ◌==◌, ◌||◌, ◌⊎◌, Result, Ok, Err, slice_index, and_left, ne_eqb, Database, data_in, LineFault, ExactText, ExactHead, after_name_fault, exact_with, is_after_name, or_fault, order_fault, said_by, Blob}

-- more bytes than the field has don't come after a name
pub too_long : (name after : List ℕ) → 32 < length after → false ≡ is_after_name name after
too_long name after long = sym (and_left (length after + length name == 32) ((length after == 1)
    || (slice_index after 0 == 0)) (ne_eqb (length after + length name) 32 (λ e. omega arith)))

no_fault : (one : Option LineFault) (rest : Result ExactText LineFault) (text : ExactText)
    → or_fault one rest ≡ Ok text → rest ≡ Ok text
no_fault None rest text is = is
no_fault (Some fault) rest text is = absurd cc

one_fault : (one : Option LineFault) (rest : Result ExactText LineFault) (fault : LineFault)
    → or_fault one rest ≡ Err fault → (one ≡ Some fault) ⊎ (rest ≡ Err fault)
one_fault None rest fault is = inr is
one_fault (Some other) rest fault is = inl (cc)

no_err : (text : ExactText) (fault : LineFault)
    → ◌≡◌ {A = Result ExactText LineFault} (Ok text) (Err fault) → ⊥
no_err text fault is = cc

same_text : (text other : ExactText) → ◌≡◌ {A = Result ExactText LineFault} (Ok text) (Ok other)
    → other ≡ text
same_text text other is = cc

module _ (head : ExactHead) (database : Database Blob) where
  -- the bytes after the name are faulty
  pub bad_after : (fault : LineFault)
      → after_name_fault database.header.name head.after_name ≡ Some fault
      → exact_with head (Ok database) ≡ Err fault
  bad_after fault faulty = cc

  -- a line `order` is faulty, and those before it aren't
  pub bad_order : (fault : LineFault) → after_name_fault database.header.name head.after_name ≡ None
      → order_fault (data_in database) [] head.order ≡ Some fault
      → exact_with head (Ok database) ≡ Err fault
  bad_order fault good faulty = cc

  -- no line is faulty
  pub all_good : after_name_fault database.header.name head.after_name ≡ None
      → order_fault (data_in database) [] head.order ≡ None
      → exact_with head (Ok database) ≡ Ok (said_by head database)
  all_good good ordered = cc

  -- if no line is faulty, the text says this
  pub said : (text : ExactText) → exact_with head (Ok database) ≡ Ok text
      → text ≡ said_by head database
  said text is =
      let rest : Result ExactText LineFault =
      or_fault (order_fault (data_in database) [] head.order) (Ok (said_by head database)) in
      same_text (said_by head database) text
      (no_fault (order_fault (data_in database) [] head.order) (Ok (said_by head database)) text
      (no_fault (after_name_fault database.header.name head.after_name) rest text is))

  -- a faulty line is that of the bytes after the name, or a line `order`
  pub faulty : (fault : LineFault) → exact_with head (Ok database) ≡ Err fault
      → (after_name_fault database.header.name head.after_name ≡ Some fault)
      ⊎ (order_fault (data_in database) [] head.order ≡ Some fault)
  faulty fault is =
      let rest : Result ExactText LineFault =
      or_fault (order_fault (data_in database) [] head.order) (Ok (said_by head database)) in
      elim (one_fault (after_name_fault database.header.name head.after_name) rest fault is) [
        | inl after ↦ inl after
        | inr ordered ↦ elim (one_fault (order_fault (data_in database) [] head.order)
            (Ok (said_by head database)) fault ordered) [
              | inl order ↦ inr order
              | inr none ↦ absurd (no_err (said_by head database) fault none)
            ]
      ]
