-- Reports that are printed one after another.
use Rattle.std.proofs.Common.{◌≡◌, ◌≢◌, ◌++◌, ◌<◌, ◌≤◌, ◌+◌, ℕ, Bool, true, false, Option, Some, None, Result, Ok, Err, List, [], ◌∷◌, length, take, get_or, refl, sym, ap, ◌∙◌, subst, inl, inr, arith, append-nil, add-one}
use Rattle.std.specs.Prelude.{◌⊎◌, if◌then◌else◌, map, nat_lt}
use Rattle.std.specs.Io.KnownBytes.{Appends}
use Rattle.std.specs.List.{AllZip}
use Rattle.std.proofs.KnownBytes.{Appends-nil, Appends-kept}
use Rattle.std.proofs.Math.Seq.{take-suc, take-length}
use Rattle.std.proofs.lemmas.List.{map-append, take-map, take_all}
use Rattle.std.proofs.lemmas.Grind.{flat_map-append}
use Rattle.file_listing.specs.Listing.{fault_row}
use Rattle.palm_text.specs.Counted.{Writing, writing, AppendsFront}
use Rattle.palm_text.specs.Output.{Puts, output}
use Rattle.palm_text.proofs.Parts.{then}
use Rattle.program_io.specs.Status.{severity, worse}
use Rattle.program_io.specs.declared.status.Status.{Status}
use Rattle.program_io.specs.declared.status.Status.TheVariants.{Done, Refused, BadWords, ReadFault, WriteFault, NoMemory}
use Rattle.file_commands.specs.declared.reports.Report.{Report}
use Rattle.file_commands.specs.Reports.{EndsReport, EndsNext, EndsReports, MayReport, PrintsReports, PrintsTo, Reported, path_if, report_row, texts, worst_after}

-- ---- printed texts

module _ {V : Type 0} (contents : V → Option (List ℕ)) where
  -- a text that is written and flushed is printed
  pub puts_prints : (old new : Writing V) (text : List ℕ) (ok : Bool) → Puts contents old new text ok → PrintsTo (output contents old new) text ok
  puts_prints old new text true put = (Appends-kept _ _ _ text put.writes.0 put.flushes.bytes, put.flushes.faults ∙ put.writes.1, inr put.flushes.flushed)
  puts_prints old new text false (inl cut) = (cut.0, inl cut.1)
  puts_prints old new text false (inr whole) = (
    (length text, omega arith, subst (Appends (contents old.writer) (contents new.writer)) (sym (take-length text)) (Appends-kept _ _ _ text whole.writes.0 whole.flushes.bytes)),
    inr whole.flushes.flushed,
  )

  -- no text is printed by nothing
  pub prints_nothing : (w : Writing V) → PrintsTo (output contents w w) [] true
  prints_nothing w = (Appends-nil _, refl, inl refl)

  -- the rest of a text after a part, of which nothing was kept but the bytes
  front_then : (old mid new : Writing V) (a b : List ℕ) → Appends (contents old.writer) (contents mid.writer) a → AppendsFront (contents mid.writer) (contents new.writer) b → AppendsFront (contents old.writer) (contents new.writer) (a ++ b)
  front_then old mid new a b first rest =
      ((then) contents (writing old.writer 0 0 None) (writing mid.writer 0 0 None) (writing new.writer 1 0 None) a b false (first, refl, refl) (rest, omega arith, refl)).0

  flushed_then : (old mid new : Writing V) → (mid ≡ old) ⊎ (mid.flushed ≡ Some true) → (new ≡ mid) ⊎ (new.flushed ≡ Some true) → (new ≡ old) ⊎ (new.flushed ≡ Some true)
  flushed_then old mid new (inl none) (inl same) = inl (same ∙ none)
  flushed_then old mid new (inr flushed) (inl same) = inr (ap (λ (w : Writing V). w.flushed) same ∙ flushed)
  flushed_then old mid new first (inr flushed) = inr flushed

  faults_then : (old mid new : Writing V) → mid.faults ≡ old.faults → (mid.faults < new.faults) ⊎ (new.flushed ≡ Some false) → (old.faults < new.faults) ⊎ (new.flushed ≡ Some false)
  faults_then old mid new none (inl fault) = inl (omega (arith, none, fault))
  faults_then old mid new none (inr failed) = inr failed

  -- a text, and another one after it
  pub prints_then : (old mid new : Writing V) (a b : List ℕ) (ok : Bool) → PrintsTo (output contents old mid) a true → PrintsTo (output contents mid new) b ok → PrintsTo (output contents old new) (a ++ b) ok
  prints_then old mid new a b true first rest =
      (((then) contents (writing old.writer 0 0 None) (writing mid.writer 0 0 None) (writing new.writer 0 0 None) a b true (first.0, refl, refl) (rest.0, refl, refl)).0, rest.1 ∙ first.1, flushed_then old mid new first.2 rest.2)
  prints_then old mid new a b false first rest = (front_then old mid new a b first.0 rest.0, faults_then old mid new first.1 rest.1)

-- ---- one file

module _ {V : Type 0} (Gives : List ℕ → Result (List ℕ) Status → Type 0) (Short : Type 0) (report : Report) (named : Bool) (path : List ℕ) (contents : V → Option (List ℕ)) where
  -- a file that can't be read
  pub not_read : (w : Writing V) (reason : Status) → Gives path (Err reason) → reason ≢ WriteFault → EndsNext (MayReport Gives Short report named path) (output contents w w) reason
  not_read w reason gives no_write = record {
    whole = λ _. (record { read = Err reason; status = reason; text = [] }, (gives, (refl, refl)), refl, prints_nothing contents w);
    write_fault = λ is. absurd (no_write is);
  }

  -- a file that is read, and its report
  pub reported : (file : List ℕ) (old new : Writing V) (status : Status) → Gives path (Ok file) → (status ≡ NoMemory → Short) → EndsReport report (path_if named path) file (output contents old new) status → EndsNext (MayReport Gives Short report named path) (output contents old new) status
  reported file old new Done gives short ends =
      let put = ends.done refl in
      record {
        whole = λ _. (record { read = Ok file; status = Done; text = put.1.0 }, (gives, (put.0, put.1.1)), refl, puts_prints contents old new put.1.0 true put.1.2);
        write_fault = λ is. cc;
      }
  reported file old new Refused gives short ends =
      let put = ends.refused refl in
      let text = report_row report (path_if named path) (fault_row file put.0) in
      record {
        whole = λ _. (record { read = Ok file; status = Refused; text = text }, (gives, (put.0, put.1, refl)), refl, puts_prints contents old new text true put.2);
        write_fault = λ is. cc;
      }
  reported file old new NoMemory gives short ends =
      let none = ends.no_memory refl in
      record {
        whole = λ _. (record { read = Ok file; status = NoMemory; text = [] }, (gives, (none.0, short refl, refl)), refl, subst (λ (w : Writing V). PrintsTo (output contents old w) [] true) (sym none.1) (prints_nothing contents old));
        write_fault = λ is. cc;
      }
  reported file old new WriteFault gives short ends = record {
    whole = λ no. absurd (no refl);
    write_fault = λ _. elim (ends.write_fault refl) [
      | inl put ↦ (record { read = Ok file; status = Done; text = put.1.0 }, (gives, (put.0, put.1.1)), puts_prints contents old new put.1.0 false put.1.2)
      | inr put ↦
          let text = report_row report (path_if named path) (fault_row file put.0) in
          (record { read = Ok file; status = Refused; text = text }, (gives, (put.0, put.1, refl)), puts_prints contents old new text false put.2)
    ];
  }
  reported file old new BadWords gives short ends = absurd (ends.good_words refl)
  reported file old new ReadFault gives short ends = absurd (ends.reads_nothing refl)

-- ---- the worst status

-- the worse of two statuses is one of them
pub one_of : (P : Status → Type 0) (first second : Status) → P first → P second → P (worse first second)
one_of P first second p q = chosen (nat_lt (severity first) (severity second)) where
  chosen : (b : Bool) → P (if b then second else first)
  chosen true = q
  chosen false = p

worst_more : (status : Status) (files : List Reported) (file : Reported) → worst_after status (files ++ (file ∷ [])) ≡ worse (worst_after status files) file.status
worst_more status [] file = refl
worst_more status (x ∷ xs) file = worst_more (worse status x.status) xs file

-- ---- several files

zip_more : {A B : Type 0} (R : A → B → Type 0) (xs : List A) (ys : List B) (x : A) (y : B) → AllZip R xs ys → R x y → AllZip R (xs ++ (x ∷ [])) (ys ++ (y ∷ []))
zip_more R [] [] x y all one = (one, tt)
zip_more R [] (b ∷ ys) x y all one = absurd all
zip_more R (a ∷ xs) [] x y all one = absurd all
zip_more R (a ∷ xs) (b ∷ ys) x y all one = (all.0, zip_more R xs ys x y all.1 one)

texts_more : (files : List Reported) (file : Reported) → texts (files ++ (file ∷ [])) ≡ texts files ++ file.text
texts_more files file = flat_map-append (λ (f : Reported). f.text) files (file ∷ []) ∙ ap (λ l. texts files ++ l) (append-nil file.text)

-- the words of the paths so far, and one more
words_more : {X : Type 0} (word : X → List ℕ) (xs : List X) (i : ℕ) (d : X) → i < length xs → map word (take (i + 1) xs) ≡ map word (take i xs) ++ (word (get_or xs i d) ∷ [])
words_more word xs i d within = ap (λ (n : ℕ). map word (take n xs)) (add-one i) ∙ ap (map word) (take-suc xs i d within) ∙ map-append word (take i xs) (get_or xs i d ∷ [])

module _ {V : Type 0} (May : (path : List ℕ) → Reported → Type 0) (contents : V → Option (List ℕ)) where
  pub no_reports : (w : Writing V) → PrintsReports May [] (output contents w w) Done true
  no_reports w = record { files = []; each = tt; worst = refl; printed = prints_nothing contents w }

  -- the reports so far, and one more
  pub one_more : (paths : List (List ℕ)) (path : List ℕ) (old mid new : Writing V) (worst status : Status) (ok : Bool) (file : Reported)
      → PrintsReports May paths (output contents old mid) worst true → May path file → file.status ≡ status → PrintsTo (output contents mid new) file.text ok
      → PrintsReports May (paths ++ (path ∷ [])) (output contents old new) (worse worst status) ok
  one_more paths path old mid new worst status ok file all may is printed = record {
    files = all.files ++ (file ∷ []);
    each = zip_more May paths all.files path file all.each may;
    worst = ap (λ s. worse s status) all.worst ∙ ap (λ s. worse (worst_after Done all.files) s) (sym is) ∙ sym (worst_more Done all.files file);
    printed = subst (λ l. PrintsTo (output contents old new) l ok) (sym (texts_more all.files file)) (prints_then contents old mid new (texts all.files) file.text ok all.printed printed);
  }

  module _ {X : Type 0} (word : X → List ℕ) (xs : List X) (i : ℕ) where
    -- the loop goes on
    pub goes_on : (d : X) (old mid new : Writing V) (worst status : Status) → i < length xs
        → PrintsReports May (map word (take i xs)) (output contents old mid) worst true → EndsNext (May (word (get_or xs i d))) (output contents mid new) status → status ≢ WriteFault
        → PrintsReports May (map word (take (i + 1) xs)) (output contents old new) (worse worst status) true
    goes_on d old mid new worst status within all ends no_write =
        let one = ends.whole no_write in
        subst (λ (paths : List (List ℕ)). PrintsReports May paths (output contents old new) (worse worst status) true) (sym (words_more word xs i d within))
        (one_more (map word (take i xs)) (word (get_or xs i d)) old mid new worst status true one.0 all one.1 one.2 one.3)

    -- a write failed, and the loop ends
    pub breaks_off : (d : X) (old mid new : Writing V) (worst status : Status) → i < length xs
        → PrintsReports May (map word (take i xs)) (output contents old mid) worst true → EndsNext (May (word (get_or xs i d))) (output contents mid new) status → status ≡ WriteFault
        → EndsReports May (map word xs) (output contents old new) WriteFault
    breaks_off d old mid new worst status within all ends is =
        let one = ends.write_fault is in
        let so_far = one_more (map word (take i xs)) (word (get_or xs i d)) old mid new worst one.0.status false one.0 all one.1 refl one.2 in
        record {
          whole = λ no. absurd (no refl);
          write_fault = λ _. (
            i + 1,
            worse worst one.0.status,
            subst (λ (paths : List (List ℕ)). PrintsReports May paths (output contents old new) (worse worst one.0.status) false) (sym (take-map word (i + 1) xs ∙ words_more word xs i d within)) so_far,
          );
        }

    -- no path is left
    pub all_done : (old new : Writing V) (worst : Status) → length xs ≤ i → worst ≢ WriteFault
        → PrintsReports May (map word (take i xs)) (output contents old new) worst true → EndsReports May (map word xs) (output contents old new) worst
    all_done old new worst end no_write all = record {
      whole = λ _. subst (λ (paths : List X). PrintsReports May (map word paths) (output contents old new) worst true) (take_all i xs end) all;
      write_fault = λ is. absurd (no_write is);
    }
