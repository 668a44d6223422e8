-- Laws on lines that are run one after another.
use Rattle.live_scripts.proofs.Words.{◌≡◌, ◌<◌, ◌≤◌, ◌+◌, ◌-◌, ℕ, List, [], ◌∷◌, ◌++◌, length, length-append, length-drop, replicate, take, drop, Option, Some, None, refl, sym, ap, subst, ◌∙◌, inl, inr, append_assoc, append-nil, arith, true, false, drop-drop, take-append-drop, take-take, take_all, take_at, length-replicate, StartsWith, IsAtEnd, Keeps, prepend_known, option_to_list, Appends-kept, Appends-nil, Appends-trans, output, IsUnended, Bindings, DoesLine, LineStep, Setting, bound_after, exported, labelled, reply_line, unbound, EndsOn, HasRun, IsReadFault, LineStops, ReadsLine, RunsLine, RunsOn, StopsAt, StopsOn, bound_in, live_state}
use Rattle.std.proofs.Math.Seq.{take-add}
use Rattle.std.specs.Prelude.{Result, Ok, Err, IfErr, IsErrAnd}
use Rattle.std.specs.Str.Lines.{lines}
use Rattle.std.proofs.Transfers.{starts_with_length}
use Rattle.heap_model.specs.Memory.{Memory}
use Rattle.palm_text.specs.Counted.{Flushes, Writing}
use Rattle.script_lines.specs.Numbering.{Numberings, none_numbered}
use Rattle.script_lines.specs.Reading.{line_read, read_line, read_lines, read_script}
use Rattle.script_lines.specs.Views.{numberings}
use Rattle.script_lines.specs.declared.fault.LineFault.{LineFault}
use Rattle.script_lines.specs.declared.line.Line.{Line}
use Rattle.palm_script.proofs.LineLaws.{one_more}
use Rattle.live_scripts.specs.declared.fault.LiveFault.{LiveFault}
use Rattle.live_scripts.specs.declared.fault.LiveFault.TheVariants as faults
use Rattle.live_scripts.specs.declared.session.Session.{Session}
use Rattle.live_scripts.specs.Live.{CutBetweenLines, Prints, ReadStops, RunStops, RunsText, StopsBy, point}
use Rattle.program_io.specs.Status.{IsOfReading}
use Rattle.program_io.specs.declared.input.InputFault.{InputFault}
use Rattle.program_io.specs.declared.input.InputFault.TheVariants.{Memory as InputMemory}

-- ---- what is read

-- what comes next is read as the text after `front`
abbrev pub GoesOn : (front : List ℕ) (count : ℕ) → Numberings → List Line → Type 0
GoesOn front count labels before = (rest : List ℕ)
    → read_script (front ++ rest) ≡ read_lines (count + 1) labels before (lines rest)

reads_next : (front next text rest : List ℕ) (count : ℕ) (labels labels_new : Numberings)
    (before : List Line) (line : Option Line) → GoesOn front count labels before
    → lines (next ++ rest) ≡ text ∷ lines rest
    → read_line labels text ≡ Ok (line_read line labels_new) → read_script ((front ++ next) ++ rest)
    ≡ read_lines (count + 1 + 1) labels_new (before ++ option_to_list line) (lines rest)
reads_next front next text rest count labels labels_new before line goes_on cut read =
    ap read_script (append_assoc front next rest) ∙ goes_on (next ++ rest) ∙ rw (cut, read) refl

one_script : (front next text : List ℕ) (count : ℕ) (labels labels_new : Numberings)
    (before : List Line) (line : Line) → GoesOn front count labels before → lines next ≡ text ∷ []
    → read_line labels text ≡ Ok (line_read (Some line) labels_new)
    → read_script (front ++ next) ≡ Ok (before ++ line ∷ [])
one_script front next text count labels labels_new before line goes_on cut read =
    goes_on next ∙ rw (cut, read) refl

fault_script : (front rest text : List ℕ) (more : List (List ℕ)) (count : ℕ) (labels : Numberings)
    (before : List Line) (fault : LineFault) → GoesOn front count labels before
    → lines rest ≡ text ∷ more → read_line labels text ≡ Err fault.fault → fault.line ≡ count + 1
    → read_script (front ++ rest) ≡ Err fault
fault_script front rest text more count labels before fault goes_on cut read number = goes_on rest
    ∙ rw (cut, read) (ap (λ (n : ℕ). Err (record { line = n; fault = fault.fault })) (sym number))

-- ---- where a text is cut

-- a cut after one line more
cut_further : (front next text rest : List ℕ) → ((rest : List ℕ) → CutBetweenLines front rest)
    → lines next ≡ text ∷ [] → lines (next ++ rest) ≡ text ∷ lines rest
    → CutBetweenLines (front ++ next) rest
cut_further front next text rest whole one cut = ap lines (append_assoc front next rest)
    ∙ whole (next ++ rest) ∙ ap (λ (l : List (List ℕ)). lines front ++ l) cut
    ∙ sym (ap (λ (l : List (List ℕ)). l ++ lines rest) (whole next ∙ ap (λ (l : List (List ℕ)).
    lines front ++ l) one) ∙ append_assoc (lines front) (text ∷ []) (lines rest))

one_counted : (front next text : List ℕ) → CutBetweenLines front next → lines next ≡ text ∷ []
    → length (lines (front ++ next)) ≡ length (lines front) + 1
one_counted front next text cut one = rw (cut, one) (length-append (lines front) (text ∷ []))

-- a line alone
alone : (next text : List ℕ) → ((rest : List ℕ) → lines (next ++ rest) ≡ text ∷ lines rest)
    → lines next ≡ text ∷ []
alone next text ended = rw append-nil at (ended [])

-- ---- places in a text

front_stays : (at : ℕ) (text more : List ℕ) → at ≤ length text → StartsWith more text
    → take at text ≡ take at more
front_stays at text more within starts =
    ap (take at) (sym starts) ∙ take-take at (length text) more within

cut_at : (at : ℕ) (text rest : List ℕ) → take at text ++ (drop at text ++ rest) ≡ text ++ rest
cut_at at text rest = sym (append_assoc (take at text) (drop at text) rest)
    ∙ ap (λ l. l ++ rest) (take-append-drop at text)

module _ {W : Type 0} (given : Setting) (contents : W → Option (List ℕ)) where
  -- ---- the start and the end

  pub starts : (first : Memory) (out : Writing W) (session : Session) → session.count ≡ 0
      → numberings session.labels ≡ none_numbered → bound_in session ≡ unbound
      → session.files.items ≡ []
      → HasRun given [] first (live_state session first) (output contents out out)
  starts first out session count labels bound files = record {
    whole = λ rest. refl;
    counted = count;
    ran_lines = [];
    goes_on = λ rest. rw (count, labels) refl;
    replies = [];
    ran = (refl, files, refl, bound);
    printed = (Appends-nil _, refl);
  }

  pub whole : (front : List ℕ) (first : Memory) (out_first : Writing W) (session : Session)
      (new : Memory) (out : Writing W)
      → HasRun given front first (live_state session new) (output contents out_first out)
      → RunsText given front first new (output contents out_first out) session.files.items
  whole front first out_first session new out has = record {
    ran_lines = has.ran_lines;
    read = rw append-nil at (has.goes_on []);
    replies = has.replies;
    bound = bound_in session;
    ran = has.ran;
    printed = has.printed;
  }

  -- ---- one line

  -- what a line does on a session that was given room for it
  pub runs_line : (line : Line) (bound between after : Bindings) (session_new : Session)
      (files : List (List ℕ)) (old new : Memory) (out out_after : Writing W)
      (file : Option (List ℕ)) → between ≡ bound → bound_in session_new ≡ after → DoesLine given
      line (labelled old between) (labelled new after) (output contents out out_after) (Ok file)
      → session_new.files.items ≡ files ++ option_to_list file → RunsLine given line (labelled old
      bound) files (live_state session_new new) (output contents out out_after)
  runs_line line bound between after session_new files old new out out_after file same is does are =
      record {
        replies = record {
          reply = does.reply;
          step = subst (λ b. LineStep given (labelled old b) line does.reply new) same does.step;
          written = does.written;
        };
        binds = is ∙ does.binds ∙ ap (λ b. bound_after b line does.reply) same;
        exports = are ∙ ap (λ f. files ++ f) (sym does.file);
      }

  -- ---- one line more

  prints_more : (old mid new : Writing W) (a b : List ℕ) → Prints contents old mid a
      → Prints contents mid new b → Prints contents old new (a ++ b)
  prints_more old mid new a b one other = (Appends-trans _ _ _ a b one.0 other.0, other.1 ∙ one.1)

  -- the text of a line that line feeds end, read and run
  pub line_runs_on : (next text : List ℕ) (session session_new : Session) (old new : Memory)
      (out out_after : Writing W) → ((rest : List ℕ) → lines (next ++ rest) ≡ text ∷ lines rest)
      → session_new.count ≡ session.count + 1 → ReadsLine given text (live_state session
      old) (live_state session_new new) (output contents out out_after) → RunsOn given next
      (live_state session old) (live_state session_new new) (output contents out out_after)
  line_runs_on next text session session_new old new out out_after ended count
      (inl (read, bound, files, same, same_out)) front first out_first has = record {
        whole =
            λ rest. cut_further front next text rest has.whole (alone next text ended) (ended rest);
        counted = rw (count, has.counted)
            (sym (one_counted front next text (has.whole next) (alone next text ended)));
        ran_lines = has.ran_lines;
        goes_on = λ rest. reads_next front next text rest session.count (numberings session.labels)
            (numberings session_new.labels) has.ran_lines None has.goes_on (ended rest) read
            ∙ rw (append-nil, count) refl;
        replies = has.replies;
        ran = rw (files, bound, same) has.ran;
        printed = rw same_out has.printed;
      }
  line_runs_on next text session session_new old new out out_after ended count
      (inr (line, read, runs)) front first out_first has = record {
        whole =
            λ rest. cut_further front next text rest has.whole (alone next text ended) (ended rest);
        counted = rw (count, has.counted)
            (sym (one_counted front next text (has.whole next) (alone next text ended)));
        ran_lines = has.ran_lines ++ line ∷ [];
        goes_on = λ rest. reads_next front next text rest session.count (numberings session.labels)
            (numberings session_new.labels) has.ran_lines (Some line) has.goes_on (ended rest) read
            ∙ rw count refl;
        replies = has.replies ++ reply_line line runs.replies.reply;
        ran = rw (runs.exports, runs.binds) (one_more {given = given} (labelled first unbound)
            has.ran_lines has.replies session.files.items (labelled old (bound_in session)) line
            runs.replies.reply new has.ran runs.replies.step);
        printed = prints_more out_first out out_after has.replies (reply_line line
            runs.replies.reply) has.printed (runs.replies.written.0, runs.replies.written.1);
      }

  -- the last line, which no line feed ends
  pub line_ends_on : (text : List ℕ) (session session_new : Session) (old new : Memory)
      (out out_after : Writing W) → lines text ≡ text ∷ []
      → ReadsLine given text (live_state session old) (live_state session_new new) (output contents
      out out_after) → (front : List ℕ) (first : Memory) (out_first : Writing W)
      → HasRun given front first (live_state session old) (output contents out_first out)
      → RunsText given (front
      ++ text) first new (output contents out_first out_after) session_new.files.items
  line_ends_on text session session_new old new out out_after cut
      (inl (read, bound, files, same, same_out)) front first out_first has = record {
        ran_lines = has.ran_lines;
        read = has.goes_on text ∙ rw (cut, read) (rw append-nil refl);
        replies = has.replies;
        bound = bound_in session_new;
        ran = rw (files, bound, same) has.ran;
        printed = rw same_out has.printed;
      }
  line_ends_on text session session_new old new out out_after cut
      (inr (line, read, runs)) front first out_first has = record {
        ran_lines = has.ran_lines ++ line ∷ [];
        read = one_script front text text session.count (numberings session.labels)
            (numberings session_new.labels) has.ran_lines line has.goes_on cut read;
        replies = has.replies ++ reply_line line runs.replies.reply;
        bound = bound_in session_new;
        ran = rw (runs.exports, runs.binds) (one_more {given = given} (labelled first unbound)
            has.ran_lines has.replies session.files.items (labelled old (bound_in session)) line
            runs.replies.reply new has.ran runs.replies.step);
        printed = prints_more out_first out out_after has.replies (reply_line line
            runs.replies.reply) has.printed (runs.replies.written.0, runs.replies.written.1);
      }

  pub runs_then : (one other : List ℕ) (a b c : Session) (old mid new : Memory)
      (out out_mid out_after : Writing W)
      → RunsOn given one (live_state a old) (live_state b mid) (output contents out out_mid)
      → RunsOn given other (live_state b mid) (live_state c new) (output contents out_mid out_after)
      → RunsOn given (one ++ other) (live_state a old) (live_state c new)
      (output contents out out_after)
  runs_then one other a b c old mid new out out_mid out_after runs more front first out_first has =
      rw (← append_assoc) (more (front ++ one) first out_first (runs front first out_first has))

  pub runs_nothing : (session : Session) (old : Memory) (out : Writing W)
      → RunsOn given [] (live_state session old) (live_state session old) (output contents out out)
  runs_nothing session old out front first out_first has = rw append-nil has

  -- ---- a run that ends after the lines of `front`

  stops_after : (fault : LiveFault) (front more : List ℕ) (first : Memory) (out_first : Writing W)
      (session : Session) (old new : Memory) (out out_after : Writing W)
      → (has : HasRun given front first (live_state session old) (output contents out_first out))
      → StopsBy given fault (point front has.ran_lines (labelled old (bound_in session)) more) new
      (output contents out out_after)
      → RunStops given (front ++ more) first new (output contents out_first out_after) fault
  unfolding whole
  stops_after fault front more first out_first session old new out out_after has by = record {
    front = front;
    rest = more;
    parts = refl;
    cut = has.whole more;
    files = session.files.items;
    mid = old;
    out_mid = out;
    ran = whole front first out_first session old out has;
    by = by;
  }

  -- ---- a line at which the run ends

  pub line_stops_on : (fault : LiveFault) (next text rest : List ℕ) (session session_new : Session)
      (old new : Memory) (out out_after : Writing W) → lines next ≡ text ∷ []
      → lines (next ++ rest) ≡ text ∷ lines rest → LineStops given fault text (live_state session
      old) (live_state session_new new) (output contents out out_after)
      → (front : List ℕ) (first : Memory) (out_first : Writing W)
      → HasRun given front first (live_state session old) (output contents out_first out)
      → RunStops given (front
      ++ (next ++ rest)) first new (output contents out_first out_after) fault
  unfolding whole
  line_stops_on (faults.Line fault) next text rest session session_new old new out out_after one cut
      (read, number, same, same_out) front first out_first has = stops_after (faults.Line fault)
      front (next ++ rest) first out_first session old new out out_after has (
        fault_script front (next ++ rest) text (lines rest) session.count
            (numberings session.labels) has.ran_lines fault has.goes_on cut read number,
        number ∙ ap (λ n. n + 1) has.counted,
        same,
        same_out,
      )
  line_stops_on (faults.Input fault) next text rest session session_new old new out out_after one
      cut none front first out_first has = absurd none
  line_stops_on faults.Memory next text rest session session_new old new out out_after one cut
      (wanted, inl (same, same_out)) front first out_first has = stops_after faults.Memory front
      (next ++ rest) first out_first session old new out out_after has (wanted, same, same_out)
  line_stops_on faults.Memory next text rest session session_new old new out out_after one cut
      (wanted, inr (line, read, replies)) front first out_first has = record {
        front = front ++ next;
        rest = rest;
        parts = sym (append_assoc front next rest);
        cut = cut_further front next text rest has.whole one cut;
        files = session.files.items ++ exported line replies.reply;
        mid = new;
        out_mid = out_after;
        ran = record {
          ran_lines = has.ran_lines ++ line ∷ [];
          read = one_script front next text session.count (numberings session.labels)
              (numberings session_new.labels) has.ran_lines line has.goes_on one read;
          replies = has.replies ++ reply_line line replies.reply;
          bound = bound_after (bound_in session) line replies.reply;
          ran = one_more {given = given} (labelled first unbound) has.ran_lines has.replies
              session.files.items
              (labelled old (bound_in session)) line replies.reply new has.ran replies.step;
          printed = prints_more out_first out out_after has.replies
              (reply_line line replies.reply) has.printed (replies.written.0, replies.written.1);
        };
        by = (wanted, refl, refl);
      }
  line_stops_on faults.Write next text rest session session_new old new out out_after one cut
      (line, read, (reply, step, written)) front first out_first has = stops_after faults.Write
      front (next ++ rest) first out_first session old new out out_after has (inl (record {
        next = next;
        more = rest;
        parts = refl;
        cut = cut ∙ sym (ap (λ (l : List (List ℕ)). l ++ lines rest) one);
        line = line;
        read = one_script front next text session.count (numberings session.labels)
            (numberings session_new.labels) has.ran_lines line has.goes_on one read;
        reply = reply;
        step = step;
        written = written;
      }))

  -- ---- the last line

  pub last_stops_on : (fault : LiveFault) (text : List ℕ) (session session_new : Session)
      (old new : Memory) (out out_after : Writing W) → lines text ≡ text ∷ []
      → LineStops given fault text (live_state session old) (live_state session_new
      new) (output contents out out_after)
      → StopsAt given fault text (live_state session old) new (output contents out out_after)
  last_stops_on fault text session session_new old new out out_after one stops front first out_first
      has = rw append-nil at (line_stops_on fault text text [] session session_new old new out
      out_after one (rw append-nil one) stops front first out_first has)

  -- ---- a flush

  pub then_flushed : (front : List ℕ) (first : Memory) (out_first : Writing W) (session : Session)
      (new : Memory) (out out_after : Writing W)
      → HasRun given front first (live_state session new) (output contents out_first out)
      → Flushes contents out out_after true
      → HasRun given front first (live_state session new) (output contents out_first out_after)
  then_flushed front first out_first session new out out_after has flush = record {
    whole = has.whole;
    counted = has.counted;
    ran_lines = has.ran_lines;
    goes_on = has.goes_on;
    replies = has.replies;
    ran = has.ran;
    printed =
        (Appends-kept _ _ _ has.replies has.printed.0 flush.bytes, flush.faults ∙ has.printed.1);
  }

  pub text_flushed : (text : List ℕ) (first : Memory) (out_first : Writing W) (new : Memory)
      (out out_after : Writing W) (files : List (List ℕ))
      → RunsText given text first new (output contents out_first out) files
      → Flushes contents out out_after true
      → RunsText given text first new (output contents out_first out_after) files
  text_flushed text first out_first new out out_after files runs flush = record {
    ran_lines = runs.ran_lines;
    read = runs.read;
    replies = runs.replies;
    bound = runs.bound;
    ran = runs.ran;
    printed =
        (Appends-kept _ _ _ runs.replies runs.printed.0 flush.bytes, flush.faults ∙ runs.printed.1);
  }

  -- a flush after the lines of a text that failed
  pub flush_stops : (front : List ℕ) (first : Memory) (out_first : Writing W) (session : Session)
      (new : Memory) (out out_after : Writing W)
      → HasRun given front first (live_state session new) (output contents out_first out)
      → Flushes contents out out_after false → (more : List ℕ)
      → RunStops given (front ++ more) first new (output contents out_first out_after) faults.Write
  flush_stops front first out_first session new out out_after has flush more =
      stops_after faults.Write front more first out_first session new new out out_after has
      (inr (refl, flush))

  -- the last flush
  pub last_flush_stops : (text : List ℕ) (first : Memory) (out_first : Writing W) (new : Memory)
      (out out_after : Writing W) (files : List (List ℕ))
      → RunsText given text first new (output contents out_first out) files
      → Flushes contents out out_after false
      → RunStops given text first new (output contents out_first out_after) faults.Write
  last_flush_stops text first out_first new out out_after files runs flush = record {
    front = text;
    rest = [];
    parts = sym (append-nil text);
    cut = ap lines (append-nil text) ∙ sym (append-nil (lines text));
    files = files;
    mid = new;
    out_mid = out;
    ran = runs;
    by = inr (refl, flush);
  }

  -- ---- a script that can't be read further

  pub read_fails : (fault : InputFault) (end : LiveFault) (front : List ℕ) (first : Memory)
      (out_first : Writing W) (session : Session) (new : Memory) (out : Writing W)
      → IsReadFault fault end → (fault ≡ InputMemory → given.short)
      → HasRun given front first (live_state session new) (output contents out_first out)
      → (more : List ℕ)
      → RunStops given (front ++ more) first new (output contents out_first out) end
  read_fails fault (faults.Line other) front first out_first session new out is wanted has more =
      absurd is
  read_fails fault (faults.Input other) front first out_first session new out is wanted has more =
      stops_after (faults.Input other) front more first out_first session new new out out has
      ((λ memory. is.2 (sym is.0 ∙ memory)), subst IsOfReading (sym is.0) is.1, refl, refl)
  read_fails fault faults.Memory front first out_first session new out is wanted has more =
      stops_after faults.Memory front more first out_first session new new out out has
      (wanted is, refl, refl)
  read_fails fault faults.Write front first out_first session new out is wanted has more = absurd is

  -- no memory for the first read
  no_lines : (script : List ℕ) (old : Memory) (out : Writing W) → given.short
      → RunStops given script old old (output contents out out) faults.Memory
  no_lines script old out wanted = record {
    front = [];
    rest = script;
    parts = refl;
    cut = refl;
    files = [];
    mid = old;
    out_mid = out;
    ran = record {
      ran_lines = [];
      read = refl;
      replies = [];
      bound = unbound;
      ran = (refl, refl, refl, refl);
      printed = (Appends-nil _, refl);
    };
    by = (wanted, refl, refl);
  }

  pub nothing_read : (known : Option (List ℕ)) (old : Memory) (out : Writing W) → given.short
      → ReadStops given known old old (output contents out out) faults.Memory
  nothing_read None old out wanted = ([], tt, no_lines [] old out wanted)
  nothing_read (Some all) old out wanted = (all, refl, no_lines all old out wanted)

  -- ---- the bytes of a reader

  pub stops_read : (known left : Option (List ℕ)) (text : List ℕ) (fault : LiveFault) (old : Memory)
      (out : Writing W) (new : Memory) (out_after : Writing W)
      → Keeps known (prepend_known text left) → ((more : List ℕ)
      → RunStops given (text ++ more) old new (output contents out out_after) fault)
      → ReadStops given known old new (output contents out out_after) fault
  stops_read None left text fault old out new out_after kept stops = (text ++ [], tt, stops [])
  stops_read (Some all) None text fault old out new out_after kept stops = absurd kept
  stops_read (Some all) (Some rest) text fault old out new out_after kept stops =
      (text ++ rest, sym kept, stops rest)

  pub stops_read_at_end : (known left : Option (List ℕ)) (text : List ℕ) (fault : LiveFault)
      (old : Memory) (out : Writing W) (new : Memory) (out_after : Writing W)
      → Keeps known (prepend_known text left) → IsAtEnd left
      → RunStops given text old new (output contents out out_after) fault
      → ReadStops given known old new (output contents out out_after) fault
  stops_read_at_end None left text fault old out new out_after kept end stops = (text, tt, stops)
  stops_read_at_end (Some all) None text fault old out new out_after kept end stops = absurd kept
  stops_read_at_end (Some all) (Some rest) text fault old out new out_after kept end stops =
      (text, sym kept ∙ ap (λ l. text ++ l) end ∙ append-nil text, stops)

  -- ---- places in a text that grows

  pub reads_on : (at n : ℕ) (text more part : List ℕ) (first : Memory) (out_first : Writing W)
      (session session_new : Session) (old new : Memory) (out out_after : Writing W)
      → at ≤ length text → StartsWith more text
      → HasRun given (take at text) first (live_state session old) (output contents out_first out)
      → RunsOn given (take n part) (live_state session old) (live_state session_new new)
      (output contents out out_after) → part ≡ drop at more → HasRun given
      (take (at + n) more) first (live_state session_new new) (output contents out_first out_after)
  reads_on at n text more part first out_first session session_new old new out out_after within
      starts has runs same =
      let parts : take at more ++ take n part ≡ take (at + n) more =
      ap (λ t. take at more ++ take n t) same ∙ sym (take-add at n more) in
      subst (λ t. HasRun given t first (live_state session_new new)
      (output contents out_first out_after)) parts (runs (take at more) first out_first
      (subst (λ t. HasRun given t first (live_state session old) (output contents out_first out))
      (front_stays at text more within starts) has))

  pub stops_at : (at : ℕ) (text more part : List ℕ) (fault : LiveFault) (first : Memory)
      (out_first : Writing W) (session : Session) (old new : Memory) (out out_after : Writing W)
      → at ≤ length text → StartsWith more text
      → HasRun given (take at text) first (live_state session old) (output contents out_first out)
      → StopsOn given fault part (live_state session old) new (output contents out out_after)
      → part ≡ drop at more → (rest : List ℕ)
      → RunStops given (more ++ rest) first new (output contents out_first out_after) fault
  stops_at at text more part fault first out_first session old new out out_after within starts has
      stops same rest =
      let parts : take at more ++ (part ++ rest) ≡ more ++ rest =
      ap (λ t. take at more ++ (t ++ rest)) same ∙ cut_at at more rest in
      subst (λ t. RunStops given t first new (output contents out_first out_after) fault) parts
      (stops (take at more) first out_first (subst (λ t. HasRun given t first (live_state session
      old) (output contents out_first out)) (front_stays at text more within starts) has) rest)

  pub read_fails_at : (at : ℕ) (text : List ℕ) (fault : InputFault) (end : LiveFault)
      (first : Memory) (out_first : Writing W) (session : Session) (new : Memory) (out : Writing W)
      → IsReadFault fault end → (fault ≡ InputMemory → given.short)
      → HasRun given (take at text) first (live_state session new) (output contents out_first out)
      → (rest : List ℕ)
      → RunStops given (text ++ rest) first new (output contents out_first out) end
  read_fails_at at text fault end first out_first session new out is wanted has rest =
      subst (λ t. RunStops given t first new (output contents out_first out) end)
      (cut_at at text rest) (read_fails fault end
      (take at text) first out_first session new out is wanted has (drop at text ++ rest))

  pub flush_stops_at : (at : ℕ) (text : List ℕ) (first : Memory) (out_first : Writing W)
      (session : Session) (new : Memory) (out out_after : Writing W)
      → HasRun given (take at text) first (live_state session new) (output contents out_first out)
      → Flushes contents out out_after false → (rest : List ℕ)
      → RunStops given (text ++ rest) first new (output contents out_first out_after) faults.Write
  flush_stops_at at text first out_first session new out out_after has flush rest =
      subst (λ t. RunStops given t first new (output contents out_first out_after) faults.Write)
      (cut_at at text rest) (flush_stops (take at text) first out_first session new out out_after
      has flush (drop at text ++ rest))

  pub ends_at : (at : ℕ) (text part : List ℕ) (first : Memory) (out_first : Writing W)
      (session session_new : Session) (old new : Memory) (out out_after : Writing W)
      → HasRun given (take at text) first (live_state session old) (output contents out_first out)
      → EndsOn given part (live_state session old) (live_state session_new new)
      (output contents out out_after) → part ≡ drop at text
      → RunsText given text first new (output contents out_first out_after) session_new.files.items
  ends_at at text part first out_first session session_new old new out out_after has ends same =
      subst (λ t. RunsText given t first new (output contents out_first out_after)
      session_new.files.items) (ap (λ t. take at text ++ t) same ∙ take-append-drop at text)
      (ends (take at text) first out_first has)

  pub last_stops_at : (at : ℕ) (text part : List ℕ) (fault : LiveFault) (first : Memory)
      (out_first : Writing W) (session : Session) (old new : Memory) (out out_after : Writing W)
      → HasRun given (take at text) first (live_state session old) (output contents out_first out)
      → StopsAt given fault part (live_state session old) new (output contents out out_after)
      → part ≡ drop at text
      → RunStops given text first new (output contents out_first out_after) fault
  last_stops_at at text part fault first out_first session old new out out_after has stops same =
      subst (λ t. RunStops given t first new (output contents out_first out_after) fault)
      (ap (λ t. take at text ++ t) same ∙ take-append-drop at text)
      (stops (take at text) first out_first has)

  -- lines of a text after others of it
  pub runs_further : (front next text : List ℕ) (a b c : Session) (old mid new : Memory)
      (out out_mid out_after : Writing W)
      → RunsOn given front (live_state a old) (live_state b mid) (output contents out out_mid)
      → ((more : List ℕ) → lines (next ++ more) ≡ text ∷ lines more) → c.count ≡ b.count + 1
      → ReadsLine given text (live_state b mid) (live_state c new) (output contents out_mid
      out_after) → RunsOn given (front
      ++ next) (live_state a old) (live_state c new) (output contents out out_after)
  runs_further front next text a b c old mid new out out_mid out_after runs ended count reads =
      runs_then front next a b c old mid new out out_mid out_after runs
      (line_runs_on next text b c mid new out_mid out_after ended count reads)

  -- the lines of a text before its last line, which no line feed ends
  pub runs_taken : (n : ℕ) (text front rest : List ℕ) (a b : Session) (old new : Memory)
      (out out_after : Writing W)
      → RunsOn given front (live_state a old) (live_state b new) (output contents out out_after)
      → text ≡ front ++ rest → n + length rest ≡ length text → RunsOn given (take n
      text) (live_state a old) (live_state b new) (output contents out out_after)
  runs_taken n text front rest a b old new out out_after runs parts long =
      let same : take n (front ++ rest) ≡ front =
      take_at front rest n (omega (arith, long, ap length parts, length-append front rest)) in
      subst (λ t. RunsOn given t (live_state a old) (live_state b new)
      (output contents out out_after)) (sym (ap (take n) parts ∙ same)) runs

  pub stops_further : (fault : LiveFault) (all front next rest text : List ℕ) (a b c : Session)
      (old mid new : Memory) (out out_mid out_after : Writing W) → all ≡ front ++ (next ++ rest)
      → RunsOn given front (live_state a old) (live_state b mid) (output contents out out_mid)
      → ((more : List ℕ) → lines (next ++ more) ≡ text ∷ lines more)
      → LineStops given fault text (live_state b mid) (live_state c new) (output contents out_mid
      out_after) → StopsOn given fault all (live_state a old) new (output contents out out_after)
  stops_further fault all front next rest text a b c old mid new out out_mid out_after parts runs
      ended stops before first out_first has more =
      subst (λ t. RunStops given t first new (output contents out_first out_after) fault)
      (append_assoc before front (next ++ (rest ++ more))
      ∙ ap (λ l. before ++ l) (ap (λ l. front ++ l) (sym (append_assoc next rest more))
      ∙ sym (append_assoc front (next ++ rest) more) ∙ ap (λ l. l ++ more) (sym parts)))
      (line_stops_on fault next text (rest ++ more) b c mid new out_mid out_after
      (alone next text ended) (ended (rest ++ more)) stops (before ++ front) first out_first
      (runs before first out_first has))

-- a buffer of some zeros is not empty
pub room_of : (n : ℕ) (items : List ℕ) → items ≡ replicate n 0 → 0 < n → 0 < length items
room_of n items same some = omega (arith, some, ap length same, length-replicate {A = ℕ} n 0)

-- a slice from a place on, as the code takes it
pub given_rest : (at : ℕ) (given text : List ℕ) → given ≡ text
    → take (length given - at) (drop at given) ≡ drop at text
given_rest at given text same = take_all (length given - at) (drop at given)
    (omega (arith, length-drop at given)) ∙ ap (drop at) same

-- a place within what was read, and one more part of it
pub place_within : (at n : ℕ) (text more given : List ℕ) → at ≤ length text → StartsWith more text
    → n ≤ length given → given ≡ drop at more → at + n ≤ length more
place_within at n text more given within starts fits same =
    let longer : length text ≤ length more = starts_with_length more text starts in
    let left : length given ≡ length (drop at more) = ap length same in
    omega (arith, within, longer, fits, left, length-drop at more)

pub unended_on : (at n : ℕ) (more given : List ℕ) → IsUnended (drop n given) → given ≡ drop at more
    → IsUnended (drop (at + n) more)
unended_on at n more given unended same =
    subst IsUnended (ap (drop n) same ∙ drop-drop n at more) unended

pub kept_first : (known : Option (List ℕ)) → Keeps known (prepend_known [] known)
kept_first None = tt
kept_first (Some all) = refl

-- ---- a fault that is returned as it came

pub on_handed : {T : Type 0} (P : LiveFault → Type 0) (result : Result T LiveFault)
    {fault : LiveFault} → IsErrAnd result (λ brought. brought ≡ fault) → P fault → IfErr result P
on_handed P (Ok value) is p = tt
on_handed P (Err brought) is p = subst P (sym is) p

pub on_written : {T : Type 0} (P : LiveFault → Type 0) (result : Result T LiveFault)
    {fault : LiveFault} → IsErrAnd result (λ brought. brought ≡ fault) → fault ≡ faults.Write
    → P faults.Write → IfErr result P
on_written P result is write p = on_handed P result is (subst P (sym write) p)
