-- Lines, one after another.
use Rattle.std.proofs.Common.{◌≡◌, ◌≢◌, ℕ, ◌+◌, ◌<◌, ◌≤◌, arith, cond, Bool, List, [], ◌∷◌, ◌++◌, length, take, get_or, refl, sym, ap, ◌∙◌, subst, append_assoc, append-nil, add-one, take-suc, Option, Some, None, true}
use Rattle.std.proofs.lemmas.List.{take_all}
use Rattle.std.specs.Option.{option_to_list}
use Rattle.std.specs.Prelude.{count_by, Result, Ok, Err, IfOk, is_ok}
use Rattle.std.proofs.lemmas.List.Sums.{sum_by-append, sum_by-take-le}
use Rattle.std.proofs.lemmas.Option.{slice_get-get_or}
use Rattle.std.proofs.KnownBytes.{Appends-trans}
use Rattle.heap_model.specs.Memory.{Memory}
use Rattle.heap_model.specs.StoreSteps.{Call, DoesInStore}
use Rattle.heap_model.specs.declared.names.Name.{Name}
use Rattle.heap_model.specs.declared.call.Call.TheVariants.{Memory as OnMemory}
use Rattle.heap_model.specs.declared.call.MemoryCall.TheVariants as calls
use Rattle.heap_model.specs.declared.refusal.Refusal.TheVariants.{OutOfMemory}
use Rattle.palm_text.specs.Counted.{Writing, Writes}
use Rattle.palm_text.specs.Output.{Output, output}
use Rattle.heap_model.specs.declared.call.Reply.{Reply}
use Rattle.heap_model.specs.declared.call.Reply.TheVariants.{Data, Refused}
use Rattle.palm_text.specs.declared.output.WriteFault.{WriteFault}
use Rattle.script_lines.specs.LineCounts.{is_export}
use Rattle.script_lines.specs.declared.line.Line.{Line}
use Rattle.script_lines.specs.declared.line.Line.TheVariants.{Bind, Print, Silent, BindChunk, BindDatabase, Import, Export}
use Rattle.script_calls.specs.Movement.{Moves}
use Rattle.script_calls.specs.Lines.{Bindings, BreaksOff, BreaksOffShort, DoesLine, Labelled, LineStep, Lines, RunsThrough, RunsThroughShort, Setting, bound_after, bound_to, bound_to_database, call_of, chunk_in, database_of_reply, exported, labelled, reply_line, setting, unbound}

-- ---- the lines up to one of them

pub take_one : (lines : List Line) (i : ℕ) (d : Line) → i < length lines → take (i + 1) lines ≡ take i lines ++ (get_or lines i d ∷ [])
take_one lines i d within = rw add-one (take-suc lines i d within)

-- ---- what lines export

-- no line exports more than one, and only one that is counted
exports_one : (line : Line) (reply : Reply) → length (exported line reply) ≤ count_by is_export (line ∷ [])
exports_one (Export label) (Data bytes) = omega arith
exports_one (Export label) reply = omega arith
exports_one line reply = omega arith

-- the files of lines are as many as the lines that export, at most
pub room_is_left : (lines : List Line) (i : ℕ) (line : Line) (reply : Reply) (more : List (List ℕ)) (used : ℕ) → i < length lines → line ≡ get_or lines i line → exported line reply ≡ more → used ≤ count_by is_export (take i lines)
    → (used + length more ≤ count_by is_export (take (i + 1) lines)) × (count_by is_export (take (i + 1) lines) ≤ count_by is_export lines)
room_is_left lines i line reply more used within here is below =
    let to_here : take (i + 1) lines ≡ take i lines ++ (line ∷ []) = take_one lines i line within ∙ ap (λ l. take i lines ++ (l ∷ [])) (sym here) in
    let one : length more ≤ count_by is_export (line ∷ []) = rw (← is) (exports_one line reply) in
    let counted : count_by is_export (take (i + 1) lines) ≡ count_by is_export (take i lines) + count_by is_export (line ∷ []) = rw to_here (sum_by-append (λ l. cond (is_export l) 1 0) (take i lines) (line ∷ [])) in
    (omega (arith, one, counted), sum_by-take-le (λ l. cond (is_export l) 1 0) lines (i + 1))

-- ---- a line that reads

-- it binds nothing, as no chunk and no database is answered
reads_unbound : (inputs : List (List ℕ)) (bound : Bindings) (line : Line) (name : Name) (at count : ℕ) (reply : Reply) → call_of inputs bound line ≡ OnMemory (calls.Read name at count) → chunk_in reply ≡ None → database_of_reply reply ≡ None → bound ≡ bound_after bound line reply
reads_unbound inputs bound (Bind label slot) name at count reply e chunk database = absurd cc
reads_unbound inputs bound (Print call) name at count reply e chunk database = refl
reads_unbound inputs bound (Silent call) name at count reply e chunk database = refl
reads_unbound inputs bound (BindChunk label call) name at count reply e chunk database = sym (ap (bound_to bound label.0) chunk)
reads_unbound inputs bound (BindDatabase label call) name at count reply e chunk database = sym (ap (bound_to_database bound label.0) database)
reads_unbound inputs bound (Import label file) name at count reply e chunk database = absurd cc
reads_unbound inputs bound (Export label) name at count reply e chunk database = absurd cc

-- and exports nothing
reads_alone : (inputs : List (List ℕ)) (bound : Bindings) (line : Line) (name : Name) (at count : ℕ) (reply : Reply) → call_of inputs bound line ≡ OnMemory (calls.Read name at count) → exported line reply ≡ []
reads_alone inputs bound (Bind label slot) name at count reply e = refl
reads_alone inputs bound (Print call) name at count reply e = refl
reads_alone inputs bound (Silent call) name at count reply e = refl
reads_alone inputs bound (BindChunk label call) name at count reply e = refl
reads_alone inputs bound (BindDatabase label call) name at count reply e = refl
reads_alone inputs bound (Import label file) name at count reply e = refl
reads_alone inputs bound (Export label) name at count reply e = absurd cc

none_exported : (files : List (List ℕ)) (answer : Result (Option (List ℕ)) WriteFault) → files ≡ [] → IfOk answer (λ file. file ≡ None) → IfOk answer (λ file. files ≡ option_to_list file)
none_exported files (Ok file) e none = e ∙ sym (ap option_to_list none)
none_exported files (Err fault) e none = tt

pub reads_line : {W : Type 0} {given : Setting} (contents : W → Option (List ℕ)) (line : Line) (old : Memory) (bound : Bindings) (out mid after : Writing W) (name : Name) (at count : ℕ) (reply : Reply) (answer : Result (Option (List ℕ)) WriteFault) (printed : Bool) (new : Memory)
    → call_of given.inputs bound line ≡ OnMemory (calls.Read name at count) → new ≡ old → DoesInStore new (OnMemory (calls.Read name at count)) reply new → reply ≢ Refused OutOfMemory → chunk_in reply ≡ None → database_of_reply reply ≡ None → Writes contents out mid (reply_line line reply) printed
    → after ≡ mid → printed ≡ is_ok answer → IfOk answer (λ file. file ≡ None) → DoesLine given line (labelled old bound) (labelled new bound) (output contents out after) answer
reads_line {W} {given} contents line old bound out mid after name at count reply answer printed new e same does wanted chunk database wrote to_after is none = record {
  reply = reply;
  step = record {
    does = subst (λ (m : Memory). DoesInStore m (call_of given.inputs bound line) reply new) same (subst (λ (call : Call). DoesInStore new call reply new) (sym e) does);
    moves = subst (λ (call : Call). Moves old call new) (sym e) tt;
    takes_no_memory = λ may. wanted;
    no_memory = λ refused. absurd (wanted refused);
  };
  binds = reads_unbound given.inputs bound line name at count reply e chunk database;
  written = subst (λ (w : Writing W). Writes contents out w (reply_line line reply) (is_ok answer)) (sym to_after) (subst (λ (b : Bool). Writes contents out mid (reply_line line reply) b) is wrote);
  file = none_exported (exported line reply) answer (reads_alone given.inputs bound line name at count reply e) none;
}

-- ---- one line more

pub one_more : {given : Setting} (old : Labelled) (lines : List Line) (text : List ℕ) (files : List (List ℕ)) (mid : Labelled) (line : Line) (reply : Reply) (new : Memory)
    → Lines given old lines text files mid → LineStep given mid line reply new
    → Lines given old (lines ++ (line ∷ [])) (text ++ reply_line line reply) (files ++ exported line reply) (labelled new (bound_after mid.bound line reply))
one_more {given} old [] text files mid line reply new (no_text, no_files, same, unchanged) step = (
  reply,
  new,
  [],
  [],
  subst (λ (m : Memory). LineStep given (labelled m old.bound) line reply new) same (subst (λ (n : Bindings). LineStep given (labelled mid.region n) line reply new) unchanged step),
  ap (λ t. t ++ reply_line line reply) no_text ∙ sym (append-nil (reply_line line reply)),
  ap (λ f. f ++ exported line reply) no_files ∙ sym (append-nil (exported line reply)),
  (refl, refl, refl, ap (λ (n : Bindings). bound_after n line reply) unchanged),
)
one_more {given} old (first ∷ lines) text files mid line reply new (answer, next, rest, more, before, is, are, tail) step = (
  answer,
  next,
  rest ++ reply_line line reply,
  more ++ exported line reply,
  before,
  ap (λ t. t ++ reply_line line reply) is ∙ append_assoc (reply_line first answer) rest (reply_line line reply),
  ap (λ f. f ++ exported line reply) are ∙ append_assoc (exported first answer) more (exported line reply),
  one_more (labelled next (bound_after old.bound first answer)) lines rest more mid line reply new tail step,
)

pub one_further : {given : Setting} (old : Labelled) (lines : List Line) (i : ℕ) (line : Line) (text : List ℕ) (files : List (List ℕ)) (mid : Labelled) (reply : Reply) (more : List (List ℕ)) (new : Labelled)
    → i < length lines → line ≡ get_or lines i line → Lines given old (take i lines) text files mid → LineStep given mid line reply new.region → new.bound ≡ bound_after mid.bound line reply → exported line reply ≡ more
    → Lines given old (take (i + 1) lines) (text ++ reply_line line reply) (files ++ more) new
one_further {given} old lines i line text files mid reply more new within here ran step binds are =
    let to_here : take (i + 1) lines ≡ take i lines ++ (line ∷ []) = take_one lines i line within ∙ ap (λ l. take i lines ++ (l ∷ [])) (sym here) in
    subst (λ (b : Bindings). Lines given old (take (i + 1) lines) (text ++ reply_line line reply) (files ++ more) (labelled new.region b)) (sym binds)
    (rw (to_here, ← are) (one_more old (take i lines) text files mid line reply new.region ran step))

-- ---- a line whose reply line couldn't be written

pub breaks : {W : Type 0} {given : Setting} (contents : W → Option (List ℕ)) (lines : List Line) (old : Memory) (first : Writing W) (i : ℕ) (line : Line) (text : List ℕ) (files : List (List ℕ)) (mid : Labelled) (before : Writing W) (new : Labelled) (after : Writing W) (fault : WriteFault)
    → i < length lines → line ≡ get_or lines i line → Lines given (labelled old unbound) (take i lines) text files mid → Writes contents first before text true → DoesLine given line mid new (output contents before after) (Err fault)
    → BreaksOffShort given lines old new.region (output contents first after)
breaks contents lines old first i line text files mid before new after fault within here ran all does =
    let (n, short, appended) = does.written.0 in
    record {
      count = i;
      text = text;
      files = files;
      mid = mid.region;
      bound = mid.bound;
      before = ran;
      line = line;
      found = slice_get-get_or lines i line within ∙ ap Some (sym here);
      reply = does.reply;
      step = does.step;
      written = n;
      within = short;
      front = Appends-trans _ _ _ text (take n (reply_line line does.reply)) all.0 appended;
      fault = subst (λ (k : ℕ). k < after.faults) all.1 does.written.1;
      unflushed = does.written.2 ∙ all.2;
    }

-- ---- all lines

pub all_lines : {W : Type 0} {given : Setting} (contents : W → Option (List ℕ)) (lines : List Line) (old : Memory) (first : Writing W) (i : ℕ) (text : List ℕ) (files : List (List ℕ)) (new : Labelled) (after : Writing W)
    → length lines ≤ i → Lines given (labelled old unbound) (take i lines) text files new → Writes contents first after text true → RunsThroughShort given lines old new.region (output contents first after) files
all_lines {W} {given} contents lines old first i text files new after end ran all = record {
  text = text;
  after = new.bound;
  ran = subst (λ (ls : List Line). Lines given (labelled old unbound) ls text files new) (take_all i lines end) ran;
  written = all;
}

-- ---- where nothing is known of memory

step_alone : {given : Setting} (old : Labelled) (line : Line) (reply : Reply) (new : Memory) → LineStep given old line reply new → LineStep (setting (Unit {0}) given.inputs) old line reply new
step_alone old line reply new step = record { does = step.does; moves = step.moves; takes_no_memory = step.takes_no_memory; no_memory = λ _. tt }

lines_alone : (given : Setting) (old : Labelled) (lines : List Line) (text : List ℕ) (files : List (List ℕ)) (new : Labelled) → Lines given old lines text files new → Lines (setting (Unit {0}) given.inputs) old lines text files new
lines_alone given old [] text files new ran = ran
lines_alone given old (line ∷ lines) text files new (reply, mid, rest, more, step, is, are, tail) =
    (reply, mid, rest, more, step_alone old line reply mid step, is, are, lines_alone given (labelled mid (bound_after old.bound line reply)) lines rest more new tail)

pub runs_alone : {W : Type 0} (given : Setting) (lines : List Line) (old new : Memory) (out : Output W) (files : List (List ℕ)) → RunsThroughShort given lines old new out files → RunsThrough given.inputs lines old new out files
runs_alone given lines old new out files runs = record {
  text = runs.text;
  after = runs.after;
  ran = lines_alone given (labelled old unbound) lines runs.text files (labelled new runs.after) runs.ran;
  written = runs.written;
}

pub breaks_alone : {W : Type 0} (given : Setting) (lines : List Line) (old new : Memory) (out : Output W) → BreaksOffShort given lines old new out → BreaksOff given.inputs lines old new out
breaks_alone given lines old new out off = record {
  count = off.count;
  text = off.text;
  files = off.files;
  mid = off.mid;
  bound = off.bound;
  before = lines_alone given (labelled old unbound) (take off.count lines) off.text off.files (labelled off.mid off.bound) off.before;
  line = off.line;
  found = off.found;
  reply = off.reply;
  step = step_alone (labelled off.mid off.bound) off.line off.reply new off.step;
  written = off.written;
  within = off.within;
  front = off.front;
  fault = off.fault;
  unflushed = off.unflushed;
}
