-- A run of a script.
use Rattle.palmheap_c.proofs.Words.{◌≡◌, ℕ, List, [], ◌∷◌, ◌+◌, length, suc, refl, sym, ap, ◌∙◌, subst, subst₂, GrowthRefused, Memory, Accepted, read_script, FillsBuffer, IsOpenStore, HasResults, HasSizes, AreShortBuffers, Ran, RunsInPlace, RunsShort, Written, ends_from, joined}
use Rattle.std.proofs.Common.{Option, Some, Ok}
use Rattle.std.specs.Io.KnownBytes.{Appends}
use Rattle.palm_text.specs.Counted.{Writing}
use Rattle.palm_text.specs.Output.{output}
use Rattle.script_calls.specs.Lines.{Labelled, Lines, RunsThroughShort, Setting, bound_after, labelled, setting, unbound}
use Rattle.script_lines.specs.declared.line.Line.{Line}
use Rattle.palmheap_c.specs.declared.results.Results.{Results}
use Rattle.palmheap_c.specs.declared.results.Sizes.{Sizes}

-- ---- the lines

-- they leave an image of the same length
same_length : (given : Setting) (old : Labelled) (lines : List Line) (text : List ℕ)
    (files : List (List ℕ)) (new : Labelled) → Lines given old lines text files new
    → length new.region.bytes ≡ length old.region.bytes
same_length given old [] text files new (no_text, no_files, same, unchanged) =
    ap (λ (m : Memory). length m.bytes) same
same_length given old (line ∷ lines) text files new (reply, mid, rest, more, step, is, are, tail) =
    same_length given (labelled mid (bound_after old.bound line reply)) lines rest more new tail
    ∙ step.does.len

-- a script was run on the store of an image, with these results
pub ran : {W : Type 0} (contents : W → Option (List ℕ)) (image script : List ℕ)
    (inputs : List (List ℕ)) (store after : Memory) (lines : List Line) (out out_after : Writing W)
    (text : List ℕ) (files : List (List ℕ)) → IsOpenStore image store
    → read_script script ≡ Ok lines → Accepted after.bytes → RunsThroughShort (setting GrowthRefused
    inputs) lines store after (output contents out out_after) files → contents out.writer ≡ Some []
    → contents out_after.writer ≡ Some text → Ran image script inputs after.bytes text files
ran contents image script inputs store after lines out out_after text files is read accepted run
    none some =
    let written : Appends (Some []) (Some text) run.text =
    subst₂ (λ (a b : Option (List ℕ)). Appends a b run.text) none some run.written.0 in
    record {
      region = store;
      region_after = after;
      lines = lines;
      bound = run.after;
      image_is = is.bytes;
      whole = is.whole;
      before = is.accepted;
      read = read;
      ran = subst (λ (all : List ℕ). Lines (setting GrowthRefused inputs) (labelled store unbound)
          lines all files (labelled after run.after)) (sym written) run.ran;
      after_is = refl;
      accepted = accepted;
      len = same_length (setting GrowthRefused inputs) (labelled store unbound) lines run.text files
          (labelled after run.after) run.ran ∙ ap length is.bytes;
    }

-- ---- what is written

-- as many ends as files
length_ends : (start : ℕ) (files : List (List ℕ)) → length (ends_from start files) ≡ length files
length_ends start [] = refl
length_ends start (file ∷ files) = ap suc (length_ends (start + length file) files)

-- these are the sizes
pub record AreSizes (results : Results) (sizes : Sizes) : Type 0 where
  pub printed : sizes.printed ≡ length results.text.items
  pub exported : sizes.exported ≡ length results.files.items
  pub files_are : sizes.files ≡ length results.ends.items

has_sizes : (results : Results) (files : List (List ℕ)) (sizes : Sizes)
    → results.files.items ≡ joined files → results.ends.items ≡ ends_from 0 files
    → AreSizes results sizes → HasSizes results.text.items files sizes
has_sizes results files sizes all_is ends_are is = record {
  printed = is.printed;
  exported = is.exported ∙ ap length all_is;
  files_are = is.files_are ∙ ap length ends_are ∙ length_ends 0 files;
}

-- the results are in the buffers, and the image is the new one
pub in_place : (script : List ℕ) (inputs : List (List ℕ)) (old new : Written) (results : Results)
    → HasResults old.image script inputs new.image results → AreSizes results new.sizes
    → FillsBuffer results.text.items old.printed new.printed
    → FillsBuffer results.files.items old.exported new.exported
    → FillsBuffer results.ends.items old.ends new.ends → RunsInPlace script inputs old new
in_place script inputs old new results has is printed exported ended = record {
  text = results.text.items;
  files = has.files;
  ran = has.ran;
  printed_is = printed;
  exported_is =
      subst (λ (bytes : List ℕ). FillsBuffer bytes old.exported new.exported) has.all_is exported;
  ends_are = subst (λ (numbers : List ℕ). FillsBuffer numbers old.ends new.ends) has.ends_are ended;
  sizes_are = has_sizes results has.files new.sizes has.all_is has.ends_are is;
}

-- a buffer is too short for the results
pub too_short : (script : List ℕ) (inputs : List (List ℕ)) (old : Written) (after : List ℕ)
    (results : Results) (sizes : Sizes) → HasResults old.image script inputs after results
    → AreSizes results sizes → AreShortBuffers sizes old.printed old.exported old.ends
    → RunsShort script inputs old sizes
too_short script inputs old after results sizes has is short = record {
  image_after = after;
  text = results.text.items;
  files = has.files;
  ran = has.ran;
  sizes_are = has_sizes results has.files sizes has.all_is has.ends_are is;
  short = short;
}
