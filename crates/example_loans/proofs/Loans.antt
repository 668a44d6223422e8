-- Three loans of a store, while calls run.
use Rattle.std.proofs.Common.{◌≡◌, ◌≢◌, ◌+◌, ◌≤◌, ℕ, Bool, List, ◌∷◌, length, take, refl, sym, ap, subst, ◌∙◌, arith, inl, inr}
use Rattle.std.proofs.lemmas.Bool.{eq-eqb, ne_eqb}
use Rattle.std.proofs.lemmas.List.{length-take}
use Rattle.std.proofs.Math.Nat.{min-le_left}
use Rattle.std.specs.Prelude.{Option, Some, None, if◌then◌else◌}
use Rattle.heap_model.specs.Lending.{IsLent}
use Rattle.heap_model.specs.Maps.{callers_map, changed}
use Rattle.heap_model.specs.Meaning.{LiveChunk}
use Rattle.heap_model.specs.Memory.{Memory, Lent, SomeLent, without}
use Rattle.heap_model.specs.MemorySteps.{Of}
use Rattle.heap_model.specs.Refusals.{NoneHolds}
use Rattle.heap_model.specs.Space.{place_of}
use Rattle.heap_model.specs.Store.{bytes_of, store_of}
use Rattle.heap_model.specs.StoreSteps.{Call}
use Rattle.heap_model.specs.declared.call.Reply.{Reply}
use Rattle.heap_model.specs.declared.names.Name.{Name}
use Rattle.laws_heap.proofs.Frames.{length-overwritten}
use Rattle.laws_heap.proofs.LentBodies.{some_to}
use Rattle.mem_manager.specs.Loans.{OnLoan, IsOutUnder, also_out_checks}
use Rattle.palm_store.specs.EntryCalls.{LeavesChanged}
use Rattle.palm_store.specs.Files.{data_filled}
use Rattle.palm_store.specs.Loans.{TakesOutOfStore, PutsBackInStore}
use Rattle.palm_script.specs.Loans.{LoanStays, RunsOnLoan}
use Rattle.example_loans.specs.Filling.{FillsMeanwhile, HasTextOver, TakesThree, text_over, with_text}
use Rattle.example_loans.specs.declared.filling.Notes.{Notes}

-- ---- one loan

-- this lent part is the loan's, and is the body of the loan's chunk
abbrev IsOf : Memory → OnLoan → Lent → Type 0
IsOf memory loan lent = (place_of memory.bytes loan.name.0 ≡ Some lent.at) × (loan.part.start ≡ lent.start) × (length loan.part.bytes ≡ lent.count)

same_place : {m n : ℕ} → Some m ≡ Some n → m ≡ n
same_place e = cc

-- what is lent for a loan
abbrev taken : (old out : Memory) (name : Name) (loan : OnLoan) → TakesOutOfStore old out name loan → Lent
taken old out name loan takes = record { at = takes.at; count = length loan.part.bytes; start = loan.part.start }

taken_is : (old out : Memory) (name : Name) (loan : OnLoan) (takes : TakesOutOfStore old out name loan) → IsOf out loan (taken old out name loan takes)
taken_is old out name loan takes = (subst (λ (n : Name). place_of out.bytes n.0 ≡ Some takes.at) (sym takes.name_is) takes.there, refl, refl)

-- A name that is lent can't be taken out.
not_lent : (old : Memory) (name : ℕ) → NoneHolds (also_out_checks old name) → IsLent old name → ⊥
not_lent old name could is = by (callers_map old.bytes name) refl where
  by : (o : Option LiveChunk) → callers_map old.bytes name ≡ o → ⊥
  by None e = could.0 e
  by (Some live) e = could.1.1.0 (subst (λ (o : Option LiveChunk). Of o (λ live. IsLent old name)) (sym e) is)

-- So a loan has another place than one that is out.
apart : (old out : Memory) (name : Name) (loan : OnLoan) (lent : Lent) (takes : TakesOutOfStore old out name loan) → SomeLent (λ other. other ≡ lent) old.lents → takes.at ≢ lent.at
apart old out name loan lent takes among =
    λ same. not_lent old name.0 takes.could (some_to (λ other. other ≡ lent) (λ other. place_of old.bytes name.0 ≡ Some other.at) old.lents among (λ other is. takes.placed ∙ ap Some (same ∙ sym (ap (λ (l : Lent). l.at) is))))

-- ---- its place stays

kept : (old new : Memory) (loan : OnLoan) (lent : Lent) → place_of new.bytes loan.name.0 ≡ place_of old.bytes loan.name.0 → IsOf old loan lent → IsOf new loan lent
kept old new loan lent same is = (same ∙ is.0, is.1, is.2)

-- A text that is written over its first bytes keeps their number.
length_over : (bytes text : List ℕ) → length (text_over bytes text) ≡ length bytes
length_over bytes text = length-overwritten bytes 0 (take (length bytes) text) (fits (length bytes) text) where
  fits : (n : ℕ) (text : List ℕ) → 0 + length (take n text) ≤ n
  fits n text = let few : length (take n text) ≤ n = subst (λ (k : ℕ). k ≤ n) (sym (length-take n text)) (min-le_left n (length text)) in omega (arith, few)

written_is : (memory : Memory) (loan : OnLoan) (lent : Lent) (text : List ℕ) → IsOf memory loan lent → IsOf memory (with_text loan text) lent
written_is memory loan lent text is = (is.0, is.1, length_over loan.part.bytes text ∙ is.2)

-- ---- without one of them

gone_here : (lent : Lent) (lents : List Lent) (at : ℕ) → at ≡ lent.at → without at (lent ∷ lents) ≡ lents
gone_here lent lents at same = ap (λ (c : Bool). if c then lents else lent ∷ without at lents) (eq-eqb lent.at at (sym same))

gone_later : (lent : Lent) (lents rest : List Lent) (at : ℕ) → lent.at ≢ at → without at lents ≡ rest → without at (lent ∷ lents) ≡ lent ∷ rest
gone_later lent lents rest at differs later = ap (λ (c : Bool). if c then lents else lent ∷ without at lents) (ne_eqb lent.at at differs) ∙ ap (λ (l : List Lent). lent ∷ l) later

-- the place at which a loan is put back
back_at : (old new : Memory) (loan : OnLoan) (lent : Lent) (puts : PutsBackInStore old new loan) → IsOf old loan lent → puts.at ≡ lent.at
back_at old new loan lent puts is = same_place (sym puts.placed ∙ is.0)

-- ---- three loans, then two, then one

record ThreeOut (before : List Lent) (memory : Memory) (first second third : OnLoan) : Type 0 where
  pub a : Lent
  pub b : Lent
  pub c : Lent
  pub lents : memory.lents ≡ c ∷ b ∷ a ∷ before
  pub first_is : IsOf memory first a
  pub second_is : IsOf memory second b
  pub third_is : IsOf memory third c
  pub ba : b.at ≢ a.at
  pub ca : c.at ≢ a.at
  pub cb : c.at ≢ b.at

record TwoOut (before : List Lent) (memory : Memory) (first third : OnLoan) : Type 0 where
  pub a : Lent
  pub c : Lent
  pub lents : memory.lents ≡ c ∷ a ∷ before
  pub first_is : IsOf memory first a
  pub third_is : IsOf memory third c
  pub ca : c.at ≢ a.at

record OneOut (before : List Lent) (memory : Memory) (loan : OnLoan) : Type 0 where
  pub lent : Lent
  pub lents : memory.lents ≡ lent ∷ before
  pub is : IsOf memory loan lent

abbrev lents_of : Memory → List Lent
lents_of memory = memory.lents

taken_lents : (old out : Memory) (name : Name) (loan : OnLoan) (takes : TakesOutOfStore old out name loan) → out.lents ≡ taken old out name loan takes ∷ old.lents
taken_lents old out name loan takes = ap lents_of takes.rest

three_out : (old out : Memory) (notes : Notes) (first second third : OnLoan) → TakesThree old out notes first second third → ThreeOut old.lents out first second third
three_out old out notes first second third t = record {
  a = a;
  b = b;
  c = c;
  lents = taken_lents t.two_out out notes.third third t.takes_third ∙ ap (λ (l : List Lent). c ∷ l) two_lents;
  first_is = kept t.two_out out first a (t.takes_third.unmoved first.name.0) (kept t.one_out t.two_out first a (t.takes_second.unmoved first.name.0) (taken_is old t.one_out notes.first first t.takes_first));
  second_is = kept t.two_out out second b (t.takes_third.unmoved second.name.0) (taken_is t.one_out t.two_out notes.second second t.takes_second);
  third_is = taken_is t.two_out out notes.third third t.takes_third;
  ba = apart t.one_out t.two_out notes.second second a t.takes_second (subst (SomeLent (λ other. other ≡ a)) (sym one_lents) (inl refl));
  ca = apart t.two_out out notes.third third a t.takes_third (subst (SomeLent (λ other. other ≡ a)) (sym two_lents) (inr (inl refl)));
  cb = apart t.two_out out notes.third third b t.takes_third (subst (SomeLent (λ other. other ≡ b)) (sym two_lents) (inl refl));
} where
  a : Lent
  a = taken old t.one_out notes.first first t.takes_first

  b : Lent
  b = taken t.one_out t.two_out notes.second second t.takes_second

  c : Lent
  c = taken t.two_out out notes.third third t.takes_third

  one_lents : t.one_out.lents ≡ a ∷ old.lents
  one_lents = taken_lents old t.one_out notes.first first t.takes_first

  two_lents : t.two_out.lents ≡ b ∷ a ∷ old.lents
  two_lents = taken_lents t.one_out t.two_out notes.second second t.takes_second ∙ ap (λ (l : List Lent). b ∷ l) one_lents

-- ---- they stay while calls run

stay : (old new : Memory) (lents : List Lent) (loan : OnLoan) (lent : Lent) → LoanStays old new → old.lents ≡ lents → SomeLent (λ other. other ≡ lent) lents → IsOf old loan lent → IsOf new loan lent
stay old new lents loan lent stays are among is =
    kept old new loan lent
    (stays.places loan.name.0 (subst (SomeLent (λ other. place_of old.bytes loan.name.0 ≡ Some other.at)) (sym are)
    (some_to (λ other. other ≡ lent) (λ other. place_of old.bytes loan.name.0 ≡ Some other.at) lents among (λ other same. is.0 ∙ ap Some (sym (ap (λ (l : Lent). l.at) same))))))
    is

three_stay : (before : List Lent) (old new : Memory) (first second third : OnLoan) → ThreeOut before old first second third → LoanStays old new → ThreeOut before new first second third
three_stay before old new first second third o stays = record {
  a = o.a;
  b = o.b;
  c = o.c;
  lents = stays.lent ∙ o.lents;
  first_is = stay old new (o.c ∷ o.b ∷ o.a ∷ before) first o.a stays o.lents (inr (inr (inl refl))) o.first_is;
  second_is = stay old new (o.c ∷ o.b ∷ o.a ∷ before) second o.b stays o.lents (inr (inl refl)) o.second_is;
  third_is = stay old new (o.c ∷ o.b ∷ o.a ∷ before) third o.c stays o.lents (inl refl) o.third_is;
  ba = o.ba;
  ca = o.ca;
  cb = o.cb;
}

two_stay : (before : List Lent) (old new : Memory) (first third : OnLoan) → TwoOut before old first third → LoanStays old new → TwoOut before new first third
two_stay before old new first third o stays = record {
  a = o.a;
  c = o.c;
  lents = stays.lent ∙ o.lents;
  first_is = stay old new (o.c ∷ o.a ∷ before) first o.a stays o.lents (inr (inl refl)) o.first_is;
  third_is = stay old new (o.c ∷ o.a ∷ before) third o.c stays o.lents (inl refl) o.third_is;
  ca = o.ca;
}

-- ---- they are out under their names, with a text written too

second_under : (before : List Lent) (memory : Memory) (first second third : OnLoan) (text : List ℕ) → ThreeOut before memory first second third → IsOutUnder memory second.name.0 (with_text second text).part
second_under before memory first second third text o = subst (SomeLent (IsOf memory (with_text second text))) (sym o.lents) (inr (inl (written_is memory second o.b text o.second_is)))

first_under : (before : List Lent) (memory : Memory) (first third : OnLoan) (text : List ℕ) → TwoOut before memory first third → IsOutUnder memory first.name.0 (with_text first text).part
first_under before memory first third text o = subst (SomeLent (IsOf memory (with_text first text))) (sym o.lents) (inr (inl (written_is memory first o.a text o.first_is)))

one_under : (before : List Lent) (memory : Memory) (loan : OnLoan) → OneOut before memory loan → IsOutUnder memory loan.name.0 loan.part
one_under before memory loan o = subst (SomeLent (IsOf memory loan)) (sym o.lents) (inl o.is)

one_written : (before : List Lent) (memory : Memory) (loan : OnLoan) (text : List ℕ) → OneOut before memory loan → OneOut before memory (with_text loan text)
one_written before memory loan text o = record { lent = o.lent; lents = o.lents; is = written_is memory loan o.lent text o.is }

-- ---- they are put back

second_back : (before : List Lent) (old new : Memory) (first second third : OnLoan) (text : List ℕ) → ThreeOut before old first second third → PutsBackInStore old new (with_text second text) → TwoOut before new first third
second_back before old new first second third text o puts = record {
  a = o.a;
  c = o.c;
  lents = ap lents_of puts.rest ∙ ap (without puts.at) o.lents ∙ gone_later o.c (o.b ∷ o.a ∷ before) (o.a ∷ before) puts.at (λ e. o.cb (e ∙ at)) (gone_here o.b (o.a ∷ before) puts.at at);
  first_is = kept old new first o.a (puts.unmoved first.name.0) o.first_is;
  third_is = kept old new third o.c (puts.unmoved third.name.0) o.third_is;
  ca = o.ca;
} where
  at : puts.at ≡ o.b.at
  at = back_at old new (with_text second text) o.b puts (written_is old second o.b text o.second_is)

first_back : (before : List Lent) (old new : Memory) (first third : OnLoan) (text : List ℕ) → TwoOut before old first third → PutsBackInStore old new (with_text first text) → OneOut before new third
first_back before old new first third text o puts = record {
  lent = o.c;
  lents = ap lents_of puts.rest ∙ ap (without puts.at) o.lents ∙ gone_later o.c (o.a ∷ before) before puts.at (λ e. o.ca (e ∙ at)) (gone_here o.a before puts.at at);
  is = kept old new third o.c (puts.unmoved third.name.0) o.third_is;
} where
  at : puts.at ≡ o.a.at
  at = back_at old new (with_text first text) o.a puts (written_is old first o.a text o.first_is)

one_back : (before : List Lent) (old new : Memory) (loan : OnLoan) → OneOut before old loan → PutsBackInStore old new loan → new.lents ≡ before
one_back before old new loan o puts = ap lents_of puts.rest ∙ ap (without puts.at) o.lents ∙ gone_here o.lent before puts.at (back_at old new loan o.lent puts o.is)

-- ---- what is under their names

-- one name's bytes stay while another's are filled
other_stays : (old new : Memory) (name other : ℕ) (bytes : List ℕ) → LeavesChanged old new (λ store. data_filled store name bytes) → other ≢ name → bytes_of ((store_of new.bytes).map other) ≡ bytes_of ((store_of old.bytes).map other)
other_stays old new name other bytes leaves differs = ap bytes_of (leaves.same.map other ∙ ap (λ (c : Bool). if c then changed (λ (live : LiveChunk). record live { bytes = bytes }) ((store_of old.bytes).map name) else (store_of old.bytes).map other) (ne_eqb other name differs))

-- two loans with different places are of different names
names_apart : (memory : Memory) (loan other : OnLoan) (lent lent_other : Lent) (name name_other : Name) → IsOf memory loan lent → IsOf memory other lent_other → loan.name ≡ name → other.name ≡ name_other → lent.at ≢ lent_other.at → name.0 ≢ name_other.0
names_apart memory loan other lent lent_other name name_other is is_other named named_other differs =
    λ same. differs (same_place (sym is.0 ∙ ap (λ (n : Name). place_of memory.bytes n.0) named ∙ ap (place_of memory.bytes) same ∙ ap (λ (n : Name). place_of memory.bytes n.0) (sym named_other) ∙ is_other.0))

has_text : (old from out done back : Memory) (name : Name) (loan : OnLoan) (text : List ℕ) → TakesOutOfStore from out name loan → bytes_of ((store_of from.bytes).map name.0) ≡ bytes_of ((store_of old.bytes).map name.0) → PutsBackInStore done back (with_text loan text) → HasTextOver old back name text
has_text old from out done back name loan text takes same puts =
    subst (λ (n : Name). bytes_of ((store_of back.bytes).map n.0) ≡ text_over loan.part.bytes text) takes.name_is puts.bytes
    ∙ ap (λ (bytes : List ℕ). text_over bytes text) (takes.bytes ∙ same)

second_has : (old out done back : Memory) (notes : Notes) (first second third : OnLoan) (text : List ℕ) → TakesThree old out notes first second third → PutsBackInStore done back (with_text second text) → HasTextOver old back notes.second text
second_has old out done back notes first second third text t puts =
    let o = three_out old out notes first second third t in
    has_text old t.one_out t.two_out done back notes.second second text t.takes_second
    (other_stays old t.one_out notes.first.0 notes.second.0 _ t.takes_first.leaves (names_apart out second first o.b o.a notes.second notes.first o.second_is o.first_is t.takes_second.name_is t.takes_first.name_is o.ba))
    puts

third_has : (old out done back : Memory) (notes : Notes) (first second third : OnLoan) (text : List ℕ) → TakesThree old out notes first second third → PutsBackInStore done back (with_text third text) → HasTextOver old back notes.third text
third_has old out done back notes first second third text t puts =
    let o = three_out old out notes first second third t in
    has_text old t.two_out out done back notes.third third text t.takes_third
    (other_stays t.one_out t.two_out notes.second.0 notes.third.0 _ t.takes_second.leaves (names_apart out third second o.c o.b notes.third notes.second o.third_is o.second_is t.takes_third.name_is t.takes_second.name_is o.cb)
    ∙ other_stays old t.one_out notes.first.0 notes.third.0 _ t.takes_first.leaves (names_apart out third first o.c o.a notes.third notes.first o.third_is o.first_is t.takes_third.name_is t.takes_first.name_is o.ca))
    puts

first_has : (old out done mid new : Memory) (notes : Notes) (first second third : OnLoan) (text : List ℕ) → TakesThree old out notes first second third → PutsBackInStore done mid (with_text first text) → PutsBackInStore mid new (with_text third text) → HasTextOver old new notes.first text
first_has old out done mid new notes first second third text t puts last =
    let o = three_out old out notes first second third t in
    other_stays mid new third.name.0 notes.first.0 _ last.leaves (names_apart out first third o.a o.c notes.first third.name o.first_is o.third_is t.takes_first.name_is refl (λ e. o.ca (sym e)))
    ∙ has_text old old t.one_out done mid notes.first first text t.takes_first refl puts

-- ---- all of it

-- While one is put back, the loan is one with a text written.
puts_written : (old new : Memory) (loan now : OnLoan) (text : List ℕ) → now ≡ with_text loan text → PutsBackInStore old new now → PutsBackInStore old new (with_text loan text)
puts_written old new loan now text is puts = subst (PutsBackInStore old new) is puts

out_written : (memory : Memory) (loan now : OnLoan) (text : List ℕ) → now ≡ with_text loan text → IsOutUnder memory loan.name.0 (with_text loan text).part → IsOutUnder memory now.name.0 now.part
out_written memory loan now text is out = subst (λ (l : OnLoan). IsOutUnder memory l.name.0 l.part) (sym is) out

-- out of a store under a name that is given
under_name : (memory : Memory) (name : Name) (loan : OnLoan) → loan.name ≡ name → IsOutUnder memory loan.name.0 loan.part → IsOutUnder memory name.0 loan.part
under_name memory name loan named out = subst (λ (n : Name). IsOutUnder memory n.0 loan.part) named out

three_done : (old out done : Memory) (notes : Notes) (first second third : OnLoan) → TakesThree old out notes first second third → LoanStays out done → ThreeOut old.lents done first second third
three_done old out done notes first second third takes stays = three_stay old.lents out done first second third (three_out old out notes first second third takes) stays

-- the second is out when it is put back
pub second_out : (old out done : Memory) (notes : Notes) (text : List ℕ) (first second third now : OnLoan) → TakesThree old out notes first second third → LoanStays out done → now ≡ with_text second text → IsOutUnder done now.name.0 now.part
second_out old out done notes text first second third now takes stays is =
    out_written done second now text is (second_under old.lents done first second third text (three_done old out done notes first second third takes stays))

module _ (old out done back again : Memory) (notes : Notes) (text : List ℕ) (first second third second_now first_now : OnLoan)
    (takes : TakesThree old out notes first second third) (stays : LoanStays out done) (second_is : second_now ≡ with_text second text) (puts_second : PutsBackInStore done back second_now)
    (stays_again : LoanStays back again) (first_is : first_now ≡ with_text first text) where
  puts_second_text : PutsBackInStore done back (with_text second text)
  puts_second_text = puts_written done back second second_now text second_is puts_second

  two_back : TwoOut old.lents back first third
  two_back = second_back old.lents done back first second third text (three_done old out done notes first second third takes stays) puts_second_text

  two_again : TwoOut old.lents again first third
  two_again = two_stay old.lents back again first third two_back stays_again

  -- so is the first
  pub first_out : IsOutUnder again first_now.name.0 first_now.part
  first_out = out_written again first first_now text first_is (first_under old.lents again first third text two_again)

  -- and the third
  one_near : (near : Memory) → PutsBackInStore again near first_now → OneOut old.lents near (with_text third text)
  one_near near puts_first = one_written old.lents near third text (first_back old.lents again near first third text two_again (puts_written again near first first_now text first_is puts_first))

  pub third_out : (near : Memory) (third_now : OnLoan) → PutsBackInStore again near first_now → third_now ≡ with_text third text → IsOutUnder near third_now.name.0 third_now.part
  third_out near third_now puts_first third_is = out_written near third third_now text third_is (one_under old.lents near (with_text third text) (one_near near puts_first))

  -- At the end all are back, and each name has its text.
  pub none_left : (near new : Memory) (third_now : OnLoan) → PutsBackInStore again near first_now → third_now ≡ with_text third text → PutsBackInStore near new third_now → new.lents ≡ old.lents
  none_left near new third_now puts_first third_is puts_third = one_back old.lents near new (with_text third text) (one_near near puts_first) (puts_written near new third third_now text third_is puts_third)

  pub first_text : (near new : Memory) (third_now : OnLoan) → PutsBackInStore again near first_now → third_now ≡ with_text third text → PutsBackInStore near new third_now → HasTextOver old new notes.first text
  first_text near new third_now puts_first third_is puts_third = first_has old out again near new notes first second third text takes (puts_written again near first first_now text first_is puts_first) (puts_written near new third third_now text third_is puts_third)

  pub third_text : (near new : Memory) (third_now : OnLoan) → third_now ≡ with_text third text → PutsBackInStore near new third_now → HasTextOver old new notes.third text
  third_text near new third_now third_is puts_third = third_has old out near new notes first second third text takes (puts_written near new third third_now text third_is puts_third)

  pub fills : (near new : Memory) (third_now : OnLoan) (calls : List Call) (before after : List Reply) → PutsBackInStore again near first_now → third_now ≡ with_text third text → PutsBackInStore near new third_now → RunsOnLoan out calls before done → RunsOnLoan back calls after again → FillsMeanwhile old notes text calls before after new
  fills near new third_now calls before after puts_first third_is puts_third runs runs_again = record {
    first = first;
    second = second;
    third = third;
    out = out;
    takes = takes;
    done = done;
    runs = runs;
    second_back = back;
    puts_second = puts_second_text;
    second_has = second_has old out done back notes first second third text takes puts_second_text;
    first_stays = under_name back notes.first first takes.takes_first.name_is (subst (SomeLent (IsOf back first)) (sym two_back.lents) (inr (inl two_back.first_is)));
    third_stays = under_name back notes.third third takes.takes_third.name_is (subst (SomeLent (IsOf back third)) (sym two_back.lents) (inl two_back.third_is));
    done_again = again;
    runs_again = runs_again;
    first_back = near;
    puts_first = puts_written again near first first_now text first_is puts_first;
    puts_third = puts_written near new third third_now text third_is puts_third;
  }
