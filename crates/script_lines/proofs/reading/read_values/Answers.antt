use Rattle.std.proofs.Common.{◌≡◌, ◌+◌, [], drop, ◌∙◌, arith}
use Rattle.script_commands.specs.declared.value.Kind.TheVariants.{Chunk}
use Rattle.script_lines.specs.Kinds.{read_words}
use Rattle.script_lines.specs.Reading.{words_in}
use Rattle.script_lines.specs.Views.{words_read}
use Rattle.script_lines.proofs.ScriptLaws.{added, no_word, not_added, read_bad, read_more, read_short, word_step}
use Rattle.script_lines.proofs.reading.read_values.Goals as goal

pub returns-in_default-clause-err : goal.returns-in_default-clause-err
returns-in_default-clause-err g c = λ _.
    let none : words_in c.loop-kind.rest.now ≡ [] = no_word c.loop-kind.rest.now c.cut_word.result c.cut_word.ensures c.in_default.not-Word c.loop-kind.invariant.whole in
    c.loop-kind.invariant.goes_on ∙ rw none (read_short (c.loop-kind.number + 1) (words_read c.loop-kind.values c.loop-kind.labels) c.args.kinds.now c.loop-kind.kind-index Chunk c.loop-kind-test.true)

pub returns-then-not-is_of_kind-clause-err : goal.returns-then-not-is_of_kind-clause-err
returns-then-not-is_of_kind-clause-err g c = λ _.
    let step = word_step c.loop-kind.rest.now c.in-Word.word.now c.in-Word.behind.now c.in-Word.ensures.0 c.loop-kind.invariant.whole in
    c.loop-kind.invariant.goes_on
    ∙ rw step.1 (read_bad (c.loop-kind.number + 1) (words_read c.loop-kind.values c.loop-kind.labels) c.args.kinds.now c.loop-kind.kind-index Chunk c.in-Word.word.now (words_in c.in-Word.behind.now) c.loop-kind-test.true (not_added _ _ _ c.in-Ok.ensures.adds c.if-not-is_of_kind.true))

pub loop-kind-preserved : goal.loop-kind-preserved
loop-kind-preserved g c =
    let number = c.loop-kind.number + 1 in
    let kinds = c.args.kinds.now in
    let i = c.loop-kind.kind-index in
    let before = words_read c.loop-kind.values c.loop-kind.labels in
    let after = words_read c.add.new.self c.add.new.labels in
    let step = word_step c.loop-kind.rest.now c.in-Word.word.now c.in-Word.behind.now c.in-Word.ensures.0 c.loop-kind.invariant.whole in
    let of_kind = added _ _ _ c.in-Ok.ensures.adds c.if-not-is_of_kind.false in
    let one : read_words number before (drop i kinds) (words_in c.loop-kind.rest.now) ≡ read_words (number + 1) after (drop (i + 1) kinds) (words_in c.in-Word.behind.now) =
    rw step.1 (read_more number before after kinds i Chunk c.in-Word.word.now (words_in c.in-Word.behind.now) c.loop-kind-test.true of_kind) in
    record {
      counted = omega (arith, c.loop-kind.invariant.counted);
      whole = step.0;
      goes_on = c.loop-kind.invariant.goes_on ∙ one;
    }
