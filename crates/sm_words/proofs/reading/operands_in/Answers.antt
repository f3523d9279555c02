use Rattle.std.proofs.Common.{◌+◌, drop, sym, subst}
use Rattle.sm_words.specs.Words.{texts}
use Rattle.sm_words.specs.Kept.{given_of}
use Rattle.sm_words.proofs.WordLemmas.{IsTrying, loop_next, loop_stopped}
use Rattle.sm_words.proofs.reading.operands_in.Goals as goal

pub returns-then-not-branch-clause-fault : goal.returns-then-not-branch-clause-fault
returns-then-not-branch-clause-fault c =
    loop_stopped c.args.command c.loop-word.number (given_of c.loop-word.given) (given_of c.take_word.new.given) c.args.words.now c.loop-word.word-index c.word-item.result c.as_str.result.now c.in_ok-take_word.field-0
    c.loop-word.invariant c.loop-word-test.true c.word-item.is c.as_str.ensures.value c.in_ok-take_word.ensures c.if-not-branch.true

pub loop-word-preserved : goal.loop-word-preserved
loop-word-preserved c =
    subst (λ n. IsTrying c.args.command n (given_of c.take_word.new.given) (texts (drop (c.loop-word.word-index + 1) c.args.words.now)) (texts c.args.words.now)) (sym c.in_ok-number.ensures.next)
    (loop_next c.args.command c.loop-word.number (given_of c.loop-word.given) (given_of c.take_word.new.given) c.args.words.now c.loop-word.word-index c.word-item.result c.as_str.result.now c.in_ok-take_word.field-0
    c.loop-word.invariant c.loop-word-test.true c.word-item.is c.as_str.ensures.value c.in_ok-take_word.ensures c.if-not-branch.false)
