use Rattle.std.proofs.Common.{◌∙◌, sym, arith}
use Rattle.sm_text.specs.Slices.{texts_of}
use Rattle.sm_keys.proofs.RepeatLemmas.{repeated_in_class, differ_in_classes}
use Rattle.sm_keys.proofs.repeats.is_repeated_by_class.Goals as goal

pub returns-then-branch : goal.returns-then-branch
returns-then-branch c =
    let all = c.requires.classes in
    sym (repeated_in_class all.class_of c.classes.class (texts_of c.args.names.now) (sym (c.in_ok-is_repeated_in.ensures all.class_of all.each) ∙ c.if-branch.true))

pub returns : goal.returns
returns c =
    let all = c.requires.classes in
    sym (differ_in_classes all.class_of c.args.count all.few (texts_of c.args.names.now)
    (λ k below. c.classes.invariant all.class_of all.each k (omega (arith, below, c.classes-test.false))))
