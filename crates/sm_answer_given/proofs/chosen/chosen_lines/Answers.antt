use Rattle.std.proofs.Common.{List, All, subst, sym}
use Rattle.sm_instance.specs.Matching.{IsAssignment}
use Rattle.sm_report.specs.Heads.{head_of}
use Rattle.sm_report.specs.Lines.{LineData}
use Rattle.sm_report.specs.Sound.{IsLineOf}
use Rattle.sm_answer.proofs.AnswerLemmas.{same_some, same_is, joined_some, joined_is, given_right, given_some}
use Rattle.sm_answer_given.specs.Chosen.{IsChosenAnswer}
use Rattle.sm_holding.proofs.ChoiceLemmas.{chosen_assigned}
use Rattle.sm_answer_given.proofs.ChosenLemmas.{lines_sound, lines_right, parts_given, parts_are}
use Rattle.sm_answer_given.proofs.chosen.chosen_lines.Goals as goal

pub invariant_of-result-3 : goal.invariant_of-result-3
invariant_of-result-3 c =
    let w = c.args.instance.now in
    let m = c.args.given.now.left.places.items in
    let n = c.args.given.now.right.places.items in
    record { assigned = subst (IsAssignment w) (sym c.requires.chosen) (chosen_assigned c.args.choice w m n c.requires.left c.requires.right) }

pub returns-clause-right : goal.returns-clause-right
returns-clause-right c texts found =
    let w = c.args.instance.now in
    let m = c.args.given.now.left.places.items in
    let n = c.args.given.now.right.places.items in
    let o = c.args.chosen.now.places.items in
    let head = head_of c.head_for.result in
    given_right _ _ _ (parts_given head w m n o) (joined_is _ _ _ _ (same_is _) (joined_is _ _ _ _ (same_is _) (joined_is _ _ _ _ (same_is _) (joined_is _ _ _ _ (same_is _) (same_is _)))))
    (subst (IsChosenAnswer c.args.choice texts w) (sym (parts_are c.args.choice head w m n o c.head_for.ensures c.requires.chosen)) (lines_right c.args.choice w texts c.args.given.now found))

pub returns-clause-some : goal.returns-clause-some
returns-clause-some c =
    let w = c.args.instance.now in
    let m = c.args.given.now.left.places.items in
    let n = c.args.given.now.right.places.items in
    let o = c.args.chosen.now.places.items in
    let head = head_of c.head_for.result in
    given_some _ _ (parts_given head w m n o) (joined_some _ _ (same_some _) (joined_some _ _ (same_some _) (joined_some _ _ (same_some _) (joined_some _ _ (same_some _) (same_some _)))))
    (joined_is _ _ _ _ (same_is _) (joined_is _ _ _ _ (same_is _) (joined_is _ _ _ _ (same_is _) (joined_is _ _ _ _ (same_is _) (same_is _)))))
    (subst (λ (lines : List LineData). All (IsLineOf c.args.input.now) lines) (sym (parts_are c.args.choice head w m n o c.head_for.ensures c.requires.chosen))
    (lines_sound c.args.choice w m n c.args.input.now c.requires.input c.proposer_count-count.ensures.instance c.requires.left c.requires.right))
