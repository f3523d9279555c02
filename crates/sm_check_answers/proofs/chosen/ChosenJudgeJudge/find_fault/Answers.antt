use Rattle.std.proofs.Common.{ℕ, ◌∙◌, List, Option, refl, sym, subst}
use Rattle.sm_instance.specs.Matching.{IsAssignment}
use Rattle.sm_instance.specs.Stable.{IsStable}
use Rattle.std.proofs.lemmas.Bool.{false≢true}
use Rattle.sm_report.specs.Lines.{LineData, line_of}
use Rattle.sm_check_clauses.specs.declared.verdicts.Reason.TheVariants as reason
use Rattle.sm_check_clauses.specs.Pairs.{IsWanted, AreAllThere}
use Rattle.sm_check_clauses.specs.Said.{pairs_in, lefts_in, rights_in}
use Rattle.sm_check_answers.proofs.ChosenLemmas.{wanted_assigned, to_clauses, of_clauses, left_holds, right_holds, pair_holds, end_before, end_holds, left_kept, right_kept, pair_kept, other_kept, others_hold, others_say, wanted_is}
use Rattle.sm_check_answers.proofs.chosen.ChosenJudgeJudge.find_fault.Goals as goal

pub add-requires-clause-wanted : goal.add-requires-clause-wanted
add-requires-clause-wanted c = subst (IsAssignment c.args.self.now.instance.now) (sym c.deref.ensures.value) (wanted_assigned _ _ _ _ _ _ _ c.requires.known.known)

pub are_all_there-requires-clause-wanted : goal.are_all_there-requires-clause-wanted
are_all_there-requires-clause-wanted c = subst (IsAssignment c.args.self.now.instance.now) (sym c.deref-in-End.ensures.value) (wanted_assigned _ _ _ _ _ _ _ c.requires.known.known)

pub returns-then-not-are_all_there-clause-found : goal.returns-then-not-are_all_there-clause-found
returns-then-not-are_all_there-clause-found c = λ above k.
    let w = c.args.self.now.instance.now in
    let choice = c.args.self.now.choice in
    let left = subst (IsStable w) k.lefts.places (c.is_unblocked.ensures.0 c.if-not-is_unblocked.false) in
    let right = subst (IsStable w) k.rights.places (c.is_unblocked-in-End.ensures.0 c.if-not-is_unblocked-2.false) in
    let same = c.deref-in-End.ensures.value ∙ wanted_is choice w above _ _ _ _ k in
    rw c.in-End.is (record {
      clauses_before = λ other l. to_clauses choice w above LineData.End other (end_before choice w (lefts_in above) (rights_in above) (pairs_in above) left right other l);
      fails = λ h.
          let all = (of_clauses choice w above LineData.End reason.WrongPair h).1.1 refl in
          false≢true ((c.if-not-are_all_there.ensures (pairs_in above) k.pairs).1 (subst (λ (m : List (Option ℕ)). AreAllThere m (pairs_in above)) (sym same) all));
    })

pub returns-else-not-joins-clause-found : goal.returns-else-not-joins-clause-found
returns-else-not-joins-clause-found c = λ above k.
    let j = c.if-not-joins.ensures (lefts_in above) k.lefts in
    let w = c.args.self.now.instance.now in
    let inside = (rw c.in-LeftPair.is at c.requires.own.right).printable.0 in
    rw c.in-LeftPair.is (
      (λ why. to_clauses c.args.self.now.choice w above (LineData.LeftPair c.in-LeftPair.p c.in-LeftPair.r) why
          (left_holds c.args.self.now.choice w (lefts_in above) (rights_in above) (pairs_in above) c.in-LeftPair.p c.in-LeftPair.r j.free why)),
      left_kept c.args.self.now.choice w above c.args.self.now.left c.args.self.now.right c.args.self.now.wanted.items c.args.self.now.stood.stood.items k
          c.joins.new.holding c.in-LeftPair.p c.in-LeftPair.r c.chosen_at.result inside j c.chosen_at.ensures,
    )

pub returns-else-not-joins-2-clause-found : goal.returns-else-not-joins-2-clause-found
returns-else-not-joins-2-clause-found c = λ above k.
    let j = c.if-not-joins-2.ensures (rights_in above) k.rights in
    let w = c.args.self.now.instance.now in
    let inside = (rw c.in-RightPair.is at c.requires.own.right).printable.0 in
    rw c.in-RightPair.is (
      (λ why. to_clauses c.args.self.now.choice w above (LineData.RightPair c.in-RightPair.p c.in-RightPair.r) why
          (right_holds c.args.self.now.choice w (lefts_in above) (rights_in above) (pairs_in above) c.in-RightPair.p c.in-RightPair.r j.free why)),
      right_kept c.args.self.now.choice w above c.args.self.now.left c.args.self.now.right c.args.self.now.wanted.items c.args.self.now.stood.stood.items k
          c.joins-in-RightPair.new.holding c.in-RightPair.p c.in-RightPair.r c.chosen_at-in-RightPair.result inside j c.chosen_at-in-RightPair.ensures,
    )

pub returns-else-not-add-clause-found : goal.returns-else-not-add-clause-found
returns-else-not-add-clause-found c = λ above k.
    let s = c.if-not-add.ensures.stands (pairs_in above) k.pairs in
    let w = c.args.self.now.instance.now in
    let same = c.deref.ensures.value ∙ wanted_is c.args.self.now.choice w above _ _ _ _ k in
    rw c.in-Pair.is (
      (λ why. to_clauses c.args.self.now.choice w above (LineData.Pair c.in-Pair.p c.in-Pair.r) why
          (pair_holds c.args.self.now.choice w (lefts_in above) (rights_in above) (pairs_in above) c.in-Pair.p c.in-Pair.r
          (subst (λ (m : List (Option ℕ)). IsWanted w m (pairs_in above) (c.in-Pair.p, c.in-Pair.r)) same s.wants) why)),
      pair_kept c.args.self.now.choice w above c.args.self.now.left c.args.self.now.right c.args.self.now.wanted.items c.args.self.now.stood.stood.items k
          c.add.new.self.stood.items c.in-Pair.p c.in-Pair.r s.stood,
    )

pub returns-else-not-are_all_there-clause-found : goal.returns-else-not-are_all_there-clause-found
returns-else-not-are_all_there-clause-found c = λ above k.
    let w = c.args.self.now.instance.now in
    let choice = c.args.self.now.choice in
    let left = subst (IsStable w) k.lefts.places (c.is_unblocked.ensures.0 c.if-not-is_unblocked.false) in
    let right = subst (IsStable w) k.rights.places (c.is_unblocked-in-End.ensures.0 c.if-not-is_unblocked-2.false) in
    let same = c.deref-in-End.ensures.value ∙ wanted_is choice w above _ _ _ _ k in
    let all = subst (λ (m : List (Option ℕ)). AreAllThere m (pairs_in above)) same ((c.if-not-are_all_there.ensures (pairs_in above) k.pairs).0 refl) in
    rw c.in-End.is (
      (λ why. to_clauses choice w above LineData.End why (end_holds choice w (lefts_in above) (rights_in above) (pairs_in above) left right all why)),
      other_kept choice w above _ _ _ _ k LineData.End refl refl refl,
    )

pub returns-in_default : goal.returns-in_default
returns-in_default c = record {
  subject = refl;
  found = λ above k.
      let w = c.args.self.now.instance.now in
      let choice = c.args.self.now.choice in
      let said = others_say c.args.line.now c.in_default.not-LeftPair c.in_default.not-RightPair c.in_default.not-Pair in (
        (λ why. to_clauses choice w above (line_of c.args.line.now) why
            (others_hold choice w (lefts_in above) (rights_in above) (pairs_in above) c.args.line.now c.in_default.not-LeftPair c.in_default.not-RightPair c.in_default.not-Pair c.in_default.not-End why)),
        other_kept choice w above _ _ _ _ k (line_of c.args.line.now) said.0 said.1 said.2,
      );
}
