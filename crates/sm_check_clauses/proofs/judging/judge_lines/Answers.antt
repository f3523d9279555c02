use Rattle.std.proofs.Common.{◌∙◌, ◌++◌, ◌∷◌, [], arith, map, sym, subst, take}
use Rattle.std.proofs.lemmas.List.{length-map}
use Rattle.sm_report.specs.Lines.{line_of}
use Rattle.sm_check_clauses.specs.Judges.{IsOwnLine}
use Rattle.sm_check_clauses.specs.Judging.{Clauses}
use Rattle.sm_check_clauses.specs.Walking.{FindsOrKeeps}
use Rattle.sm_check_clauses.proofs.JudgingLemmas.{line_at, above_next}
use Rattle.sm_check_clauses.proofs.AnswerLemmas.{line_right, hold_more, verdict_no, verdict_yes}
use Rattle.sm_check_clauses.proofs.judging.judge_lines.Goals as goal

pub find_fault-requires-clause-own : goal.find_fault-requires-clause-own
find_fault-requires-clause-own g c =
    subst (λ s. IsOwnLine s (line_of c.index-lines-k.result)) (sym c.loop-k.invariant.subject)
    (line_right (IsOwnLine (g.J.Judge.subject c.args.judge)) c.args.lines.now c.loop-k.k c.index-lines-k.result c.loop-k-test.true c.index-lines-k.is c.requires.own)

pub returns-in-Some : goal.returns-in-Some
returns-in-Some g c =
    let lines = map line_of c.args.lines.now in
    let x = line_of c.index-lines-k.result in
    let above = take c.loop-k.k lines in
    let at = line_at c.args.lines.now c.loop-k.k c.index-lines-k.result c.loop-k-test.true c.index-lines-k.is in
    let found = subst (λ s. FindsOrKeeps (Clauses s above x) (g.J.Judge.knows c.find_fault.new.self (above ++ x ∷ [])) c.in_ok-why.field-0) c.loop-k.invariant.subject
    (c.in_ok-why.ensures.found above c.loop-k.invariant.knows) in
    verdict_no x c.in-Some.why c.args.first_line c.loop-k.invariant.above at (rw c.in-Some.is at found)

pub loop-k-preserved : goal.loop-k-preserved
loop-k-preserved g c =
    let lines = map line_of c.args.lines.now in
    let x = line_of c.index-lines-k.result in
    let above = take c.loop-k.k lines in
    let at = line_at c.args.lines.now c.loop-k.k c.index-lines-k.result c.loop-k-test.true c.index-lines-k.is in
    let found = subst (λ s. FindsOrKeeps (Clauses s above x) (g.J.Judge.knows c.find_fault.new.self (above ++ x ∷ [])) c.in_ok-why.field-0) c.loop-k.invariant.subject
    (c.in_ok-why.ensures.found above c.loop-k.invariant.knows) in
    let here = rw c.in_default.is at found in
    record {
      subject = c.in_ok-why.ensures.subject ∙ c.loop-k.invariant.subject;
      above = hold_more x c.loop-k.invariant.above at here.0;
      knows = subst (g.J.Judge.knows c.find_fault.new.self) (sym (above_next lines c.loop-k.k x at)) here.1;
    }

pub returns : goal.returns
returns g c =
    let long = length-map c.args.lines.now line_of in
    let past = c.loop-k-test.false in
    verdict_yes c.loop-k.k c.args.first_line c.loop-k.invariant.above (omega arith)
