use Rattle.std.proofs.Common.{ℕ, ◌+◌, arith, ap, length, List, map, take}
use Rattle.std.specs.Prelude.{All, slice_index_or}
use Rattle.std.proofs.lemmas.List.{length-map}
use Rattle.sm_report.specs.Heads.{HeadData}
use Rattle.sm_report.specs.Lines.{LineData, line_of}
use Rattle.sm_check_clauses.specs.Judges.{IsOwnLine}
use Rattle.sm_check_clauses.specs.Judging.{answer}
use Rattle.sm_check_clauses.specs.Flows.{WeightHolds}
use Rattle.sm_check_clauses.specs.Walking.{FindsOrKeeps}
use Rattle.sm_check_clauses.proofs.AnswerLemmas.{hold_more, verdict_no, verdict_yes}
use Rattle.sm_check_weight.specs.Kept.{IsJudgeOf}
use Rattle.sm_check_weight.specs.Order.{AreNeedsInOrder}
use Rattle.sm_check_weight.proofs.JudgeLemmas.{stands_at, to_own, of_own}
use Rattle.sm_check_weight.proofs.judging.weight_verdict.Goals as goal

pub find_fault-requires-clause-within : goal.find_fault-requires-clause-within
find_fault-requires-clause-within c =
    let same = ap (λ (ls : List LineData). length ls) c.loop-k.invariant.known.lines_are in
    omega (arith, same, length-map c.loop-k.judge.lines.now line_of, length-map c.args.lines.now line_of, c.loop-k-test.true)

pub find_fault-requires-clause-own : goal.find_fault-requires-clause-own
find_fault-requires-clause-own c = to_own c.loop-k.invariant.known (λ w by lines. All (IsOwnLine (answer w (HeadData.Weight by))) lines) c.requires.own

pub find_fault-requires-clause-in_order : goal.find_fault-requires-clause-in_order
find_fault-requires-clause-in_order c = to_own c.loop-k.invariant.known (λ w by lines. AreNeedsInOrder w lines) c.requires.in_order

pub find_fault-requires-clause-known : goal.find_fault-requires-clause-known
find_fault-requires-clause-known c = to_own c.loop-k.invariant.known (λ w by lines. IsJudgeOf w by lines c.loop-k.k c.loop-k.judge) c.loop-k.invariant.known

pub returns-in-Some : goal.returns-in-Some
returns-in-Some c =
    let lines = map line_of c.args.lines.now in
    let k : ℕ = c.loop-k.k in
    let at = stands_at c.args.lines.now k c.loop-k-test.true in
    let found = of_own c.loop-k.invariant.known (λ w by ls. FindsOrKeeps (WeightHolds w by (take k ls) (slice_index_or ls k LineData.End)) (IsJudgeOf w by ls (k + 1) c.find_fault.new.self) c.in_ok-why.field-0) c.in_ok-why.ensures.found in
    verdict_no (slice_index_or lines k LineData.End) c.in-Some.why c.args.first_line c.loop-k.invariant.above at (rw c.in-Some.is at found)

pub loop-k-preserved : goal.loop-k-preserved
loop-k-preserved c =
    let lines = map line_of c.args.lines.now in
    let k : ℕ = c.loop-k.k in
    let at = stands_at c.args.lines.now k c.loop-k-test.true in
    let found = of_own c.loop-k.invariant.known (λ w by ls. FindsOrKeeps (WeightHolds w by (take k ls) (slice_index_or ls k LineData.End)) (IsJudgeOf w by ls (k + 1) c.find_fault.new.self) c.in_ok-why.field-0) c.in_ok-why.ensures.found in
    let here = rw c.in_default.is at found in
    record {
      above = hold_more (slice_index_or lines k LineData.End) c.loop-k.invariant.above at here.0;
      known = here.1;
    }

pub returns : goal.returns
returns c =
    let long = length-map c.args.lines.now line_of in
    let past = c.loop-k-test.false in
    verdict_yes c.loop-k.k c.args.first_line c.loop-k.invariant.above (omega (arith, long, past))
