use Rattle.std.proofs.Common.{◌+◌, drop, ap, ◌∙◌, sym, subst, arith}
use Rattle.sm_text.specs.Lines.{lines}
use Rattle.sm_text.specs.Tokens.{tokens}
use Rattle.sm_agents.specs.Named.{nothing}
use Rattle.sm_reader.specs.InstanceText.{behind_header, ended}
use Rattle.sm_reader.specs.Draft.{said_of}
use Rattle.sm_reader.specs.Reading.{IsFaultOf}
use Rattle.sm_reader.specs.Right.{IsRight}
use Rattle.sm_reader.proofs.ReadingLemmas.{goes_step, stops_step, refuses_step, same_fault}
use Rattle.sm_reader.proofs.RightLemmas.{nothing_right, goes_right}
use Rattle.sm_reader.proofs.ResultLemmas.{on_err}
use Rattle.sm_reader.proofs.reading.judge_lines.Goals as goal

pub lines-init : goal.lines-init
lines-init c =
    let h = c.args.header in
    record {
      means = ap (λ s. behind_header h.kind h.format h.line s (h.line + 1) h.next (lines (drop h.next c.args.bytes.now))) c.requires.said;
      right = subst (IsRight h.kind) (sym c.requires.said) (nothing_right h.kind);
      draft = c.requires.draft;
      fits = omega (arith, c.requires.headed.fits);
      within = c.requires.headed.within;
    }

pub lines-preserved : goal.lines-preserved
lines-preserved c =
    let h = c.args.header in
    let bytes = c.args.bytes.now in
    let said = said_of h.kind c.lines.draft in
    let judged = rw c.in-Goes.is at c.in_ok-judge_line.ensures.judged in
    record {
      means = sym (goes_step bytes c.in-Some.text.now c.lines.at c.in-Some.next c.in-Some.ensures.line h.kind h.format h.line said c.lines.line (said_of h.kind c.judge_line.new.draft) judged.0)
          ∙ c.lines.invariant.means;
      draft = judged.1;
      right = goes_right h.kind h.format said c.lines.line (tokens c.in-Some.text.now) (said_of h.kind c.judge_line.new.draft) c.lines.invariant.right judged.0;
      fits = omega (arith, c.lines.invariant.fits, c.in-Some.ensures.later);
      within = c.in-Some.ensures.within;
    }

pub returns-in_err-judge_line-clause-fault : goal.returns-in_err-judge_line-clause-fault
returns-in_err-judge_line-clause-fault c =
    let h = c.args.header in
    let bytes = c.args.bytes.now in
    let said = said_of h.kind c.lines.draft in
    let meaning = behind_header h.kind h.format h.line nothing (h.line + 1) h.next (lines (drop h.next bytes)) in
    let f = c.in_err-judge_line.field-0.0 in
    on_err (IsFaultOf meaning) c.from_residual.result f c.from_residual.ensures.1
    (same_fault meaning (behind_header h.kind h.format h.line said c.lines.line c.lines.at (lines (drop c.lines.at bytes))) f (sym c.lines.invariant.means)
    (refuses_step bytes c.in-Some.text.now c.lines.at c.in-Some.next c.in-Some.ensures.line h.kind h.format h.line said c.lines.line f c.in_err-judge_line.ensures.refused))

pub returns-in-Stops-clause-ends : goal.returns-in-Stops-clause-ends
returns-in-Stops-clause-ends c =
    let h = c.args.header in
    let bytes = c.args.bytes.now in
    let said = said_of h.kind c.lines.draft in
    let judged = rw c.in-Stops.is at c.in_ok-judge_line.ensures.judged in
    record {
      means = sym c.lines.invariant.means
          ∙ stops_step bytes c.in-Some.text.now c.lines.at c.in-Some.next c.in-Some.ensures.line h.kind h.format h.line said c.lines.line judged.0
          ∙ ap (λ s. ended h.kind h.line s c.in-Some.next (c.lines.line + 1)) (sym judged.1);
      ready = record {
        line = c.lines.line;
        draft = judged.2;
        right = subst (IsRight h.kind) (sym judged.1) c.lines.invariant.right;
        few = omega (arith, c.requires.short, c.lines.invariant.fits, c.lines.invariant.within);
      };
      within = c.in-Some.ensures.within;
    }
