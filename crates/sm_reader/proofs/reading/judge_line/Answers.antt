use Rattle.std.proofs.Common.{ap, subst}
use Rattle.sm_text.specs.Tokens.{tokens}
use Rattle.sm_reader.specs.Judging.{verdict_on}
use Rattle.sm_reader.specs.Draft.{said_of, JudgesTokens, IsRefusedBy}
use Rattle.sm_reader.proofs.ResultLemmas.{if_ok, if_err, on_err}
use Rattle.sm_reader.proofs.ListedLemmas.{adds_none, adds_all, agent_goes, agent_refuses, judged_same}
use Rattle.sm_reader.proofs.reading.judge_line.Goals as goal

pub returns-then-branch-clause-judged : goal.returns-then-branch-clause-judged
returns-then-branch-clause-judged c =
    let h = c.args.header in
    let a = c.in-Some.agent in
    let d = c.args.draft.now in
    let new = c.add_line.new.draft in
    agent_goes h.kind h.format c.args.line d a.side c.args.text.now a.name.now a.list.now c.in-Some.ensures new
    (adds_all h.kind c.args.line a.side a.name.now (tokens a.list.now) d new c.in_ok-add_line.field-0 c.if-branch.true c.in_ok-add_line.ensures.added)

pub returns-in_err-add_line-clause-refused : goal.returns-in_err-add_line-clause-refused
returns-in_err-add_line-clause-refused c =
    let h = c.args.header in
    let a = c.in-Some.agent in
    let d = c.args.draft.now in
    let f = c.in_err-add_line.field-0.0 in
    on_err (IsRefusedBy (verdict_on h.kind h.format (said_of h.kind d) c.args.line (tokens c.args.text.now)) c.args.line) c.from_residual.result f c.from_residual.ensures.1
    (agent_refuses h.kind h.format c.args.line d a.side c.args.text.now a.name.now a.list.now c.in-Some.ensures f c.in_err-add_line.ensures.fault)

pub returns-clause-judged : goal.returns-clause-judged
returns-clause-judged c =
    let h = c.args.header in
    let a = c.in-Some.agent in
    let d = c.args.draft.now in
    let mid = c.add_line.new.draft in
    let new = c.judge_tokens-2.new.draft in
    let text = tokens c.args.text.now in
    let kept = adds_none h.kind c.args.line a.side a.name.now (tokens a.list.now) d mid c.in_ok-add_line.field-0 c.if-branch.false c.in_ok-add_line.ensures.added in
    if_ok _ (λ step. JudgesTokens h.kind h.format c.args.line text d new step) c.judge_tokens-2.result c.judge_tokens-2.ensures.judged
    (λ step judged. judged_same h.kind h.format c.args.line text text d mid new step (ap (λ s. verdict_on h.kind h.format s c.args.line text) kept.said) kept.said judged)

pub returns-clause-refused : goal.returns-clause-refused
returns-clause-refused c =
    let h = c.args.header in
    let a = c.in-Some.agent in
    let d = c.args.draft.now in
    let mid = c.add_line.new.draft in
    let text = tokens c.args.text.now in
    let kept = adds_none h.kind c.args.line a.side a.name.now (tokens a.list.now) d mid c.in_ok-add_line.field-0 c.if-branch.false c.in_ok-add_line.ensures.added in
    if_err _ (λ f. IsRefusedBy (verdict_on h.kind h.format (said_of h.kind d) c.args.line text) c.args.line f) c.judge_tokens-2.result c.judge_tokens-2.ensures.refused
    (λ f refused. subst (λ s. IsRefusedBy (verdict_on h.kind h.format s c.args.line text) c.args.line f) kept.said refused)
