use Rattle.std.proofs.Common.{◌≡◌, ap, ◌∙◌, sym, subst, drop}
use Rattle.sm_text.specs.Tokens.{tokens}
use Rattle.sm_text.specs.Slices.{texts_of}
use Rattle.sm_reader.specs.Judging.{goes, verdict_on}
use Rattle.sm_reader.specs.Draft.{said_of, said_ordered, KeepsOrder, IsJudged, IsRefusedBy}
use Rattle.sm_reader.specs.declared.draft.Draft.{Draft}
use Rattle.sm_reader.proofs.EnoughLemmas.{verdict_enough}
use Rattle.sm_reader.proofs.MasterLemmas.{order_said, order_kept}
use Rattle.sm_reader.proofs.ResultLemmas.{on_err}
use Rattle.sm_reader.proofs.reading.judge_tokens.Goals as goal

pub returns-in_err-judge-clause-refused : goal.returns-in_err-judge-clause-refused
returns-in_err-judge-clause-refused c =
    let h = c.args.header in
    let said = said_of h.kind c.args.draft.now in
    let all = tokens c.args.text.now in
    let same : verdict_on h.kind h.format said c.args.line (texts_of c.deref.result.now) ≡ verdict_on h.kind h.format said c.args.line all =
    ap (λ xs. verdict_on h.kind h.format said c.args.line (texts_of xs)) c.deref.ensures.value ∙ verdict_enough _ _ c.in_ok-found.ensures.enough h.kind h.format said c.args.line in
    let f = c.in_err-judge.field-0.0 in
    on_err (IsRefusedBy (verdict_on h.kind h.format said c.args.line all) c.args.line) c.from_residual-in_err-judge.result f c.from_residual-in_err-judge.ensures.1
    (subst (λ v. IsRefusedBy v c.args.line f) same c.in_err-judge.ensures.refused)

pub returns-in-Added-clause-judged : goal.returns-in-Added-clause-judged
returns-in-Added-clause-judged c =
    let h = c.args.header in
    let old = c.args.draft.now in
    let said = said_of h.kind old in
    let kept = texts_of c.deref.result.now in
    let same : verdict_on h.kind h.format said c.args.line kept ≡ verdict_on h.kind h.format said c.args.line (tokens c.args.text.now) =
    ap (λ xs. verdict_on h.kind h.format said c.args.line (texts_of xs)) c.deref.ensures.value ∙ verdict_enough _ _ c.in_ok-found.ensures.enough h.kind h.format said c.args.line in
    let judged = subst (IsJudged h.kind h.format c.args.line kept old c.judge.new.draft) c.in-Added.is c.in_ok-judge.ensures.judged in
    (sym same ∙ judged.0, judged.1)

pub returns-in-Orders-clause-judged : goal.returns-in-Orders-clause-judged
returns-in-Orders-clause-judged c =
    let h = c.args.header in
    let old = c.args.draft.now in
    let said = said_of h.kind old in
    let kept = texts_of c.deref.result.now in
    let line = c.args.line in
    let same : verdict_on h.kind h.format said line kept ≡ verdict_on h.kind h.format said line (tokens c.args.text.now) =
    ap (λ xs. verdict_on h.kind h.format said line (texts_of xs)) c.deref.ensures.value ∙ verdict_enough _ _ c.in_ok-found.ensures.enough h.kind h.format said line in
    let judged = subst (IsJudged h.kind h.format line kept old c.judge.new.draft) c.in-Orders.is c.in_ok-judge.ensures.judged in
    let cut = texts_of c.cut_enough.new.into.items in
    let keeps = subst (λ (d : Draft). KeepsOrder line cut d c.keep_order.new.draft) judged.1 c.keep_order.ensures in (
      sym same ∙ judged.0 ∙ ap (λ xs. goes (said_ordered said line (drop 1 (texts_of xs)))) c.deref.ensures.value ∙ ap (λ s. goes s) (sym (order_said h.kind line old c.keep_order.new.draft cut keeps)),
      order_kept h.kind line old c.keep_order.new.draft cut c.requires keeps,
    )

pub returns-in-Ends-clause-judged : goal.returns-in-Ends-clause-judged
returns-in-Ends-clause-judged c =
    let h = c.args.header in
    let old = c.args.draft.now in
    let said = said_of h.kind old in
    let kept = texts_of c.deref.result.now in
    let same : verdict_on h.kind h.format said c.args.line kept ≡ verdict_on h.kind h.format said c.args.line (tokens c.args.text.now) =
    ap (λ xs. verdict_on h.kind h.format said c.args.line (texts_of xs)) c.deref.ensures.value ∙ verdict_enough _ _ c.in_ok-found.ensures.enough h.kind h.format said c.args.line in
    let judged = subst (IsJudged h.kind h.format c.args.line kept old c.judge.new.draft) c.in-Ends.is c.in_ok-judge.ensures.judged in
    (sym same ∙ judged.0, judged.1, judged.2)
