use Rattle.std.proofs.Common.{◌∙◌, ap, map, Some, subst, sym}
use Rattle.std.specs.Prelude.{IfOk}
use Rattle.std.specs.Option.{option_map}
use Rattle.sm_report.specs.Heads.{HeadData, head_of}
use Rattle.sm_report.specs.Lines.{line_of}
use Rattle.sm_check_clauses.specs.Verdicts.{AtLine, IsVerdict}
use Rattle.sm_check_clauses.specs.Judging.{answer, Clauses}
use Rattle.sm_cert.proofs.CheckLemmas.{cursor_each}
use Rattle.sm_cert.proofs.OrderLemmas.{weight_order}
use Rattle.sm_cert.proofs.checking.judge_head.Goals as goal

pub list_verdict-requires-clause-after_each : goal.list_verdict-requires-clause-after_each
list_verdict-requires-clause-after_each c =
    let same = c.requires.head ∙ ap (λ head. Some (head_of head)) c.in-List.is ∙ ap (λ after. Some (HeadData.List after c.in-List.limit)) (sym c.as_deref-after.ensures.value) in
    cursor_each c.args.instance.now (map line_of c.args.lines.now) (λ b. b.now) c.as_deref-after.result c.in-List.limit same c.requires.own

pub list_verdict-requires-clause-own : goal.list_verdict-requires-clause-own
list_verdict-requires-clause-own c = c.requires.own (HeadData.List (option_map (λ b. b.now) c.as_deref-after.result) c.in-List.limit)

pub returns-in-List : goal.returns-in-List
returns-in-List c =
    let same = ap (λ after. HeadData.List after c.in-List.limit) c.as_deref-after.ensures.value ∙ sym (ap head_of c.in-List.is) in
    subst (λ head. IfOk c.list_verdict.result (λ v. IsVerdict (AtLine (Clauses (answer c.args.instance.now head)) (map line_of c.args.lines.now)) c.args.first_line v))
    same c.list_verdict.ensures

pub weight_verdict-requires-clause-in_order : goal.weight_verdict-requires-clause-in_order
weight_verdict-requires-clause-in_order c =
    weight_order c.args.instance.now (map line_of c.args.lines.now) c.requires.placed c.in-Weight.by (c.requires.head ∙ ap (λ head. Some (head_of head)) c.in-Weight.is)
