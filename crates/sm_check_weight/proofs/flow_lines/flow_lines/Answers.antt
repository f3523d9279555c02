use Rattle.std.proofs.Common.{ℕ, ◌≡◌, ◌++◌, ◌∷◌, [], ◌∙◌, sym, ap, refl, List, Option, None, Some, map, take, option_map}
use Rattle.std.proofs.lemmas.List.{map_push}
use Rattle.sm_check_clauses.specs.Flows.{on_nodes}
use Rattle.sm_report.specs.Lines.{line_of}
use Rattle.sm_theory.specs.declared.flow_lines.FlowLine.{FlowLine}
use Rattle.sm_check_weight.specs.FlowClauses.{amount_in, flow_line, flows_of}
use Rattle.sm_check_weight.proofs.SaidLemmas.{next_said, next_unsaid}
use Rattle.sm_check_weight.proofs.flow_lines.flow_lines.Goals as goal
use Rattle.sm_check_weight.proofs.flow_lines.flow_lines.Goals.{in-Some+in_ok-push, in_default}

-- where no ends and amount are given, there are none
none_from : (o : Option (ℕ × ℕ × ℕ)) → ((line : ℕ × ℕ × ℕ) → o ≡ Some line → ⊥) → o ≡ None
none_from None f = refl
none_from (Some line) f = absurd (f line refl)

pub loop-line-preserved : goal.loop-line-preserved
loop-line-preserved c =
    let i : ℕ = c.loop-line.line-index in
    let lines = c.args.lines.now in
    let x = c.line-item.result in
    let f = on_nodes c.args.size in
    let before = flows_of c.args.level (map line_of (take i lines)) in
    elim c.match-amount_in.branch [
      | in-Some+in_ok-push w ↦
          let line = flow_line w.in-Some.from w.in-Some.to w.in-Some.amount in
          let is = sym c.amount_in.ensures ∙ ap (option_map (λ x. flow_line x.0 x.1 x.2)) w.in-Some.is in
          rw w.flow-is (
          w.in_ok-push.ensures.items
          ∙ ap (λ (xs : List FlowLine). xs ++ w.on_nodes.result ∷ []) c.loop-line.invariant
          ∙ ap (λ (y : FlowLine). map f before ++ y ∷ []) w.on_nodes.ensures
          ∙ sym (ap (map f) (next_said (amount_in c.args.level) lines i x c.loop-line-test.true c.line-item.is line is) ∙ map_push f before line)
          )
      | in_default w ↦ rw w.flow-is (c.loop-line.invariant ∙ ap (map f) (sym (next_unsaid (amount_in c.args.level) lines i x c.loop-line-test.true c.line-item.is (sym c.amount_in.ensures ∙ ap (option_map (λ x. flow_line x.0 x.1 x.2)) (none_from c.amount_in.result w.in_default.not-Some)))))
    ]
