use Rattle.std.proofs.Common.{ℕ, ◌++◌, ◌∷◌, [], ◌∙◌, sym, ap, List, Vec, map, take, pred}
use Rattle.std.specs.declared.alloc.Global.{Global}
use Rattle.std.proofs.lemmas.List.{map_push}
use Rattle.sm_lists.specs.Rows.{rows_of}
use Rattle.sm_report.specs.Lines.{line_of}
use Rattle.sm_check_clauses.specs.Said.{needs_in, all_needs_in}
use Rattle.sm_check_weight.proofs.SaidLemmas.{next_said, next_unsaid, needs_in-none}
use Rattle.sm_check_weight.proofs.gains.all_needs.Goals as goal
use Rattle.sm_check_weight.proofs.gains.all_needs.Goals.{in-Needs+in_ok-from_zero+in_ok-push, in_default}

pub loop-line-preserved : goal.loop-line-preserved
loop-line-preserved c =
    let i : ℕ = c.loop-line.line-index in
    let lines = c.args.lines.now in
    let x = c.line-item.result in
    let before = all_needs_in (map line_of (take i lines)) in
    elim c.match-line.branch [
      | in-Needs+in_ok-from_zero+in_ok-push w ↦
          let less = w.in_ok-from_zero.field-0 in
          let needed = w.in-Needs.needed.items in
          rw w.needs-is (
          ap rows_of w.in_ok-push.ensures.items ∙ map_push (λ (v : Vec ℕ Global). v.items) c.loop-line.needs.items less
          ∙ ap (λ (xs : List (List ℕ)). xs ++ less.items ∷ []) c.loop-line.invariant
          ∙ ap (λ (ys : List ℕ). before ++ ys ∷ []) (w.in_ok-from_zero.ensures ∙ ap (map pred) w.deref.ensures.value)
          ∙ sym (next_said needs_in lines i x c.loop-line-test.true c.line-item.is (map pred needed) (ap (λ y. needs_in (line_of y)) w.in-Needs.is))
          )
      | in_default w ↦ rw w.needs-is (c.loop-line.invariant ∙ sym (next_unsaid needs_in lines i x c.loop-line-test.true c.line-item.is (needs_in-none x w.in_default.not-Needs)))
    ]
