use Rattle.std.proofs.Common.{◌≡◌, ℕ, ◌+◌, [], Option, length, get_or, ap, ◌∙◌, arith}
use Rattle.sm_seats.proofs.RowLemmas.{map_pushed}
use Rattle.sm_agents.specs.Written.{row}
use Rattle.sm_answer_solve.specs.Ends.{end_at}
use Rattle.sm_answer_solve.proofs.ending.ends.Goals as goal

pub loop-p-preserved : goal.loop-p-preserved
loop-p-preserved c =
    let w = c.args.instance.now in
    let p = c.loop-p.p in
    let f : ℕ → Option ℕ = λ q. end_at (length (row w.proposers q)) (get_or c.args.places.now q 0) in
    let e : p ≡ 0 + p = omega arith in
    let at : c.end_at.result ≡ f (0 + p) = c.end_at.ensures ∙ ap (λ n. end_at n (get_or c.args.places.now p 0)) c.proposer_len.ensures.length ∙ ap f e in
    c.in_ok-push.ensures.items ∙ map_pushed f [] c.loop-p.ends.items 0 p c.end_at.result at c.loop-p.invariant
