use Rattle.std.proofs.Common.{◌≡◌, ℕ, ◌+◌, ap, ◌∙◌, arith}
use Rattle.sm_seats.proofs.RowLemmas.{map_pushed}
use Rattle.sm_seats.proofs.reviewer_rows.add_names.Goals as goal

pub loop-k-preserved : goal.loop-k-preserved
loop-k-preserved c =
    let k = c.loop-k.k in
    let name : ℕ → ℕ × ℕ = λ j. (c.args.r, j) in
    c.in_ok-push.ensures.items ∙ map_pushed name c.args.seats.now.items c.loop-k.seats.items 1 k (c.args.r, k + 1) (ap name (let e : k + 1 ≡ 1 + k = omega arith in e)) c.loop-k.invariant
