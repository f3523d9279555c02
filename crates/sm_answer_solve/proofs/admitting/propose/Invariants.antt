use Rattle.std.proofs.Common.{ℕ, ◌-◌}
use Rattle.sm_answer_solve.specs.Admitting.{IsProposing}
use Rattle.sm_answer_solve.proofs.admitting.propose.Given as goal

abbrev pub invariant-loop-seat : goal.invariant-loop-seat
invariant-loop-seat l = (begun : ℕ) → IsProposing l.instance begun l.fn.proposal.reviewer 0 l.fn.proposal.proposer l.fn.proposal.place l.initial.places l.initial.standings
    → IsProposing l.instance begun l.fn.proposal.reviewer (l.seat - l.from) l.away l.offered l.places l.standings
