use Rattle.sm_check_clauses.proofs.WalkLemmas.{begun}
use Rattle.sm_check_answers.proofs.rotations.RotationsJudge.behind_fault.Goals as goal

pub find_fault-requires-clause-known : goal.find_fault-requires-clause-known
find_fault-requires-clause-known c = record {
  above = c.requires.known.above;
  known = begun c.args.self.now.market.now c.requires.market c.requires.known.known c.in_ok-first.first.places c.in_ok-first.ensures.places _ c.in_ok-walk.ensures.walk c.in_ok-walk.ensures.going;
}

pub returns-clause-found : goal.returns-clause-found
returns-clause-found c = λ above k.
    c.in_ok-why.ensures above
    (begun c.args.self.now.market.now c.requires.market k c.in_ok-first.first.places c.in_ok-first.ensures.places c.in_ok-walk.walk c.in_ok-walk.ensures.walk c.in_ok-walk.ensures.going)
