use Rattle.sm_check_clauses.proofs.WalkLemmas.{none_rotated}
use Rattle.sm_check_answers.proofs.rotations.RotationsJudge.moves.Goals as goal

pub returns-in-None : goal.returns-in-None
returns-in-None c = λ above k. none_rotated (rw c.in-None.is at k)
