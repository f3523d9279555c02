use Rattle.sm_check_answers.proofs.RegretLemmas.{found_at_end}
use Rattle.sm_check_answers.proofs.regret.end_fault.Goals as goal

pub returns : goal.returns
returns c = λ pairs k.
    rw (← c.unwrap_or.ensures) (found_at_end c.args.instance.now c.unwrap_or.result pairs c.args.holding.now c.matching_fault.result k c.matching_fault.ensures)
