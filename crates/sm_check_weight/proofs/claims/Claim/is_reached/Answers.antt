use Rattle.sm_check_weight.proofs.claims.Claim.is_reached.Goals as goal

pub returns-in-Some : goal.returns-in-Some
returns-in-Some c = rw c.in-Some.is (rw (c.said.ensures, c.deref.ensures.value) at c.is_residual_reach.ensures)

pub returns-in-None : goal.returns-in-None
returns-in-None c = rw c.in-None.is (rw (c.said-in-None.ensures, c.deref-in-None.ensures.value) at c.is_residual_reach-in-None.ensures)
