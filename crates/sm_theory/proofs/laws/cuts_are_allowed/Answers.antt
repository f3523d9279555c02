use Rattle.sm_theory.proofs.Net.Cuts.{cuts_are_allowed}
use Rattle.sm_theory.proofs.laws.cuts_are_allowed.Goals as goal

pub returns : goal.returns
returns c = cuts_are_allowed
