use Rattle.sm_law_agree.proofs.WitnessLemmas.{circles_are}
use Rattle.sm_law_agree.proofs.witnesses.circles.Goals as goal

pub returns : goal.returns
returns c = circles_are
