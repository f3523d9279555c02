use Rattle.std.proofs.Common.{take, subst, get_or}
use Rattle.std.proofs.lemmas.List.{take_more}
use Rattle.sm_board.specs.Growing.{IsLogOf}
use Rattle.sm_board.proofs.GrowLemmas.{log_falls}
use Rattle.sm_board.proofs.held.leave.Goals as goal

pub returns-clause-held : goal.returns-clause-held
returns-clause-held c = λ b w.
    log_falls b (take c.args.count c.args.log.now) c.args.members.now (get_or c.args.log.now c.args.count 0) (subst (λ log. IsLogOf b log c.args.members.now) (take_more c.args.log.now c.args.count 0 c.requires.some) w)
