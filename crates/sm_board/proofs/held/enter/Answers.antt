use Rattle.std.proofs.Common.{take, set, sym, subst, arith, true}
use Rattle.std.proofs.lemmas.List.{take_more_set}
use Rattle.sm_board.specs.Growing.{IsLogOf}
use Rattle.sm_board.proofs.GrowLemmas.{log_grows}
use Rattle.sm_board.proofs.held.enter.Goals as goal

pub returns-clause-held : goal.returns-clause-held
returns-clause-held c = λ b w.
    subst (λ log. IsLogOf b log (set c.args.members.now c.args.x true)) (sym (take_more_set c.args.log.now c.args.count c.args.x c.requires.room))
    (log_grows b (take c.args.count c.args.log.now) c.args.members.now c.args.x w (omega (arith, c.requires.number, w.one_each)) c.requires.fresh)
