use Rattle.sm_least.proofs.GateLemmas.{divided_at}
use Rattle.sm_least.proofs.ranks.first_place.Goals as goal

pub returns-then-is_first : goal.returns-then-is_first
returns-then-is_first c =
    let yes = c.if-is_first.true in
    divided_at c.args.levels.now c.args.level c.args.guess c.requires (c.is_first.ensures.on_list yes) (c.is_first.ensures.high yes) (c.is_first.ensures.before yes)
