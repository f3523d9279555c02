use Rattle.std.proofs.Common.{arith, sym, ap, slice_index}
use Rattle.sm_least.proofs.GateLemmas.{place_on-divided}
use Rattle.sm_least.proofs.ranks.rank_of.Goals as goal

pub bounds-ranks-lower : goal.bounds-ranks-lower
bounds-ranks-lower c = omega (arith, place_on-divided c.args.levels.now c.args.level c.requires.rising c.lower.ensures (omega (arith, c.requires.some, c.requires.few)), c.requires.some)

pub returns : goal.returns
returns c = ap (slice_index c.args.ranks.now) (sym (place_on-divided c.args.levels.now c.args.level c.requires.rising c.lower.ensures (omega (arith, c.requires.some, c.requires.few))))
