use Rattle.std.proofs.Common.{refl}
use Rattle.sm_holding.proofs.PairLemmas.{none_held}
use Rattle.sm_check_answers.proofs.regret.regret_verdict.Goals as goal

pub judge_lines-requires-clause-knows : goal.judge_lines-requires-clause-knows
judge_lines-requires-clause-knows c = record { pairs = none_held c.args.instance.now _ c.in_ok-none.ensures.places c.in_ok-none.ensures.loads; said = refl }
