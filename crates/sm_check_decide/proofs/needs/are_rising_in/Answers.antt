use Rattle.sm_check_decide.proofs.AmongLemmas.{rising_more, among_more}
use Rattle.sm_check_decide.proofs.needs.are_rising_in.Goals as goal

pub loop-a-preserved : goal.loop-a-preserved
loop-a-preserved c = record {
  rising = rising_more c.args.needs.now c.loop-a.a c.loop-a.invariant.rising (c.is_risen.ensures.0 c.if-not-is_risen.false);
  among = among_more c.args.needs.now c.args.found.now.items c.loop-a.a c.loop-a.invariant.among (c.is_among.ensures.0 c.if-not-is_among.false);
}
