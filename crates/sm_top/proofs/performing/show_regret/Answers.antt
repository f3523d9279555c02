use Rattle.sm_top.proofs.KindLemmas.{two_regretted, two_unallowed}
use Rattle.sm_top.proofs.performing.show_regret.Goals as goal

pub returns-in-Some : goal.returns-in-Some
returns-in-Some g c = two_regretted c.args.given.now.read.now.input c.args.given.now.instance.now _ _ _ _ _ _ c.args.given.now.counted.two c.regret_lines-lines.ensures.right c.write.ensures

pub returns : goal.returns
returns g c = two_unallowed c.args.given.now.read.now.input c.args.given.now.instance.now _ _ _ _ _ _ c.args.given.now.counted.two c.none_lines-none.ensures.right c.write-in-None.ensures
