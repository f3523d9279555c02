use Rattle.sm_top.proofs.KindLemmas.{two_weighed, two_unweighed}
use Rattle.sm_top.proofs.performing.show_lightest.Goals as goal

pub returns-in-Some : goal.returns-in-Some
returns-in-Some g c =
    let found = rw c.in-Some.is at c.in_ok-found.ensures in
    rw (← found.0)
    (two_weighed c.in-Some.found.by c.args.given.now.read.now.input c.args.given.now.instance.now _ _ _ _ _ _ c.args.given.now.counted.two c.lightest_lines-lines.ensures.right c.write.ensures)

pub returns : goal.returns
returns g c =
    two_unweighed c.args.by c.args.given.now.read.now.input c.args.given.now.instance.now _ _ _ _ _ _ c.args.given.now.counted.two c.none_lines-nothing.ensures.right c.write-in-None.ensures
