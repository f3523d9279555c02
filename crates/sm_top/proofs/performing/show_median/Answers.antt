use Rattle.std.proofs.Common.{refl}
use Rattle.sm_top.proofs.KindLemmas.{two_middle, two_without_middle}
use Rattle.sm_top.proofs.performing.show_median.Goals as goal

pub returns-in-Ok-Some-clause-leaves : goal.returns-in-Ok-Some-clause-leaves
returns-in-Ok-Some-clause-leaves g c = two_middle c.args.given.now.read.now.input c.args.given.now.instance.now _ _ _ _ _ _ c.args.given.now.counted.two c.median_lines-lines.ensures.right c.write.ensures

pub returns-in-Ok-None-clause-leaves : goal.returns-in-Ok-None-clause-leaves
returns-in-Ok-None-clause-leaves g c =
    two_without_middle c.args.given.now.read.now.input c.args.given.now.instance.now _ _ _ _ _ _ c.args.given.now.counted.two c.none_lines-no_median.ensures.right c.write-in-Ok-None.ensures

pub returns-in-Err-TooMany-clause-stop : goal.returns-in-Err-TooMany-clause-stop
returns-in-Err-TooMany-clause-stop g c = rw c.args.given.now.counted.two (rw c.in-Err-TooMany.field-0-is at c.in-Err-TooMany.ensures.fault, refl)
