use Rattle.sm_instance.proofs.AcceptLemmas.{acceptable_at}
use Rattle.sm_instance.proofs.instance.Instance.acceptable.Goals as goal

pub returns-in-Some : goal.returns-in-Some
returns-in-Some c = acceptable_at c.args.self.now c.args.p c.args.r c.in-Some.place c.in-Some.ensures c.cross.result c.cross.ensures.cross c.is_some.result c.is_some.ensures
