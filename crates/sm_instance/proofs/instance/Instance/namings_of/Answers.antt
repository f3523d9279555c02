use Rattle.std.proofs.Common.{◌<◌, List, Option, IfSome, length, subst, sym}
use Rattle.sm_agents.specs.Written.{Written}
use Rattle.sm_agents.specs.Vectors.{agents_of}
use Rattle.sm_instance.specs.Crosses.{AreCrossesOf}
use Rattle.sm_instance.specs.Namings.{AreAskedOf, all_asked}
use Rattle.sm_instance.specs.declared.crosses.Crosses.{Crosses}
use Rattle.sm_lists.specs.declared.compact_naming.CompactNaming.{CompactNaming}
use Rattle.sm_instance.proofs.NamingLemmas.{kept_asked, everyone_asked}
use Rattle.sm_instance.proofs.instance.Instance.namings_of.Goals as goal

pub returns-in-Some-clause-namings : goal.returns-in-Some-clause-namings
returns-in-Some-clause-namings c =
    let proposers = agents_of c.self.inside.proposers.items in
    let reviewers = agents_of c.self.inside.reviewers.items in
    let Q : Option Crosses → Type 0 = λ o. IfSome o (AreCrossesOf proposers reviewers) in
    let crossed : AreCrossesOf proposers reviewers c.in-Some.crosses = subst Q c.in-Some.is c.self.invariant.crossed in
    let R : List CompactNaming → Type 0 = λ all. AreAskedOf proposers c.args.r all in
    let P : Written → Type 0 = λ w. c.args.r < length w.reviewers → AreAskedOf w.proposers c.args.r c.namings_of.result.now in
    subst P c.self.view_is (λ lt. subst R (sym c.namings_of.ensures) (kept_asked c.self.invariant.instance.proposer_entries (crossed.named.of c.args.r lt))) c.requires

pub returns-in-None-clause-namings : goal.returns-in-None-clause-namings
returns-in-None-clause-namings c =
    let P : Written → Type 0 = λ w. AreAskedOf w.proposers c.args.r (all_asked w.proposers c.args.r) in
    subst P c.self.view_is (everyone_asked c.self.invariant.instance.proposer_entries c.args.r)
