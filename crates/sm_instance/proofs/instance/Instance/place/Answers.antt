use Rattle.std.proofs.Common.{◌≡◌, ◌<◌, List, Option, IfSome, length, subst, sym}
use Rattle.sm_agents.specs.Written.{Written}
use Rattle.sm_agents.specs.Vectors.{agents_of}
use Rattle.sm_instance.specs.Crosses.{cross_place, AreNamingsOf, AreCrossesOf}
use Rattle.sm_instance.specs.declared.crosses.Crosses.{Crosses}
use Rattle.sm_lists.specs.declared.compact_naming.CompactNaming.{CompactNaming}
use Rattle.sm_instance.proofs.NamingLemmas.{place_answer}
use Rattle.sm_instance.proofs.instance.Instance.place.Goals as goal

pub returns-in-Some : goal.returns-in-Some
returns-in-Some c =
    let proposers = agents_of c.self.inside.proposers.items in
    let reviewers = agents_of c.self.inside.reviewers.items in
    let Q : Option Crosses → Type 0 = λ o. IfSome o (AreCrossesOf proposers reviewers) in
    let crossed : AreCrossesOf proposers reviewers c.in-Some.crosses = subst Q c.in-Some.is c.self.invariant.crossed in
    let R : List CompactNaming → Type 0 = λ all. AreNamingsOf proposers c.args.r all in
    let P : Written → Type 0 = λ w. c.args.r < length w.reviewers → c.place_by.result ≡ cross_place w.proposers c.args.p c.args.r in
    subst P c.self.view_is
    (λ lt. let named = subst R (sym c.namings_of.ensures) (crossed.named.of c.args.r lt) in place_answer c.self.invariant.instance.proposer_entries named c.args.p c.place_by.result c.place_by.ensures)
    c.requires.reviewer
