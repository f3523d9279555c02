use Rattle.std.proofs.Common.{◌++◌, ◌∷◌, [], refl, sym, ◌∙◌, subst}
use Rattle.std.proofs.lemmas.Bool.{false≢true}
use Rattle.sm_report.specs.Lines.{LineData}
use Rattle.sm_check_net.specs.CheckedNets.{net_of_parts}
use Rattle.sm_check_weight.specs.Kept.{IsClaimOf}
use Rattle.sm_check_weight.specs.declared.taken.Taken.{Taken}
use Rattle.sm_check_weight.proofs.ClaimLemmas.{taken_not_conserved, taken_not_closed, taken_right}
use Rattle.sm_check_weight.proofs.KeptLemmas.{first_on, second_on, second_if, conserved_is, taken_kept}
use Rattle.sm_check_weight.proofs.claims.Claim.taken_fault.Goals as goal

pub are_conserved-requires-clause-first : goal.are_conserved-requires-clause-first
are_conserved-requires-clause-first c = first_on c.requires.known.kept

pub are_conserved-requires-clause-second : goal.are_conserved-requires-clause-second
are_conserved-requires-clause-second c =
    let k = c.requires.known.kept in
    second_if k (λ net is. second_on k net is (net_of_parts c.args.self.now.net) k.needs.one_each)

pub returns-then-not-branch : goal.returns-then-not-branch
returns-then-not-branch c = λ lines above k whole next.
    let back = (conserved_is k (LineData.Taken c.args.numbers.now) c.requires.second refl).1 in
    taken_not_conserved c.args.weighed.now.instance.now c.args.weighed.now.by above c.args.numbers.now
    (λ h. false≢true (sym c.if-not-branch.true ∙ c.in_ok-are_conserved.ensures.1 (back h)))

pub returns-in-None : goal.returns-in-None
returns-in-None c = λ lines above k whole next.
    let conserved = (conserved_is k (LineData.Taken c.args.numbers.now) c.requires.second refl).0 (c.in_ok-are_conserved.ensures.0 c.if-not-branch.false) in
    taken_not_closed c.args.weighed.now.instance.now c.args.weighed.now.by above c.args.numbers.now conserved
    (rw c.in-None.is at (c.in_ok-taken.ensures above whole k.needs))

pub returns-in-Some : goal.returns-in-Some
returns-in-Some c = λ lines above k whole next.
    let w = c.args.weighed.now.instance.now in
    let by = c.args.weighed.now.by in
    let numbers = c.args.numbers.now in
    let claim = c.args.self.now in
    let conserved = (conserved_is k (LineData.Taken c.args.numbers.now) c.requires.second refl).0 (c.in_ok-are_conserved.ensures.0 c.if-not-branch.false) in
    let made = rw c.in-Some.is at (c.in_ok-taken.ensures above whole k.needs) in (
      taken_right w by above numbers conserved made.0,
      subst (λ (taken : Taken). IsClaimOf w by lines (above ++ LineData.Taken numbers ∷ []) (record { net = claim.net; first = claim.first; second_net = claim.second_net; second = claim.second; taken = taken; stood = claim.stood })) (sym c.say.ensures)
          (taken_kept k numbers c.in-Some.taken made.1 made.2),
    )
