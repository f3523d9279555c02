use Rattle.std.proofs.Common.{◌≡◌, ◌∙◌, List, map, take, refl, sym, subst}
use Rattle.std.proofs.lemmas.List.{take-map}
use Rattle.sm_check_net.specs.CheckedNets.{net_of_parts, NeedsAreOf}
use Rattle.sm_seats.specs.SeatMarket.{seat_market}
use Rattle.sm_report.specs.Lines.{LineData, line_of}
use Rattle.sm_check_clauses.specs.Said.{rotations_in}
use Rattle.sm_check_clauses.specs.Flows.{net_in}
use Rattle.sm_check_weight.specs.Kept.{HasWholePoset}
use Rattle.sm_check_weight.proofs.BeginLemmas.{first_begun, second_begun, claim_begun}
use Rattle.sm_check_weight.proofs.judging.claim_of.Goals as goal

pub net_of-requires-clause-ground : goal.net_of-requires-clause-ground
net_of-requires-clause-ground c =
    subst (λ (above : List LineData). HasWholePoset c.args.weighed.now.instance.now above c.args.walk.now) (take-map line_of c.args.k c.args.lines.now) c.requires.ground

pub returns : goal.returns
returns c =
    let w = c.args.weighed.now.instance.now in
    let by = c.args.weighed.now.by in
    let above = take c.args.k (map line_of c.args.lines.now) in
    let same = sym (take-map line_of c.args.k c.args.lines.now) in
    let net = subst (λ (front : List LineData). net_of_parts c.in_ok-net.net ≡ net_in w by front) same c.in_ok-net.ensures.net in
    let needs = subst (λ (front : List LineData). NeedsAreOf (seat_market w) (rotations_in w front) c.in_ok-net.net) same c.in_ok-net.ensures.needs in
    let size = c.size.ensures.size ∙ sym needs.one_each in
    let second_size = c.size-2.ensures.size ∙ sym needs.one_each in
    claim_begun above c.requires.up_to net needs
    (first_begun above c.requires.up_to size c.in_ok-flow.ensures.lines c.in_ok-flow.ensures.repeats c.in_ok-flow.ensures.none refl) refl
    (second_begun above c.requires.up_to second_size c.in_ok-second_flow.ensures.lines c.in_ok-second_flow.ensures.repeats c.in_ok-second_flow.ensures.none refl)
    (c.in_ok-taken.ensures.set above c.requires.ground.walk_of) c.in_ok-taken.ensures.unsaid c.in_ok-stood.ensures
