use Rattle.std.proofs.Common.{rules, FitsSigned, w64, ℤ, ◌∙◌, ◌++◌, ◌∷◌, [], None, refl, sym, subst}
use Rattle.std.proofs.lemmas.Int.{to_z-of_z}
use Rattle.std.proofs.lemmas.Result.{IfOk-weaker}
use Rattle.sm_report.specs.Lines.{LineData, line_of}
use Rattle.sm_check_clauses.specs.Verdicts.{Finds}
use Rattle.sm_check_clauses.proofs.AnswerLemmas.{kept_as}
use Rattle.sm_check_weight.specs.ClaimClauses.{TotalHolds, SecondTotalHolds}
use Rattle.sm_check_weight.specs.Kept.{ClaimHolds, IsClaimOf}
use Rattle.sm_check_clauses.specs.Said.{pairs_in}
use Rattle.sm_check_net.specs.CheckedNets.{net_of_parts}
use Rattle.sm_check_weight.proofs.EndLemmas.{with_net}
use Rattle.sm_check_weight.specs.FlowClauses.{flow_line}
use Rattle.sm_check_weight.proofs.FlowKeptLemmas.{flow_next}
use Rattle.sm_check_weight.proofs.KeptLemmas.{set_long, second_on, second_if, second_size, second_step, two_levels, flow_judged, second_flow_judged, value_judged, second_value_judged, cut_judged, second_cut_judged, total_judged, second_total_judged, pair_judged, end_judged, silent_judged, silent_behind, same_parts}
use Rattle.sm_check_weight.proofs.claims.Claim.find_fault.Goals as goal

pub flow_fault-requires-clause-next : goal.flow_fault-requires-clause-next
flow_fault-requires-clause-next c =
    let k = c.requires.known in
    flow_next k.kept.first.flow (LineData.Flow c.in-Flow.field-0 c.in-Flow.field-1 c.in-Flow.field-2) (rw c.in-Flow.is at k.next) (flow_line c.in-Flow.field-0 c.in-Flow.field-1 c.in-Flow.field-2) refl

pub returns-in-Flow : goal.returns-in-Flow
returns-in-Flow c = λ lines above k ground next.
    let w = c.args.weighed.now.instance.now in
    let by = c.args.weighed.now.by in
    let x : LineData = LineData.Flow c.in-Flow.field-0 c.in-Flow.field-1 c.in-Flow.field-2 in
    let claim = c.args.self.now in
    let after = c.flow_fault.new.self in
    let rest = c.flow_fault.ensures.rest in
    let same = same_parts after (record { net = claim.net; first = after.first; second_net = None; second = claim.second; taken = claim.taken; stood = claim.stood }) rest.0 refl c.flow_fault.ensures.none rest.1 rest.2 rest.3 in
    rw c.in-Flow.is (kept_as (ClaimHolds w by above x) (subst (IsClaimOf w by lines (above ++ x ∷ [])) (sym same)) c.flow_fault.result
    (flow_judged k ground c.in-Flow.field-0 c.in-Flow.field-1 c.in-Flow.field-2 (rw c.in-Flow.is at next) after.first c.flow_fault.result rest.4 c.flow_fault.ensures.lines c.flow_fault.ensures.repeats c.flow_fault.ensures.found))

pub second_flow_fault-requires-clause-next : goal.second_flow_fault-requires-clause-next
second_flow_fault-requires-clause-next c =
    let k = c.requires.known in
    second_if k.kept (λ net is. flow_next (k.kept.second (two_levels k.kept net is)).flow (LineData.SecondFlow c.in-SecondFlow.field-0 c.in-SecondFlow.field-1 c.in-SecondFlow.field-2) (rw c.in-SecondFlow.is at k.next)
    (flow_line c.in-SecondFlow.field-0 c.in-SecondFlow.field-1 c.in-SecondFlow.field-2) refl)

pub second_flow_fault-requires-clause-repeats : goal.second_flow_fault-requires-clause-repeats
second_flow_fault-requires-clause-repeats c = let k = c.requires.known.kept in second_if k (λ net is. (k.second (two_levels k net is)).flow.repeats)

pub second_value_fault-requires : goal.second_value_fault-requires
second_value_fault-requires c = let k = c.requires.known.kept in second_if k (λ net is. (second_on k net is (net_of_parts c.args.self.now.net) k.needs.one_each).long)

pub second_cut_fault-requires : goal.second_cut_fault-requires
second_cut_fault-requires c = let k = c.requires.known.kept in second_if k (λ net is. set_long k ∙ sym (second_size k net is))

pub end_fault-requires-clause-set : goal.end_fault-requires-clause-set
end_fault-requires-clause-set c = set_long c.requires.known.kept

pub end_fault-requires-clause-second : goal.end_fault-requires-clause-second
end_fault-requires-clause-second c =
    let k = c.requires.known.kept in
    second_if k (λ net is. (second_size k net is, second_on k net is (net_of_parts net) (k.needs.one_each ∙ sym (second_size k net is))))

pub returns-in-SecondFlow : goal.returns-in-SecondFlow
returns-in-SecondFlow c = λ lines above k ground next.
    let w = c.args.weighed.now.instance.now in
    let by = c.args.weighed.now.by in
    let from = c.in-SecondFlow.field-0 in
    let to = c.in-SecondFlow.field-1 in
    let amount = c.in-SecondFlow.field-2 in
    let x : LineData = LineData.SecondFlow from to amount in
    let claim = c.args.self.now in
    let after = c.second_flow_fault.new.self in
    let e = c.second_flow_fault.ensures in
    let same = same_parts after (record { net = claim.net; first = claim.first; second_net = claim.second_net; second = after.second; taken = claim.taken; stood = claim.stood }) e.rest.0 e.rest.1 e.rest.2 refl e.rest.3 e.rest.4 in
    rw c.in-SecondFlow.is (kept_as (ClaimHolds w by above x) (subst (IsClaimOf w by lines (above ++ x ∷ [])) (sym same)) c.second_flow_fault.result
    (second_step k x refl (rw c.in-SecondFlow.is at c.requires.second) (record { gain = refl; flow = refl; value = refl; cut = refl; total = refl }) (record { taken = refl; pair = refl; goes_on = refl }) after.second c.second_flow_fault.result e.found
    (λ net is found. second_flow_judged k ground net is from to amount (rw c.in-SecondFlow.is at next) after.second c.second_flow_fault.result e.rest.5 e.lines e.repeats found)))

pub returns-in-SecondValue : goal.returns-in-SecondValue
returns-in-SecondValue c = λ lines above k ground next.
    let w = c.args.weighed.now.instance.now in
    let by = c.args.weighed.now.by in
    let x : LineData = LineData.SecondValue c.in-SecondValue.value in
    let claim = c.args.self.now in
    let after = c.second_value_fault.new.self in
    let e = c.second_value_fault.ensures in
    let same = same_parts after (record { net = claim.net; first = claim.first; second_net = claim.second_net; second = after.second; taken = claim.taken; stood = claim.stood }) e.rest.0 e.rest.1 e.rest.2 refl e.rest.3 e.rest.4 in
    rw c.in-SecondValue.is (kept_as (ClaimHolds w by above x) (subst (IsClaimOf w by lines (above ++ x ∷ [])) (sym same)) c.second_value_fault.result
    (second_step k x refl (rw c.in-SecondValue.is at c.requires.second) (record { gain = refl; flow = refl; value = refl; cut = refl; total = refl }) (record { taken = refl; pair = refl; goes_on = refl }) after.second c.second_value_fault.result e.found
    (λ net is found. second_value_judged k (two_levels k net is) c.in-SecondValue.value after.second c.second_value_fault.result e.flow found)))

pub returns-in-SecondCut : goal.returns-in-SecondCut
returns-in-SecondCut c = λ lines above k ground next.
    let x : LineData = LineData.SecondCut c.in-SecondCut.cut in
    let claim = c.args.self.now in
    rw c.in-SecondCut.is (second_step k x refl (rw c.in-SecondCut.is at c.requires.second) (record { gain = refl; flow = refl; value = refl; cut = refl; total = refl }) (record { taken = refl; pair = refl; goes_on = refl }) claim.second c.second_cut_fault.result
    (with_net claim.second_net (λ none. (none, refl)) (λ net h. h) c.second_cut_fault.ensures)
    (λ net is found. second_cut_judged k net is c.in-SecondCut.cut c.second_cut_fault.result found))

pub returns-in-SecondTotal : goal.returns-in-SecondTotal
returns-in-SecondTotal c = λ lines above k ground next.
    let total : ℤ = c.in-SecondTotal.total in
    let x : LineData = LineData.SecondTotal total in
    let claim = c.args.self.now in
    let fits : FitsSigned w64 total = search rules in
    rw c.in-SecondTotal.is (second_step k x refl (rw c.in-SecondTotal.is at c.requires.second) (record { gain = refl; flow = refl; value = refl; cut = refl; total = refl }) (record { taken = refl; pair = refl; goes_on = refl }) claim.second c.second_total_fault.result
    (with_net claim.second_net (λ none. (none, refl))
    (λ net h. subst (λ (total : ℤ). Finds (SecondTotalHolds c.args.weighed.now.instance.now claim.taken.matching.places.items total) c.second_total_fault.result) (to_z-of_z w64 total fits) h) c.second_total_fault.ensures)
    (λ net is found. second_total_judged k (two_levels k net is) total c.second_total_fault.result found))

pub cut_fault-requires : goal.cut_fault-requires
cut_fault-requires c = rw c.deref-in-Cut.ensures.value (set_long c.requires.known.kept)

pub returns-in-Value : goal.returns-in-Value
returns-in-Value c = λ lines above k ground next.
    let w = c.args.weighed.now.instance.now in
    let by = c.args.weighed.now.by in
    let x : LineData = LineData.Value c.in-Value.value in
    rw c.in-Value.is (value_judged k c.in-Value.value c.value_fault.new.self c.value_fault.result c.value_fault.ensures.flow c.value_fault.ensures.found)

pub returns-in-Cut : goal.returns-in-Cut
returns-in-Cut c = λ lines above k ground next.
    rw c.in-Cut.is (cut_judged k c.in-Cut.cut c.cut_fault.result (rw c.deref-in-Cut.ensures.value at c.cut_fault.ensures))

pub returns-in-Total : goal.returns-in-Total
returns-in-Total c = λ lines above k ground next.
    let fits : FitsSigned w64 c.in-Total.total = search rules in
    rw c.in-Total.is (total_judged k c.in-Total.total c.total_fault.result
    (subst (λ (total : ℤ). Finds (TotalHolds c.args.weighed.now.instance.now c.args.weighed.now.by c.args.self.now.taken.matching.places.items total) c.total_fault.result) (to_z-of_z w64 c.in-Total.total fits) c.total_fault.ensures))

pub returns-in-Pair : goal.returns-in-Pair
returns-in-Pair c = λ lines above k ground next.
    let w = c.args.weighed.now.instance.now in
    let by = c.args.weighed.now.by in
    let x : LineData = LineData.Pair c.in-Pair.p c.in-Pair.r in
    let claim = c.args.self.now in
    let after = c.pair_fault.new.self in
    let rest = c.pair_fault.ensures.rest in
    let same = same_parts after (record { net = claim.net; first = claim.first; second_net = claim.second_net; second = claim.second; taken = claim.taken; stood = after.stood }) rest.0 rest.1 rest.2 rest.3 rest.4 refl in
    rw c.in-Pair.is (kept_as (ClaimHolds w by above x) (subst (IsClaimOf w by lines (above ++ x ∷ [])) (sym same)) c.pair_fault.result
    (pair_judged k c.in-Pair.p c.in-Pair.r after.stood c.pair_fault.result (c.pair_fault.ensures.found (pairs_in above) k.stood)))

pub returns-in-End : goal.returns-in-End
returns-in-End c = IfOk-weaker c.end_fault.result _ _
    (λ why h lines above k ground next. rw c.in-End.is (end_judged k why (rw c.in-End.is at c.requires.second) (h (pairs_in above) k.stood)))
    c.end_fault.ensures

pub returns-in_default : goal.returns-in_default
returns-in_default c = λ lines above k ground next.
    let n = c.in_default in
    silent_judged k (line_of c.args.line.now) c.requires.behind (silent_behind c.args.line.now c.requires.behind n.not-Flow n.not-SecondFlow n.not-Taken n.not-Value n.not-Cut n.not-Total n.not-SecondValue n.not-SecondCut n.not-SecondTotal n.not-Pair n.not-End)

pub returns-in-Taken : goal.returns-in-Taken
returns-in-Taken c = IfOk-weaker c.taken_fault.result _ _
    (λ why h lines above k ground next. rw c.in-Taken.is ((rw c.deref.ensures.value at h) lines above k ground.walk_of (rw c.in-Taken.is at next)))
    c.taken_fault.ensures
