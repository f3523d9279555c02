use Rattle.std.proofs.Common.{All, ◌∙◌, ap, subst, rules, FitsSigned, w64}
use Rattle.std.proofs.lemmas.Int.{to_z-of_z}
use Rattle.sm_instance.specs.Ranks.{weight_of, second_of}
use Rattle.sm_market.specs.Lists.{Lists}
use Rattle.sm_market.specs.Pairing.{IsPairingOf}
use Rattle.sm_answer_weight.specs.Found.{IsFlowLine}
use Rattle.sm_answer_weight.proofs.finding.read_off.Goals as goal

pub returns-clause-found : goal.returns-clause-found
returns-clause-found c =
    let fits : FitsSigned w64 c.weigh-total.result = search rules in
    let second_fits : FitsSigned w64 c.second_of-second_total.result = search rules in
    record {
      market = c.requires.market;
      made = subst (λ (l : Lists). IsPairingOf l c.in_ok-matching.matching) c.requires.market c.in_ok-matching.ensures.pairing;
      places = c.in_ok-matching.ensures.places;
      lightest = c.requires.lightest;
      two_levels = c.has_two_levels.ensures;
      numbers = subst (All IsFlowLine) c.deref.ensures.value c.read_numbers.ensures;
      second_numbers = subst (All IsFlowLine) c.deref-2.ensures.value c.read_numbers-2.ensures;
      light = c.requires.light;
      second_light = c.requires.second_light;
      total = to_z-of_z w64 c.weigh-total.result fits ∙ c.weigh-total.ensures ∙ ap (weight_of c.args.by c.args.instance.now) c.in_ok-assignment.ensures;
      second_total = to_z-of_z w64 c.second_of-second_total.result second_fits ∙ c.second_of-second_total.ensures ∙ ap (second_of c.args.by c.args.instance.now) c.in_ok-assignment.ensures;
    }
