use Rattle.std.proofs.Common.{◌≡◌, sym, subst, arith, MatchOption}
use Rattle.sm_answer_list.proofs.UnderwayLemmas.{current_allowed}
use Rattle.sm_answer_survey.proofs.SurveyLemmas.{begun, fed_more, told_all, alike_kept}
use Rattle.sm_answer_survey.proofs.feeding.feed_listed.Goals as goal

pub matchings-init : goal.matchings-init
matchings-init g c = record { within = omega arith; underway = begun _ c.requires.lister; kept = c.requires.regrets; last = subst (λ cursor. MatchOption cursor (Unit {0}) (λ v. c.args.regrets.now.ranks ≡ v)) (sym c.requires.lister.cursor) tt }

pub returns-then-not-advance : goal.returns-then-not-advance
returns-then-not-advance g c =
    told_all c.args.limit c.matchings.invariant.underway c.matchings.invariant.within c.advance.ensures.same (c.advance.ensures.none c.if-not-advance.true)

pub feed-requires-clause-vector : goal.feed-requires-clause-vector
feed-requires-clause-vector g c =
    current_allowed c.advance.new.self _ c.matchings.invariant.underway.vectors (c.advance.ensures.next c.if-not-advance.false) c.current.ensures

pub feed-requires-clause-alike : goal.feed-requires-clause-alike
feed-requires-clause-alike g c =
    alike_kept c.matchings.lister.cursor c.matchings.regrets.ranks c.current.result.now c.changed_from-from.ensures (c.advance.ensures.changed c.if-not-advance.false c.current.result.now c.current.ensures) c.matchings.invariant.last

pub matchings-preserved : goal.matchings-preserved
matchings-preserved g c = record {
  within = omega (arith, c.matchings-test.true);
  underway = fed_more _ c.matchings.invariant.underway c.advance.ensures.same (c.advance.ensures.next c.if-not-advance.false) c.current.ensures c.feed.ensures.fed;
  kept = c.feed.ensures.regrets;
  last = subst (λ cursor. MatchOption cursor (Unit {0}) (λ v. c.feed.new.regrets.ranks ≡ v)) (sym c.current.ensures) c.feed.ensures.ranks;
}

pub returns : goal.returns
returns g c = record { underway = c.matchings.invariant.underway; within = c.matchings.invariant.within; all = λ less. absurd (omega (arith, less, c.matchings-test.false)) }
