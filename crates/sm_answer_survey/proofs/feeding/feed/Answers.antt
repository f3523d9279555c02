use Rattle.std.proofs.Common.{refl}
use Rattle.sm_tally.specs.Fold.{feed_of}
use Rattle.sm_answer_survey.proofs.feeding.feed.Goals as goal

pub returns-clause-fed : goal.returns-clause-fed
returns-clause-fed g c =
    let a = c.requires.vector in
    record {
      feed = feed_of c.args.ranks.now c.regret-regret.result;
      is = record { places = a.places; stable = a.stable; allowed = a.allowed; vector = a.vector; regret = c.regret-regret.ensures.regret a.places a.stable.matching a.vector };
      vector = refl;
      fed = c.feed_each.ensures;
    }
