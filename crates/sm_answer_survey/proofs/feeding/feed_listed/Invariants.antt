use Rattle.std.proofs.Common.{◌≡◌, ◌≤◌, ◌-◌, MatchOption, map}
use Rattle.sm_tally.specs.Fold.{shown_as}
use Rattle.sm_answer_survey.specs.Surveying.{IsUnderway}
use Rattle.sm_answer_survey.specs.Regrets.{AreKeptOf}
use Rattle.sm_answer_survey.proofs.feeding.feed_listed.Given as goal

-- the tallies were told of the matchings that are listed, and what is kept is right, and of the last one
abbrev pub invariant-matchings : goal.invariant-matchings
invariant-matchings g l = record {
  within : l.listed ≤ l.limit;
  underway : IsUnderway l.instance l.lister l.listed
      (map (λ b. shown_as ((goal.Tally-dyn g (b.vtable, b.value)).kind b.value) ((goal.Tally-dyn g (b.vtable, b.value)).shown b.value)) l.initial.tallies.items)
      (map (λ b. shown_as ((goal.Tally-dyn g (b.vtable, b.value)).kind b.value) ((goal.Tally-dyn g (b.vtable, b.value)).shown b.value)) l.tallies.items);
  kept : AreKeptOf l.instance l.regrets;
  last : MatchOption l.lister.cursor (Unit {0}) (λ v. l.regrets.ranks ≡ v);
}

abbrev pub decreases-matchings : goal.decreases-matchings
decreases-matchings g l = l.limit - l.listed
