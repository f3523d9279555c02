use Rattle.std.proofs.Common.{◌≡◌, ◌∙◌, ap, subst, length, arith, MatchOption}
use Rattle.sm_lister.specs.Walking.{IsMadeFor}
use Rattle.sm_lister.proofs.StartLemmas.{under_way_none}
use Rattle.sm_lister.proofs.vector_walk.VectorWalk.start.Goals.{in-Some, in-None+in_ok-vector-in-None}
use Rattle.sm_lister.proofs.vector_walk.VectorWalk.start.Goals as goal

pub returns-clause-walking : goal.returns-clause-walking
returns-clause-walking c = λ g h held closed gates least none.
    let made : IsMadeFor c.args.course.now g h c.match-after-5.vector.items c.in_ok-marks.marks.items = record {
      order = c.requires.order;
      held = held;
      gates = gates;
      level_each = elim c.match-after-5.branch [
        | in-Some w ↦ ap (λ v. length v.items) w.vector-is ∙ subst (λ after. MatchOption after (Unit {0}) (λ v. length v.items ≡ length c.args.course.now.board.leaves)) w.in-Some.is c.requires.after
        | in-None+in_ok-vector-in-None w ↦ ap (λ v. length v.items) w.vector-is ∙ omega (arith, w.in_ok-vector-in-None.ensures.len, c.proposers-n.ensures.proposers)
      ];
      mark_each = omega (arith, c.in_ok-marks.ensures.len, c.proposers-n.ensures.proposers);
    } in
    record {
      made = made;
      skip_each = c.in_ok-skip.ensures.skip_each;
      skips = c.in_ok-skip.ensures.skips;
      least_each = c.in_ok-least.ensures.least_each;
      least_are = c.in_ok-least.ensures.least;
      room = c.in_ok-bars.ensures;
      least = least;
      under_way = λ no. under_way_none made closed (none no);
      nothing = λ no _. none no;
    }
