use Rattle.std.proofs.Common.{◌≡◌, suc, ◌+◌, ◌-◌, ◌<◌, length, get_or, ap, arith, ◌∙◌}
use Rattle.std.proofs.lemmas.List.{length_push}
use Rattle.std.proofs.lemmas.Grind.{get_or_default_zero}
use Rattle.sm_room.specs.Rotating.{HasTwoLeft}
use Rattle.sm_room.proofs.WalkLemmas.{path_goes_on, met-push, walk_goes_on, walk_closes, starts_on, goes_on, path_fits, unmarked_falls}
use Rattle.sm_room.proofs.cycle_walk.go_round.Goals as goal

pub overflow_cast-len : goal.overflow_cast-len
overflow_cast-len c =
    let le = path_fits c.steps.invariant.path in
    let limits = c.persons-persons.ensures.limits.agents in
    let long = length_push c.steps.walk.path.items c.steps.x in
    let items = ap length c.in_ok-push.ensures.items in
    omega arith

pub steps-smaller : goal.steps-smaller
steps-smaller c =
    let long = length_push c.steps.walk.path.items c.steps.x in
    let items = ap length c.in_ok-push.ensures.items in
    let marks = c.steps.walk.marks.items in
    let inside : c.steps.x < length marks = let h = c.steps.invariant.walk.here in let m = c.steps.invariant.path.mark_each in omega arith in
    let read = c.index-mark.ensures ∙ get_or_default_zero marks c.steps.x c.index-mark.result.now inside in
    omega (arith, unmarked_falls marks c.steps.x c.len.result inside (omega (arith, read)) (omega arith))

pub steps-preserved : goal.steps-preserved
steps-preserved c =
    let long = length_push c.steps.walk.path.items c.steps.x in
    let items = ap length c.in_ok-push.ensures.items in
    let marks = c.steps.walk.marks.items in
    let kept = c.steps.invariant.path in
    let walk = c.steps.invariant.walk in
    let inside : c.steps.x < length marks = let h = walk.here in let m = kept.mark_each in omega arith in
    let read = c.index-mark.ensures ∙ get_or_default_zero marks c.steps.x c.index-mark.result.now inside in
    let is : c.len.result ≡ length c.steps.walk.path.items + 1 = omega arith in
    record {
      starts = rw c.in_ok-push.ensures.items (met-push c.steps.walk.path.items c.steps.x c.last_of-x.result ∙ c.steps.invariant.starts);
      path = rw (c.in_ok-push.ensures.items, c.in_ok-push-2.ensures.items, is) (path_goes_on kept c.steps.x walk.here (omega (arith, read)) c.in-Some.place);
      walk = rw (c.in_ok-push.ensures.items, c.in_ok-push-2.ensures.items)
          (walk_goes_on c.requires.good walk c.in-Some.place c.last_of-x.result kept.place_each c.in-Some.ensures.second (rw c.at.ensures.named at c.last_of-x.ensures.last) c.last_of-x.ensures.in_range);
      hints = c.in-Some.ensures.hints;
    }

pub returns-then-mark-gt0-clause-found : goal.returns-then-mark-gt0-clause-found
returns-then-mark-gt0-clause-found c =
    let inv = c.steps.invariant in
    let marks = c.steps.walk.marks.items in
    let inside : c.steps.x < length marks = let h = inv.walk.here in let m = inv.path.mark_each in omega arith in
    let read = c.index-mark.ensures ∙ get_or_default_zero marks c.steps.x c.index-mark.result.now inside in
    let two : HasTwoLeft c.args.market.now c.args.bounds.now c.steps.x = record { next = _; second = c.in-Some.ensures.second.second } in
    let is : get_or marks c.steps.x 0 ≡ suc (c.index-mark.result.now - 1) = omega (arith, read, c.if-mark-gt0.true) in
    (starts_on c.requires.good inv.walk inv.path two is ∙ inv.starts, walk_closes c.requires.good inv.walk inv.path two is)

pub returns-clause-found : goal.returns-clause-found
returns-clause-found c = λ two.
    let t = goes_on c.requires.good c.steps.invariant.walk (rw c.steps.invariant.starts two) in
    c.in_default.ensures.second t.next t.second
