use Rattle.std.proofs.Common.{◌≡◌, ℕ, ◌-◌, length, arith}
use Rattle.sm_seats.proofs.BeginLemmas.{no_levels, levels_more, levels_whole}
use Rattle.sm_seats.proofs.levels.levels_between.Goals as goal

pub loop-place-init : goal.loop-place-init
loop-place-init c = no_levels c.requires c.in_ok-levels.ensures.items

pub loop-place-preserved : goal.loop-place-preserved
loop-place-preserved c = levels_more c.requires (omega (arith, c.loop-place-test.true)) c.loop-place.invariant c.loop-place.levels.ok.0 c.in_ok-resize.ensures.items

pub returns : goal.returns
returns c =
    let reviewers : ℕ = length c.args.begins.now - 1 in
    let all : c.loop-place.place ≡ reviewers = omega (arith, c.loop-place-test.false, c.loop-place.auto.place-end, c.requires.some) in
    levels_whole c.requires (omega (arith, c.requires.some)) (rw all at c.loop-place.invariant) c.in_ok-push.ensures.items
