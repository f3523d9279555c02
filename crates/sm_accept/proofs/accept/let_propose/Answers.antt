use Rattle.std.proofs.Common.{ℕ, ◌<◌, length, get_or, refl, arith}
use Rattle.sm_market.specs.Lists.{row}
use Rattle.sm_accept.proofs.AcceptSteps.{progress_begins, progress_stops, progress_taken_in, progress_goes_on, answered, places_left_fall, next_fits}
use Rattle.sm_accept.proofs.accept.let_propose.Goals as goal

pub proposals-init : goal.proposals-init
proposals-init c = record { progress = progress_begins c.requires.before; begun = omega arith }

pub returns-in_default : goal.returns-in_default
returns-in_default c =
    let k : ℕ = get_or c.proposals.next c.proposals.away 0 in
    let on : k < length (row c.args.market.now.proposers c.proposals.away) = omega arith in
    progress_taken_in c.requires.market c.proposals.invariant.progress refl on c.proposals.invariant.begun
    (c.requires.market.proposers.in_range c.proposals.away k on) c.in_default.ensures

pub overflow_add-next : goal.overflow_add-next
overflow_add-next c =
    let w = answered c.requires.market c.proposals.invariant.progress c.proposals.invariant.begun (omega arith) c.in-Some.ensures in
    omega (arith, next_fits c.requires.limits w.down)

pub proposals-smaller : goal.proposals-smaller
proposals-smaller c =
    let w = answered c.requires.market c.proposals.invariant.progress c.proposals.invariant.begun (omega arith) c.in-Some.ensures in
    let lt = w.begun in
    omega (arith, places_left_fall c.requires.market w.progress (omega arith) w.down)

pub proposals-preserved : goal.proposals-preserved
proposals-preserved c =
    let w = answered c.requires.market c.proposals.invariant.progress c.proposals.invariant.begun (omega arith) c.in-Some.ensures in
    record { progress = progress_goes_on c.requires.market w.progress (let lt = w.begun in omega arith) w.down; begun = w.begun }

pub returns : goal.returns
returns c = progress_stops c.proposals.invariant.progress (omega arith)
