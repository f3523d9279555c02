use Rattle.std.proofs.Common.{arith}
use Rattle.sm_room.proofs.ProgressLemmas.{progress_begins, progress_stops, progress_taken_in, goes_on, places_left_fall, next_fits}
use Rattle.sm_room.proofs.proposing.let_propose.Goals as goal

pub proposals-init : goal.proposals-init
proposals-init c = record { progress = progress_begins c.requires.before; begun = omega arith }

pub returns-in_default : goal.returns-in_default
returns-in_default c =
    let g = c.proposals.invariant in
    let t = c.in_default.ensures in
    progress_taken_in g.progress c.propose.new.bounds g.begun t.taken t.was_free

pub bounds-passed-next : goal.bounds-passed-next
bounds-passed-next c =
    let g = c.proposals.invariant in
    let long = g.progress.passed_each in
    let w = goes_on c.propose.new.bounds c.in-Some.next g.progress g.begun (omega arith) (omega arith) c.in-Some.ensures in
    omega (arith, w.there)

pub bounds-passed-next-in-proposals : goal.bounds-passed-next-in-proposals
bounds-passed-next-in-proposals c =
    let g = c.proposals.invariant in
    let long = g.progress.passed_each in
    let w = goes_on c.propose.new.bounds c.in-Some.next g.progress g.begun (omega arith) (omega arith) c.in-Some.ensures in
    omega (arith, w.there)

pub overflow_add-passed : goal.overflow_add-passed
overflow_add-passed c =
    let g = c.proposals.invariant in
    let w = goes_on c.propose.new.bounds c.in-Some.next g.progress g.begun (omega arith) (omega arith) c.in-Some.ensures in
    next_fits c.requires.limits _ _ w.on

pub proposals-smaller : goal.proposals-smaller
proposals-smaller c =
    let g = c.proposals.invariant in
    let w = goes_on c.propose.new.bounds c.in-Some.next g.progress g.begun (omega arith) (omega arith) c.in-Some.ensures in
    omega (arith, places_left_fall c.proposals.passed c.in-Some.next g.progress.passed_each w.there w.progress)

pub proposals-preserved : goal.proposals-preserved
proposals-preserved c =
    let g = c.proposals.invariant in
    let w = goes_on c.propose.new.bounds c.in-Some.next g.progress g.begun (omega arith) (omega arith) c.in-Some.ensures in
    record { progress = w.progress; begun = w.begun_is }

pub returns : goal.returns
returns c = progress_stops c.proposals.invariant.progress (omega arith) c.proposals.invariant.begun
