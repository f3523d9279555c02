use Rattle.std.proofs.Common.{arith, ap, set}
use Rattle.sm_lister.proofs.WalkingLemmas.{along_on, along_grows, along_next, front_long, level_held, under_way_here, made_held}
use Rattle.sm_lister.proofs.vector_walk.meet.Goals as goal

pub returns-then-not-raise-clause-under_way : goal.returns-then-not-raise-clause-under_way
returns-then-not-raise-clause-under_way c = λ _.
    under_way_here c.args.i c.proposer_at-p.result _ c.requires.along c.requires.position c.raise.ensures.held (c.raise.ensures.same c.if-not-raise.true) c.proposer_at-p.ensures.proposer c.from.ensures (c.raise.ensures.nothing c.if-not-raise.true)

pub returns-then-wanted-level-clause-up : goal.returns-then-wanted-level-clause-up
returns-then-wanted-level-clause-up c = λ _.
    let long = front_long _ _ c.raise.ensures.front in
    let made = c.requires.along.made in
    let up = (along_on c.raise.new.held c.args.i c.proposer_at-p.result _ c.board-board.ensures.course.board made.order c.requires.along c.requires.position c.proposer_at-p.ensures.proposer c.from.ensures (c.raise.ensures.raised c.if-not-raise.false)).1
    (omega (arith, level_held c.raise.new.held c.args.i c.proposer_at-p.result made.order c.raise.ensures.held c.requires.position c.proposer_at-p.ensures.proposer, c.if-wanted-level.true, c.level.ensures, c.from.ensures)) in
    record {
      made = made_held made c.raise.ensures.held;
      within = c.requires.position;
      are = along_grows c.raise.new.held c.args.i c.requires.along c.raise.ensures.front long;
      up = up.0;
      none = up.1;
    }

pub returns-clause-along : goal.returns-clause-along
returns-clause-along c = λ _.
    let long = front_long _ _ c.raise.ensures.front in
    let m = (along_on c.raise.new.held c.args.i c.proposer_at-p.result _ c.board-board.ensures.course.board c.requires.along.made.order c.requires.along c.requires.position c.proposer_at-p.ensures.proposer c.from.ensures (c.raise.ensures.raised c.if-not-raise.false)).0
    (let r = (c.raise.ensures.raised c.if-not-raise.false).reaches in omega (arith, level_held c.raise.new.held c.args.i c.proposer_at-p.result c.requires.along.made.order c.raise.ensures.held c.requires.position c.proposer_at-p.ensures.proposer, c.if-wanted-level.false, c.level.ensures, c.from.ensures)) in
    along_next c.args.i c.requires.along c.requires.position c.raise.ensures.held c.raise.ensures.front long (ap (set c.args.marks.now c.args.i) c.count.ensures) m
