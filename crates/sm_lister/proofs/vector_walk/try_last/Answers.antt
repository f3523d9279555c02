use Rattle.std.proofs.Common.{◌-◌, Some, subst, sym, refl, arith}
use Rattle.sm_lister.specs.Walking.{IsUnderWay, IsVectorReached}
use Rattle.sm_lister.proofs.WalkingLemmas.{under_way_same, held_up_same, alike_from, reached_up}
use Rattle.sm_lister.proofs.BarredLemmas.{under_way_barred, bars_fewer}
use Rattle.sm_lister.proofs.NextLemmas.{goes_on, goes_on_reached, skipped, skipped_on}
use Rattle.sm_lister.proofs.vector_walk.try_last.Goals as goal

pub returns-then-below-eq0-clause-walking : goal.returns-then-below-eq0-clause-walking
returns-then-below-eq0-clause-walking c =
    let under = skipped c.args.walk.now c.index-below.result.now c.board-board.ensures.course.board c.requires.walking c.requires.over c.index-below.ensures in
    goes_on c.args.walk.now _ c.requires.walking c.requires.over (c.requires.walking.nothing c.requires.over) refl refl c.requires.walking.room
    (subst (IsUnderWay c.args.course.now c.args.gates.now c.args.held.now c.args.walk.now.vector.items c.args.walk.now.marks.items) c.if-below-eq0.true under)

pub returns-then-is_barred-clause-walking : goal.returns-then-is_barred-clause-walking
returns-then-is_barred-clause-walking c =
    let board = c.board-board.ensures.course.board in
    let below = c.index-below.result.now in
    goes_on c.args.walk.now _ c.requires.walking c.requires.over (c.requires.walking.nothing c.requires.over) refl refl c.is_barred.ensures.bars.room
    (under_way_barred (below - 1) board (skipped_on c.args.walk.now below board c.requires.walking c.requires.over c.index-below.ensures (omega (arith, c.if-below-eq0.false))) (c.is_barred.ensures.barred c.if-is_barred.true))

pub go_up-requires : goal.go_up-requires
go_up-requires c =
    let under = skipped_on c.args.walk.now c.index-below.result.now c.board-board.ensures.course.board c.requires.walking c.requires.over c.index-below.ensures (omega (arith, c.if-below-eq0.false)) in
    record { under_way = under_way_same under c.deref.ensures.value c.deref-2.ensures.value }

pub keep-requires-clause-alike : goal.keep-requires-clause-alike
keep-requires-clause-alike c =
    let up = held_up_same (c.go_up.ensures.up c.if-not-go_up.false) (sym c.deref.ensures.value) (sym c.deref-2.ensures.value) in
    alike_from c.args.walk.now.least.items c.index-from.result.now up c.requires.walking.least_are c.requires.walking.least_each c.index-from.ensures

-- the walk comes to what is up there
reached : (c : goal.After-keep) → IsVectorReached c.args.course.now c.args.gates.now (Some c.args.walk.now.vector.items) c.go_up.new.held c.keep.new.walk
reached c =
    let up = held_up_same (c.go_up.ensures.up c.if-not-go_up.false) (sym c.deref.ensures.value) (sym c.deref-2.ensures.value) in
    let alike = alike_from c.args.walk.now.least.items c.index-from.result.now up c.requires.walking.least_are c.requires.walking.least_each c.index-from.ensures in
    reached_up (c.index-below.result.now - 1) c.index-from.result.now c.board-board.ensures.course.board up c.keep.ensures alike

pub returns-clause-reached : goal.returns-clause-reached
returns-clause-reached c = λ _. reached c

pub returns-clause-walking : goal.returns-clause-walking
returns-clause-walking c =
    goes_on_reached c.args.walk.now _ c.keep.new.walk c.requires.walking c.requires.over (c.requires.walking.nothing c.requires.over) refl refl c.is_barred.ensures.bars.room c.keep.ensures (reached c)

pub returns-then-not-go_up-clause-walking : goal.returns-then-not-go_up-clause-walking
returns-then-not-go_up-clause-walking c =
    goes_on c.args.walk.now _ c.requires.walking c.requires.over (c.requires.walking.nothing c.requires.over) refl refl c.is_barred.ensures.bars.room
    (under_way_same (c.go_up.ensures.under_way c.if-not-go_up.true) (sym c.deref.ensures.value) (sym c.deref-2.ensures.value))

pub returns-then-not-go_up-clause-bars : goal.returns-then-not-go_up-clause-bars
returns-then-not-go_up-clause-bars c = λ _. bars_fewer (c.go_up.ensures.fewer c.if-not-go_up.true) c.is_barred.ensures.bars
