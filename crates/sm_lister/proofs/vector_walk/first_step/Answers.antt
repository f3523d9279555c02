use Rattle.std.proofs.Common.{◌∙◌, ap, sym, subst, refl, arith, length, drop}
use Rattle.std.proofs.lemmas.Bool.{false≢true}
use Rattle.sm_lists.proofs.ResultLemmas.{take-append_at_length}
use Rattle.sm_lister.specs.Walking.{IsVectorReached}
use Rattle.sm_lister.proofs.WalkingLemmas.{under_way_same, held_up_same, alike_from, reached_up, reached_first}
use Rattle.sm_lister.proofs.NextLemmas.{goes_on, goes_on_reached, cursor_is, cursor_none}
use Rattle.sm_lister.proofs.vector_walk.first_step.Goals as goal

pub returns-then-not-walk-clause-walking : goal.returns-then-not-walk-clause-walking
returns-then-not-walk-clause-walking c =
    let w = c.requires.walking in
    goes_on_reached c.args.walk.now _ c.keep.new.walk w refl (λ no. absurd (false≢true (sym no))) refl refl w.room c.keep.ensures
    (reached_first c.board-board.ensures.course.board w.made (w.least c.requires.fresh) c.keep.ensures)

pub returns-then-not-walk-clause-reached : goal.returns-then-not-walk-clause-reached
returns-then-not-walk-clause-reached c = λ _.
    let w = c.requires.walking in
    subst (λ cursor. IsVectorReached c.args.course.now c.args.gates.now cursor c.args.held.now c.keep.new.walk) (sym (cursor_none c.args.walk.now c.if-not-walk.true))
    (reached_first c.board-board.ensures.course.board w.made (w.least c.requires.fresh) c.keep.ensures)

pub index-from-requires : goal.index-from-requires
index-from-requires c =
    let up = c.follow.ensures.up c.in-Above.i c.in-Above.is in
    omega (arith, up.within, c.requires.walking.least_each)

pub keep-requires-in-Above-clause-position : goal.keep-requires-in-Above-clause-position
keep-requires-in-Above-clause-position c =
    let up = c.follow.ensures.up c.in-Above.i c.in-Above.is in
    let rest = drop (length c.follow.new.marks) c.args.walk.now.marks.items in
    omega (arith, up.within, up.made.mark_each, ap length (take-append_at_length c.args.walk.now.marks.len c.follow.new.marks rest (c.follow.ensures.mark_each ∙ c.deref_mut.ensures.len)))

pub keep-requires-in-Above-clause-level_each : goal.keep-requires-in-Above-clause-level_each
keep-requires-in-Above-clause-level_each c =
    let made = (c.follow.ensures.up c.in-Above.i c.in-Above.is).made in
    ap length (sym c.deref.ensures.value) ∙ made.level_each ∙ sym made.held.now_each

pub keep-requires-in-Above-clause-alike : goal.keep-requires-in-Above-clause-alike
keep-requires-in-Above-clause-alike c =
    let w = c.requires.walking in
    let up = held_up_same (c.follow.ensures.up c.in-Above.i c.in-Above.is) (sym c.deref.ensures.value) refl in
    alike_from c.args.walk.now.least.items c.index-from.result.now up w.least_are w.least_each c.index-from.ensures

pub returns-in-Above-clause-walking : goal.returns-in-Above-clause-walking
returns-in-Above-clause-walking c =
    let w = c.requires.walking in
    let up = held_up_same (c.follow.ensures.up c.in-Above.i c.in-Above.is) (sym c.deref.ensures.value) (take-append_at_length c.args.walk.now.marks.len c.follow.new.marks _ (c.follow.ensures.mark_each ∙ c.deref_mut.ensures.len)) in
    let alike = alike_from c.args.walk.now.least.items c.index-from.result.now up w.least_are w.least_each c.index-from.ensures in
    goes_on_reached c.args.walk.now _ c.keep-in-Above.new.walk w refl (λ no. absurd (false≢true (sym no ∙ c.if-not-walk.false))) refl refl w.room c.keep-in-Above.ensures
    (reached_up c.in-Above.i c.index-from.result.now c.board-board.ensures.course.board up c.keep-in-Above.ensures alike)

pub returns-in-Above-clause-reached : goal.returns-in-Above-clause-reached
returns-in-Above-clause-reached c = λ _.
    let w = c.requires.walking in
    let up = held_up_same (c.follow.ensures.up c.in-Above.i c.in-Above.is) (sym c.deref.ensures.value) (take-append_at_length c.args.walk.now.marks.len c.follow.new.marks _ (c.follow.ensures.mark_each ∙ c.deref_mut.ensures.len)) in
    let alike = alike_from c.args.walk.now.least.items c.index-from.result.now up w.least_are w.least_each c.index-from.ensures in
    subst (λ cursor. IsVectorReached c.args.course.now c.args.gates.now cursor c.follow.new.held c.keep-in-Above.new.walk) (sym (cursor_is c.args.walk.now c.if-not-walk.false refl))
    (reached_up c.in-Above.i c.index-from.result.now c.board-board.ensures.course.board up c.keep-in-Above.ensures alike)

pub returns-clause-walking : goal.returns-clause-walking
returns-clause-walking c =
    let w = c.requires.walking in
    goes_on c.args.walk.now _ w refl (λ no. absurd (false≢true (sym no ∙ c.if-not-walk.false))) refl refl w.room
    (under_way_same (c.follow.ensures.under_way c.in-Nothing.depth c.in-Nothing.is) (sym c.deref.ensures.value) (take-append_at_length c.args.walk.now.marks.len c.follow.new.marks _ (c.follow.ensures.mark_each ∙ c.deref_mut.ensures.len)))
