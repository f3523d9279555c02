use Rattle.std.proofs.Common.{◌∙◌, slice_index, subst, arith}
use Rattle.sm_board.specs.Growing.{IsLogOf}
use Rattle.sm_lister.proofs.WalkingLemmas.{up_is, none_is, front_inside, marks_below, under_way_below, made_held, taken_back}
use Rattle.sm_lister.proofs.vector_walk.go_up.Goals as goal

pub raise-requires-clause-fits : goal.raise-requires-clause-fits
raise-requires-clause-fits c =
    let m = c.requires.under_way.are.are c.args.i c.back.new.held.set (omega arith) (subst (λ log. IsLogOf c.args.course.now.board log c.back.new.held.set) c.back.ensures.logged c.back.ensures.held.logged) in
    m.fits

pub returns-clause-up : goal.returns-clause-up
returns-clause-up c = λ yes.
    let w = c.requires.under_way in
    let m = c.requires.under_way.are.are c.args.i c.back.new.held.set (omega arith) (subst (λ log. IsLogOf c.args.course.now.board log c.back.new.held.set) c.back.ensures.logged c.back.ensures.held.logged) in
    let f = taken_back c.args.held.now.log c.raise.new.held.log (slice_index c.args.marks.now c.args.i) (w.are.few c.args.i (omega arith)) c.back.ensures.logged c.raise.ensures.front in
    record {
      made = made_held w.made c.raise.ensures.held;
      within = omega (arith, w.within);
      are = marks_below c.args.i w.are f.0 f.1;
      up = up_is c.proposer_at-p.result _ c.proposer_at-p.ensures.proposer (omega (arith, c.from.ensures)) m (c.raise.ensures.raised yes);
      none = w.none;
    }

pub returns-clause-under_way : goal.returns-clause-under_way
returns-clause-under_way c = λ no.
    let w = c.requires.under_way in
    let m = c.requires.under_way.are.are c.args.i c.back.new.held.set (omega arith) (subst (λ log. IsLogOf c.args.course.now.board log c.back.new.held.set) c.back.ensures.logged c.back.ensures.held.logged) in
    let f = taken_back c.args.held.now.log c.raise.new.held.log (slice_index c.args.marks.now c.args.i) (w.are.few c.args.i (omega arith)) c.back.ensures.logged c.raise.ensures.front in
    let stays = w.are.are c.args.i c.raise.new.held.set (omega arith) (subst (λ log. IsLogOf c.args.course.now.board log c.raise.new.held.set) (c.raise.ensures.same no ∙ c.back.ensures.logged) c.raise.ensures.held.logged) in
    under_way_below c.args.i w c.raise.ensures.held f.0 f.1
    (none_is c.proposer_at-p.result _ c.proposer_at-p.ensures.proposer (omega (arith, c.from.ensures)) m w.none (c.raise.ensures.nothing no)) stays

pub returns-clause-fewer : goal.returns-clause-fewer
returns-clause-fewer c = λ no. front_inside (slice_index c.args.marks.now c.args.i) (subst (λ log. IsLogOf c.args.course.now.board log c.raise.new.held.set) (c.raise.ensures.same no ∙ c.back.ensures.logged) c.raise.ensures.held.logged) c.requires.under_way.made.held.logged
