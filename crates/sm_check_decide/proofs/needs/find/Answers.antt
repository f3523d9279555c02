use Rattle.std.proofs.Common.{◌≡◌, ℕ, arith, ◌∙◌, refl, length}
use Rattle.sm_theory.specs.Rotations.{proposer_at}
use Rattle.sm_theory.specs.Marks.{marks_of, IsBetween, Adds}
use Rattle.sm_check_decide.proofs.NotingLemmas.{found_more, from_is}
use Rattle.sm_check_decide.proofs.needs.find.Goals as goal

pub loop-i-preserved : goal.loop-i-preserved
loop-i-preserved c =
    let l = c.args.market.now in
    let p : ℕ = proposer_at c.args.pairs.now c.loop-i.i in
    let between : Adds (λ k. IsBetween (marks_of c.args.marks.now p) c.proposer_standing-from.result c.place_behind-to.result k) c.add.new.found.items c.add_between.new.found.items = rw c.at.ensures at c.add_between.ensures.added in
    record {
      bound = c.add_between.ensures.bound ∙ c.add.ensures.bound ∙ c.loop-i.invariant.bound;
      added = found_more {l = l} {rotation = c.args.pairs.now} {notes = c.args.last.now} {marks = c.args.marks.now} {n = c.loop-i.i} p c.proposer_standing-from.result c.place_behind-to.result refl
          (c.proposer_standing-from.ensures.standing ∙ from_is c.proposers.ensures.market c.requires.made.matching c.requires.exposed c.loop-i.i c.loop-i-test.true)
          c.place_behind-to.ensures
          c.loop-i.invariant.added c.add.ensures.added between;
    }

pub returns-clause-found : goal.returns-clause-found
returns-clause-found c =
    let e : c.loop-i.i ≡ length c.args.pairs.now = omega (arith, c.loop-i.auto.i-end, c.loop-i-test.false) in
    rw e at c.loop-i.invariant.added
