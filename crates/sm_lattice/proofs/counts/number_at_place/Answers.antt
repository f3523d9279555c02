use Rattle.std.proofs.Common.{◌≡◌, ℕ, ◌<◌, arith, sym, ap, length, nat_lt, count_by}
use Rattle.sm_lattice.proofs.UpTo.{below_next, below_none, at_place, below_all}
use Rattle.sm_lattice.proofs.counts.number_at_place.Goals as goal

pub loop-x-init : goal.loop-x-init
loop-x-init c = record { fits = omega arith; fewer = λ some. some; below = λ numbers are. sym (below_none numbers) }

pub returns-then-from-up_to : goal.returns-then-from-up_to
returns-then-from-up_to c numbers are some within =
    let x : ℕ = c.loop-x.x in
    let inside : x < length c.args.counts.now = omega (arith, c.loop-x-test.true) in
    at_place numbers c.args.place x
    (omega (arith, c.loop-x.invariant.below numbers are, c.loop-x.invariant.fewer some))
    (omega (arith, c.loop-x.invariant.below numbers are, below_next numbers x, are.counted x inside, c.from.ensures, c.from-in-loop-x.ensures, c.if-from-up_to.true))

pub loop-x-preserved : goal.loop-x-preserved
loop-x-preserved c =
    let x : ℕ = c.loop-x.x in
    let inside : x < length c.args.counts.now = omega (arith, c.loop-x-test.true) in
    record {
      fits = omega (arith, c.loop-x.invariant.fits, c.from.ensures);
      fewer = λ some. omega (arith, c.from-in-loop-x.ensures, c.if-from-up_to.false);
      below = λ numbers are. omega (arith, c.loop-x.invariant.below numbers are, below_next numbers x, are.counted x inside, c.from.ensures);
    }

pub returns : goal.returns
returns c numbers are some within =
    let last : c.loop-x.x ≡ length c.args.counts.now = omega (arith, c.loop-x-test.false, c.loop-x.auto.x-end) in
    absurd (omega (arith, below_all numbers c.args.counts.now are, c.loop-x.invariant.fewer some, c.loop-x.invariant.below numbers are, ap (λ n. count_by (λ y. nat_lt y n) numbers) last))
