use Rattle.std.proofs.Common.{◌≡◌, ℕ, ◌<◌, ◌∙◌, inl, inr, arith, length}
use Rattle.std.proofs.lemmas.List.{length-set, get_or-set_same, get_or-set_other}
use Rattle.sm_lists.proofs.Counting.{eq_or_ne}
use Rattle.sm_market.specs.Lists.{place_of}
use Rattle.sm_theory.specs.Rotations.{proposer_at, target_at}
use Rattle.sm_rotations.proofs.FootingLemmas.{proposer_in, taker_is}
use Rattle.sm_rotations.proofs.predecessors.find_places.Goals as goal

pub first_taker-requires-clause-in_range : goal.first_taker-requires-clause-in_range
first_taker-requires-clause-in_range c = proposer_in c.proposers.ensures.market c.requires.made.matching c.requires.exposed c.loop-i.i c.loop-i-test.true

pub bounds-places-p : goal.bounds-places-p
bounds-places-p c = omega (arith, proposer_in c.proposers.ensures.market c.requires.made.matching c.requires.exposed c.loop-i.i c.loop-i-test.true, c.loop-i.invariant.one_each)

pub loop-i-preserved : goal.loop-i-preserved
loop-i-preserved c =
    let h = c.proposers.ensures.market in
    let f = c.requires.made.matching in
    let x = c.requires.exposed in
    let t = c.first_taker.ensures in
    let p : ℕ = proposer_at c.args.pairs.now c.loop-i.i in
    let inside : p < length c.loop-i.places = omega (arith, proposer_in h f x c.loop-i.i c.loop-i-test.true, c.loop-i.invariant.one_each) in
    let place : c.first_taker.result ≡ place_of c.args.market.now.proposers p (target_at c.args.pairs.now c.loop-i.i) = taker_is h f x c.loop-i.i c.loop-i-test.true t.passed t.behind t.takes in
    record {
      one_each = length-set c.loop-i.places p c.first_taker.result ∙ c.loop-i.invariant.one_each;
      each = λ j less. elim (eq_or_ne j c.loop-i.i) [
        | inl e ↦ rw e (get_or-set_same c.loop-i.places p c.first_taker.result 0 inside ∙ place)
        | inr ne ↦ get_or-set_other c.loop-i.places p (proposer_at c.args.pairs.now j) c.first_taker.result 0 (x.distinct j c.loop-i.i (omega arith) c.loop-i-test.true) ∙ c.loop-i.invariant.each j (omega arith)
      ];
    }

pub returns : goal.returns
returns c =
    let e : c.loop-i.i ≡ length c.args.pairs.now = omega (arith, c.loop-i.auto.i-end, c.loop-i-test.false) in
    record { one_each = c.loop-i.invariant.one_each; each = λ i less. c.loop-i.invariant.each i (omega (arith, e, less)) }
