use Rattle.std.proofs.Common.{ℕ, Some, ◌∙◌, arith}
use Rattle.sm_answer_solve.specs.Offering.{IsOffering}
use Rattle.sm_answer_solve.proofs.OfferLemmas.{away_there, offers_left, stopped}
use Rattle.sm_answer_solve.proofs.offering.let_travel.Goals as goal

pub offers-smaller : goal.offers-smaller
offers-smaller c = rw c.in_ok-next.ensures.moved (offers_left c.requires.instance c.offers.invariant.on_its_way.offering (omega (arith, c.offers-test.true, c.reviewer_len.ensures.length)))

pub offers-preserved : goal.offers-preserved
offers-preserved c =
    let next : (begun : ℕ → ℕ) → IsOffering c.args.instance.now begun (Some c.offers.away) c.offers.nexts c.offers.places → IsOffering c.args.instance.now begun (Some c.in-Some.next) c.offer.new.nexts c.offer.new.places =
    λ begun given. rw c.in-Some.is at (c.in_ok-next.ensures.way begun given) in
    let i = c.offers.invariant in
    record {
      same = c.offer.ensures.same ∙ i.same;
      in_range = away_there c.requires.instance (next i.on_its_way.begun i.on_its_way.offering);
      on_its_way = record { begun = i.on_its_way.begun; offering = next i.on_its_way.begun i.on_its_way.offering };
      way = λ begun given. next begun (i.way begun given);
    }

pub returns-in-None-clause-way : goal.returns-in-None-clause-way
returns-in-None-clause-way c begun given = rw c.in-None.is at (c.in_ok-next.ensures.way begun (c.offers.invariant.way begun given))

pub returns-clause-way : goal.returns-clause-way
returns-clause-way c begun given = stopped c.requires.instance (c.offers.invariant.way begun given) (omega (arith, c.offers-test.false, c.reviewer_len.ensures.length))
