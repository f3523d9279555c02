use Rattle.std.proofs.Common.{ℕ, List, length, sym, subst, arith}
use Rattle.sm_market.specs.Lists.{Lists}
use Rattle.sm_market.specs.Matching.{Places}
use Rattle.sm_theory.specs.Chains.{IsPrintedChain}
use Rattle.sm_theory.specs.Values.{rotations_of}
use Rattle.sm_rotations.specs.declared.order.ChainWithNeeds.{ChainWithNeeds}
use Rattle.sm_rotations.proofs.CountLemmas.{few_rotations}
use Rattle.sm_answer_rotations.specs.Found.{AreRotationsOf}
use Rattle.sm_answer_rotations.proofs.finding.find_rotations.Goals as goal
use Rattle.sm_rotations.proofs.NeedsLemmas.{as_many}

pub returns : goal.returns
returns c =
    let found = c.in_ok-found.found in
    let e = c.in_ok-found.ensures in
    let rotations = rotations_of found.chain.rotations.items in
    subst (λ (l : Lists). AreRotationsOf l found) c.market-market.ensures
    (record {
      made = e.made;
      printed = subst (λ (m : Places). IsPrintedChain c.market-market.result.now m rotations) (sym e.first) e.chain;
      needs = e.needs;
      few = let few = few_rotations c.proposers.ensures.market c.proposers.ensures.limits e.chain.chain in omega (arith, few, as_many found.chain.rotations.items);
    })
