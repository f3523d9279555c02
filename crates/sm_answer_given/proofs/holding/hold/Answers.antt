use Rattle.std.proofs.Common.{sym, arith, subst, refl, true, false}
use Rattle.std.proofs.lemmas.List.{take_more}
use Rattle.sm_lists.specs.Pairs.{pair_at}
use Rattle.sm_holding.specs.PairsKept.{ArePairsHeld}
use Rattle.sm_holding.proofs.PairLemmas.{none_held, free_more, joins_by}
use Rattle.sm_answer_given.proofs.holding.hold.Goals as goal

pub loop-at-init : goal.loop-at-init
loop-at-init c = record {
  kept = none_held c.args.instance.now _ c.in_ok-holding.ensures.places c.in_ok-holding.ensures.loads;
  free = λ j l. absurd (omega (arith, l));
}

pub add-requires-clause-held : goal.add-requires-clause-held
add-requires-clause-held c = c.loop-at.invariant.kept.held

pub returns-then-not-add-clause-fault : goal.returns-then-not-add-clause-fault
returns-then-not-add-clause-fault c =
    let pair = pair_at c.args.pairs.now c.loop-at.at in
    let p_in = (c.requires.there c.loop-at.at (0, 0) c.loop-at-test.true).0 in
    record {
      at = c.loop-at.at;
      first = record {
        in_range = c.loop-at-test.true;
        breach = joins_by c.loop-at.invariant.kept pair.0 pair.1 p_in c.add.new.self false c.if-not-add.ensures;
        earlier = c.loop-at.invariant.free;
      };
      which_one = refl;
      flaw = refl;
      line_at = refl;
      proposer = refl;
      reviewer = refl;
    }

pub loop-at-preserved : goal.loop-at-preserved
loop-at-preserved c =
    let w = c.args.instance.now in
    let pairs = c.args.pairs.now in
    let k = c.loop-at.at in
    let pair = pair_at pairs k in
    let p_in = (c.requires.there k (0, 0) c.loop-at-test.true).0 in
    let joined = joins_by c.loop-at.invariant.kept pair.0 pair.1 p_in c.add.new.self true c.if-not-add.ensures in
    record {
      kept = subst (λ xs. ArePairsHeld w xs c.add.new.self) (sym (take_more pairs k (0, 0) c.loop-at-test.true)) joined.held;
      free = free_more w pairs k c.loop-at.invariant.free joined.free;
    }
