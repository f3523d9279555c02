use Rattle.std.proofs.Common.{◌≡◌, length, sym, subst}
use Rattle.std.proofs.lemmas.List.{length-map}
use Rattle.sm_market.specs.Vectors.{rows_of}
use Rattle.sm_theory.specs.Values.{rotations_of}
use Rattle.sm_poset.specs.Posets.{poset_of}
use Rattle.sm_poset.specs.Kept.{AreLeaders, IsKept}
use Rattle.sm_poset.specs.Moves.{AreMoves, moves_in}
use Rattle.sm_rotations.proofs.CountLemmas.{few_rotations}
use Rattle.sm_poset.proofs.poset.Poset.with_needs.Goals as goal

pub invariant_of-result : goal.invariant_of-result
invariant_of-result c =
    let rotations = rotations_of c.args.found.chain.rotations.items in
    let long : length rotations ≡ length c.args.found.chain.rotations.items = length-map c.args.found.chain.rotations.items (λ r. r.pairs.items) in
    let noted = rw c.as_ref.ensures at c.in_ok-of_proposers.ensures in
    let kept : IsKept (poset_of c.args.market.value c.args.found.chain.first rotations) (rows_of c.args.found.needs.items) (moves_in c.in_ok-of_proposers.field-0.of_proposers.items) c.in_ok-of_proposers.field-0.leaders.items = record {
      chain = record {
        market = noted.market;
        limits = noted.limits;
        first = c.requires.made;
        printed = c.requires.printed;
        few = few_rotations noted.market noted.limits c.requires.printed.chain;
      };
      needs_each = c.requires.needs.one_each;
      needs_are = c.requires.needs.each;
      moves_are = subst (λ n. AreMoves c.args.market.value rotations n (moves_in c.in_ok-of_proposers.field-0.of_proposers.items)) (sym long) noted.moves;
      leaders_are = subst (λ n. AreLeaders c.args.market.value rotations n c.in_ok-of_proposers.field-0.leaders.items) (sym long) noted.leaders;
    } in
    rw (c.in_ok-chain.ensures.ok, c.in_ok-digraph.ensures.ok) kept
