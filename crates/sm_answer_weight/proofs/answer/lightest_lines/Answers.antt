use Rattle.std.proofs.Common.{◌≡◌, ℕ, suc, ◌+◌, ◌∙◌, ap, arith, List, length}
use Rattle.std.proofs.lemmas.List.{length-map}
use Rattle.sm_answer.proofs.AnswerLemmas.{same_some, same_is, joined_some, joined_is, given_right, given_some}
use Rattle.sm_market.specs.Pairing.{Paired}
use Rattle.sm_market.specs.Vectors.{rows_of}
use Rattle.sm_theory.specs.Values.{rotations_of}
use Rattle.sm_theory.specs.declared.rotations.Rotation.{Rotation}
use Rattle.sm_answer_rotations.proofs.RotationLemmas.{are_shown, values_few, values_each, small_needs, seats_named}
use Rattle.sm_answer_weight.specs.Given.{weight_given}
use Rattle.sm_answer_weight.proofs.RightLemmas.{weight_right}
use Rattle.sm_answer_weight.proofs.LineLemmas.{weight_sound}
use Rattle.sm_answer_weight.proofs.answer.lightest_lines.Goals as goal

pub invariant_of-result-2 : goal.invariant_of-result-2
invariant_of-result-2 c =
    let poset = c.args.found.now.poset in
    let s = c.args.seats.now in
    let first = c.chain-chain.result.now.first in
    let values = c.deref.result.now in
    let vectors = c.all_needs-needs.result.now in
    let x = are_shown poset s.market first (rotations_of values) (rows_of vectors) c.requires.found.market c.chain-chain.ensures.first
    (ap rotations_of c.deref.ensures.value ∙ c.chain-chain.ensures.rotations) c.chain-chain.ensures.poset c.all_needs-needs.ensures in
    record {
      few = values_few s.market first.places values (rows_of vectors) x;
      one_each = values_each s.market first.places values vectors x;
      small = small_needs s.market (rotations_of values) (rows_of vectors) x.few x.one_each x.of;
      named = seats_named s first.places (rotations_of values) c.requires.seating.market c.requires.seating.seats x.printed.chain;
    }

pub returns-clause-right : goal.returns-clause-right
returns-clause-right c =
    let values = c.chain-chain.result.now.rotations.items in
    let many = ap (λ (r : List (List (ℕ × ℕ))). length r) c.chain-chain.ensures.rotations in
    let sink_is : c.len.result + 1 ≡ suc (length c.args.found.now.poset.rotations) = omega (arith, c.len.ensures, length-map values (λ (r : Rotation). r.pairs.items), many, c.chain-chain.ensures.poset.few) in
    let s = c.args.seats.now in
    let found = c.args.found.now in
    let first = c.chain-chain.result.now.first in
    let rotations = rotations_of c.deref.result.now in
    let needs = rows_of c.all_needs-needs.result.now in
    let sink : ℕ = c.len.result + 1 in
    given_right _ _ _ (weight_given s found first.places rotations needs sink)
    (joined_is _ _ _ _ (same_is _) (joined_is _ _ _ _ (same_is _) (joined_is _ _ _ _ (same_is _) (joined_is _ _ _ _ (same_is _) (joined_is _ _ _ _ (same_is _) (joined_is _ _ _ _ (same_is _) (joined_is _ _ _ _ (same_is _) (same_is _))))))))
    (weight_right c.args.instance.now s found first.places rotations needs sink c.requires.seats c.proposer_count-count.ensures.instance c.requires.seating c.requires.found c.chain-chain.ensures.poset
    (ap (λ (x : Paired). x.places) c.chain-chain.ensures.first) (ap rotations_of c.deref.ensures.value ∙ c.chain-chain.ensures.rotations) c.all_needs-needs.ensures sink_is)

pub returns-clause-some : goal.returns-clause-some
returns-clause-some c =
    let s = c.args.seats.now in
    let found = c.args.found.now in
    let first = c.chain-chain.result.now.first in
    let rotations = rotations_of c.deref.result.now in
    let needs = rows_of c.all_needs-needs.result.now in
    let sink : ℕ = c.len.result + 1 in
    given_some _ _ (weight_given s found first.places rotations needs sink)
    (joined_some _ _ (same_some _) (joined_some _ _ (same_some _) (joined_some _ _ (same_some _) (joined_some _ _ (same_some _) (joined_some _ _ (same_some _) (joined_some _ _ (same_some _) (joined_some _ _ (same_some _) (same_some _))))))))
    (joined_is _ _ _ _ (same_is _) (joined_is _ _ _ _ (same_is _) (joined_is _ _ _ _ (same_is _) (joined_is _ _ _ _ (same_is _) (joined_is _ _ _ _ (same_is _) (joined_is _ _ _ _ (same_is _) (joined_is _ _ _ _ (same_is _) (same_is _))))))))
    (weight_sound c.args.input.now c.args.instance.now s found first.places rotations needs sink c.requires.input c.proposer_count-count.ensures.instance c.requires.seating c.requires.found c.chain-chain.ensures.poset
    (ap (λ (x : Paired). x.places) c.chain-chain.ensures.first) (ap rotations_of c.deref.ensures.value ∙ c.chain-chain.ensures.rotations) c.all_needs-needs.ensures)
