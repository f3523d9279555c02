use Rattle.std.proofs.Common.{◌≡◌, ◌≤◌, ◌∙◌, ℕ, sym, get_or, arith, rules, None, pos, FitsSigned, w64}
use Rattle.std.specs.Int.RustNames.{unsigned_abs}
use Rattle.std.specs.List.{position}
use Rattle.std.proofs.lemmas.Bool.{false≢true}
use Rattle.std.proofs.lemmas.Int.{to_z-of_z}
use Rattle.std.proofs.lemmas.List.{get_or_default}
use Rattle.std.proofs.lemmas.List.Quantifiers.{position-Some}
use Rattle.sm_text.specs.Limits.{most_weight}
use Rattle.sm_lists.specs.Pairs.{pair_at}
use Rattle.sm_agents.specs.Written.{weighed, is_same_pair}
use Rattle.sm_agents.proofs.ItemLemmas.{same_pair, pair_same, pair_at-weighed}
use Rattle.sm_agents.proofs.SecondLemmas.{none_of, position-none, already_some, given_more}
use Rattle.sm_agents.proofs.seconds.checked_seconds.Goals as goal

pub returns-in_default-clause-fault : goal.returns-in_default-clause-fault
returns-in_default-clause-fault c =
    let pairs = c.args.pairs.now in
    let seconds = c.args.seconds.now in
    let n = c.loop-n.n in
    let pair : ℕ × ℕ = weighed (get_or seconds n (0, 0, pos 0)) in
    let here = pair_at-weighed seconds n c.loop-n-test.true in
    let nowhere : position (is_same_pair pair) pairs ≡ None = sym c.find.ensures ∙ c.in_default.is in
    record {
      there = c.loop-n-test.true;
      bad = λ s. false≢true (sym (position-none (is_same_pair pair) pairs nowhere s.among.at (0, 0) s.among.there) ∙ pair_same pair (pair_at pairs s.among.at) (sym (s.among.is ∙ here)));
      earlier = c.loop-n.invariant.sound;
    }

pub returns-then-is_some-clause-fault : goal.returns-then-is_some-clause-fault
returns-then-is_some-clause-fault c =
    let pairs = c.args.pairs.now in
    let seconds = c.args.seconds.now in
    let n = c.loop-n.n in
    let k = c.in-Some.k in
    let pair : ℕ × ℕ = weighed (get_or seconds n (0, 0, pos 0)) in
    let here = pair_at-weighed seconds n c.loop-n-test.true in
    let found = position-Some (is_same_pair pair) pairs k (0, 0) (sym c.find.ensures ∙ c.in-Some.is) in
    let is = sym (same_pair pair (pair_at pairs k) found.1) ∙ sym here in
    let given = c.loop-n.given.items in
    let at = get_or_default given k None c.index.result.now (omega (arith, found.0, c.loop-n.invariant.one_each)) ∙ sym c.index.ensures in
    record {
      there = c.loop-n-test.true;
      bad = already_some n k c.loop-n.invariant c.index.result.now at (sym c.is_some.ensures ∙ c.if-is_some.true) is;
      earlier = c.loop-n.invariant.sound;
    }

pub loop-n-preserved : goal.loop-n-preserved
loop-n-preserved c =
    let pairs = c.args.pairs.now in
    let seconds = c.args.seconds.now in
    let n = c.loop-n.n in
    let k = c.in-Some.k in
    let second = (get_or seconds n (0, 0, pos 0)).2 in
    let pair : ℕ × ℕ = weighed (get_or seconds n (0, 0, pos 0)) in
    let here = pair_at-weighed seconds n c.loop-n-test.true in
    let found = position-Some (is_same_pair pair) pairs k (0, 0) (sym c.find.ensures ∙ c.in-Some.is) in
    let is = sym (same_pair pair (pair_at pairs k) found.1) ∙ sym here in
    let given = c.loop-n.given.items in
    let at = get_or_default given k None c.index.result.now (omega (arith, found.0, c.loop-n.invariant.one_each)) ∙ sym c.index.ensures in
    let fits : FitsSigned w64 second = search rules in
    let size = simp to_z-of_z at c.unsigned_abs.ensures.value in
    let most = c.unsigned_abs-in-loop-n.ensures.value in
    let le = c.if-unsigned_abs.false in
    let small : unsigned_abs second ≤ most_weight = omega arith in
    simp to_z-of_z (given_more n k c.loop-n.invariant c.requires.differ small found.0 is (at ∙ none_of c.index.result.now (sym c.is_some.ensures ∙ c.if-is_some.false)))
