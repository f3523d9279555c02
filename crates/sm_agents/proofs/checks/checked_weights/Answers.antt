use Rattle.std.proofs.Common.{◌≡◌, ◌++◌, ◌∷◌, [], cond, map, get_or, false, sym, ap, ◌∙◌, subst, arith, rules, below_more, pos, FitsSigned, w64}
use Rattle.std.specs.List.{list_any}
use Rattle.std.proofs.lemmas.Int.{to_z-of_z}
use Rattle.std.proofs.lemmas.Bool.{not-false, not-true}
use Rattle.sm_agents.specs.Written.{weighed, is_same_pair}
use Rattle.sm_agents.specs.Sound.{IsPairOf}
use Rattle.sm_agents.proofs.ItemLemmas.{length-weighed, pair_at-weighed, fresh_pair, stale_pair, pairs_more}
use Rattle.sm_agents.proofs.checks.checked_weights.Goals as goal
use Rattle.sm_agents.proofs.checks.checked_weights.Goals.{then-p-proposers-via-then-p-proposers, then-p-proposers-via-else-p-proposers+then-r-reviewers, then-p-proposers-via-else-p-proposers+else-r-reviewers+then-unsigned_abs}

pub returns-then-p-proposers-clause-fault : goal.returns-then-p-proposers-clause-fault
returns-then-p-proposers-clause-fault c =
    let weights = c.args.weights.now in
    let long = length-weighed weights in
    let here = pair_at-weighed weights c.loop-n.n c.loop-n-test.true in
    record {
      there = omega arith;
      bad = λ s.
          let pair = subst (IsPairOf c.args.proposers c.args.reviewers) here s.pair in
          elim c.then-p-proposers.branch [
            | then-p-proposers-via-then-p-proposers w ↦ let ge = w.if-p-proposers.true in let lt = pair.proposer in omega arith
            | then-p-proposers-via-else-p-proposers+then-r-reviewers w ↦ let ge = w.if-r-reviewers.true in let lt = pair.reviewer in omega arith
            | then-p-proposers-via-else-p-proposers+else-r-reviewers+then-unsigned_abs w ↦
                let fits : FitsSigned w64 (get_or weights c.loop-n.n (0, 0, pos 0)).2 = search rules in
                let is = simp to_z-of_z at w.unsigned_abs.ensures.value in
                let most = w.unsigned_abs-else-r-reviewers.ensures.value in
                let gt = w.if-unsigned_abs.true in
                let le = s.size c.loop-n-test.true in
                omega arith
          ];
      earlier = c.loop-n.invariant.sound;
    }

pub returns-then-not-is_new-clause-fault : goal.returns-then-not-is_new-clause-fault
returns-then-not-is_new-clause-fault c =
    let weights = c.args.weights.now in
    let long = length-weighed weights in
    record {
      there = omega arith;
      bad = λ s. stale_pair (map weighed weights) c.loop-n.n c.loop-n.pairs _ (omega arith) c.loop-n.invariant.told (sym (pair_at-weighed weights c.loop-n.n c.loop-n-test.true))
          (not-false _ (sym c.in_ok-is_new.ensures.added ∙ c.if-not-is_new.true)) (s.fresh c.loop-n-test.true);
      earlier = c.loop-n.invariant.sound;
    }

pub loop-n-preserved : goal.loop-n-preserved
loop-n-preserved c =
    let weights = c.args.weights.now in
    let long = length-weighed weights in
    let old = c.loop-n.pairs in
    let here = sym (pair_at-weighed weights c.loop-n.n c.loop-n-test.true) in
    let new : list_any (is_same_pair (weighed (get_or weights c.loop-n.n (0, 0, pos 0)))) old ≡ false = not-true _ (sym c.in_ok-is_new.ensures.added ∙ c.if-not-is_new.false) in
    record {
      told = c.in_ok-is_new.ensures.pairs ∙ ap (λ b. cond b (old ++ weighed (get_or weights c.loop-n.n (0, 0, pos 0)) ∷ []) old) c.if-not-is_new.false
          ∙ pairs_more (map weighed weights) c.loop-n.n old _ (omega arith) c.loop-n.invariant.told here;
      sound = below_more _ _ c.loop-n.invariant.sound (record {
        pair = subst (IsPairOf c.args.proposers c.args.reviewers) here (record { proposer = c.if-p-proposers.false; reviewer = c.if-r-reviewers.false });
        size = λ lt. let fits : FitsSigned w64 (get_or weights c.loop-n.n (0, 0, pos 0)).2 = search rules in let is = simp to_z-of_z at c.unsigned_abs.ensures.value in let le = c.if-unsigned_abs.false in omega arith;
        fresh = λ lt. fresh_pair (map weighed weights) c.loop-n.n old _ (omega arith) c.loop-n.invariant.told here new;
      });
    }
