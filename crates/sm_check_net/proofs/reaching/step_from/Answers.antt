use Rattle.std.proofs.Common.{◌≡◌, ℕ, ◌+◌, arith, subst, sym, ap, ◌∙◌, List, [], ◌∷◌, ◌++◌, Contains}
use Rattle.sm_lists.specs.Pairs.{pair_at}
use Rattle.sm_check_net.proofs.ReachLemmas.{IsGoing, going_known, going_on, going_ends}
use Rattle.sm_check_net.proofs.reaching.step_from.Goals as goal
use Rattle.sm_check_net.proofs.reaching.step_from.Goals.{then-not-has, else-not-has}

pub loop-k-preserved : goal.loop-k-preserved
loop-k-preserved c =
    let k : ℕ = c.loop-k.k in
    let steps : List (ℕ × ℕ) = c.args.steps.now in
    let from : (pair_at steps k).0 ≡ c.args.from = omega (arith, ap (λ (x : ℕ × ℕ). x.0) c.at-node.ensures, c.if-node-from.false) in
    let to : c.at-node.result.1 ≡ (pair_at steps k).1 = ap (λ (x : ℕ × ℕ). x.1) c.at-node.ensures in
    let going = c.loop-k.invariant.going in
    record {
      going = elim c.if-not-has.branch [
        | then-not-has w ↦ subst (IsGoing steps c.args.from c.before-k.result (k + 1) c.args.trail.now) (sym (w.trail-is ∙ w.push.ensures.pushed ∙ ap (λ (v : ℕ). record { bound = c.loop-k.trail.bound; items = c.loop-k.trail.items ++ v ∷ [] }) to)) (going_on going (omega (arith, c.loop-k-test.true)) from w.push.ensures.room)
        | else-not-has w ↦ subst (IsGoing steps c.args.from c.before-k.result (k + 1) c.args.trail.now) (sym w.trail-is) (going_known going (subst (Contains c.loop-k.trail.items) to (c.has.ensures.0 w.if-not-has.false)))
      ];
      come = omega (arith, c.loop-k.invariant.come);
    }

pub returns-then-node-from : goal.returns-then-node-from
returns-then-node-from c = going_ends c.before-k.ensures.ordered c.before-k.ensures.parted c.loop-k.invariant.going c.loop-k.invariant.come (λ _ e. omega (arith, ap (λ (x : ℕ × ℕ). x.0) c.at-node.ensures, c.if-node-from.true, e))

pub returns : goal.returns
returns c = going_ends c.before-k.ensures.ordered c.before-k.ensures.parted c.loop-k.invariant.going c.loop-k.invariant.come (λ less. absurd (omega (arith, c.len-k-end.ensures, c.loop-k-test.false, less)))
