use Rattle.std.proofs.Common.{◌+ℤ◌, pos, sym, ap, ◌∙◌, arith}
use Rattle.std.proofs.lemmas.Int.{ints, to_z-of_z}
use Rattle.sm_instance.specs.Matching.{held}
use Rattle.sm_agents.specs.Written.{second_weight}
use Rattle.sm_instance.specs.Ranks.{pair_second}
use Rattle.sm_instance.proofs.RankLemmas.{fold_below_more}
use Rattle.sm_instance.proofs.instance.Instance.weigh_second.Goals as goal
use Rattle.sm_instance.proofs.instance.Instance.weigh_second.Goals.{in-Some, in_default}

pub loop-p-preserved : goal.loop-p-preserved
loop-p-preserved c =
    let p = c.loop-p.p in
    let weight = pair_second c.args.self.now p in
    let more = fold_below_more ◌+ℤ◌ (pos 0) (λ q. pair_second c.args.self.now q (held c.args.a.now.places.items q)) p in
    elim c.match-place_held.branch [
      | in-Some w ↦
          let one = w.second-weight.ensures.second ∙ ap (second_weight c.args.self.now p) w.reviewer_at.ensures.named ∙ ap weight w.in-Some.ensures.held in
          let is = w.weight-is in
          record {
            weight = grind (arith, ints, to_z-of_z, more, one);
            below = let size = w.second-weight.ensures.size in omega (arith, ints);
            above = let size = w.second-weight.ensures.size in omega (arith, ints);
          }
      | in_default w ↦
          let none = ap weight (sym w.in_default.is ∙ c.place_held.ensures.held) in
          let is = w.weight-is in
          record {
            weight = grind (arith, ints, to_z-of_z, more, none);
            below = omega (arith, ints);
            above = omega (arith, ints);
          }
    ]
