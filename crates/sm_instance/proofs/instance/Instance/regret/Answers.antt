use Rattle.std.proofs.Common.{◌≡◌, max, sym, ap, ◌∙◌, arith}
use Rattle.sm_instance.specs.Matching.{held}
use Rattle.sm_instance.specs.Ranks.{worse_rank}
use Rattle.sm_instance.proofs.RankLemmas.{fold_on, ord_max-is}
use Rattle.sm_instance.proofs.instance.Instance.regret.Goals as goal
use Rattle.sm_instance.proofs.instance.Instance.regret.Goals.{in-Some, in_default}

pub loop-p-preserved : goal.loop-p-preserved
loop-p-preserved c =
    let p = c.loop-p.p in
    let rank = worse_rank c.args.self.now p in
    let more = fold_on max 0 (λ q. worse_rank c.args.self.now q (held c.args.a.now.places.items q)) p c.loop-p.regret in
    elim c.match-place_held.branch [
      | in-Some w ↦
          w.regret-is ∙ w.max-regret.ensures ∙ ord_max-is c.loop-p.regret w.worse_rank.result
          ∙ more w.worse_rank.result c.loop-p.invariant (w.worse_rank.ensures ∙ ap rank w.in-Some.ensures.held)
      | in_default w ↦
          let same : c.loop-p.regret ≡ max c.loop-p.regret 0 = omega arith in
          w.regret-is ∙ same ∙ more 0 c.loop-p.invariant (ap rank (sym w.in_default.is ∙ c.place_held.ensures.held))
    ]
