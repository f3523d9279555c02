use Rattle.std.proofs.Common.{inl, inr, arith, ◌∙◌}
use Rattle.std.specs.List.{Contains}
use Rattle.sm_lists.proofs.Counting.{eq_or_ne}
use Rattle.sm_market.specs.Lists.{entry}
use Rattle.sm_check_decide.proofs.exposure.add_span.Goals as goal

pub loop-place-preserved : goal.loop-place-preserved
loop-place-preserved c =
    let here : Contains c.put.new.self.items (entry c.args.market.now.reviewers c.args.r c.loop-place.place) = rw c.proposer_at.ensures.named at c.put.ensures.has in
    record {
      proposers = c.put.ensures.bound ∙ c.loop-place.invariant.proposers;
      kept = λ q w. c.put.ensures.kept q (c.loop-place.invariant.kept q w);
      added = λ place behind before. elim (eq_or_ne place c.loop-place.place) [
        | inl e ↦ rw e here
        | inr ne ↦ c.put.ensures.kept (entry c.args.market.now.reviewers c.args.r place) (c.loop-place.invariant.added place behind (omega arith))
      ];
    }
