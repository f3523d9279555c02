use Rattle.std.proofs.Common.{inl, inr, arith, ◌∙◌, slice_index}
use Rattle.std.specs.List.{Contains}
use Rattle.sm_lists.proofs.Counting.{eq_or_ne}
use Rattle.sm_check_decide.specs.Exposure.{IsSafe}
use Rattle.sm_check_decide.proofs.exposure.are_safe.Goals as goal

pub loop-k-preserved : goal.loop-k-preserved
loop-k-preserved c =
    let here : Contains c.is_safe.new.trail.items (slice_index c.args.starts.now.items c.loop-k.k) = rw c.at.ensures at (c.is_safe.ensures.on c.if-not-is_safe.false) in
    let safe : IsSafe c.args.market.now c.args.m.now.places c.args.bound (slice_index c.args.starts.now.items c.loop-k.k) = rw c.at.ensures at (c.is_safe.ensures.safe c.if-not-is_safe.false) in
    record {
      proposers = c.is_safe.ensures.proposers ∙ c.loop-k.invariant.proposers;
      search = c.is_safe.ensures.search;
      all = c.is_safe.ensures.all c.if-not-is_safe.false;
      closed = c.is_safe.ensures.closed c.if-not-is_safe.false c.loop-k.invariant.closed;
      on = λ j less. elim (eq_or_ne j c.loop-k.k) [
        | inl e ↦ rw e here
        | inr ne ↦ c.is_safe.ensures.kept (slice_index c.args.starts.now.items j) (c.loop-k.invariant.on j (omega arith))
      ];
      before = λ j less. elim (eq_or_ne j c.loop-k.k) [
        | inl e ↦ rw e safe
        | inr ne ↦ c.loop-k.invariant.before j (omega arith)
      ];
    }
