use Rattle.std.proofs.Common.{◌∙◌, sym, ap, not, arith, below_more}
use Rattle.sm_instance.proofs.AcceptLemmas.{accepts_at, is_none_not}
use Rattle.sm_instance.proofs.BreachLemmas.{accepted, unmatched, unacceptable_all}
use Rattle.sm_instance.proofs.instance.Instance.first_unacceptable.Goals as goal
use Rattle.sm_instance.proofs.instance.Instance.first_unacceptable.Goals.{in-Some+else-is_none, in_default}

pub loop-p-preserved : goal.loop-p-preserved
loop-p-preserved c =
    elim c.match-place_held.branch [
      | in-Some+else-is_none w ↦ below_more _ _ c.loop-p.invariant (
          let some = is_none_not w.cross.result (w.is_none.ensures ∙ ap not w.if-is_none.false) in
          accepted c.loop-p.p w.in-Some.place (sym w.in-Some.ensures.held) (accepts_at c.proposer_count-p-end.ensures.instance c.loop-p.p w.in-Some.place some.0 w.in-Some.ensures.on_list (sym some.1 ∙ w.cross.ensures.cross)))
      | in_default w ↦ below_more _ _ c.loop-p.invariant (unmatched c.loop-p.p (sym c.place_held.ensures.held ∙ w.in_default.is))
    ]

pub returns : goal.returns
returns c = let count = c.proposer_count-p-end.ensures.count in unacceptable_all c.requires c.loop-p.p (omega arith) c.loop-p.invariant
