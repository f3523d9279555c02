use Rattle.std.proofs.Common.{sym, ap, arith}
use Rattle.sm_lists.specs.declared.compact_naming.CompactNaming.{CompactNaming}
use Rattle.sm_instance.proofs.LoadLemmas.{held_by, counted_start, counted_yes, counted_no}
use Rattle.sm_instance.proofs.BreachLemmas.{overfull_first, overfull_none}
use Rattle.sm_instance.proofs.instance.Instance.first_overfull.Goals as goal
use Rattle.sm_instance.proofs.instance.Instance.first_overfull.Goals.{then-holds+else-load-capacity, else-holds}

pub loop-e-init : goal.loop-e-init
loop-e-init c = record {
  counted = counted_start c.requires.assignment c.namings_of-namings.ensures.instance.proposer_entries c.namings_of-namings.ensures.namings;
  within = omega arith;
}

pub holds-requires : goal.holds-requires
holds-requires c =
    let by = ap (λ (n : CompactNaming). n.by) c.at-naming.ensures in
    let lt = c.namings_of-namings.ensures.namings.in_range c.loop-e.e (omega arith) in
    let each = c.requires.assignment.one_each in omega arith

pub returns-then-load-capacity : goal.returns-then-load-capacity
returns-then-load-capacity c =
    let capacity = c.capacity-capacity.ensures.capacity in
    rw (c.from.ensures, c.at-naming.ensures) (overfull_first c.namings_of-namings.ensures.instance c.requires.assignment c.namings_of-namings.ensures.namings c.loop-e.invariant.counted (omega arith) (held_by c.at-naming.ensures c.args.a.now.places.items (c.holds.ensures.0 c.if-holds.true)) (omega arith))

pub loop-e-preserved : goal.loop-e-preserved
loop-e-preserved c =
    let capacity = c.capacity-capacity.ensures.capacity in
    let inst = c.namings_of-namings.ensures.instance in
    elim c.if-holds.branch [
      | then-holds+else-load-capacity w ↦ let is = w.load-is in let ne = w.if-load-capacity.false in record {
        counted = rw w.load-is (counted_yes c.requires.assignment inst.proposer_entries c.namings_of-namings.ensures.namings c.loop-e.invariant.counted (omega arith) (held_by c.at-naming.ensures c.args.a.now.places.items (c.holds.ensures.0 w.if-holds.true)));
        within = let le = c.loop-e.invariant.within in omega arith;
      }
      | else-holds w ↦ let is = w.load-is in record {
        counted = rw w.load-is (counted_no c.requires.assignment inst.proposer_entries c.namings_of-namings.ensures.namings c.loop-e.invariant.counted (omega arith) (λ h. let t = c.holds.ensures.1 (held_by (sym c.at-naming.ensures) c.args.a.now.places.items h) in let f = w.if-holds.false in cc));
        within = let le = c.loop-e.invariant.within in omega arith;
      }
    ]

pub returns : goal.returns
returns c = overfull_none c.namings_of-namings.ensures.instance c.requires.assignment c.namings_of-namings.ensures.namings c.loop-e.invariant.counted (omega arith) c.loop-e.invariant.within
