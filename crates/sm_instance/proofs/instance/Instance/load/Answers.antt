use Rattle.std.proofs.Common.{sym, ap, arith}
use Rattle.sm_lists.specs.declared.compact_naming.CompactNaming.{CompactNaming}
use Rattle.sm_instance.proofs.LoadLemmas.{held_by, counted_start, counted_yes, counted_no, counted_end}
use Rattle.sm_instance.proofs.BreachLemmas.{few_named}
use Rattle.sm_instance.proofs.instance.Instance.load.Goals as goal
use Rattle.sm_instance.proofs.instance.Instance.load.Goals.{then-holds, else-holds}

pub loop-e-init : goal.loop-e-init
loop-e-init c = record {
  counted = counted_start c.requires.assignment c.namings_of-namings.ensures.instance.proposer_entries c.namings_of-namings.ensures.namings;
  few = omega arith;
}

pub holds-requires : goal.holds-requires
holds-requires c =
    let by = ap (λ (n : CompactNaming). n.by) c.at-naming.ensures in
    let lt = c.namings_of-namings.ensures.namings.in_range c.loop-e.e (omega arith) in
    let each = c.requires.assignment.one_each in omega arith

pub overflow_add-load : goal.overflow_add-load
overflow_add-load c =
    let few = few_named c.namings_of-namings.ensures.instance c.requires.assignment c.namings_of-namings.ensures.namings c.loop-e.e (omega arith) in
    let le = c.loop-e.invariant.few in omega arith

pub loop-e-preserved : goal.loop-e-preserved
loop-e-preserved c =
    let sound = c.namings_of-namings.ensures.instance.proposer_entries in
    elim c.if-holds.branch [
      | then-holds w ↦ let is = w.load-is in record {
        counted = rw w.load-is (counted_yes c.requires.assignment sound c.namings_of-namings.ensures.namings c.loop-e.invariant.counted (omega arith) (held_by c.at-naming.ensures c.args.a.now.places.items (c.holds.ensures.0 w.if-holds.true)));
        few = let le = c.loop-e.invariant.few in omega arith;
      }
      | else-holds w ↦ let is = w.load-is in record {
        counted = rw w.load-is (counted_no c.requires.assignment sound c.namings_of-namings.ensures.namings c.loop-e.invariant.counted (omega arith) (λ h. let t = c.holds.ensures.1 (held_by (sym c.at-naming.ensures) c.args.a.now.places.items h) in let f = w.if-holds.false in cc));
        few = let le = c.loop-e.invariant.few in omega arith;
      }
    ]

pub returns : goal.returns
returns c = sym (counted_end c.requires.assignment c.namings_of-namings.ensures.instance.proposer_entries c.namings_of-namings.ensures.namings c.loop-e.invariant.counted (omega arith))
