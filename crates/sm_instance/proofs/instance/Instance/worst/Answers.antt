use Rattle.std.proofs.Common.{sym, ap, ◌∙◌, arith}
use Rattle.sm_lists.specs.declared.compact_naming.CompactNaming.{CompactNaming}
use Rattle.sm_instance.proofs.AcceptLemmas.{one_sided_at}
use Rattle.sm_instance.proofs.LoadLemmas.{held_by}
use Rattle.sm_lists.specs.CompactNamings.{naming_at}
use Rattle.sm_instance.specs.Namings.{asked}
use Rattle.sm_instance.proofs.BreachLemmas.{worst_start, worst_more, worst_skip, worst_end}
use Rattle.sm_instance.proofs.RankLemmas.{ord_max-is}
use Rattle.sm_instance.proofs.instance.Instance.worst.Goals as goal
use Rattle.sm_instance.proofs.instance.Instance.worst.Goals.{then-holds+in-Some, then-holds+in_default, else-holds}

pub loop-e-init : goal.loop-e-init
loop-e-init c = worst_start c.args.self.now c.args.a.now.places.items c.args.r (asked c.namings_of-namings.result)

pub holds-requires : goal.holds-requires
holds-requires c =
    let by = ap (λ (n : CompactNaming). n.by) c.at-naming.ensures in
    let lt = c.namings_of-namings.ensures.namings.in_range c.loop-e.e (omega arith) in
    let each = c.requires.matching.assigned.one_each in omega arith

pub cross-requires-clause-on_list : goal.cross-requires-clause-on_list
cross-requires-clause-on_list c =
    rw (c.from.ensures, c.from-then-holds.ensures) (c.requires.matching.assigned.on_lists c.at-naming.result.by c.at-naming.result.place (c.holds.ensures.0 c.if-holds.true))

pub loop-e-preserved : goal.loop-e-preserved
loop-e-preserved c =
    let inst = c.namings_of-namings.ensures.instance in
    let named = c.namings_of-namings.ensures.namings in
    let assigned = c.requires.matching.assigned in
    elim c.if-holds.branch [
      | then-holds+in-Some w ↦ rw (w.worst-is, w.max-worst.ensures, ord_max-is c.loop-e.worst w.in-Some.place) (worst_more inst assigned named c.loop-e.invariant (omega arith) (held_by c.at-naming.ensures c.args.a.now.places.items (c.holds.ensures.0 w.if-holds.true)) w.in-Some.place (rw (w.from.ensures, w.from-then-holds.ensures, c.at-naming.ensures) at w.in-Some.ensures.cross))
      | then-holds+in_default w ↦
          let n = naming_at (asked c.namings_of-namings.result) c.loop-e.e in
          absurd (one_sided_at c.args.self.now n.by n.place (sym w.in_default.is ∙ (rw (w.from.ensures, w.from-then-holds.ensures, c.at-naming.ensures) at w.cross.ensures.cross)) (c.requires.matching.acceptable n.by n.place (held_by c.at-naming.ensures c.args.a.now.places.items (c.holds.ensures.0 w.if-holds.true))))
      | else-holds w ↦ rw w.worst-is (worst_skip inst assigned named c.loop-e.invariant (λ h. let t = c.holds.ensures.1 (held_by (sym c.at-naming.ensures) c.args.a.now.places.items h) in let f = w.if-holds.false in cc))
    ]

pub returns : goal.returns
returns c = worst_end c.namings_of-namings.ensures.instance c.requires.matching.assigned c.namings_of-namings.ensures.namings c.loop-e.invariant (omega arith)
