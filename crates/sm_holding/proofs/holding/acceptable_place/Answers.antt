use Rattle.std.proofs.Common.{true, false, Some, None, refl, sym, arith}
use Rattle.sm_instance.proofs.AcceptLemmas.{acceptable_at, cross_some, entry_cross}
use Rattle.sm_holding.proofs.holding.acceptable_place.Goals as goal

pub returns-in-Some : goal.returns-in-Some
returns-in-Some c =
    let w = c.args.instance.now in
    let place = c.in_ok-place.place in
    let x = cross_some w.proposers c.args.p c.args.r place (sym c.in_ok-place.ensures) in
    record {
      at = sym x.0;
      there = entry_cross w.proposers c.args.p c.args.r place c.in_ok-place.ensures;
      on_list = omega (arith, x.0, x.1);
      acceptable = (acceptable_at w c.args.p c.args.r place c.in_ok-place.ensures (Some c.in-Some.field-0) c.in-Some.ensures.cross true refl).0 refl;
    }

pub returns-in-None : goal.returns-in-None
returns-in-None c a =
    let w = c.args.instance.now in
    let e = (acceptable_at w c.args.p c.args.r c.in_ok-place.place c.in_ok-place.ensures None c.in-None.ensures.cross false refl).1 a in
    absurd cc
