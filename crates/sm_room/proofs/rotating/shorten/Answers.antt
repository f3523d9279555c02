use Rattle.std.proofs.Common.{◌≡◌, ◌-◌, ◌<◌, length, get_or, arith, refl, ◌∙◌}
use Rattle.std.proofs.lemmas.Grind.{get_or_default_zero}
use Rattle.sm_room.proofs.WalkLemmas.{walk_begins, path_kept}
use Rattle.sm_room.proofs.RotateLemmas.{walk_back, starts_back}
use Rattle.sm_room.proofs.FromLemmas.{hints_kept}
use Rattle.sm_room.proofs.rotating.shorten.Goals as goal

pub turns-init : goal.turns-init
turns-init c = record {
  one_each = c.requires.one_each;
  good = c.requires.good;
  lower = λ y. omega arith;
  hints = c.has_three.ensures.hints;
  path = c.requires.path;
  walk = walk_begins _ _ c.requires.empty c.requires.in_range;
  starts = rw c.requires.empty refl;
}

pub turns-preserved : goal.turns-preserved
turns-preserved c =
    let inv = c.turns.invariant in
    let found = rw c.in-Some.is at c.in_ok-one.ensures.found in
    let closed = found.1 in
    let rotated = c.cut.ensures.rotated in
    let path = c.next_cycle.new.walk.path.items in
    let keep = c.saturating_sub-keep.result in
    let is : keep ≡ c.in-Some.one - 1 = c.saturating_sub-keep.ensures in
    let within : keep < length path = omega (arith, is, closed.order) in
    let read : c.index-from.result.now ≡ get_or path keep 0 = c.index-from.ensures ∙ get_or_default_zero path keep c.index-from.result.now within in
    let cut = rw c.deref.ensures.value at c.cut.ensures.cut in
    record {
      one_each = rotated.one_each ∙ inv.one_each;
      good = rotated.good;
      lower = λ y. omega (arith, rotated.lower y, inv.lower y);
      hints = hints_kept c.turns.bounds c.cut.new.bounds rotated.lower c.in_ok-one.ensures.hints;
      path = rw (c.cut_off.ensures.path, c.cut_off.ensures.places) (path_kept c.in_ok-one.ensures.path c.cut_off.ensures.marks refl (omega (arith, within)));
      walk = rw (c.cut_off.ensures.path, c.cut_off.ensures.places, read) (walk_back closed inv.good found.2 cut refl is);
      starts = rw (c.cut_off.ensures.path, read) (starts_back closed inv.good found.2 cut refl is ∙ found.0 ∙ inv.starts);
    }

pub returns-clause-path : goal.returns-clause-path
returns-clause-path c = rw (c.cut_off-2.ensures.path, c.cut_off-2.ensures.places) (path_kept c.in_ok-one.ensures.path c.cut_off-2.ensures.marks refl (omega arith))
