use Rattle.std.proofs.Common.{arith, inl, inr}
use Rattle.sm_lists.proofs.Counting.{eq_or_ne}
use Rattle.sm_room.proofs.FromLemmas.{hints_begin}
use Rattle.sm_room.proofs.RotateLemmas.{short_kept}
use Rattle.sm_room.proofs.rotating.rotate_all.Goals as goal

pub loop-x-preserved : goal.loop-x-preserved
loop-x-preserved c =
    let e = c.in_ok-shorten.ensures in
    record {
      one_each = e.one_each;
      good = e.good;
      short = λ y h. elim (eq_or_ne y c.loop-x.x) [
        | inl d ↦ rw d e.short
        | inr d ↦ short_kept c.loop-x.bounds c.shorten.new.bounds e.lower (c.loop-x.invariant.short y (omega arith))
      ];
      hints = e.hints;
      empty = e.empty;
      path = e.path;
    }

pub loop-x-init : goal.loop-x-init
loop-x-init c = record {
  one_each = c.requires.one_each;
  good = c.requires.good;
  short = λ y h. absurd (omega arith);
  hints = hints_begin c.args.bounds.now _ _ c.in_ok-hints.ensures.firsts c.in_ok-hints.ensures.seconds;
  empty = c.in_ok-walk.ensures.empty;
  path = c.in_ok-walk.ensures.path;
}
