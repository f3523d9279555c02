use Rattle.std.proofs.Common.{sym, arith}
use Rattle.sm_lists.proofs.BackLemmas.{kept_more, shared_more}
use Rattle.sm_lists.proofs.crosses.share_places.Goals as goal

pub loop-place-preserved : goal.loop-place-preserved
loop-place-preserved g c =
    record {
      kept = kept_more c.loop-place.invariant.kept c.share_place.ensures.kept;
      shared = λ own start.
          rw c.share_place.ensures.shared (shared_more c.place.result c.loop-place-test.true c.requires.found (sym c.place.ensures) (c.loop-place.invariant.shared own start));
    }

pub returns-clause-all : goal.returns-clause-all
returns-clause-all g c = λ own start.
    let s = c.loop-place.invariant.shared own start in
    record { as_long = s.first.as_long; all = λ k on. s.before k (omega arith) on }
