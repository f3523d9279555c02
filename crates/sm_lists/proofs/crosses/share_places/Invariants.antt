use Rattle.std.proofs.Common.{ℕ, Option, [], get_or}
use Rattle.sm_lists.specs.Held.{held_in}
use Rattle.sm_lists.specs.Kept.{AreKeptBut, HaveFirst}
use Rattle.sm_lists.proofs.BackLemmas.{AreShared}
use Rattle.sm_lists.proofs.crosses.share_places.Given as goal

abbrev pub invariant-loop-place : goal.invariant-loop-place
invariant-loop-place g l = record {
  kept : AreKeptBut l.b (held_in g.C.KeptPlace.kept l.fn.crosses) (held_in g.C.KeptPlace.kept l.crosses);
  shared : (own : ℕ → Option ℕ) → HaveFirst own l.list l.listed.places (get_or (held_in g.C.KeptPlace.kept l.fn.crosses) l.b [])
      → AreShared own l.list l.listed.places l.place (get_or (held_in g.C.KeptPlace.kept l.crosses) l.b []);
}
