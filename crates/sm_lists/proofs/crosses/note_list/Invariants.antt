use Rattle.std.proofs.Common.{◌≡◌, ℕ, ◌+◌, ◌<◌, true, false, Some, length, get_or}
use Rattle.sm_lists.specs.Kept.{noted_of}
use Rattle.sm_lists.proofs.FirstLemmas.{AreFirst, IsAgain}
use Rattle.sm_lists.proofs.crosses.note_list.Given as goal

abbrev pub invariant-loop-place : goal.invariant-loop-place
invariant-loop-place l = record {
  rounds : l.notes.rounds ≡ l.fn.notes.rounds + 1;
  one_each : length l.notes.places ≡ length l.fn.notes.places;
  first : AreFirst (λ j. get_or l.list j 0) (λ j. j) l.place l.notes.places;
  once : l.repeats ≡ false → (k : ℕ) → k < l.place → get_or l.list k 0 < length l.notes.places → noted_of l.notes.places (get_or l.list k 0) ≡ Some k;
  again : l.repeats ≡ true → IsAgain l.list l.place l.notes.places;
}
