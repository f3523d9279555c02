use Rattle.std.proofs.Common.{◌≡◌, ◌≤◌}
use Rattle.sm_seats.proofs.TableLemmas.{IsCounted}
use Rattle.sm_seats.proofs.counts.seats_at.Given as goal

abbrev pub invariant-loop-place : goal.invariant-loop-place
invariant-loop-place l = record {
  counted : IsCounted l.instance.reviewers l.instance.proposers l.r l.place l.count;
  within : l.count ≤ l.capacity;
  searched : l.search ≡ l.instance;
}
