use Rattle.std.proofs.Common.{◌≡◌, ◌≤◌, ◌+◌, drop}
use Rattle.sm_board.specs.Board.{firsts, members_in}
use Rattle.sm_least.proofs.least.count_members.Given as goal

abbrev pub invariant-loop-x : goal.invariant-loop-x
invariant-loop-x l = record {
  few : l.count ≤ l.x-index;
  counted : l.count + members_in l.members (firsts (drop l.x-index l.moves)) ≡ members_in l.members (firsts l.moves);
}
