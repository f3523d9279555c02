use Rattle.std.proofs.Common.{◌≡◌, ℕ, ◌<◌, ◌*◌, slice_index}
use Rattle.sm_answer_survey.specs.Regrets.{piece, AreWorseRanks, AreGreatest}
use Rattle.sm_answer_survey.proofs.regrets.keep_pieces.Given as goal

-- the ranks so far are those of the matching, and what is kept is right
abbrev pub invariant-loop-piece : goal.invariant-loop-piece
invariant-loop-piece l = record {
  same : (q : ℕ) → q < l.piece * piece → slice_index l.kept q ≡ slice_index l.ranks q;
  worse : AreWorseRanks l.instance l.kept l.worse;
  greatest : AreGreatest l.worse l.greatest;
}
