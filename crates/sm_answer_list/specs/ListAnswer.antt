-- The answer of `list`.
use Rattle.std.specs.Prelude.{ℕ, List, length, Option}
use Rattle.sm_agents.specs.Written.{Written}
use Rattle.sm_instance.specs.Ranks.{order_of}
use Rattle.sm_report.specs.Lines.{LineData}
use Rattle.sm_seats.specs.Vectors.{IsAllowedRankVector}
-- the lines of vectors, and the length of a cursor, passed on
pub use Rattle.sm_answer_vectors.specs.VectorAnswer.{last_line, vector_lines, IsCursor, IsVectorAnswer}

-- the lines are the rank vectors of a listing of the allowed stable matchings, in the order of the instance, and its
-- end (after Gusfield and Irving 1989, section 3.3)
pub record IsListAnswer (after : Option (List ℕ)) (limit : ℕ) (w : Written) (answer : List LineData) : Type 0 where
  pub cursor : IsCursor (length w.proposers) after
  pub listed : IsVectorAnswer (order_of w) (IsAllowedRankVector w) after limit answer
