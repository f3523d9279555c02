-- The pairs of a matching as lines.
use Rattle.std.specs.Prelude.{ℕ, List, Option}
use Rattle.std.specs.Option.{option_map}
use Rattle.sm_agents.specs.Written.{Written, entry}
use Rattle.sm_instance.specs.Matching.{held}
use Rattle.sm_report.specs.Lines.{LineData}
use Rattle.sm_answer.specs.declared.matching_lines.PairWord.{PairWord}
use Rattle.sm_answer.specs.declared.matching_lines.PairWord.TheVariants as word

-- a pair behind one of the words `pair`, `left` and `right`
abbrev pub pair_data : PairWord → ℕ → ℕ → LineData
pair_data word.Pair p r = LineData.Pair p r
pair_data word.Left p r = LineData.LeftPair p r
pair_data word.Right p r = LineData.RightPair p r

-- the pair of a proposer that is matched
abbrev pub matching_line : PairWord → Written → List (Option ℕ) → ℕ → Option LineData
matching_line word w places p = option_map (λ i. pair_data word p (entry w.proposers p i)) (held places p)

-- the same behind the word `pair`
abbrev pub pair_line : Written → List (Option ℕ) → ℕ → Option LineData
pair_line w places p = matching_line word.Pair w places p
