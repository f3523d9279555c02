-- The better and the worse of two matchings of an instance, proposer by proposer.
use Rattle.std.specs.Prelude.{ℕ, List, length, map, Option}
use Rattle.std.specs.List.{range_with_len}
use Rattle.sm_agents.specs.Written.{Written}
use Rattle.sm_instance.specs.Matching.{held}
use Rattle.sm_theory.specs.Choices.{chosen}
use Rattle.sm_theory.specs.declared.choice.Choice.{Choice}
use Rattle.sm_theory.specs.declared.choice.Choice.TheVariants.{Better, Worse}
use Rattle.sm_report.specs.Heads.{HeadData}

-- each proposer has the chosen one of its partners in two matchings: the better in the meet, the worse in the join; to be
-- unmatched is worse than every partner (Gusfield and Irving 1989, section 1.3.1)
abbrev pub chosen_places : Choice → Written → (m n : List (Option ℕ)) → List (Option ℕ)
chosen_places choice w m n = map (λ p. chosen choice (held m p) (held n p)) (range_with_len 0 (length w.proposers))

-- what the better and the worse are the answers to
abbrev pub head_for : Choice → HeadData
head_for Better = HeadData.Meet
head_for Worse = HeadData.Join
