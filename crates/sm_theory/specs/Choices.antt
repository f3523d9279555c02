-- Meet and join as one choice for each proposer.
use Rattle.std.specs.Prelude.{ℕ, Option, map}
use Rattle.sm_market.specs.Lists.{Lists, agents}
use Rattle.sm_market.specs.Matching.{Places, held}
use Rattle.sm_theory.specs.Lattice.{better, worse, with_proposers}
use Rattle.sm_theory.specs.declared.choice.Choice.{Choice}
use Rattle.sm_theory.specs.declared.choice.Choice.TheVariants.{Better, Worse}

-- the better of two places, or the worse
abbrev pub chosen : Choice → Option ℕ → Option ℕ → Option ℕ
chosen Better first second = better first second
chosen Worse first second = worse first second

-- each proposer gets the chosen one of its two partners
abbrev pub chosen_of : Choice → Lists → Places → Places → Places
chosen_of choice l m n = with_proposers l (map (λ p. chosen choice (held m.proposers p) (held n.proposers p)) (agents l.proposers))

-- the meet: each gets the better of the two (Gusfield and Irving 1989, section 1.3.1)
abbrev pub meet_of : Lists → Places → Places → Places
meet_of l m n = chosen_of Better l m n

-- the join: each gets the worse
abbrev pub join_of : Lists → Places → Places → Places
join_of l m n = chosen_of Worse l m n
