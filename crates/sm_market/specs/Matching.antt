-- Matchings of a market, as the place that each agent holds on its own list.
use Rattle.std.specs.Prelude.{◌≡◌, ℕ, ◌<◌, List, Option, None, Some, slice_index_or, length, unwrap_or}
use Rattle.sm_market.specs.Lists.{Lists, row, entry, place_of}

-- the place of each agent's partner on the agent's own list; None for an agent that is unmatched
pub record Places : Type 0 where
  pub proposers : List (Option ℕ)
  pub reviewers : List (Option ℕ)

-- the same matching, with the sides exchanged
abbrev pub reversed : Places → Places
reversed m = record { proposers = m.reviewers; reviewers = m.proposers }

-- the place that an agent holds, if it is matched
abbrev pub held : List (Option ℕ) → ℕ → Option ℕ
held places a = slice_index_or places a None

-- how an agent stands: the place that it holds, or one past its list where it is unmatched. Lower is better,
-- so being unmatched is worse than every partner.
abbrev pub standing : List (List ℕ) → List (Option ℕ) → ℕ → ℕ
standing rows places a = unwrap_or (held places a) (length (row rows a))

-- each matched agent of one side holds a place of its list, and whom it finds there holds it in turn
pub record AreHeldInTurn (rows others : List (List ℕ)) (places theirs : List (Option ℕ)) : Type 0 where
  pub one_each : length places ≡ length rows
  pub on_list : (a i : ℕ) → held places a ≡ Some i → i < length (row rows a)
  pub in_turn : (a i : ℕ) → held places a ≡ Some i → held theirs (entry rows a i) ≡ Some (place_of others (entry rows a i) a)

-- a matching: for each agent at most one partner, on its list, whose partner it is
-- (Gusfield and Irving 1989, section 1.1.1; Manlove 2013, section 2.2)
pub record IsMatching (l : Lists) (m : Places) : Type 0 where
  pub proposers : AreHeldInTurn l.proposers l.reviewers m.proposers m.reviewers
  pub reviewers : AreHeldInTurn l.reviewers l.proposers m.reviewers m.proposers
