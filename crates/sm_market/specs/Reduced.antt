-- The reduced lists: what is left of the lists once nobody looks beyond the best and the worst that it can have.
use Rattle.std.specs.Prelude.{ℕ, Bool, false, ◌&&◌, nat_le, List, Option, Some, None, map, filter}
use Rattle.sm_market.specs.Lists.{Lists, row, place_of, agents}
use Rattle.sm_market.specs.Matching.{Places, held}

-- a is matched, and b is no worse for it than its partner
abbrev pub is_no_worse : List (List ℕ) → List (Option ℕ) → ℕ → ℕ → Bool
is_no_worse rows places a b = as_well (held places a)
  where
    as_well : Option ℕ → Bool
    as_well None = false
    as_well (Some i) = nat_le (place_of rows a b) i

-- a's list without those whom it likes less than the partner that it has at its worst, and without those who like a
-- less than the partner that they have at their worst; empty where a is unmatched
abbrev pub reduced_row : List (List ℕ) → List (List ℕ) → (worst theirs : List (Option ℕ)) → ℕ → List ℕ
reduced_row rows others worst theirs a = filter (λ b. is_no_worse rows worst a b && is_no_worse others theirs b a) (row rows a)

-- the reduced lists of a market whose proposers' best is `first` and whose reviewers' best is `last`. Each side has its
-- worst partners in the best of the other (Gusfield and Irving 1989, section 1.2.4).
abbrev pub reduced_lists_of : Lists → (first last : Places) → Lists
reduced_lists_of l first last = record {
  proposers = map (reduced_row l.proposers l.reviewers last.proposers first.reviewers) (agents l.proposers);
  reviewers = map (reduced_row l.reviewers l.proposers first.reviewers last.proposers) (agents l.reviewers);
}
