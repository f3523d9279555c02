-- Lists that share entries, written out.
use Rattle.std.specs.Prelude.{◌≡◌, [], ◌∷◌}
use Rattle.sm_lists.specs.Spans.{rows_in}
use Rattle.sm_lists.specs.Raised.{raised_lists}
use Rattle.sm_lists.specs.Raises.{raised_rows}

-- two agents share a list, and the next has a list of its own and the last none
abbrev pub SharedLists : Type 0
SharedLists = rows_in (4 ∷ 6 ∷ 5 ∷ [])
    (record { start = 0; end = 2 } ∷ record { start = 0; end = 2 } ∷ record { start = 2; end = 3 } ∷ record { start = 3; end = 3 } ∷ [])
    ≡ (4 ∷ 6 ∷ []) ∷ (4 ∷ 6 ∷ []) ∷ (5 ∷ []) ∷ [] ∷ []

-- a list that is raised by 0, 1 and 2, and the same of lists that share it, of which the last isn't raised
abbrev pub RaisedLists : Type 0
RaisedLists = (raised_lists (4 ∷ 6 ∷ []) 3 ≡ (4 ∷ 6 ∷ []) ∷ (5 ∷ 7 ∷ []) ∷ (6 ∷ 8 ∷ []) ∷ [])
    × (raised_rows ((4 ∷ 6 ∷ []) ∷ (4 ∷ 6 ∷ []) ∷ (9 ∷ []) ∷ []) (0 ∷ 1 ∷ []) ≡ (4 ∷ 6 ∷ []) ∷ (5 ∷ 7 ∷ []) ∷ (9 ∷ []) ∷ [])
