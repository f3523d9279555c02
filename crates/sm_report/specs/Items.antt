-- The lists with which lines end.
use Rattle.std.specs.Prelude.{ℕ, List, [], ◌∷◌, map, decimal, All}
use Rattle.sm_instance.specs.declared.inputs.Input.{Input}
use Rattle.sm_report.specs.declared.lines.Seat.{Seat}
use Rattle.sm_report.specs.declared.items.Items.{Items}
use Rattle.sm_report.specs.declared.items.Items.TheVariants.{Lefts, Seats, Pairs, Numbers, Figures}
use Rattle.sm_report.specs.Texts.{left_name, seat_text, lefts, seats, seated_pairs, numbers}
use Rattle.sm_report.specs.Sound.{IsOnLeft, AreSeats, AreSeatedPairs}

-- the fields of a list
abbrev pub fields_of_items : Input → Items → List (List ℕ)
fields_of_items input (Lefts list) = lefts input list.now
fields_of_items input (Seats list) = seats input list.now
fields_of_items input (Pairs list) = seated_pairs input list.now
fields_of_items input (Numbers list) = numbers list.now
fields_of_items input (Figures list) = numbers list.now

-- the fields of each of its items
abbrev pub each_of : Input → Items → List (List (List ℕ))
each_of input (Lefts list) = map (λ p. left_name input p ∷ []) list.now
each_of input (Seats list) = map (λ (seat : Seat). seat_text input seat ∷ []) list.now
each_of input (Pairs list) = map (λ (pair : ℕ × Seat). left_name input pair.0 ∷ seat_text input pair.1 ∷ []) list.now
each_of input (Numbers list) = map (λ n. decimal n ∷ []) list.now
each_of input (Figures list) = map (λ n. decimal n ∷ []) list.now

-- the agents that a list names are there
abbrev pub AreNamed : Input → Items → Type 0
AreNamed input (Lefts list) = All (IsOnLeft input) list.now
AreNamed input (Seats list) = AreSeats input list.now
AreNamed input (Pairs list) = AreSeatedPairs input list.now
AreNamed input _ = Unit {0}
