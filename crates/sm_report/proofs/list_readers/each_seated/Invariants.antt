use Rattle.std.proofs.Common.{◌≡◌, ◌++◌, length, option_map}
use Rattle.sm_report.specs.Meanings.{left_in, seat_in, each_pair_in}
use Rattle.sm_text.specs.Slices.{texts_of}
use Rattle.sm_report.proofs.list_readers.each_seated.Given as goal

-- the pairs so far, and those that are left
abbrev pub invariant-pairs : goal.invariant-pairs
invariant-pairs l =
    option_map (λ xs. l.found.items ++ xs) (each_pair_in (left_in l.input) (seat_in l.input) (texts_of l.rest)) ≡ each_pair_in (left_in l.input) (seat_in l.input) (texts_of l.items)

abbrev pub decreases-pairs : goal.decreases-pairs
decreases-pairs l = length l.rest
