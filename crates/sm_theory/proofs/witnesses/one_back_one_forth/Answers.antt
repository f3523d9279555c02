use Rattle.std.proofs.Common.{◌≡◌, refl, Bool, List, length}
use Rattle.sm_theory.specs.ClosedSets.{IsClosed}
use Rattle.sm_theory.specs.WitnessesListing.{two_pairs, two_pairs_first, two_pairs_chain}
use Rattle.sm_theory.proofs.Vectors.Witness.{two_pairs_are, none_needed, complete}
use Rattle.sm_theory.specs.WitnessesMedians.{first_alone, second_alone}
use Rattle.sm_theory.proofs.Routes.Shortest.{steps_are_shortest}
use Rattle.sm_theory.proofs.witnesses.one_back_one_forth.Goals as goal

-- no rotation of the two needs the other, so each set of them is closed
closed : (set : List Bool) → length set ≡ 2 → IsClosed two_pairs two_pairs_chain set
closed set e = record { one_each = e; closed = λ i j i_in j_in member need. absurd (none_needed i j i_in j_in need) }

pub returns-clause-steps : goal.returns-clause-steps
returns-clause-steps c = (refl, refl, refl)

pub returns-clause-route : goal.returns-clause-route
returns-clause-route c = (steps_are_shortest two_pairs two_pairs_first two_pairs_chain first_alone second_alone two_pairs_are.0 complete (closed first_alone refl) (closed second_alone refl)).1
