use Rattle.sm_seats.proofs.BeginLemmas.{AreLevelsTo}
use Rattle.sm_seats.proofs.levels.levels_between.Given as goal

abbrev pub invariant-loop-place : goal.invariant-loop-place
invariant-loop-place l = AreLevelsTo l.begins l.place l.levels.items
