use Rattle.sm_lister.proofs.bars.missing.Given as goal

abbrev pub invariant-loop-y : goal.invariant-loop-y
invariant-loop-y l = record {}
