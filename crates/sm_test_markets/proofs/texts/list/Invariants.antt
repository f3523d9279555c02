use Rattle.std.proofs.Common.{◌<◌, length}
use Rattle.sm_test_markets.proofs.texts.list.Given as goal

abbrev pub invariant-loop-byte : goal.invariant-loop-byte
invariant-loop-byte g l = length l.list.items < 100
