use Rattle.std.proofs.Common.{◌≡◌, ◌≤◌, ◌-◌, vec_len}
use Rattle.std.specs.Io.KnownBytes.{Consumes}
use Rattle.sm_serve.proofs.input.read_all.Given as goal

-- what was read so far is what the source gave
abbrev pub invariant-reading : goal.invariant-reading
invariant-reading g l = record {
  given : Consumes (g.S.Source.left l.initial.source) (g.S.Source.left l.source) l.bytes.items;
  room : vec_len l.chunk ≡ 65536;
  later : g.S.Source.faults l.initial.source ≤ g.S.Source.faults l.source;
}

abbrev pub decreases-reading : goal.decreases-reading
decreases-reading g l = 16777217 - vec_len l.bytes
