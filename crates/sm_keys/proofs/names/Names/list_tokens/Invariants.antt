use Rattle.std.proofs.Common.{◌≤◌, ◌+◌, ◌-◌, length}
use Rattle.std.specs.Prelude.{vec_len, vec_capacity}
use Rattle.sm_keys.specs.Lines.{IsListingLine}
use Rattle.sm_keys.proofs.names.Names.list_tokens.Given as goal

-- the names before the place are listed, and there is room for the others
abbrev pub invariant-tokens : goal.invariant-tokens
invariant-tokens l = record {
  listing : IsListingLine l.fn.self l.self l.line l.at l.stamp (vec_len l.indexes) l.indexes.items;
  room : vec_len l.indexes + (length l.line - l.at) ≤ vec_capacity l.indexes;
}

abbrev pub decreases-tokens : goal.decreases-tokens
decreases-tokens l = length l.line - l.at
