use Rattle.std.proofs.Common.{◌≤◌, ◌-◌, length}
use Rattle.std.specs.Prelude.{vec_len, vec_capacity}
use Rattle.sm_text.specs.Slices.{texts_of}
use Rattle.sm_keys.specs.Tables.{IsListing}
use Rattle.sm_keys.proofs.names.Names.list.Given as goal

-- the names so far, and room for the others
abbrev pub invariant-entries : goal.invariant-entries
invariant-entries l = record {
  listing : IsListing l.fn.self l.self (texts_of l.entries) l.line (vec_len l.indexes) l.indexes.items;
  within : vec_len l.indexes ≤ length l.entries;
  room : length l.entries ≤ vec_capacity l.indexes;
}

abbrev pub decreases-entries : goal.decreases-entries
decreases-entries l = length l.entries - vec_len l.indexes
