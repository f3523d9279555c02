use Rattle.std.proofs.Common.{◌≤◌, ◌+◌, ◌-◌, length}
use Rattle.std.specs.Prelude.{vec_len, vec_capacity}
use Rattle.sm_keys.specs.Keys.{key_texts}
use Rattle.sm_keys.specs.Lines.{ListsLineFurther}
use Rattle.sm_keys.proofs.known.list_known.Given as goal

-- the names before the place are listed, and there is room for the others
abbrev pub invariant-names : goal.invariant-names
invariant-names l = record {
  listed : ListsLineFurther (key_texts l.known.names.now) l.fn.stamps l.stamps l.line l.stamp l.from l.at (vec_len l.fn.indexes) (vec_len l.indexes) l.fn.indexes.items l.indexes.items;
  behind : l.from ≤ l.at;
  room : vec_len l.indexes + (length l.line - l.at) ≤ vec_capacity l.indexes;
}

-- and so are those among the last eight bytes
abbrev pub invariant-ends : goal.invariant-ends
invariant-ends l = record {
  listed : ListsLineFurther (key_texts l.known.names.now) l.fn.stamps l.stamps l.line l.stamp l.from l.at (vec_len l.fn.indexes) (vec_len l.indexes) l.fn.indexes.items l.indexes.items;
  behind : l.from ≤ l.at;
  room : vec_len l.indexes + (length l.line - l.at) ≤ vec_capacity l.indexes;
}

abbrev pub decreases-names : goal.decreases-names
decreases-names l = length l.line - l.at

abbrev pub decreases-ends : goal.decreases-ends
decreases-ends l = length l.line - l.at
