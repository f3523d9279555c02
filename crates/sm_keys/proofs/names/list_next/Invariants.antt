use Rattle.std.proofs.Common.{◌≡◌, ◌≤◌, length}
use Rattle.std.specs.Prelude.{vec_len, vec_capacity}
use Rattle.sm_text.specs.Slices.{texts_of}
use Rattle.sm_keys.specs.Tables.{ListsFurther}
use Rattle.sm_keys.specs.Keys.{key_texts}
use Rattle.sm_keys.proofs.names.list_next.Given as goal

-- the names so far are listed, and there is room for the others
abbrev pub invariant-entries : goal.invariant-entries
invariant-entries l = record {
  listed : ListsFurther (key_texts l.names) l.fn.stamps l.stamps (texts_of l.entries) l.line (vec_len l.fn.indexes) (vec_len l.indexes) l.fn.indexes.items l.indexes.items;
  place : vec_len l.indexes ≡ l.place;
  room : length l.entries ≤ vec_capacity l.indexes;
}
