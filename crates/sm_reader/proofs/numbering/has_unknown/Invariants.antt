use Rattle.std.proofs.Common.{◌≡◌, length, map, drop}
use Rattle.std.specs.List.{list_any}
use Rattle.sm_keys.specs.Tables.{is_unknown, text_at, AreBelow}
use Rattle.sm_reader.proofs.numbering.has_unknown.Given as goal

-- all names so far are declared
abbrev pub invariant-indexes : goal.invariant-indexes
invariant-indexes l =
    let t = l.names in
    record {
      declared : list_any (is_unknown t.declared) (map (text_at t.texts) (drop l.index-index l.indexes)) ≡ list_any (is_unknown t.declared) (map (text_at t.texts) l.indexes);
      in_range : AreBelow (length t.texts) (drop l.index-index l.indexes);
    }
