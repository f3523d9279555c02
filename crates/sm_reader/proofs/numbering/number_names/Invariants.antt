use Rattle.std.proofs.Common.{◌≡◌, ◌++◌, length, map, take, drop}
use Rattle.sm_keys.specs.Tables.{number_in, text_at, AreBelow}
use Rattle.sm_reader.proofs.numbering.number_names.Given as goal

-- the numbers so far, and then those of the indexes that are to come
abbrev pub invariant-entries : goal.invariant-entries
invariant-entries l =
    let t = l.names in
    record {
      numbered : take l.entry-index l.entries ++ map (number_in t.declared) (map (text_at t.texts) (drop l.entry-index l.entries)) ≡ map (number_in t.declared) (map (text_at t.texts) l.fn.entries);
      in_range : AreBelow (length t.texts) (drop l.entry-index l.entries);
    }
