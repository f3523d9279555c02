use Rattle.std.proofs.Common.{◌≡◌, drop}
use Rattle.std.specs.List.{list_any}
use Rattle.sm_text.specs.Slices.{texts_of}
use Rattle.sm_keys.specs.Tables.{is_unknown}
use Rattle.sm_reader.proofs.numbering.are_unknown.Given as goal

-- all names so far are declared
abbrev pub invariant-names : goal.invariant-names
invariant-names l = list_any (is_unknown l.names.declared) (texts_of (drop l.at l.tokens)) ≡ list_any (is_unknown l.names.declared) (texts_of (drop 1 l.tokens))
