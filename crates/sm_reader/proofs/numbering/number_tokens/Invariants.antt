use Rattle.std.proofs.Common.{◌≡◌, ◌++◌, map, drop}
use Rattle.sm_text.specs.Slices.{texts_of}
use Rattle.sm_keys.specs.Tables.{number_in}
use Rattle.sm_reader.proofs.numbering.number_tokens.Given as goal

-- the numbers so far, and then those that are to come
abbrev pub invariant-names : goal.invariant-names
invariant-names l =
    let number = number_in l.names.declared in
    l.numbers.items ++ map number (texts_of (drop l.at l.tokens)) ≡ map number (texts_of (drop 1 l.tokens))
