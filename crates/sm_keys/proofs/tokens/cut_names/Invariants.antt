use Rattle.std.proofs.Common.{◌≡◌, ◌++◌, ◌-◌, ℕ, ◌≤◌, length, drop}
use Rattle.std.specs.List.{list_any, list_all}
use Rattle.sm_text.specs.Name.{is_name}
use Rattle.sm_text.specs.Tokens.{tokens}
use Rattle.sm_keys.specs.Tokens.{is_bad}
use Rattle.sm_text.specs.Slices.{texts_of}
use Rattle.sm_keys.proofs.tokens.cut_names.Given as goal

-- the tokens so far and those from here on, whether one of them is bad, and the names at the end of those so far
abbrev pub invariant-names : goal.invariant-names
invariant-names l = record {
  cut : texts_of l.into.items ++ tokens (drop l.at l.line) ≡ texts_of l.initial.into.items ++ tokens (drop l.from l.line);
  bad : list_any is_bad (tokens (drop l.at l.line)) ≡ list_any is_bad (tokens (drop l.from l.line));
  names : (k : ℕ) → k ≤ length l.initial.into.items
      → list_all is_name (drop k (texts_of l.into.items)) ≡ list_all is_name (drop k (texts_of l.initial.into.items));
  longer : length l.initial.into.items ≤ length l.into.items;
  behind : l.from ≤ l.at;
}

abbrev pub decreases-names : goal.decreases-names
decreases-names l = length l.line - l.at
