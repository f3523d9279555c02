use Rattle.std.proofs.Common.{◌≡◌, ◌++◌, ◌-◌, ℕ, ◌<◌, ◌≤◌, ◌||◌, true, false, length, drop}
use Rattle.std.specs.List.{list_any, list_all}
use Rattle.sm_text.specs.Name.{is_name}
use Rattle.sm_text.specs.Tokens.{tokens}
use Rattle.sm_keys.specs.Tokens.{is_bad}
use Rattle.sm_text.specs.Slices.{texts_of}
use Rattle.sm_keys.proofs.tokens.cut.Given as goal

-- the tokens so far and those from here on, whether one of them is bad, and the names at the end of those so far
abbrev pub invariant-tokens : goal.invariant-tokens
invariant-tokens l = record {
  cut : texts_of l.into.items ++ tokens (drop l.from l.line) ≡ tokens l.line;
  bad : (l.bad || list_any is_bad (tokens (drop l.from l.line))) ≡ list_any is_bad (tokens l.line);
  names : list_all is_name (drop l.others (texts_of l.into.items)) ≡ true;
  other : (k : ℕ) → k < l.others → list_all is_name (drop k (texts_of l.into.items)) ≡ false;
  within : l.others ≤ length l.into.items;
}

abbrev pub decreases-tokens : goal.decreases-tokens
decreases-tokens l = length l.line - l.from
