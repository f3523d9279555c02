use Rattle.std.proofs.Common.{◌≡◌, ◌++◌, ◌-◌, ◌||◌, length, drop}
use Rattle.std.specs.List.{list_any}
use Rattle.sm_text.specs.Tokens.{tokens}
use Rattle.sm_text.specs.Slices.{texts_of}
use Rattle.sm_keys.specs.Tokens.{is_bad}
use Rattle.sm_keys.specs.Enough.{AreEnough}
use Rattle.sm_keys.proofs.long.keep_tokens.Given as goal

-- the tokens that were kept so far, before those from here on, are enough, and whether one of them is bad
abbrev pub invariant-tokens : goal.invariant-tokens
invariant-tokens l = record {
  enough : AreEnough (texts_of l.kept.items ++ tokens (drop l.from l.line)) (tokens l.line);
  bad : (l.bad || list_any is_bad (tokens (drop l.from l.line))) ≡ list_any is_bad (tokens l.line);
}

abbrev pub decreases-tokens : goal.decreases-tokens
decreases-tokens l = length l.line - l.from
