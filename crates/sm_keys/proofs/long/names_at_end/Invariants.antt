use Rattle.std.proofs.Common.{◌≡◌, ◌≤◌, true, length, drop}
use Rattle.std.specs.List.{list_all}
use Rattle.sm_text.specs.Name.{is_name}
use Rattle.sm_text.specs.Slices.{texts_of}
use Rattle.sm_keys.proofs.long.names_at_end.Given as goal

-- the tokens from here on are names
abbrev pub invariant-others : goal.invariant-others
invariant-others l = record {
  names : list_all is_name (drop l.others (texts_of l.tokens)) ≡ true;
  within : l.others ≤ length l.tokens;
}

abbrev pub decreases-others : goal.decreases-others
decreases-others l = l.others
