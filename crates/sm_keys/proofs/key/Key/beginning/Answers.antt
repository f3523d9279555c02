use Rattle.std.proofs.Common.{◌∙◌}
use Rattle.sm_keys.proofs.WordLemmas.{moved_up}
use Rattle.sm_keys.proofs.key.Key.beginning.Goals as goal

pub invariant_of-result-clause-is_word : goal.invariant_of-result-clause-is_word
invariant_of-result-clause-is_word c enough few = c.at_top.ensures ∙ moved_up c.args.first c.args.text.now enough few c.requires.first
