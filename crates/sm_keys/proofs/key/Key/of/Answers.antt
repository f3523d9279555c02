use Rattle.std.proofs.Common.{◌∙◌, arith}
use Rattle.sm_keys.proofs.WordLemmas.{one_at_top, two_at_top, three_at_top, four_at_top, five_at_top, six_at_top, seven_at_top, eight_at_top}
use Rattle.sm_keys.proofs.key.Key.of.Goals.{in-empty, in-len1, in-len2, in-len3, in-len4, in-len5, in-len6, in-len7, in-len8, in_default}
use Rattle.sm_keys.proofs.key.Key.of.Goals as goal

pub invariant_of-result-clause-is_word : goal.invariant_of-result-clause-is_word
invariant_of-result-clause-is_word c enough few = elim c.if-text-lt5.branch [
  | in-empty w ↦ absurd (omega (arith, w.in-empty.len_below, enough))
  | in-len1 w ↦ w.word-is ∙ w.from_le_bytes-word.ensures ∙ one_at_top c.args.text.now (omega (arith, w.in-len1.len_at_least, w.in-len1.len_below))
  | in-len2 w ↦ w.word-is ∙ w.from_le_bytes-word-in-len2.ensures ∙ two_at_top c.args.text.now (omega (arith, w.in-len2.len_at_least, w.in-len2.len_below))
  | in-len3 w ↦ w.word-is ∙ w.from_le_bytes-word-in-len3.ensures ∙ three_at_top c.args.text.now (omega (arith, w.in-len3.len_at_least, w.in-len3.len_below))
  | in-len4 w ↦ w.word-is ∙ w.from_le_bytes-word-in-len4.ensures ∙ four_at_top c.args.text.now (omega (arith, w.in-len4.len_at_least, w.in-len4.len_below))
  | in-len5 w ↦ w.word-is ∙ w.from_le_bytes-word-in-len5.ensures ∙ five_at_top c.args.text.now (omega (arith, w.in-len5.len_at_least, w.in-len5.len_below))
  | in-len6 w ↦ w.word-is ∙ w.from_le_bytes-word-in-len6.ensures ∙ six_at_top c.args.text.now (omega (arith, w.in-len6.len_at_least, w.in-len6.len_below))
  | in-len7 w ↦ w.word-is ∙ w.from_le_bytes-word-in-len7.ensures ∙ seven_at_top c.args.text.now (omega (arith, w.in-len7.len_at_least, w.in-len7.len_below))
  | in-len8 w ↦ w.word-is ∙ w.from_le_bytes-word-in-len8.ensures ∙ eight_at_top c.args.text.now (omega (arith, w.in-len8.len_at_least, few))
  | in_default w ↦ absurd (omega (arith, w.in_default.len_at_least, few))
]
