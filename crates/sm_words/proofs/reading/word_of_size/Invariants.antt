use Rattle.std.proofs.Common.{◌≡◌, ◌+◌, drop}
use Rattle.std.specs.List.{position_or_len}
use Rattle.sm_words.specs.Words.{texts, gives_size, word_of_size}
use Rattle.sm_words.proofs.reading.word_of_size.Given as goal

-- looking for the word from here comes to the number of the word
abbrev pub invariant-loop-word : goal.invariant-loop-word
invariant-loop-word l = position_or_len gives_size (texts (drop l.word-index l.operands)) + l.number ≡ word_of_size (texts l.operands)
