use Rattle.std.proofs.Common.{drop}
use Rattle.sm_words.specs.Words.{texts}
use Rattle.sm_words.specs.Kept.{given_of}
use Rattle.sm_words.proofs.WordLemmas.{IsTrying}
use Rattle.sm_words.proofs.reading.operands_in.Given as goal

-- the words before this one are right and kept, and trying the rest comes to what trying all of them comes to
abbrev pub invariant-loop-word : goal.invariant-loop-word
invariant-loop-word l = IsTrying l.command l.number (given_of l.given) (texts (drop l.word-index l.words)) (texts l.words)
