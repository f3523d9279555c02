use Rattle.sm_text.proofs.WitnessLemmas.{lines_end, names_begin, tokens_cut, numbers_spelt, plain_lines}
use Rattle.sm_text.proofs.witnesses.small_texts.Goals as goal

pub returns-clause-lines : goal.returns-clause-lines
returns-clause-lines c = lines_end

pub returns-clause-names : goal.returns-clause-names
returns-clause-names c = names_begin

pub returns-clause-tokens : goal.returns-clause-tokens
returns-clause-tokens c = tokens_cut

pub returns-clause-numbers : goal.returns-clause-numbers
returns-clause-numbers c = numbers_spelt

pub returns-clause-plain : goal.returns-clause-plain
returns-clause-plain c = plain_lines
