use Rattle.std.proofs.Common.{sym}
use Rattle.sm_words.specs.Words.{texts}
use Rattle.sm_words.proofs.WordLemmas.{others, words_meaning-asked}
use Rattle.sm_words.proofs.BoundLemmas.{read_in_bounds}
use Rattle.sm_words.proofs.FormLemmas.{read_in_form}
use Rattle.sm_words.proofs.reading.read_words.Goals as goal

pub returns-in-Some-clause-job : goal.returns-in-Some-clause-job
returns-in-Some-clause-job c =
    let h = words_meaning-asked c.args.words.now c.word-item.result c.as_str.result.now c.in-Some.command c.in-len1-up.len_at_least c.word-item.is c.as_str.ensures.value (sym c.in-Some.ensures) in
    rw h c.command_job.ensures.job

pub returns-in-Some-clause-fault : goal.returns-in-Some-clause-fault
returns-in-Some-clause-fault c =
    let h = words_meaning-asked c.args.words.now c.word-item.result c.as_str.result.now c.in-Some.command c.in-len1-up.len_at_least c.word-item.is c.as_str.ensures.value (sym c.in-Some.ensures) in
    rw h c.command_job.ensures.fault

pub returns-in-Some-clause-bounds : goal.returns-in-Some-clause-bounds
returns-in-Some-clause-bounds c = read_in_bounds c.in-Some.command (texts (others c.args.words.now)) c.command_job.result c.command_job.ensures.job

pub returns-in-Some-clause-form : goal.returns-in-Some-clause-form
returns-in-Some-clause-form c = read_in_form c.in-Some.command (texts (others c.args.words.now)) c.command_job.result c.command_job.ensures.job
