use Rattle.std.proofs.Common.{◌∙◌, [], sym}
use Rattle.sm_words.specs.Jobs.{job_of}
use Rattle.sm_top.proofs.CheckLemmas.{is_check}
use Rattle.sm_top.proofs.running.answer.Goals as goal

pub check_answer-requires-clause-accepted : goal.check_answer-requires-clause-accepted
check_answer-requires-clause-accepted g c =
    let is = is_check (job_of c.args.job.now) (sym c.judges_answer.ensures ∙ c.if-judges_answer.true) in
    rw c.deref-then-judges_answer.ensures.value (rw c.deref.ensures.value at (rw is at c.in_ok-read.ensures.read))

pub returns-then-judges_answer-clause-leaves : goal.returns-then-judges_answer-clause-leaves
returns-then-judges_answer-clause-leaves g c =
    let is = is_check (job_of c.args.job.now) (sym c.judges_answer.ensures ∙ c.if-judges_answer.true) in
    rw is (rw c.deref-then-judges_answer.ensures.value at (c.check_answer.ensures.leaves []))

pub returns-then-judges_answer-clause-stop : goal.returns-then-judges_answer-clause-stop
returns-then-judges_answer-clause-stop g c =
    let is = is_check (job_of c.args.job.now) (sym c.judges_answer.ensures ∙ c.if-judges_answer.true) in
    rw is (rw c.deref-then-judges_answer.ensures.value at c.check_answer.ensures.stop)
