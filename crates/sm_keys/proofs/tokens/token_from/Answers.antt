use Rattle.sm_keys.proofs.BadLemmas.{run_tells, mark_tells, bad_tells, mark_no_name, bad_no_name, run_begins}
use Rattle.sm_keys.proofs.WholeLemmas.{leading_run}
use Rattle.sm_keys.proofs.tokens.token_from.Goals as goal

pub is_name_run-requires-clause-all : goal.is_name_run-requires-clause-all
is_name_run-requires-clause-all c =
    let leads = c.in-Run.ensures.leads in
    leading_run c.args.line.now c.args.from c.in-Run.start c.in-Run.stop leads (run_begins c.args.line.now c.args.from c.in-Run.start c.in-Run.stop c.in-Run.ensures.token leads.some)

pub returns-in-Run-clause-bad : goal.returns-in-Run-clause-bad
returns-in-Run-clause-bad c = run_tells c.args.line.now c.args.from c.in-Run.start c.in-Run.stop c.in-Run.ensures.token c.in-Run.ensures.leads.some

pub returns-in-Mark-clause-bad : goal.returns-in-Mark-clause-bad
returns-in-Mark-clause-bad c = mark_tells c.args.line.now c.args.from c.in-Mark.at c.in-Mark.ensures.token

pub returns-in-Bad-clause-bad : goal.returns-in-Bad-clause-bad
returns-in-Bad-clause-bad c = bad_tells c.args.line.now c.args.from c.in-Bad.at c.in-Bad.ensures.token

pub returns-in-Mark-clause-name : goal.returns-in-Mark-clause-name
returns-in-Mark-clause-name c = mark_no_name c.args.line.now c.args.from c.in-Mark.at c.in-Mark.ensures.token

pub returns-in-Bad-clause-name : goal.returns-in-Bad-clause-name
returns-in-Bad-clause-name c = bad_no_name c.args.line.now c.args.from c.in-Bad.at c.in-Bad.ensures.token
