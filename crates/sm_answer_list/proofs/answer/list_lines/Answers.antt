use Rattle.sm_lists.proofs.ResultLemmas.{IfOk-more}
use Rattle.sm_answer_list.proofs.ListLemmas.{list_shown, lister_goes_on, lister_small}
use Rattle.sm_answer_list.proofs.answer.list_lines.Goals as goal

pub list_vectors-requires-clause-cursor : goal.list_vectors-requires-clause-cursor
list_vectors-requires-clause-cursor c = c.requires.lister.cursor

pub list_vectors-requires-clause-next : goal.list_vectors-requires-clause-next
list_vectors-requires-clause-next c = lister_goes_on c.requires.lister

pub list_vectors-requires-clause-small : goal.list_vectors-requires-clause-small
list_vectors-requires-clause-small c = lister_small c.proposer_count-count.ensures.instance c.requires.lister

pub returns-clause-right : goal.returns-clause-right
returns-clause-right c =
    IfOk-more c.list_vectors.result _ _ (λ made right lines given. list_shown c.args.input.now c.args.limit c.requires.lister lines (right lines given)) c.list_vectors.ensures.right
