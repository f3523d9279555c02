use Rattle.sm_answer_list.proofs.ListLemmas.{same_vectors}
use Rattle.sm_answer_list.proofs.listed.ListedVectors.advance.Goals as goal

pub returns-clause-same : goal.returns-clause-same
returns-clause-same c = same_vectors c.advance.ensures.same

pub returns-clause-next : goal.returns-clause-next
returns-clause-next c = λ found. let x = c.advance.ensures.next found in record { vector = x.0; at = x.1; next = x.2 }
