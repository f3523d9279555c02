use Rattle.std.proofs.Common.{◌≡◌, ◌∙◌, ap, subst, List, ℕ, IfOk}
use Rattle.sm_agents.specs.Written.{AgentData, lists_of}
use Rattle.sm_answer_roommates.proofs.PersonLemmas.{persons_within, persons_listed}
use Rattle.sm_answer_roommates.proofs.solution.market_of.Goals as goal

pub held-requires-clause-limits : goal.held-requires-clause-limits
held-requires-clause-limits c = rw (c.in_ok-lists.ensures, c.persons.ensures.agents) (persons_within c.persons.ensures.sound)

pub held-requires-clause-sound : goal.held-requires-clause-sound
held-requires-clause-sound c = rw (c.in_ok-lists.ensures, c.persons.ensures.agents) (persons_listed c.persons.ensures.sound)

pub returns : goal.returns
returns c =
    subst (λ (rows : List (List ℕ)). IfOk c.held.result (λ market. market ≡ rows)) (c.in_ok-lists.ensures ∙ ap (λ (persons : List AgentData). lists_of persons) c.persons.ensures.agents) c.held.ensures
