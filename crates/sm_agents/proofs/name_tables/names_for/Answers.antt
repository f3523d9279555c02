use Rattle.std.proofs.Common.{◌≡◌, ◌++◌, ◌∷◌, [], ℕ, not, false, cond, List, ap, ◌∙◌, arith}
use Rattle.std.specs.List.{list_any}
use Rattle.std.specs.Str.{bytes_eq}
use Rattle.sm_agents.specs.Vectors.{agents_of}
use Rattle.sm_agents.proofs.AgentLemmas.{length-agents, name_is_new, names_more}
use Rattle.sm_agents.proofs.name_tables.names_for.Goals as goal

pub loop-a-preserved : goal.loop-a-preserved
loop-a-preserved c =
    let agents = agents_of c.args.agents.now in
    let a = c.loop-a.a in
    let old : List (List ℕ) = c.loop-a.names in
    let name : List ℕ = c.name_at.result.now in
    let long = length-agents c.args.agents.now in
    let new : list_any (bytes_eq name) old ≡ false = name_is_new agents a old name (omega arith) c.loop-a.invariant c.name_at.ensures (λ b l. c.requires.differ a b l (omega arith)) in
    c.in_ok-add.ensures.names ∙ ap (λ b. cond b (old ++ name ∷ []) old) (c.in_ok-add.ensures.added ∙ ap not new) ∙ names_more agents a old name (omega arith) c.loop-a.invariant c.name_at.ensures
