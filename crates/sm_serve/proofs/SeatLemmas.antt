-- Inputs that are refused for their seats.
use Rattle.std.proofs.Common.{◌≡◌, ℕ, ◌<◌, arith, length, List, Some, get_or, sym, ap, ◌∙◌, refl}
use Rattle.std.specs.Option.{option_map}
use Rattle.sm_text.specs.declared.refusal.RefusalKind.TheVariants.{TooManySeats}
use Rattle.std.proofs.lemmas.List.{get_or-map, length-map}
use Rattle.sm_agents.specs.declared.agents.Agent.{Agent}
use Rattle.sm_agents.specs.Vectors.{agents_of, agent_of}
use Rattle.sm_agents.specs.Written.{AgentData, Written, no_agent, agent_at}
use Rattle.sm_instance.specs.declared.inputs.Input.TheVariants.{Two}
use Rattle.sm_seats.specs.SeatEntries.{IsFirstTooMany}
use Rattle.sm_seats.proofs.LimitLaws.{first_too_many-some}
use Rattle.sm_serve.specs.Texts.{plain_refusal}
use Rattle.sm_serve.specs.Refusals.{IsTooMany}

-- the first reviewer with too many seats, and the line at which it stands
pub too_many_at : (w : Written) (r line : ℕ) → IsFirstTooMany w r → line ≡ (agent_at w.reviewers r).line → IsTooMany (Two w) (plain_refusal TooManySeats line)
too_many_at w r line first at = record {
  kind = TooManySeats;
  at = line;
  because = ap (option_map (λ r. (TooManySeats, (agent_at w.reviewers r).line))) (first_too_many-some first) ∙ ap (λ n. Some (TooManySeats, n)) (sym at);
  says = refl;
}

-- the line of an agent is read from its value
pub line_read : (values : List Agent) (agents : List AgentData) (r : ℕ) (d : Agent) → agents_of values ≡ agents → r < length agents → (get_or values r d).line ≡ (agent_at agents r).line
line_read values agents r d is here =
    let long : length (agents_of values) ≡ length agents = ap (λ (x : List AgentData). length x) is in
    ap (λ (x : AgentData). x.line) (sym (get_or-map agent_of values r d no_agent (omega (arith, here, long, length-map values agent_of)))) ∙ ap (λ (x : List AgentData). (agent_at x r).line) is
