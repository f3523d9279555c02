-- How many lines an instance has.
use Rattle.std.proofs.Common.{◌≡◌, ℕ, ◌+◌, Bool, true, false, cond, List, [], ◌∷◌, ◌++◌, length, map, min, Option, Some, None, is_some, codes, refl, sym, ap, ◌∙◌, arith}
use Rattle.std.specs.List.{zip}
use Rattle.std.proofs.lemmas.Slice.Zip.{length-zip}
use Rattle.sm_agents.specs.Written.{Written}
use Rattle.sm_agents.specs.Named.{SaidOrder}
use Rattle.sm_instance.specs.declared.inputs.Input.TheVariants.{Two}
use Rattle.sm_instance_lines.specs.Names.{said_agent, said_pair, said_weight, said_of}
use Rattle.sm_instance_lines.specs.Printed.{proposer_line, reviewer_line, weight_line, force_line, forbid_line, order_lines, last_lines, item_lines, agent_lines}
use Rattle.sm_instance_lines.proofs.PlaceLemmas.{part_length}

-- an order has a line, and the end has one
ending_counted : (o : Option SaidOrder) (t : Bool) → t ≡ is_some o → length (order_lines o ++ codes "end" ∷ []) ≡ cond t 2 1
ending_counted None t is = ap (λ s. cond s 2 1) (sym is)
ending_counted (Some o) t is = ap (λ s. cond s 2 1) (sym is)

module _ (w : Written) (each : length w.seconds ≡ length w.weights) where
  zip_long : length (zip w.weights w.seconds) ≡ length w.weights
  zip_long = length-zip w.weights w.seconds ∙ (let e : min (length w.weights) (length w.seconds) ≡ length w.weights = omega (arith, each) in e)

  -- there is a line for each agent and for each pair, and then one or two
  pub lines_counted : (own : Bool) → own ≡ is_some (said_of (Two w)).order
      → length w.proposers + length w.reviewers + (length w.weights + length w.forced + length w.forbidden) + cond own 2 1 ≡ length (agent_lines w.kind (said_of (Two w)))
  lines_counted own is =
      let last : List (List ℕ) = last_lines (said_of (Two w)) in
      let forbidden : List (List ℕ) = map forbid_line (map (said_pair w.proposers w.reviewers) w.forbidden) ++ last in
      let forced : List (List ℕ) = map force_line (map (said_pair w.proposers w.reviewers) w.forced) ++ forbidden in
      let items : List (List ℕ) = item_lines (said_of (Two w)) in
      let behind : List (List ℕ) = map (reviewer_line w.kind) (map (said_agent w.proposers) w.reviewers) ++ items in
      let all : List (List ℕ) = agent_lines w.kind (said_of (Two w)) in
      let five : length last ≡ cond own 2 1 = ending_counted (said_of (Two w)).order own is in
      let four : length forbidden ≡ length w.forbidden + length last = part_length forbid_line (said_pair w.proposers w.reviewers) w.forbidden last in
      let three : length forced ≡ length w.forced + length forbidden = part_length force_line (said_pair w.proposers w.reviewers) w.forced forbidden in
      let two : length items ≡ length (zip w.weights w.seconds) + length forced = part_length weight_line (said_weight w.proposers w.reviewers) (zip w.weights w.seconds) forced in
      let one : length behind ≡ length w.reviewers + length items = part_length (reviewer_line w.kind) (said_agent w.proposers) w.reviewers items in
      let none : length all ≡ length w.proposers + length behind = part_length proposer_line (said_agent w.reviewers) w.proposers behind in
      omega (arith, none, one, two, three, four, five, zip_long)
