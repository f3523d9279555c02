use Rattle.std.proofs.Common.{◌≡◌, ◌∙◌, ℕ, ℤ, ap, refl, sym, subst, length, All}
use Rattle.std.specs.List.{zip}
use Rattle.std.proofs.lemmas.List.{length-map}
use Rattle.serde_json.specs.Data.{object}
use Rattle.serde_json.specs.View.{view, members_view}
use Rattle.serde_json.specs.declared.value.Value.{Value}
use Rattle.sm_agents.specs.Sound.{IsPairOf}
use Rattle.sm_agents.specs.Written.{weighed}
use Rattle.sm_agents.specs.Vectors.{agent_of, agents_of}
use Rattle.sm_instance.specs.declared.inputs.Input.TheVariants.{Two}
use Rattle.sm_instance_lines.specs.Names.{said_order}
use Rattle.sm_json.specs.Making.{json_of, two_json, said_by, put_order, conditions_put}
use Rattle.sm_json.proofs.MakeLemmas.{conditions_are_put, forced_there, forbidden_there, weights_there, if_both}
use Rattle.sm_json.proofs.SoundLemmas.{two_known}
use Rattle.sm_json.proofs.making.two_value.Goals as goal

pub sides_and_weights-requires-clause-weighed : goal.sides_and_weights-requires-clause-weighed
sides_and_weights-requires-clause-weighed c =
    let w = c.args.instance.now in
    let left = c.proposers-proposers.result.now in
    let right = c.reviewers-reviewers.result.now in
    let lp : length left ≡ length w.proposers = sym (length-map left agent_of) ∙ ap length c.proposers-proposers.ensures.agents in
    let lr : length right ≡ length w.reviewers = sym (length-map right agent_of) ∙ ap length c.reviewers-reviewers.ensures.agents in
    subst (λ n. All (λ (x : ℕ × ℕ × ℤ). IsPairOf n (length right) (weighed x)) w.weights) (sym lp)
    (subst (λ n. All (λ (x : ℕ × ℕ × ℤ). IsPairOf (length w.proposers) n (weighed x)) w.weights) (sym lr) (weights_there w c.proposers-proposers.ensures.instance))

pub with_conditions-requires-clause-forced : goal.with_conditions-requires-clause-forced
with_conditions-requires-clause-forced c =
    let w = c.args.instance.now in
    let left = c.proposers-proposers.result.now in
    let right = c.reviewers-reviewers.result.now in
    let lp : length left ≡ length w.proposers = sym (length-map left agent_of) ∙ ap length c.proposers-proposers.ensures.agents in
    let lr : length right ≡ length w.reviewers = sym (length-map right agent_of) ∙ ap length c.reviewers-reviewers.ensures.agents in
    subst (λ xs. All (IsPairOf (length left) (length right)) xs) (sym c.forced-forced.ensures.pairs)
    (subst (λ n. All (IsPairOf n (length right)) w.forced) (sym lp) (subst (λ n. All (IsPairOf (length w.proposers) n) w.forced) (sym lr) (forced_there w c.forced-forced.ensures.instance)))

pub with_conditions-requires-clause-forbidden : goal.with_conditions-requires-clause-forbidden
with_conditions-requires-clause-forbidden c =
    let w = c.args.instance.now in
    let left = c.proposers-proposers.result.now in
    let right = c.reviewers-reviewers.result.now in
    let lp : length left ≡ length w.proposers = sym (length-map left agent_of) ∙ ap length c.proposers-proposers.ensures.agents in
    let lr : length right ≡ length w.reviewers = sym (length-map right agent_of) ∙ ap length c.reviewers-reviewers.ensures.agents in
    subst (λ xs. All (IsPairOf (length left) (length right)) xs) (sym c.forbidden-forbidden.ensures.pairs)
    (subst (λ n. All (IsPairOf n (length right)) w.forbidden) (sym lp) (subst (λ n. All (IsPairOf (length w.proposers) n) w.forbidden) (sym lr) (forbidden_there w c.forced-forced.ensures.instance)))

pub returns-clause-value : goal.returns-clause-value
returns-clause-value c =
    let w = c.args.instance.now in
    let left = agents_of c.proposers-proposers.result.now in
    let right = agents_of c.reviewers-reviewers.result.now in
    let both = zip w.weights w.seconds in
    let forced = c.forced-forced.result.now in
    let forbidden = c.forbidden-forbidden.result.now in
    let members = members_view c.put_order.new.members.entries in
    let is : two_json c.kind.result (said_by left right both forced forbidden (said_order w)) ≡ json_of (Two w) =
    two_known w c.kind.ensures.instance c.kind.result left right both forced forbidden (said_order w) c.kind.ensures.kind c.proposers-proposers.ensures.agents
    c.reviewers-reviewers.ensures.agents refl c.forced-forced.ensures.pairs c.forbidden-forbidden.ensures.pairs refl in
    if_both (λ (v : Value). view v ≡ object (conditions_put left right forced forbidden members)) (λ (v : Value). view v ≡ object (conditions_put left right forced forbidden members))
    (λ (v : Value). view v ≡ json_of (Two w)) c.with_conditions.result c.with_conditions.ensures c.with_conditions.ensures
    (λ v h k. h ∙ conditions_are_put c.kind.result left right both forced forbidden (said_order w) members (c.in_ok-put_order.ensures ∙ ap (put_order (said_order w)) c.in_ok-members.ensures) ∙ is)
