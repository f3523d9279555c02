-- What an instance says can be said in JSON.
use Rattle.std.proofs.Common.{◌≡◌, ◌≢◌, ℕ, ◌<◌, ◌≤◌, Bool, true, false, List, length, map, All, get_or, nat_eq, Option, Some, None, if◌then◌else◌, option_map, refl, sym, ap, ◌∙◌, subst, arith, ℤ, pos}
use Rattle.std.specs.Int.RustNames.{unsigned_abs}
use Rattle.std.proofs.lemmas.List.{get_or_default}
use Rattle.std.specs.List.{range_with_len, zip}
use Rattle.std.specs.Cmp.Lexicographic.{pointwise}
use Rattle.std.proofs.lemmas.Slice.Zip.{length-zip, get_or-zip}
use Rattle.std.proofs.lemmas.List.Elements.{All-nil, All-map}
use Rattle.sm_text.specs.Limits.{most_weight}
use Rattle.sm_text.specs.Name.{is_name}
use Rattle.sm_agents.specs.Written.{AgentData, Written, no_agent, agent_at, row}
use Rattle.sm_agents.specs.Sound.{IsInstance, AreSoundAgents, AreSoundEntries, is_single}
use Rattle.sm_instance.specs.Inputs.{IsInput}
use Rattle.sm_agents.specs.Named.{SaidOrder, names_first}
use Rattle.sm_agents.specs.declared.kinds.Kind.{Kind}
use Rattle.sm_agents.specs.declared.kinds.Kind.TheVariants.{Marriage, Hospitals, Roommates}
use Rattle.sm_instance.specs.declared.inputs.Input.{Input}
use Rattle.sm_instance.specs.declared.inputs.Input.TheVariants.{Two, Room}
use Rattle.sm_agents.proofs.ItemLemmas.{length-items}
use Rattle.sm_answer.specs.Writing.{text_of}
use Rattle.sm_instance_lines.specs.Names.{name_of, said_agent, said_pair, said_weight, said_order, said_of}
use Rattle.sm_instance_lines.specs.Printed.{lines_of}
use Rattle.sm_instance_lines.proofs.ItemLemmas.{weight_there, force_there, forbid_there}
use Rattle.sm_json.specs.Parts.{has_capacities}
use Rattle.sm_json.specs.JsonText.{json_lines, json_text}
use Rattle.sm_json.specs.Making.{two_json, said_json, said_by, json_of}
use Rattle.sm_json.specs.Saying.{IsSaidAgent, IsSaidPair, IsSaidWeight, IsSaid}
use Rattle.sm_json.proofs.BackLemmas.{two_again, room_again, lines_again}

-- agents of a side, who list agents of others
module _ (agents others : List AgentData) (single other_single : Bool) (sound : AreSoundAgents agents single) (listed : AreSoundEntries agents (length others))
    (them : AreSoundAgents others other_single) (has_capacity : Bool) (one_place : has_capacity ≡ false → single ≡ true) where
  same_agent : (k : ℕ) (d : AgentData) → k < length agents → get_or agents k d ≡ agent_at agents k
  same_agent k d below = get_or_default agents k d no_agent below

  entry_below : (k : ℕ) (i e : ℕ) → i < length (row agents k) → get_or (row agents k) i e < length others
  entry_below k i e below = subst (λ n. n < length others) (get_or_default (row agents k) i 0 e below) (listed.sound k i below).in_range

  agent_said : (k : ℕ) → k < length agents → IsSaidAgent has_capacity (said_agent others (agent_at agents k))
  agent_said k below = record {
    name = (sound.sound k below).name;
    entries = All-map (λ name. is_name name ≡ true) (name_of others) (row agents k) (λ i e within. (them.sound (get_or (row agents k) i e) (entry_below k i e within)).name);
    capacity = (sound.sound k below).capacity;
    one = λ without. (sound.sound k below).one (one_place without);
  }

  agents_said : All (IsSaidAgent has_capacity) (map (said_agent others) agents)
  agents_said = All-map (IsSaidAgent has_capacity) (said_agent others) agents (λ k d below. subst (λ a. IsSaidAgent has_capacity (said_agent others a)) (sym (same_agent k d below)) (agent_said k below))

-- whether reviewers have capacities
single_without : (kind : Kind) → has_capacities kind ≡ false → is_single kind ≡ true
single_without Marriage h = refl
single_without Hospitals h = absurd cc
single_without Roommates h = refl

-- the pairs of an instance
module _ (w : Written) (sound : IsInstance w) where
  pair_said : (p r : ℕ) → p < length w.proposers → r < length w.reviewers → IsSaidPair (said_pair w.proposers w.reviewers (p, r))
  pair_said p r left right = record { proposer = (sound.proposers.sound p left).name; reviewer = (sound.reviewers.sound r right).name; line = refl }

  -- weights are small
  pub weight_small : (n : ℕ) (d : ℕ × ℕ × ℤ) → n < length w.weights → unsigned_abs (get_or w.weights n d).2 ≤ most_weight
  weight_small n d below =
      subst (λ (x : ℕ × ℕ × ℤ). unsigned_abs x.2 ≤ most_weight) (get_or_default w.weights n (0, 0, pos 0) d below)
      ((sound.items n (omega (arith, length-items w.weights w.forced w.forbidden))).size below)

  weight_said : (n : ℕ) (d : (ℕ × ℕ × ℤ) × ℤ) → n < length w.weights → n < length w.seconds → IsSaidWeight (said_weight w.proposers w.reviewers (get_or w.weights n d.0, get_or w.seconds n d.1))
  weight_said n d below within =
      let here = weight_there w sound.seconds_each sound w.weights refl n below in
      let same = get_or_default w.weights n (0, 0, pos 0) d.0 below in
      record {
        pair = subst (λ (x : ℕ × ℕ × ℤ). IsSaidPair (said_pair w.proposers w.reviewers (x.0, x.1))) same (pair_said _ _ here.proposer here.reviewer);
        size = weight_small n d.0 below;
        second_size = sound.seconds_small n d.1 within;
      }

  weights_said : All IsSaidWeight (map (said_weight w.proposers w.reviewers) (zip w.weights w.seconds))
  weights_said = All-map IsSaidWeight (said_weight w.proposers w.reviewers) (zip w.weights w.seconds) (λ n d below.
      let long = length-zip w.weights w.seconds in
      let first : n < length w.weights = omega (arith, below, long) in
      let second : n < length w.seconds = omega (arith, below, long) in
      subst (λ (x : (ℕ × ℕ × ℤ) × ℤ). IsSaidWeight (said_weight w.proposers w.reviewers x)) (sym (get_or-zip w.weights w.seconds n d first second)) (weight_said n d first second))

  order_said : (t : Bool) → All (λ name. is_name name ≡ true) (names_first (if t then None else Some (record { names = map (name_of w.proposers) w.order; line = 0 })))
  order_said true = All-nil (λ name. is_name name ≡ true)
  order_said false = All-map (λ name. is_name name ≡ true) (name_of w.proposers) w.order (λ j d below.
      (sound.proposers.sound (get_or w.order j d) (subst (λ p. p < length w.proposers) (get_or_default w.order j 0 d below) (sound.order.in_range j below))).name)

  forced_said : All IsSaidPair (map (said_pair w.proposers w.reviewers) w.forced)
  forced_said = All-map IsSaidPair (said_pair w.proposers w.reviewers) w.forced (λ n d below.
      let here = force_there w sound.seconds_each sound w.forced refl n below in
      subst (λ (x : ℕ × ℕ). IsSaidPair (said_pair w.proposers w.reviewers x)) (get_or_default w.forced n (0, 0) d below) (pair_said _ _ here.proposer here.reviewer))

  forbidden_said : All IsSaidPair (map (said_pair w.proposers w.reviewers) w.forbidden)
  forbidden_said = All-map IsSaidPair (said_pair w.proposers w.reviewers) w.forbidden (λ n d below.
      let here = forbid_there w sound.seconds_each sound w.forbidden refl n below in
      subst (λ (x : ℕ × ℕ). IsSaidPair (said_pair w.proposers w.reviewers x)) (get_or_default w.forbidden n (0, 0) d below) (pair_said _ _ here.proposer here.reviewer))

  two_said : IsSaid (has_capacities w.kind) (said_of (Two w))
  two_said = record {
    proposers = agents_said w.proposers w.reviewers true (is_single w.kind) sound.proposers sound.proposer_entries sound.reviewers false (λ _. refl);
    reviewers = agents_said w.reviewers w.proposers (is_single w.kind) true sound.reviewers sound.reviewer_entries sound.proposers (has_capacities w.kind) (single_without w.kind);
    weights = weights_said;
    forced = forced_said;
    forbidden = forbidden_said;
    order = order_said (pointwise nat_eq w.order (range_with_len 0 (length w.proposers)));
  }

  said_two : (kind : Kind) → w.kind ≡ kind → kind ≢ Roommates → said_json w.kind (said_of (Two w)) ≡ two_json w.kind (said_of (Two w))
  said_two Marriage is two = rw is refl
  said_two Hospitals is two = rw is refl
  said_two Roommates is two = absurd (two refl)

  -- an instance of these parts
  pub two_known : (k : Kind) (a b : List AgentData) (x : List ((ℕ × ℕ × ℤ) × ℤ)) (y z : List (ℕ × ℕ)) (o : Option SaidOrder) → k ≡ w.kind → a ≡ w.proposers → b ≡ w.reviewers → x ≡ zip w.weights w.seconds
      → y ≡ w.forced → z ≡ w.forbidden → o ≡ said_order w → two_json k (said_by a b x y z o) ≡ json_of (Two w)
  two_known k a b x y z o hk ha hb hx hy hz ho = rw (hk, ha, hb, hx, hy, hz, ho) (sym (said_two w.kind refl sound.two_sided))

-- the value of an instance gives the text of the printed instance
pub printed_again : (input : Input) → IsInput input → json_text (json_of input) ≡ Some (text_of (lines_of input))
printed_again (Two w) sound =
    let said = said_of (Two w) in
    ap json_text (said_two w sound w.kind refl sound.two_sided)
    ∙ ap (option_map (λ i. text_of (json_lines i))) (two_again w.kind said sound.two_sided (two_said w sound))
    ∙ ap (λ ls. Some (text_of ls)) (lines_again w.kind said)
printed_again (Room persons) sound =
    let said = said_of (Room persons) in
    ap (option_map (λ i. text_of (json_lines i)))
    (room_again said (agents_said persons persons true true sound.agents sound.entries sound.agents false (λ _. refl)))
    ∙ ap (λ ls. Some (text_of ls)) (lines_again Roommates said)
