-- No definition of a matching looks at the lines on which agents are declared.
use Rattle.std.proofs.Common.{◌≡◌, ◌↔◌, ℕ, zero, suc, ◌+◌, ◌<◌, ◌≤◌, ◌∷◌, [], Bool, true, false, if◌then◌else◌, IsTrue, List, Option, Some, None, length, map, sum, fold, max, pos, ◌+ℤ◌, unwrap_or, slice_index, slice_index_or, refl, sym, ap, subst, ◌∙◌, arith, inl, inr}
use Rattle.std.proofs.lemmas.List.{length-map}
use Rattle.std.proofs.lemmas.List.Elements.{All-weaker, All-same}
use Rattle.std.specs.List.{range_with_len}
use Rattle.sm_lists.specs.Rows.{place_on}
use Rattle.sm_agents.specs.Written.{AgentData, Written, agent_at, row, entry, place_of, capacity_of, IsAcceptable, weight_among, weight_number, given_weight, second_weight}
use Rattle.sm_agents.specs.declared.kinds.Measure.{Measure}
use Rattle.sm_agents.specs.declared.kinds.Measure.TheVariants.{Ranks, Given}
use Rattle.sm_instance.specs.declared.inputs.Input.TheVariants.{Two}
use Rattle.sm_instance.specs.Matching.{held, standing, leads_to, is_at, load, IsMatching}
use Rattle.sm_instance.specs.Stable.{HasWorse, Blocks, IsStable}
use Rattle.sm_instance.specs.Ranks.{rank_vector_of, pair_weight, weight_of, pair_second, second_of}
use Rattle.sm_instance.specs.Allowed.{IsAllowed}
use Rattle.sm_law_reprint.specs.Reading.{unlined, SameButForLines}
use Rattle.sm_trim.proofs.WorthLemmas.{map_same}
use Rattle.sm_trim.proofs.AnswerLaws.{AreAlike}

-- the same lists and capacities
pub record AreSameAgents (before after : List AgentData) : Type 0 where
  pub count : length after ≡ length before
  pub rows : (a : ℕ) → row after a ≡ row before a
  pub capacities : (a : ℕ) → capacity_of after a ≡ capacity_of before a

-- an instance with the same agents, but for their names and lines
pub record AreSameLists (w u : Written) : Type 0 where
  pub proposers : AreSameAgents w.proposers u.proposers
  pub reviewers : AreSameAgents w.reviewers u.reviewers
  pub weights : u.weights ≡ w.weights
  pub forced : u.forced ≡ w.forced
  pub forbidden : u.forbidden ≡ w.forbidden
  pub seconds : u.seconds ≡ w.seconds
  pub order : u.order ≡ w.order

agent_unlined : (agents : List AgentData) (a : ℕ) → agent_at (map unlined agents) a ≡ unlined (agent_at agents a)
agent_unlined [] a = refl
agent_unlined (agent ∷ agents) zero = refl
agent_unlined (agent ∷ agents) (suc a) = agent_unlined agents a

same_agents : (before after : List AgentData) → map unlined after ≡ map unlined before → AreSameAgents before after
same_agents before after same =
    let at : (a : ℕ) → unlined (agent_at after a) ≡ unlined (agent_at before a) = λ a. sym (agent_unlined after a) ∙ ap (λ (agents : List AgentData). agent_at agents a) same ∙ agent_unlined before a in
    record {
      count = sym (length-map after unlined) ∙ ap (λ (agents : List AgentData). length agents) same ∙ length-map before unlined;
      rows = λ a. ap (λ (agent : AgentData). agent.entries) (at a);
      capacities = λ a. ap (λ (agent : AgentData). agent.capacity) (at a);
    }

-- so it is of instances that differ in lines alone
pub same_lists : (w u : Written) → SameButForLines (Two u) (Two w) → AreSameLists w u
same_lists w u same =
    let one : ◌≡◌ {A = Written} (record u { proposers = map unlined u.proposers; reviewers = map unlined u.reviewers }) (record w { proposers = map unlined w.proposers; reviewers = map unlined w.reviewers }) = cc in
    record {
      proposers = same_agents w.proposers u.proposers (ap (λ (x : Written). x.proposers) one);
      reviewers = same_agents w.reviewers u.reviewers (ap (λ (x : Written). x.reviewers) one);
      weights = ap (λ (x : Written). x.weights) one;
      forced = ap (λ (x : Written). x.forced) one;
      forbidden = ap (λ (x : Written). x.forbidden) one;
      seconds = ap (λ (x : Written). x.seconds) one;
      order = ap (λ (x : Written). x.order) one;
    }

agents_turned : {before after : List AgentData} → AreSameAgents before after → AreSameAgents after before
agents_turned s = record { count = sym s.count; rows = λ a. sym (s.rows a); capacities = λ a. sym (s.capacities a) }

lists_turned : {w u : Written} → AreSameLists w u → AreSameLists u w
lists_turned s = record {
  proposers = agents_turned s.proposers;
  reviewers = agents_turned s.reviewers;
  weights = sym s.weights;
  forced = sym s.forced;
  forbidden = sym s.forbidden;
  seconds = sym s.seconds;
  order = sym s.order;
}

abbrev one_if : Bool → ℕ
one_if b = if b then 1 else 0

module _ {w u : Written} (s : AreSameLists w u) where
  entry_same : (p i : ℕ) → entry u.proposers p i ≡ entry w.proposers p i
  entry_same p i = ap (λ (l : List ℕ). slice_index l i) (s.proposers.rows p)

  there_same : (p r : ℕ) → place_of u.proposers p r ≡ place_of w.proposers p r
  there_same p r = ap (λ (l : List ℕ). place_on l r) (s.proposers.rows p)

  back_same : (r p : ℕ) → place_of u.reviewers r p ≡ place_of w.reviewers r p
  back_same r p = ap (λ (l : List ℕ). place_on l p) (s.reviewers.rows r)

  acceptable_over : (p r : ℕ) → IsAcceptable w p r → IsAcceptable u p r
  acceptable_over p r a = record {
    proposer_lists = subst (λ (l : List ℕ). place_on l r < length l) (sym (s.proposers.rows p)) a.proposer_lists;
    reviewer_lists = subst (λ (l : List ℕ). place_on l p < length l) (sym (s.reviewers.rows r)) a.reviewer_lists;
  }

  module _ (places : List (Option ℕ)) where
    standing_same : (p : ℕ) → standing u places p ≡ standing w places p
    standing_same p = ap (λ (l : List ℕ). unwrap_or (held places p) (length l)) (s.proposers.rows p)

    at_same : (p r : ℕ) → is_at u places p r ≡ is_at w places p r
    at_same p r = by_held (held places p)
      where
        by_held : (o : Option ℕ) → leads_to u p r o ≡ leads_to w p r o
        by_held None = refl
        by_held (Some i) = ap (λ t. Rattle.std.proofs.Common.eqb t r) (entry_same p i)

    each_below : {X : Type 0} (f g : ℕ → X) → ((p : ℕ) → f p ≡ g p) → map f (range_with_len 0 (length u.proposers)) ≡ map g (range_with_len 0 (length w.proposers))
    each_below f g same = map_same f g same (range_with_len 0 (length u.proposers)) ∙ ap (λ n. map g (range_with_len 0 n)) s.proposers.count

    load_same : (r : ℕ) → load u places r ≡ load w places r
    load_same r = ap sum (each_below (λ q. one_if (is_at u places q r)) (λ q. one_if (is_at w places q r)) (λ q. ap one_if (at_same q r)))

    matching_over : IsMatching w places → IsMatching u places
    matching_over m = record {
      assigned = record {
        one_each = m.assigned.one_each ∙ sym s.proposers.count;
        on_lists = λ p i h. subst (λ (l : List ℕ). i < length l) (sym (s.proposers.rows p)) (m.assigned.on_lists p i h);
      };
      acceptable = λ p i h. subst (IsAcceptable u p) (sym (entry_same p i)) (acceptable_over p (entry w.proposers p i) (m.acceptable p i h));
      within = λ r. let l = load_same r in let c = s.reviewers.capacities r in let h = m.within r in omega arith;
    }

    worse_over : (r p : ℕ) → HasWorse w places r p → HasWorse u places r p
    worse_over r p h = record {
      other = h.other;
      at = h.at;
      holds = h.holds;
      there = entry_same h.other h.at ∙ h.there;
      worse = let one = back_same r p in let two = back_same r h.other in let less = h.worse in omega arith;
    }

    blocks_over : (p r : ℕ) → Blocks w places p r → Blocks u places p r
    blocks_over p r b = record {
      acceptable = acceptable_over p r b.acceptable;
      proposer_gains = let one = there_same p r in let two = standing_same p in let less = b.proposer_gains in omega arith;
      reviewer_gains = elim b.reviewer_gains [
        | inl free ↦ inl (let l = load_same r in let c = s.reviewers.capacities r in omega arith)
        | inr worse ↦ inr (worse_over r p worse)
      ];
    }

    allowed_over : IsAllowed w places → IsAllowed u places
    allowed_over a = record {
      matching = matching_over a.matching;
      forced = All-same (λ pair. IsTrue (is_at u places pair.0 pair.1)) u.forced w.forced s.forced
          (All-weaker (λ pair. IsTrue (is_at w places pair.0 pair.1)) (λ pair. IsTrue (is_at u places pair.0 pair.1)) (λ pair at. subst IsTrue (sym (at_same pair.0 pair.1)) at) w.forced a.forced);
      forbidden = All-same (λ pair. ¬ IsTrue (is_at u places pair.0 pair.1)) u.forbidden w.forbidden s.forbidden
          (All-weaker (λ pair. ¬ IsTrue (is_at w places pair.0 pair.1)) (λ pair. ¬ IsTrue (is_at u places pair.0 pair.1)) (λ pair not at. not (subst IsTrue (at_same pair.0 pair.1) at)) w.forbidden a.forbidden);
    }

    ranks_same : rank_vector_of u places ≡ rank_vector_of w places
    ranks_same = each_below (λ p. standing u places p + 1) (λ p. standing w places p + 1) (λ p. ap (λ n. n + 1) (standing_same p))

    weights_same : (by : Measure) → weight_of by u places ≡ weight_of by w places
    weights_same by = ap (fold ◌+ℤ◌ (pos 0)) (each_below (λ p. pair_weight by u p (held places p)) (λ p. pair_weight by w p (held places p)) (λ p. by_held by p (held places p)))
      where
        by_held : (by : Measure) (p : ℕ) (o : Option ℕ) → pair_weight by u p o ≡ pair_weight by w p o
        by_held Ranks p None = refl
        by_held Given p None = refl
        by_held Ranks p (Some i) = ap (λ n. pos (i + 1 + (n + 1))) (back_same (entry u.proposers p i) p ∙ ap (λ r. place_of w.reviewers r p) (entry_same p i))
        by_held Given p (Some i) = ap (λ weights. weight_among weights p (entry u.proposers p i)) s.weights ∙ ap (given_weight w p) (entry_same p i)

    seconds_same : (by : Measure) → second_of by u places ≡ second_of by w places
    seconds_same Ranks = refl
    seconds_same Given = ap (fold ◌+ℤ◌ (pos 0)) (each_below (λ p. pair_second u p (held places p)) (λ p. pair_second w p (held places p)) (λ p. by_held p (held places p)))
      where
        by_held : (p : ℕ) (o : Option ℕ) → pair_second u p o ≡ pair_second w p o
        by_held p None = refl
        by_held p (Some i) =
            ap (λ weights. slice_index_or u.seconds (weight_number weights p (entry u.proposers p i)) (pos 0)) s.weights
            ∙ ap (λ seconds. slice_index_or seconds (weight_number w.weights p (entry u.proposers p i)) (pos 0)) s.seconds
            ∙ ap (second_weight w p) (entry_same p i)

stable_over : {w u : Written} → AreSameLists w u → (places : List (Option ℕ)) → IsStable w places → IsStable u places
stable_over s places h = record { matching = matching_over s places h.matching; unblocked = λ p r b. h.unblocked p r (blocks_over (lists_turned s) places p r b) }

-- so instances with the same lists are alike
pub lists_alike : {w u : Written} → AreSameLists w u → AreAlike w u
lists_alike s = record {
  stable = λ places. (stable_over s places, stable_over (lists_turned s) places);
  standings = λ places _ p. standing_same s places p;
  weights = λ by places _. weights_same s places by;
  seconds = λ by places _. seconds_same s places by;
  allowed = λ places _. (allowed_over s places, allowed_over (lists_turned s) places);
  ranks = λ places _. ranks_same s places;
  order = s.order;
}
