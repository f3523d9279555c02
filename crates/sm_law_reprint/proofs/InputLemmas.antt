-- What a sound instance says by names may be read again.
use Rattle.std.proofs.Common.{◌≡◌, ◌≢◌, ℕ, ◌+◌, ◌<◌, ◌≤◌, Bool, true, false, if◌then◌else◌, Some, None, IfSome, nat_eq, List, [], ◌∷◌, length, map, get_or, All, AllPairs, refl, sym, ap, ◌∙◌, subst, arith, ℤ, pos}
use Rattle.std.specs.List.{fold, range_with_len, zip}
use Rattle.std.specs.Cmp.Lexicographic.{pointwise}
use Rattle.std.proofs.lemmas.Slice.Zip.{length-zip, get_or-zip}
use Rattle.std.proofs.lemmas.List.{length-map, get_or-map, get_or_default}
use Rattle.std.proofs.lemmas.List.Elements.{All-map}
use Rattle.sm_text.specs.Limits.{most_agents, most_entries}
use Rattle.sm_agents.specs.Written.{AgentData, Written, no_agent, agent_at, row, weighed, names_of as names_in}
use Rattle.sm_agents.specs.Sound.{AreSoundAgents, AreSoundEntries, IsPairOf, items_of, is_single, IsInstance, ArePersons, entries_of as entries_in}
use Rattle.sm_agents.specs.declared.kinds.Kind.TheVariants.{Roommates}
use Rattle.sm_instance.specs.declared.inputs.Input.TheVariants.{Two, Room}
use Rattle.sm_agents.specs.Named.{SaidAgent, SaidPair, SaidWeight, names_of, entries_of}
use Rattle.sm_agents.proofs.ItemLemmas.{length-items, item_first, pair_at-weighed}
use Rattle.sm_instance_lines.specs.Names.{name_of, said_agent, said_pair, said_weight, said_of}
use Rattle.sm_instance_lines.proofs.ItemLemmas.{weight_there, force_there, forbid_there}
use Rattle.sm_law_reprint.proofs.AgentLemmas.{IsOwn, AreAgents}
use Rattle.sm_law_reprint.proofs.PairLemmas.{HasNames, key_of, IsOwnWeight}
use Rattle.sm_law_reprint.proofs.NameLemmas.{AreBelow, names_differ, is_named, same_number, all_named, none_repeated}
use Rattle.sm_law_reprint.proofs.ReadLemmas.{IsOwnOrder, IsPrintable}

-- the names and the entries of agents
pub said_names : (others agents : List AgentData) → names_of (map (said_agent others) agents) ≡ names_in agents
said_names others [] = refl
said_names others (a ∷ agents) = ap (λ t. a.name ∷ t) (said_names others agents)

said_entries : (others agents : List AgentData) → entries_of (map (said_agent others) agents) ≡ entries_in agents
said_entries others agents = from_sum agents 0
  where
    from_sum : (agents : List AgentData) (n : ℕ)
        → fold (λ (k : ℕ) (x : SaidAgent). k + length x.entries) n (map (said_agent others) agents) ≡ fold (λ (k : ℕ) (x : AgentData). k + length x.entries) n agents
    from_sum [] n = refl
    from_sum (a ∷ agents) n =
        ap (λ k. fold (λ (k : ℕ) (x : SaidAgent). k + length x.entries) (n + k) (map (said_agent others) agents)) (length-map a.entries (name_of others))
        ∙ from_sum agents (n + length a.entries)

-- the agents of a side, who list others
module _ (agents others : List AgentData) (single theirs : Bool) (sound : AreSoundAgents agents single) (them : AreSoundAgents others theirs)
    (lists : AreSoundEntries agents (length others)) where
  own_at : (k : ℕ) → k < length agents → IsOwn single (said_agent others (agent_at agents k))
  own_at k below =
      let one = sound.sound k below in
      let entries = row agents k in
      let there : AreBelow (length others) entries = λ i on. (lists.sound k i on).in_range in
      record {
        name = one.name;
        entries = all_named others theirs them entries there;
        differ = none_repeated others theirs them entries there (λ i j before on. (lists.sound k j on).fresh i before);
        capacity = one.capacity;
        one = one.one;
      }

  all_own : All (IsOwn single) (map (said_agent others) agents)
  all_own = All-map (IsOwn single) (said_agent others) agents
      (λ (k : ℕ) (d : AgentData) (below : k < length agents). subst (λ (a : AgentData). IsOwn single (said_agent others a)) (sym (get_or_default agents k d no_agent below)) (own_at k below))

  -- the agents of a sound side may be read, one after another
  pub agents_good : (before : ℕ) → length agents ≤ most_agents → before + entries_in agents ≤ most_entries → AreAgents single before [] (map (said_agent others) agents)
  agents_good before few fits = record {
    own = all_own;
    differ = subst (AllPairs ◌≢◌) (sym (said_names others agents)) (names_differ agents single sound);
    few = omega (arith, length-map agents (said_agent others));
    fits = omega (arith, said_entries others agents);
  }

-- the pairs of an instance
module _ (w : Written) (sound : IsInstance w) where
  abbrev both : List ((ℕ × ℕ × ℤ) × ℤ)
  both = zip w.weights w.seconds

  abbrev none : (ℕ × ℕ × ℤ) × ℤ
  none = ((0, 0, pos 0), pos 0)

  abbrev weight_at : ℕ → ℕ × ℕ × ℤ
  weight_at n = get_or w.weights n (0, 0, pos 0)

  abbrev both_at : ℕ → (ℕ × ℕ × ℤ) × ℤ
  both_at n = (weight_at n, get_or w.seconds n (pos 0))

  weighed_there : (n : ℕ) → n < length both → n < length w.weights
  weighed_there n below = omega (arith, below, length-zip w.weights w.seconds)

  seconded_there : (n : ℕ) → n < length both → n < length w.seconds
  seconded_there n below = omega (arith, below, length-zip w.weights w.seconds)

  both_here : (n : ℕ) → n < length both → get_or both n none ≡ both_at n
  both_here n below = get_or-zip w.weights w.seconds n none (weighed_there n below) (seconded_there n below)

  abbrev weight_said : (ℕ × ℕ × ℤ) × ℤ → SaidWeight
  weight_said = said_weight w.proposers w.reviewers

  abbrev pair_said : ℕ × ℕ → SaidPair
  pair_said = said_pair w.proposers w.reviewers

  pair_names : (pair : ℕ × ℕ) → IsPairOf (length w.proposers) (length w.reviewers) pair → HasNames (pair_said pair)
  pair_names pair there = record {
    proposer = is_named w.proposers true sound.proposers pair.0 there.proposer;
    reviewer = is_named w.reviewers (is_single w.kind) sound.reviewers pair.1 there.reviewer;
  }

  in_items : (n : ℕ) → n < length w.weights → n < length (items_of w.weights w.forced w.forbidden)
  in_items n below = omega (arith, length-items w.weights w.forced w.forbidden)

  own_weight_at : (n : ℕ) → n < length both → IsOwnWeight (weight_said (both_at n))
  own_weight_at n below = record {
    names = pair_names (weighed (weight_at n)) (weight_there w sound.seconds_each sound w.weights refl n (weighed_there n below));
    size = (sound.items n (in_items n (weighed_there n below))).size (weighed_there n below);
    second_size = sound.seconds_small n (pos 0) (seconded_there n below);
  }

  all_weights : All IsOwnWeight (map weight_said both)
  all_weights = All-map IsOwnWeight weight_said both
      (λ (k : ℕ) (d : (ℕ × ℕ × ℤ) × ℤ) (below : k < length both). subst (λ (x : (ℕ × ℕ × ℤ) × ℤ). IsOwnWeight (weight_said x)) (sym (get_or_default both k d none below ∙ both_here k below)) (own_weight_at k below))

  key_here : (k : ℕ) (d : List ℕ × List ℕ) → k < length both → get_or (map key_of (map weight_said both)) k d ≡ key_of (weight_said (both_at k))
  key_here k d below =
      get_or-map key_of (map weight_said both) k (weight_said none) d (omega (arith, below, length-map both weight_said))
      ∙ ap key_of (get_or-map weight_said both k none (weight_said none) below)
      ∙ ap (λ (x : (ℕ × ℕ × ℤ) × ℤ). key_of (weight_said x)) (both_here k below)

  weights_differ : AllPairs ◌≢◌ (map key_of (map weight_said both))
  weights_differ i j d before inside same =
      let within : j < length both = omega (arith, inside, length-map (map weight_said both) key_of, length-map both weight_said) in
      let first_within : i < length both = omega (arith, before, within) in
      let here : j < length w.weights = weighed_there j within in
      let there : i < length w.weights = weighed_there i first_within in
      let keys = sym (key_here i d first_within) ∙ same ∙ key_here j d within in
      let a = weight_there w sound.seconds_each sound w.weights refl i there in
      let b = weight_there w sound.seconds_each sound w.weights refl j here in
      let first = same_number w.proposers true sound.proposers (weight_at i).0 (weight_at j).0 a.proposer b.proposer (ap (λ (k : List ℕ × List ℕ). k.0) keys) in
      let second = same_number w.reviewers (is_single w.kind) sound.reviewers (weight_at i).1 (weight_at j).1 a.reviewer b.reviewer (ap (λ (k : List ℕ × List ℕ). k.1) keys) in
      (sound.items j (in_items j here)).fresh here i before
      (item_first w.weights w.forced w.forbidden i there ∙ pair_at-weighed w.weights i there ∙ same_pair first second
      ∙ sym (pair_at-weighed w.weights j here) ∙ sym (item_first w.weights w.forced w.forbidden j here))
    where
      same_pair : {a b c d : ℕ} → a ≡ c → b ≡ d → let x : ℕ × ℕ = (a, b) in let y : ℕ × ℕ = (c, d) in x ≡ y
      same_pair e f = cc

  all_forced : All HasNames (map pair_said w.forced)
  all_forced = All-map HasNames pair_said w.forced
      (λ (k : ℕ) (d : ℕ × ℕ) (below : k < length w.forced). subst (λ (x : ℕ × ℕ). HasNames (pair_said x)) (sym (get_or_default w.forced k d (0, 0) below))
      (pair_names (get_or w.forced k (0, 0)) (force_there w sound.seconds_each sound w.forced refl k below)))

  all_forbidden : All HasNames (map pair_said w.forbidden)
  all_forbidden = All-map HasNames pair_said w.forbidden
      (λ (k : ℕ) (d : ℕ × ℕ) (below : k < length w.forbidden). subst (λ (x : ℕ × ℕ). HasNames (pair_said x)) (sym (get_or_default w.forbidden k d (0, 0) below))
      (pair_names (get_or w.forbidden k (0, 0)) (forbid_there w sound.seconds_each sound w.forbidden refl k below)))

  -- an order, where there is one
  order_good : (t : Bool) → IfSome (if t then None else Some (record { names = map (name_of w.proposers) w.order; line = 0 })) IsOwnOrder
  order_good true = tt
  order_good false =
      let there : AreBelow (length w.proposers) w.order = λ i on. sound.order.in_range i on in
      record {
        names = all_named w.proposers true sound.proposers w.order there;
        differ = none_repeated w.proposers true sound.proposers w.order there (λ i j before on. sound.order.once i j before on);
      }

  -- what an instance with two sides says may be read again
  pub two_good : IsPrintable w.kind (said_of (Two w))
  two_good = record {
    proposers = agents_good w.proposers w.reviewers true (is_single w.kind) sound.proposers sound.reviewers sound.proposer_entries 0 sound.limits.proposers (omega (arith, sound.limits.entries));
    reviewers = agents_good w.reviewers w.proposers (is_single w.kind) true sound.reviewers sound.proposers sound.reviewer_entries (entries_of (map (said_agent w.reviewers) w.proposers))
        sound.limits.reviewers (omega (arith, sound.limits.entries, said_entries w.reviewers w.proposers));
    weights = record { own = all_weights; differ = weights_differ };
    forced = all_forced;
    forbidden = all_forbidden;
    order = order_good (pointwise nat_eq w.order (range_with_len 0 (length w.proposers)));
  }

-- persons
pub room_good : (persons : List AgentData) → ArePersons persons → IsPrintable Roommates (said_of (Room persons))
room_good persons sound = record {
  proposers = agents_good persons persons true true sound.agents sound.agents sound.entries 0 sound.limits.proposers (omega (arith, sound.limits.entries));
  reviewers = record {
    own = λ (k : ℕ) (d : SaidAgent) (below : k < 0). absurd (omega arith);
    differ = λ (i j : ℕ) (d : List ℕ) (before : i < j) (below : j < 0). absurd (omega arith);
    few = omega arith;
    fits = omega (arith, sound.limits.entries, said_entries persons persons);
  };
  weights = record {
    own = λ (k : ℕ) (d : SaidWeight) (below : k < 0). absurd (omega arith);
    differ = λ (i j : ℕ) (d : List ℕ × List ℕ) (before : i < j) (below : j < 0). absurd (omega arith);
  };
  forced = λ (k : ℕ) (d : SaidPair) (below : k < 0). absurd (omega arith);
  forbidden = λ (k : ℕ) (d : SaidPair) (below : k < 0). absurd (omega arith);
  order = tt;
}
