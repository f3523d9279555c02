-- What is right, with all names declared, makes a sound instance.
use Rattle.std.proofs.Common.{◌≡◌, ◌≢◌, ℕ, zero, suc, ◌+◌, ◌<◌, ◌≤◌, ◌||◌, Bool, true, false, not, cond, List, [], ◌∷◌, ◌++◌, length, map, filter, get_or, Option, Some, None, refl, sym, ap, ◌∙◌, append_assoc, subst, inl, inr, arith, All, AllPairs, pos, ℤ}
use Rattle.std.specs.List.{list_any, fold}
use Rattle.std.specs.Int.RustNames.{unsigned_abs}
use Rattle.std.specs.Str.{bytes_eq}
use Rattle.std.proofs.lemmas.Bool.{false≢true, cases_lt, and_from}
use Rattle.std.proofs.lemmas.List.{length-map, length-append, get_or-map, get_or_past}
use Rattle.std.proofs.lemmas.List.Elements.{All-append, All-map}
use Rattle.std.proofs.lemmas.List.Folds.{list_any_at, fold-map}
use Rattle.std.proofs.Math.ListN.{get_or-append}
use Rattle.sm_text.specs.Limits.{most_capacity, most_weight}
use Rattle.sm_text.specs.Name.{is_name}
use Rattle.sm_agents.specs.Written.{AgentData, no_agent, agent_at, weighed}
use Rattle.sm_agents.specs.Sound.{AreSoundAgents, AreSoundEntries, IsPairOf, items_of, IsSoundItem, is_single, IsInstance, ArePersons, entries_of as entries_in}
use Rattle.sm_lists.specs.EachOnce.{IsEachOnce}
use Rattle.sm_lists.specs.Pairs.{pair_at}
use Rattle.sm_agents.specs.declared.kinds.Kind.{Kind}
use Rattle.sm_agents.specs.declared.kinds.Kind.TheVariants.{Marriage, Hospitals, Roommates}
use Rattle.sm_agents.specs.Named.{SaidAgent, SaidPair, SaidWeight, SaidOrder, Said, names_of, names_first, entries_of}
use Rattle.sm_keys.specs.Tables.{has_repeated, is_unknown, number_in}
use Rattle.sm_reader.specs.InstanceText.{lines_with_unknown, pairs_with_unknown, order_with_unknown, unknown_lines, listed_by_proposers, least, numbered, numbered_pair, two_sides}
use Rattle.sm_agents.specs.Order.{full_order}
use Rattle.sm_reader.specs.Right.{IsRightAgent, IsRight}
use Rattle.sm_keys.proofs.PositionLemmas.{position_or_len-lt, at_position}
use Rattle.sm_keys.proofs.TextLemmas.{same_text}
use Rattle.sm_reader.proofs.RightLemmas.{fails_at}
use Rattle.sm_agents.proofs.OrderLemmas.{full_order_each}

-- no line has an unknown name
least_none : (xs : List ℕ) → least xs ≡ None → xs ≡ []
least_none [] h = refl
least_none (x ∷ xs) h = absurd cc

empty_parts : {X : Type 0} (xs ys : List X) → xs ++ ys ≡ [] → (xs ≡ []) × (ys ≡ [])
empty_parts [] ys h = (refl, h)
empty_parts (x ∷ xs) ys h = absurd cc

unmarked : {X : Type 0} (p : X → Bool) (line : X → ℕ) (xs : List X) → map line (filter p xs) ≡ [] → list_any p xs ≡ false
unmarked p line [] h = refl
unmarked p line (x ∷ xs) h = by_test (p x) refl h (unmarked p line xs)
  where
    by_test : (t : Bool) → p x ≡ t → map line (cond t (x ∷ filter p xs) (filter p xs)) ≡ [] → (map line (filter p xs) ≡ [] → list_any p xs ≡ false) → (p x || list_any p xs) ≡ false
    by_test true e k behind = absurd cc
    by_test false e k behind = ap (λ t. t || list_any p xs) e ∙ behind k

known_name : (names : List (List ℕ)) (name : List ℕ) → is_unknown names name ≡ false → list_any (bytes_eq name) names ≡ true
known_name names name h = by_test (list_any (bytes_eq name) names) refl h
  where
    by_test : (t : Bool) → list_any (bytes_eq name) names ≡ t → not t ≡ false → list_any (bytes_eq name) names ≡ true
    by_test true e k = e
    by_test false e k = absurd (false≢true (sym k))

or_left : (a b : Bool) → (a || b) ≡ false → a ≡ false
or_left true b h = absurd (false≢true (sym h))
or_left false b h = refl

or_right : (a b : Bool) → (a || b) ≡ false → b ≡ false
or_right true b h = absurd (false≢true (sym h))
or_right false b h = h

-- the names of a list differ
differ_at : (xs : List (List ℕ)) (j i : ℕ) → has_repeated xs ≡ false → j < i → i < length xs → get_or xs j [] ≢ get_or xs i []
differ_at [] j i h before below same = absurd (omega arith)
differ_at (x ∷ xs) j zero h before below same = absurd (omega arith)
differ_at (x ∷ xs) zero (suc i) h before below same =
    let none : list_any (bytes_eq x) xs ≡ false = or_left (list_any (bytes_eq x) xs) (has_repeated xs) h in
    false≢true (sym none ∙ list_any_at (bytes_eq x) xs i [] (omega arith) (same_text x (get_or xs i []) same))
differ_at (x ∷ xs) (suc j) (suc i) h before below same = differ_at xs j i (or_right (list_any (bytes_eq x) xs) (has_repeated xs) h) (omega arith) (omega arith) same

-- the agents of one side, with numbers among the names of another
module _ (single : Bool) (agents : List SaidAgent) (names : List (List ℕ)) (right : All (IsRightAgent single) agents) where
  none_said : SaidAgent
  none_said = record { name = []; capacity = 0; line = 0; entries = [] }

  here : (a : ℕ) → a < length agents → agent_at (map (numbered names) agents) a ≡ numbered names (get_or agents a none_said)
  here a below = get_or-map (numbered names) agents a none_said no_agent below

  count : length (map (numbered names) agents) ≡ length agents
  count = length-map agents (numbered names)

  name_is : (a : ℕ) → a < length agents → (agent_at (map (numbered names) agents) a).name ≡ get_or (names_of agents) a []
  name_is a below = ap (λ (x : AgentData). x.name) (here a below) ∙ sym (get_or-map (λ (x : SaidAgent). x.name) agents a none_said [] below)

  -- agents that are right are sound
  pub sound_agents : AllPairs ◌≢◌ (names_of agents) → AreSoundAgents (map (numbered names) agents) single
  sound_agents differ = record {
    sound = λ a inside.
        let below : a < length agents = omega (arith, count) in
        let one = right a none_said below in
        record {
          name = (ap (λ (x : AgentData). is_name x.name) (here a below) ∙ one.name);
          fresh = λ b before same. differ b a [] before (omega (arith, length-map agents (λ (x : SaidAgent). x.name)))
              (sym (name_is b (omega arith)) ∙ same ∙ name_is a below);
          capacity = subst (λ (x : AgentData). x.capacity ≤ most_capacity) (sym (here a below)) one.capacity;
          one = λ h. ap (λ (x : AgentData). x.capacity) (here a below) ∙ one.one h;
        };
  }

  -- so are their entries, where all names are declared
  pub sound_entries : list_any (λ (a : SaidAgent). list_any (is_unknown names) a.entries) agents ≡ false → (others : ℕ) → others ≡ length names → AreSoundEntries (map (numbered names) agents) others
  sound_entries known others count_is = record {
    sound = λ a i inside. elim (cases_lt a (length agents)) [
      | inl below ↦
          let said = get_or agents a none_said in
          let one = right a none_said below in
          let row_is : (agent_at (map (numbered names) agents) a).entries ≡ map (number_in names) said.entries = ap (λ (x : AgentData). x.entries) (here a below) in
          let long : i < length said.entries = omega (arith, ap length row_is, length-map said.entries (number_in names)) in
          let all = fails_at (λ (x : SaidAgent). list_any (is_unknown names) x.entries) agents a none_said known below in
          let found : (k : ℕ) → k < length said.entries → list_any (bytes_eq (get_or said.entries k [])) names ≡ true =
          λ k inner. known_name names (get_or said.entries k []) (fails_at (is_unknown names) said.entries k [] all inner) in
          let number : (k : ℕ) → k < length said.entries → get_or (agent_at (map (numbered names) agents) a).entries k 0 ≡ number_in names (get_or said.entries k []) =
          λ k inner. ap (λ xs. get_or xs k 0) row_is ∙ get_or-map (number_in names) said.entries k [] 0 inner in
          record {
            in_range = omega (arith, number i long, position_or_len-lt (bytes_eq (get_or said.entries i [])) names (found i long), count_is);
            fresh = λ j before same. differ_at said.entries j i one.differ before long
                (sym (at_position (get_or said.entries j []) names (found j (omega arith)))
                ∙ ap (λ n. get_or names n []) (sym (number j (omega arith)) ∙ same ∙ number i long)
                ∙ at_position (get_or said.entries i []) names (found i long));
          }
      | inr past ↦ absurd (omega (arith, ap (λ (x : AgentData). length x.entries) (get_or_past (map (numbered names) agents) a no_agent (omega (arith, count)))))
    ];
  }

-- as many entries
pub entries_numbered : (agents : List SaidAgent) (names : List (List ℕ)) → entries_in (map (numbered names) agents) ≡ entries_of agents
entries_numbered agents names = fold-map (λ (n : ℕ) (x : AgentData). n + length x.entries) (numbered names) 0 agents ∙ same_sum agents 0
  where
    same_sum : (xs : List SaidAgent) (n : ℕ) → fold (λ (m : ℕ) (x : SaidAgent). m + length (map (number_in names) x.entries)) n xs ≡ fold (λ (m : ℕ) (x : SaidAgent). m + length x.entries) n xs
    same_sum [] n = refl
    same_sum (x ∷ xs) n = ap (λ k. fold (λ (m : ℕ) (y : SaidAgent). m + length (map (number_in names) y.entries)) (n + k) xs) (length-map x.entries (number_in names)) ∙ same_sum xs (n + length x.entries)

-- persons
pub persons_sound : (said : Said) → IsRight Roommates said → least (unknown_lines Roommates said) ≡ None → ArePersons (map (numbered (names_of said.proposers)) said.proposers)
persons_sound said right none =
    let names = names_of said.proposers in
    let persons = map (numbered names) said.proposers in
    let lists = lines_with_unknown names said.proposers in
    let all = least_none (unknown_lines Roommates said) none in
    let first = (empty_parts lists _ (assoc6 lists _ _ _ _ _ all)).0 in
    record {
      limits = record {
        proposers = omega (arith, right.proposers_fit, length-map said.proposers (numbered names));
        reviewers = omega arith;
        entries = omega (arith, right.entries_fit, entries_numbered said.proposers names);
      };
      agents = sound_agents true said.proposers names right.proposers right.proposers_differ;
      entries = sound_entries true said.proposers names right.proposers (unmarked (λ (a : SaidAgent). list_any (is_unknown names) a.entries) (λ (a : SaidAgent). a.line) said.proposers first)
          (length persons) (length-map said.proposers (numbered names) ∙ sym (length-map said.proposers (λ (x : SaidAgent). x.name)));
    }
  where
    assoc6 : (a b d f g i : List ℕ) → ((((a ++ b) ++ d) ++ f) ++ g) ++ i ≡ [] → a ++ (b ++ (d ++ (f ++ (g ++ i)))) ≡ []
    assoc6 a b d f g i h = simp append_assoc at h

-- the pairs of two sides
module _ (said : Said) where
  abbrev marks : SaidPair → Bool
  marks x = is_unknown (names_of said.proposers) x.proposer || is_unknown (names_of said.reviewers) x.reviewer

  found_proposer : (x : SaidPair) → marks x ≡ false → list_any (bytes_eq x.proposer) (names_of said.proposers) ≡ true
  found_proposer x h = known_name (names_of said.proposers) x.proposer (or_left (is_unknown (names_of said.proposers) x.proposer) (is_unknown (names_of said.reviewers) x.reviewer) h)

  found_reviewer : (x : SaidPair) → marks x ≡ false → list_any (bytes_eq x.reviewer) (names_of said.reviewers) ≡ true
  found_reviewer x h = known_name (names_of said.reviewers) x.reviewer (or_right (is_unknown (names_of said.proposers) x.proposer) (is_unknown (names_of said.reviewers) x.reviewer) h)

  pairs_sound : (n m : ℕ) → n ≡ length (names_of said.proposers) → m ≡ length (names_of said.reviewers) → (xs : List SaidPair) → list_any marks xs ≡ false → All (IsPairOf n m) (map (numbered_pair said) xs)
  pairs_sound n m en em xs none = All-map (IsPairOf n m) (numbered_pair said) xs (λ (k : ℕ) (d : SaidPair) (below : k < length xs).
      let x = get_or xs k d in
      let h = fails_at marks xs k d none below in
      record {
        proposer = omega (arith, position_or_len-lt (bytes_eq x.proposer) (names_of said.proposers) (found_proposer x h), en);
        reviewer = omega (arith, position_or_len-lt (bytes_eq x.reviewer) (names_of said.reviewers) (found_reviewer x h), em);
      })

  abbrev given : SaidWeight → ℕ × ℕ × ℤ
  given w = let pair = numbered_pair said w.pair in (pair.0, pair.1, w.weight)

  weighed_is : (ws : List SaidWeight) → map weighed (map given ws) ≡ map (numbered_pair said) (map (λ (w : SaidWeight). w.pair) ws)
  weighed_is [] = refl
  weighed_is (w ∷ ws) = ap (λ xs. numbered_pair said w.pair ∷ xs) (weighed_is ws)

  same_names : (names : List (List ℕ)) (a b : List ℕ) → list_any (bytes_eq a) names ≡ true → list_any (bytes_eq b) names ≡ true → number_in names a ≡ number_in names b → a ≡ b
  same_names names a b ha hb e = sym (at_position a names ha) ∙ ap (λ n. get_or names n []) e ∙ at_position b names hb

  no_weight : SaidWeight
  no_weight = record { pair = record { proposer = []; reviewer = []; line = 0 }; weight = pos 0; second = pos 0 }

  items_sound : (kind : Kind) → IsRight kind said → list_any marks (map (λ (w : SaidWeight). w.pair) said.weights) ≡ false → list_any marks said.forced ≡ false → list_any marks said.forbidden ≡ false
      → (n m : ℕ) → n ≡ length (names_of said.proposers) → m ≡ length (names_of said.reviewers)
      → (let items = items_of (map given said.weights) (map (numbered_pair said) said.forced) (map (numbered_pair said) said.forbidden) in
      (i : ℕ) → i < length items → IsSoundItem n m (map given said.weights) items i)
  items_sound kind right hw hf hb n m en em i inside =
      let weights = map given said.weights in
      let forced = map (numbered_pair said) said.forced in
      let forbidden = map (numbered_pair said) said.forbidden in
      let items = items_of weights forced forbidden in
      let pairs = map (λ (w : SaidWeight). w.pair) said.weights in
      let all_weighed : All (IsPairOf n m) (map weighed weights) = subst (All (IsPairOf n m)) (sym (weighed_is said.weights)) (pairs_sound n m en em pairs hw) in
      let all : All (IsPairOf n m) items = All-append (IsPairOf n m) (map weighed weights ++ forced) forbidden (All-append (IsPairOf n m) (map weighed weights) forced all_weighed (pairs_sound n m en em said.forced hf))
      (pairs_sound n m en em said.forbidden hb) in
      let long : length weights ≡ length said.weights = length-map said.weights given in
      let weighed_long : length (map weighed weights) ≡ length said.weights = length-map weights weighed ∙ long in
      let item : (k : ℕ) → k < length said.weights → pair_at items k ≡ numbered_pair said (get_or said.weights k no_weight).pair = λ k below.
      get_or-append (map weighed weights ++ forced) forbidden (0, 0) k (omega (arith, length-append (map weighed weights) forced, weighed_long))
      ∙ get_or-append (map weighed weights) forced (0, 0) k (omega (arith, weighed_long))
      ∙ get_or-map weighed weights k (given no_weight) (0, 0) (omega (arith, long))
      ∙ ap weighed (get_or-map given said.weights k no_weight (given no_weight) below) in
      let mark_at : (k : ℕ) → k < length said.weights → marks (get_or said.weights k no_weight).pair ≡ false = λ k below.
      ap marks (sym (get_or-map (λ (w : SaidWeight). w.pair) said.weights k no_weight no_weight.pair below)) ∙ fails_at marks pairs k no_weight.pair hw (omega (arith, length-map said.weights (λ (w : SaidWeight). w.pair))) in
      record {
        pair = all i (0, 0) inside;
        size = λ within. subst (λ (x : ℕ × ℕ × ℤ). unsigned_abs x.2 ≤ most_weight) (sym (get_or-map given said.weights i no_weight (0, 0, pos 0) (omega (arith, long)))) (right.sizes i no_weight (omega (arith, long)));
        fresh = λ within k before same.
            let here : i < length said.weights = omega (arith, long) in
            let there : k < length said.weights = omega arith in
            let a = (get_or said.weights k no_weight).pair in
            let b = (get_or said.weights i no_weight).pair in
            let e : numbered_pair said a ≡ numbered_pair said b = sym (item k there) ∙ same ∙ item i here in
            let p_same = same_names (names_of said.proposers) b.proposer a.proposer (found_proposer b (mark_at i here)) (found_proposer a (mark_at k there)) (sym (ap (λ (x : ℕ × ℕ). x.0) e)) in
            let r_same = same_names (names_of said.reviewers) b.reviewer a.reviewer (found_reviewer b (mark_at i here)) (found_reviewer a (mark_at k there)) (sym (ap (λ (x : ℕ × ℕ). x.1) e)) in
            false≢true (sym (right.weights_differ k i no_weight before here) ∙ and_from (bytes_eq b.proposer a.proposer) (bytes_eq b.reviewer a.reviewer) (same_text b.proposer a.proposer p_same) (same_text b.reviewer a.reviewer r_same));
      }

-- an order of known proposers has each of them once
order_sound : (names : List (List ℕ)) (o : Option SaidOrder) (n m : ℕ) → n ≡ length names → n ≡ m → has_repeated (names_first o) ≡ false → order_with_unknown names o ≡ []
    → IsEachOnce n (full_order m (map (number_in names) (names_first o)))
order_sound names None n m en em differ known = subst (λ k. IsEachOnce n (full_order k [])) em (full_order_each n [] (λ (j : ℕ) (below : j < 0). absurd (omega arith)) (λ (i j : ℕ) (before : i < j) (below : j < 0). absurd (omega arith)))
order_sound names (Some o) n m en em differ known =
    let first = map (number_in names) o.names in
    let long : length first ≡ length o.names = length-map o.names (number_in names) in
    let all = known_all (list_any (is_unknown names) o.names) refl known in
    let found : (k : ℕ) → k < length o.names → list_any (bytes_eq (get_or o.names k [])) names ≡ true =
    λ k inner. known_name names (get_or o.names k []) (fails_at (is_unknown names) o.names k [] all inner) in
    let number : (k : ℕ) → k < length o.names → get_or first k 0 ≡ number_in names (get_or o.names k []) = λ k inner. get_or-map (number_in names) o.names k [] 0 inner in
    subst (λ k. IsEachOnce n (full_order k first)) em (full_order_each n first
    (λ j below. let inner : j < length o.names = omega (arith, below, long) in
    omega (arith, number j inner, position_or_len-lt (bytes_eq (get_or o.names j [])) names (found j inner), en))
    (λ i j before below same.
    let inner : j < length o.names = omega (arith, below, long) in
    let outer : i < length o.names = omega (arith, inner, before) in
    differ_at o.names i j differ before inner
    (sym (at_position (get_or o.names i []) names (found i outer))
    ∙ ap (λ k. get_or names k []) (sym (number i outer) ∙ same ∙ number j inner)
    ∙ at_position (get_or o.names j []) names (found j inner))))
  where
    known_all : (t : Bool) → list_any (is_unknown names) o.names ≡ t → cond t (o.line ∷ []) [] ≡ [] → list_any (is_unknown names) o.names ≡ false
    known_all true e h = absurd cc
    known_all false e h = e

-- two sides
pub sides_sound : (kind : Kind) (said : Said) → kind ≢ Roommates → IsRight kind said → least (unknown_lines kind said) ≡ None → IsInstance (two_sides kind said)
sides_sound kind said other right none =
    let proposers = names_of said.proposers in
    let reviewers = names_of said.reviewers in
    let listed : listed_by_proposers kind said ≡ reviewers = other_listed kind other in
    let parts = six_parts (lines_with_unknown (listed_by_proposers kind said) said.proposers) (lines_with_unknown proposers said.reviewers)
    (pairs_with_unknown proposers reviewers (map (λ (w : SaidWeight). w.pair) said.weights)) (pairs_with_unknown proposers reviewers said.forced) (pairs_with_unknown proposers reviewers said.forbidden)
    (order_with_unknown proposers said.order)
    (least_none (unknown_lines kind said) none) in
    let left_count : length (map (numbered reviewers) said.proposers) ≡ length proposers = length-map said.proposers (numbered reviewers) ∙ sym (length-map said.proposers (λ (x : SaidAgent). x.name)) in
    let right_count : length (map (numbered proposers) said.reviewers) ≡ length reviewers = length-map said.reviewers (numbered proposers) ∙ sym (length-map said.reviewers (λ (x : SaidAgent). x.name)) in
    let line = λ (a : SaidAgent). a.line in
    let lists = λ (names : List (List ℕ)) (a : SaidAgent). list_any (is_unknown names) a.entries in
    let pair_line = λ (x : SaidPair). x.line in
    record {
      two_sided = other;
      limits = record {
        proposers = omega (arith, right.proposers_fit, length-map said.proposers (numbered reviewers));
        reviewers = omega (arith, right.reviewers_fit, length-map said.reviewers (numbered proposers));
        entries = omega (arith, right.entries_fit, entries_numbered said.proposers reviewers, entries_numbered said.reviewers proposers);
      };
      proposers = sound_agents true said.proposers reviewers right.proposers right.proposers_differ;
      reviewers = sound_agents (is_single kind) said.reviewers proposers right.reviewers right.reviewers_differ;
      proposer_entries = sound_entries true said.proposers reviewers right.proposers (unmarked (lists reviewers) line said.proposers (ap (λ names. lines_with_unknown names said.proposers) (sym listed) ∙ parts.0)) _ right_count;
      reviewer_entries = sound_entries (is_single kind) said.reviewers proposers right.reviewers (unmarked (lists proposers) line said.reviewers parts.1) _ left_count;
      items = items_sound said kind right (unmarked (marks said) pair_line (map (λ (w : SaidWeight). w.pair) said.weights) parts.2) (unmarked (marks said) pair_line said.forced parts.3) (unmarked (marks said) pair_line said.forbidden parts.4) _ _ left_count right_count;
      seconds_each = length-map said.weights (λ (w : SaidWeight). w.second) ∙ sym (length-map said.weights (given said));
      seconds_small = All-map (λ s. unsigned_abs s ≤ most_weight) (λ (w : SaidWeight). w.second) said.weights right.second_sizes;
      order = order_sound proposers said.order (length (map (numbered reviewers) said.proposers)) (length said.proposers) left_count
          (length-map said.proposers (numbered reviewers)) right.order_differs parts.5;
    }
  where
    other_listed : (k : Kind) → k ≢ Roommates → listed_by_proposers k said ≡ names_of said.reviewers
    other_listed Marriage h = refl
    other_listed Hospitals h = refl
    other_listed Roommates h = absurd (h refl)

    six_parts : (a b d f g i : List ℕ) → ((((a ++ b) ++ d) ++ f) ++ g) ++ i ≡ [] → (a ≡ []) × (b ≡ []) × (d ≡ []) × (f ≡ []) × (g ≡ []) × (i ≡ [])
    six_parts a b d f g i h =
        let e0 = empty_parts ((((a ++ b) ++ d) ++ f) ++ g) i h in
        let e1 = empty_parts (((a ++ b) ++ d) ++ f) g e0.0 in
        let e2 = empty_parts ((a ++ b) ++ d) f e1.0 in
        let e3 = empty_parts (a ++ b) d e2.0 in
        let e4 = empty_parts a b e3.0 in
        (e4.0, e4.1, e3.1, e2.1, e1.1, e0.1)
