-- From names back to numbers.
use Rattle.std.proofs.Common.{◌≡◌, ℕ, suc, ◌+◌, ◌<◌, ◌||◌, Bool, true, false, cond, if◌then◌else◌, nat_eq, Some, None, List, [], ◌∷◌, length, map, get_or, refl, sym, ap, ◌∙◌, arith, ℤ, pos}
use Rattle.std.specs.List.{list_any, range_with_len, zip}
use Rattle.std.specs.Cmp.Lexicographic.{pointwise}
use Rattle.std.proofs.lemmas.Slice.Eq.{bytes_eq-Decides}
use Rattle.sm_agents.specs.Written.{AgentData, row, entry, weighed, names_of as names_in}
use Rattle.sm_agents.specs.Sound.{AreSoundAgents, IsPairOf}
use Rattle.sm_lists.specs.EachOnce.{IsEachOnce}
use Rattle.sm_agents.specs.Named.{SaidAgent, SaidPair, SaidWeight, names_of, names_first}
use Rattle.sm_keys.specs.Tables.{is_unknown, number_in}
use Rattle.sm_reader.specs.InstanceText.{lines_with_unknown, pairs_with_unknown, order_with_unknown, numbered}
use Rattle.sm_agents.specs.Order.{full_order}
use Rattle.sm_instance_lines.specs.Names.{name_of, said_agent, said_pair, said_weight}
use Rattle.sm_law_reprint.specs.Reading.{unlined}
use Rattle.sm_law_reprint.proofs.SectionLemmas.{lined}
use Rattle.sm_law_reprint.proofs.AgentLemmas.{on_line}
use Rattle.sm_law_reprint.proofs.PairLemmas.{pair_on_line, weight_on_line}
use Rattle.sm_law_reprint.proofs.ReadLemmas.{order_on_line}
use Rattle.sm_law_reprint.proofs.OrderLemmas.{full_order-none, full_order-all}
use Rattle.sm_law_reprint.proofs.NameLemmas.{number_back, known_name, all_back, all_known}

-- the names of agents that are read
pub names_of-lined : (others agents : List AgentData) (n : ℕ) → names_of (lined on_line n (map (said_agent others) agents)) ≡ names_in agents
names_of-lined others [] n = refl
names_of-lined others (a ∷ agents) n = ap (λ t. a.name ∷ t) (names_of-lined others agents (n + 1))

-- agents who list others
module _ (others : List AgentData) (theirs : Bool) (them : AreSoundAgents others theirs) (names : List (List ℕ)) (are : names ≡ names_in others) where
  none_marked : (t : Bool) (n : ℕ) (lines : List ℕ) → t ≡ false → lines ≡ [] → cond t (n ∷ lines) lines ≡ []
  none_marked true n lines h none = absurd cc
  none_marked false n lines h none = none

  map_cond : (t : Bool) (x : SaidAgent) (xs : List SaidAgent) → map (λ (a : SaidAgent). a.line) (cond t (x ∷ xs) xs) ≡ cond t (x.line ∷ map (λ (a : SaidAgent). a.line) xs) (map (λ (a : SaidAgent). a.line) xs)
  map_cond true x xs = refl
  map_cond false x xs = refl

  -- none of them lists an unknown one
  pub agents_known : (agents : List AgentData) (n : ℕ) → ((a i : ℕ) → i < length (row agents a) → entry agents a i < length others)
      → lines_with_unknown names (lined on_line n (map (said_agent others) agents)) ≡ []
  agents_known [] n listed = refl
  agents_known (a ∷ agents) n listed =
      let known = all_known others theirs them names are a.entries (listed 0) in
      map_cond (list_any (is_unknown names) (map (name_of others) a.entries)) (on_line n (said_agent others a)) _
      ∙ none_marked (list_any (is_unknown names) (map (name_of others) a.entries)) n _ known (agents_known agents (n + 1) (λ b i on. listed (suc b) i on))

  -- and they are the same again
  pub agents_back : (agents : List AgentData) (n : ℕ) → ((a i : ℕ) → i < length (row agents a) → entry agents a i < length others)
      → map unlined (map (numbered names) (lined on_line n (map (said_agent others) agents))) ≡ map unlined agents
  agents_back [] n listed = refl
  agents_back (a ∷ agents) n listed =
      let same : AgentData → List ℕ → AgentData = λ x entries. record { name = x.name; capacity = x.capacity; line = 0; entries = entries } in
      ap (λ entries. same a entries ∷ map unlined (map (numbered names) (lined on_line (n + 1) (map (said_agent others) agents)))) (all_back others theirs them names are a.entries (listed 0))
      ∙ ap (λ t. unlined a ∷ t) (agents_back agents (n + 1) (λ b i on. listed (suc b) i on))

-- pairs of proposers and reviewers
module _ (lefts rights : List AgentData) (one two : Bool) (us : AreSoundAgents lefts one) (them : AreSoundAgents rights two)
    (ps rs : List (List ℕ)) (ours : ps ≡ names_in lefts) (theirs : rs ≡ names_in rights) where
  abbrev Is : ℕ × ℕ → Type 0
  Is = IsPairOf (length lefts) (length rights)

  abbrev marks : SaidPair → Bool
  marks x = is_unknown ps x.proposer || is_unknown rs x.reviewer

  known_pair : (pair : ℕ × ℕ) → Is pair → marks (said_pair lefts rights pair) ≡ false
  known_pair pair there =
      ap (λ t. t || is_unknown rs (name_of rights pair.1)) (known_name lefts one us ps ours pair.0 there.proposer) ∙ known_name rights two them rs theirs pair.1 there.reviewer

  abbrev numbers : SaidPair → ℕ × ℕ
  numbers x = (number_in ps x.proposer, number_in rs x.reviewer)

  pair_back : (pair : ℕ × ℕ) → Is pair → numbers (said_pair lefts rights pair) ≡ pair
  pair_back pair there = let first = number_back lefts one us ps ours pair.0 there.proposer in let second = number_back rights two them rs theirs pair.1 there.reviewer in joined first second
    where
      joined : {a b c d : ℕ} → a ≡ c → b ≡ d → let x : ℕ × ℕ = (a, b) in let y : ℕ × ℕ = (c, d) in x ≡ y
      joined e f = cc

  none_marked_pair : (t : Bool) (x : SaidPair) (xs : List SaidPair) → t ≡ false → map (λ (x : SaidPair). x.line) xs ≡ [] → map (λ (x : SaidPair). x.line) (cond t (x ∷ xs) xs) ≡ []
  none_marked_pair true x xs h none = absurd cc
  none_marked_pair false x xs h none = none

  -- no pair names an unknown agent
  pub pairs_known : (pairs : List (ℕ × ℕ)) (n : ℕ) → ((k : ℕ) → k < length pairs → IsPairOf (length lefts) (length rights) (get_or pairs k (0, 0)))
      → pairs_with_unknown ps rs (lined pair_on_line n (map (said_pair lefts rights) pairs)) ≡ []
  pairs_known [] n there = refl
  pairs_known (pair ∷ pairs) n there =
      none_marked_pair (marks (said_pair lefts rights pair)) (pair_on_line n (said_pair lefts rights pair)) _ (known_pair pair (there 0 (omega arith)))
      (pairs_known pairs (n + 1) (λ k inside. there (suc k) (omega arith)))

  -- and the pairs of numbers are the same again
  pub pairs_back : (pairs : List (ℕ × ℕ)) (n : ℕ) → ((k : ℕ) → k < length pairs → IsPairOf (length lefts) (length rights) (get_or pairs k (0, 0)))
      → map (λ (x : SaidPair). (number_in ps x.proposer, number_in rs x.reviewer)) (lined pair_on_line n (map (said_pair lefts rights) pairs)) ≡ pairs
  pairs_back [] n there = refl
  pairs_back (pair ∷ pairs) n there =
      ap (λ x. x ∷ map numbers (lined pair_on_line (n + 1) (map (said_pair lefts rights) pairs))) (pair_back pair (there 0 (omega arith)))
      ∙ ap (λ t. pair ∷ t) (pairs_back pairs (n + 1) (λ k inside. there (suc k) (omega arith)))

  -- no weight names an unknown agent
  pub weights_known : (both : List ((ℕ × ℕ × ℤ) × ℤ)) (n : ℕ) → ((k : ℕ) → k < length both → IsPairOf (length lefts) (length rights) (weighed (get_or both k ((0, 0, pos 0), pos 0)).0))
      → pairs_with_unknown ps rs (map (λ (w : SaidWeight). w.pair) (lined weight_on_line n (map (said_weight lefts rights) both))) ≡ []
  weights_known [] n there = refl
  weights_known (x ∷ both) n there =
      none_marked_pair (marks (said_pair lefts rights (weighed x.0))) (pair_on_line n (said_pair lefts rights (weighed x.0))) _ (known_pair (weighed x.0) (there 0 (omega arith)))
      (weights_known both (n + 1) (λ k inside. there (suc k) (omega arith)))

  -- and the weights are the same again
  pub weights_back : (both : List ((ℕ × ℕ × ℤ) × ℤ)) (n : ℕ) → ((k : ℕ) → k < length both → IsPairOf (length lefts) (length rights) (weighed (get_or both k ((0, 0, pos 0), pos 0)).0))
      → map (λ (w : SaidWeight). (number_in ps w.pair.proposer, number_in rs w.pair.reviewer, w.weight)) (lined weight_on_line n (map (said_weight lefts rights) both)) ≡ map (λ (x : (ℕ × ℕ × ℤ) × ℤ). x.0) both
  weights_back [] n there = refl
  weights_back (x ∷ both) n there =
      ap (λ (y : ℕ × ℕ). (y.0, y.1, x.0.2) ∷ map (λ (w : SaidWeight). (number_in ps w.pair.proposer, number_in rs w.pair.reviewer, w.weight)) (lined weight_on_line (n + 1) (map (said_weight lefts rights) both)))
      (pair_back (weighed x.0) (there 0 (omega arith)))
      ∙ ap (λ t. x.0 ∷ t) (weights_back both (n + 1) (λ k inside. there (suc k) (omega arith)))

  -- and so are the second weights
  pub seconds_back : (both : List ((ℕ × ℕ × ℤ) × ℤ)) (n : ℕ) → map (λ (w : SaidWeight). w.second) (lined weight_on_line n (map (said_weight lefts rights) both)) ≡ map (λ (x : (ℕ × ℕ × ℤ) × ℤ). x.1) both
  seconds_back [] n = refl
  seconds_back (x ∷ both) n = ap (λ t. x.1 ∷ t) (seconds_back both (n + 1))

-- lists that were joined give their parts again
pub zip_firsts : {A B : Type 0} (xs : List A) (zs : List B) → length zs ≡ length xs → map (λ (x : A × B). x.0) (zip xs zs) ≡ xs
zip_firsts [] [] long = refl
zip_firsts [] (z ∷ zs) long = absurd (omega (arith, long))
zip_firsts (x ∷ xs) [] long = absurd (omega (arith, long))
zip_firsts (x ∷ xs) (z ∷ zs) long = ap (λ t. x ∷ t) (zip_firsts xs zs (omega (arith, long)))

pub zip_seconds : {A B : Type 0} (xs : List A) (zs : List B) → length zs ≡ length xs → map (λ (x : A × B). x.1) (zip xs zs) ≡ zs
zip_seconds [] [] long = refl
zip_seconds [] (z ∷ zs) long = absurd (omega (arith, long))
zip_seconds (x ∷ xs) [] long = absurd (omega (arith, long))
zip_seconds (x ∷ xs) (z ∷ zs) long = ap (λ t. z ∷ t) (zip_seconds xs zs (omega (arith, long)))

-- an order of proposers
module _ (agents : List AgentData) (sound : AreSoundAgents agents true) (names : List (List ℕ)) (are : names ≡ names_in agents)
    (order : List ℕ) (once : IsEachOnce (length agents) order) (n : ℕ) where
  -- it names no unknown one
  pub order_known : (t : Bool) → order_with_unknown names (order_on_line n (if t then None else Some (record { names = map (name_of agents) order; line = 0 }))) ≡ []
  order_known true = refl
  order_known false = ap (λ t. if t then n ∷ [] else []) (all_known agents true sound names are order once.in_range)

  -- and it is the same again: that of the numbers where it isn't said
  pub order_back : (t : Bool) → pointwise nat_eq order (range_with_len 0 (length agents)) ≡ t
      → full_order (length agents) (map (number_in names) (names_first (order_on_line n (if t then None else Some (record { names = map (name_of agents) order; line = 0 }))))) ≡ order
  order_back true e = full_order-none (length agents) ∙ sym ((bytes_eq-Decides order (range_with_len 0 (length agents))).0 e)
  order_back false e = ap (full_order (length agents)) (all_back agents true sound names are order once.in_range) ∙ full_order-all (length agents) order once
