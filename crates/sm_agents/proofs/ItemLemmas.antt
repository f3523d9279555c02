-- Weighed, forced and forbidden pairs, one after another.
use Rattle.std.proofs.Common.{◌≡◌, ◌≢◌, ℕ, ◌+◌, ◌-◌, ◌<◌, ◌≤◌, ◌++◌, ◌∷◌, ◌&&◌, eqb, [], true, false, Bool, List, length, map, get_or, take, refl, sym, ap, subst, ◌∙◌, arith, ℤ, pos, ⊎_elim}
use Rattle.std.proofs.lemmas.Bool.{cases_lt, false≢true, eqb-true, eq-eqb}
use Rattle.std.proofs.lemmas.List.{length-append, length-map, get_or-map, get_or_default, get_or_append_left, get_or-append-add, take_more, get_or-take, length-take}
use Rattle.std.proofs.lemmas.List.Folds.{list_any_at, Any-from_list_any}
use Rattle.std.specs.List.{list_any}
use Rattle.std.specs.List.{All}
use Rattle.sm_agents.specs.Written.{Written, weighed, is_same_pair}
use Rattle.sm_agents.specs.Sound.{IsPairOf, items_of, IsSoundItem, IsInstance}
use Rattle.sm_lists.specs.Pairs.{pair_at}
use Rattle.sm_agents.specs.Faults.{IsFirstBadItem}
use Rattle.sm_agents.specs.Checks.{IsFirstBadPair}

-- a pair is told by its two numbers
pub same_pair : (x y : ℕ × ℕ) → is_same_pair x y ≡ true → x ≡ y
same_pair (a, b) (c, d) h = join a b c d (eqb a c) refl h
  where
    join : (a b c d : ℕ) (t : Bool) → eqb a c ≡ t → (t && eqb b d) ≡ true → let x : ℕ × ℕ = (a, b) in let y : ℕ × ℕ = (c, d) in x ≡ y
    join a b c d true e h = let f = eqb-true a c e in let g = eqb-true b d h in cc
    join a b c d false e h = cc

-- equal pairs pass the test of being one
pub pair_same : (x y : ℕ × ℕ) → x ≡ y → is_same_pair x y ≡ true
pair_same (a, b) (c, d) h = let f : a ≡ c = ap (λ (z : ℕ × ℕ). z.0) h in let g : b ≡ d = ap (λ (z : ℕ × ℕ). z.1) h in let e = eq-eqb a c f in let e' = eq-eqb b d g in rw (e, e') refl

-- a pair that isn't among those before it
pub fresh_pair : (all : List (ℕ × ℕ)) (n : ℕ) (pairs : List (ℕ × ℕ)) (pair : ℕ × ℕ) → n < length all → pairs ≡ take n all → pair ≡ pair_at all n
    → list_any (is_same_pair pair) pairs ≡ false → (k : ℕ) → k < n → pair_at all k ≢ pair_at all n
fresh_pair all n pairs pair below told is new k before same =
    let there : pair_at pairs k ≡ pair_at all k = ap (λ t. pair_at t k) told ∙ get_or-take n all k (0, 0) before in
    let long : length pairs ≡ n = ap length told ∙ (let e = length-take n all in let f : length (take n all) ≡ n = omega arith in f) in
    false≢true (sym new ∙ list_any_at (is_same_pair pair) pairs k (0, 0) (omega arith) (pair_same pair (pair_at pairs k) (is ∙ sym same ∙ sym there)))

-- a pair that is
pub stale_pair : (all : List (ℕ × ℕ)) (n : ℕ) (pairs : List (ℕ × ℕ)) (pair : ℕ × ℕ) → n < length all → pairs ≡ take n all → pair ≡ pair_at all n
    → list_any (is_same_pair pair) pairs ≡ true → ((k : ℕ) → k < n → pair_at all k ≢ pair_at all n) → ⊥
stale_pair all n pairs pair below told is among fresh =
    let found = Any-from_list_any (is_same_pair pair) pairs among in
    let k = found.0 in
    let x = found.1 in
    let long : length pairs ≡ n = ap length told ∙ (let e = length-take n all in let f : length (take n all) ≡ n = omega arith in f) in
    let before : k < n = omega (arith, found.2) in
    let there : x ≡ pair_at all k = sym found.3 ∙ get_or_default pairs k x (0, 0) found.2 ∙ ap (λ t. pair_at t k) told ∙ get_or-take n all k (0, 0) before in
    fresh k before (sym there ∙ sym (same_pair pair x found.4) ∙ is)

-- so a pair that no item before has is new
pub pair_is_new : (all : List (ℕ × ℕ)) (n : ℕ) (pairs : List (ℕ × ℕ)) (pair : ℕ × ℕ) → n < length all → pairs ≡ take n all → pair ≡ pair_at all n
    → ((k : ℕ) → k < n → pair_at all k ≢ pair_at all n) → list_any (is_same_pair pair) pairs ≡ false
pair_is_new all n pairs pair below told is fresh = by_test (list_any (is_same_pair pair) pairs) refl
  where
    by_test : (t : Bool) → list_any (is_same_pair pair) pairs ≡ t → t ≡ false
    by_test true among = absurd (stale_pair all n pairs pair below told is among fresh)
    by_test false _ = refl

-- the first n pairs and the next are the first n + 1
pub pairs_more : (all : List (ℕ × ℕ)) (n : ℕ) (pairs : List (ℕ × ℕ)) (pair : ℕ × ℕ) → n < length all → pairs ≡ take n all → pair ≡ pair_at all n → pairs ++ pair ∷ [] ≡ take (n + 1) all
pairs_more all n pairs pair below told is =
    ap (λ t. t ++ pair ∷ []) told ∙ ap (λ t. take n all ++ t ∷ []) is ∙ sym (take_more all n (0, 0) below)

-- there are as many weighed pairs as weights
pub length-weighed : (weights : List (ℕ × ℕ × ℤ)) → length (map weighed weights) ≡ length weights
length-weighed weights = length-map weights weighed

-- weighed pair n is the pair of weight n
pub pair_at-weighed : (weights : List (ℕ × ℕ × ℤ)) (n : ℕ) → n < length weights → pair_at (map weighed weights) n ≡ weighed (get_or weights n (0, 0, pos 0))
pair_at-weighed weights n l = get_or-map weighed weights n (0, 0, pos 0) (0, 0) l

module _ (weights : List (ℕ × ℕ × ℤ)) (forced forbidden : List (ℕ × ℕ)) where
  items : List (ℕ × ℕ)
  items = items_of weights forced forbidden

  -- there are as many items as weights and forced and forbidden pairs
  pub length-items : length (items_of weights forced forbidden) ≡ length weights + length forced + length forbidden
  length-items = length-append (map weighed weights ++ forced) forbidden ∙ ap (λ n. n + length forbidden) (length-append (map weighed weights) forced ∙ ap (λ n. n + length forced) (length-weighed weights))

  -- the first items are the weighed pairs
  pub item_first : (n : ℕ) → n < length weights → pair_at (items_of weights forced forbidden) n ≡ pair_at (map weighed weights) n
  item_first n l =
      let long = length-weighed weights in let more = length-append (map weighed weights) forced in
      get_or_append_left (map weighed weights ++ forced) forbidden (0, 0) n (omega arith) ∙ get_or_append_left (map weighed weights) forced (0, 0) n (omega arith)

  -- behind them stand the forced pairs
  pub item_second : (j : ℕ) → j < length forced → pair_at (items_of weights forced forbidden) (length weights + j) ≡ pair_at forced j
  item_second j l =
      let long = length-weighed weights in let more = length-append (map weighed weights) forced in
      get_or_append_left (map weighed weights ++ forced) forbidden (0, 0) (length weights + j) (omega arith)
      ∙ ap (λ n. get_or (map weighed weights ++ forced) (n + j) (0, 0)) (sym long) ∙ get_or-append-add (map weighed weights) forced j (0, 0)

  -- and behind these the forbidden ones
  pub item_third : (j : ℕ) → pair_at (items_of weights forced forbidden) (length weights + length forced + j) ≡ pair_at forbidden j
  item_third j =
      let long : length weights + length forced ≡ length (map weighed weights ++ forced) = sym (length-append (map weighed weights) forced ∙ ap (λ n. n + length forced) (length-weighed weights)) in
      ap (λ n. get_or (items_of weights forced forbidden) (n + j) (0, 0)) long ∙ get_or-append-add (map weighed weights ++ forced) forbidden j (0, 0)

  module _ (p r : ℕ) where
    -- what is sound among the weights is sound among the items
    pub sound_first : (n : ℕ) → n < length weights → IsSoundItem p r weights (map weighed weights) n → IsSoundItem p r weights (items_of weights forced forbidden) n
    sound_first n l s = record {
      pair = subst (IsPairOf p r) (sym (item_first n l)) s.pair;
      size = s.size;
      fresh = λ lt k before same. s.fresh lt k before (sym (item_first k (omega arith)) ∙ same ∙ item_first n l);
    }

    -- and the other way round
    pub first_sound : (n : ℕ) → n < length weights → IsSoundItem p r weights (items_of weights forced forbidden) n → IsSoundItem p r weights (map weighed weights) n
    first_sound n l s = record {
      pair = subst (IsPairOf p r) (item_first n l) s.pair;
      size = s.size;
      fresh = λ lt k before same. s.fresh lt k before (item_first k (omega arith) ∙ same ∙ sym (item_first n l));
    }

    sound_past : (n : ℕ) → length weights ≤ n → IsPairOf p r (pair_at (items_of weights forced forbidden) n) → IsSoundItem p r weights (items_of weights forced forbidden) n
    sound_past n past s = record { pair = s; size = λ lt. absurd (omega arith); fresh = λ lt. absurd (omega arith) }

    -- the items are sound as far as the weights, and then the pairs, are
    pub sound_forced : ((n : ℕ) → n < length weights → IsSoundItem p r weights (map weighed weights) n) → (j : ℕ) → j ≤ length forced → ((k : ℕ) → k < j → IsPairOf p r (pair_at forced k))
        → (n : ℕ) → n < length weights + j → IsSoundItem p r weights (items_of weights forced forbidden) n
    sound_forced ws j le fs n l =
        ⊎_elim (λ lt. sound_first n lt (ws n lt))
        (λ ge. let at : length weights + (n - length weights) ≡ n = omega arith in
        sound_past n ge (subst (IsPairOf p r) (sym (item_second (n - length weights) (omega arith)) ∙ ap (pair_at (items_of weights forced forbidden)) at) (fs (n - length weights) (omega arith))))
        (cases_lt n (length weights))

    -- where weights and forced pairs are sound, so are all items up to the first forbidden pair that isn't
    pub sound_forbidden : ((n : ℕ) → n < length weights → IsSoundItem p r weights (map weighed weights) n) → ((k : ℕ) → k < length forced → IsPairOf p r (pair_at forced k)) → (j : ℕ) → ((k : ℕ) → k < j → IsPairOf p r (pair_at forbidden k))
        → (n : ℕ) → n < length weights + length forced + j → IsSoundItem p r weights (items_of weights forced forbidden) n
    sound_forbidden ws fs j bs n l =
        ⊎_elim (λ lt. sound_forced ws (length forced) (omega arith) fs n lt)
        (λ ge. let at : length weights + length forced + (n - (length weights + length forced)) ≡ n = omega arith in
        sound_past n (omega arith) (subst (IsPairOf p r) (sym (item_third (n - (length weights + length forced))) ∙ ap (pair_at (items_of weights forced forbidden)) at) (bs (n - (length weights + length forced)) (omega arith))))
        (cases_lt n (length weights + length forced))

    -- the first faulty one
    pub bad_first : (n : ℕ) → IsFirstBadItem p r weights (map weighed weights) n → IsFirstBadItem p r weights (items_of weights forced forbidden) n
    bad_first n b =
        let all = length-items in let long = length-weighed weights in let there = b.there in
        let inside : n < length weights = omega arith in
        record { there = omega arith; bad = λ s. b.bad (first_sound n inside s); earlier = λ k l. sound_first k (omega arith) (b.earlier k l) }

    -- the first bad forced pair is the first bad item where all weights are sound
    pub bad_forced : ((n : ℕ) → n < length weights → IsSoundItem p r weights (map weighed weights) n) → (j : ℕ) → IsFirstBadPair p r forced j → IsFirstBadItem p r weights (items_of weights forced forbidden) (length weights + j)
    bad_forced ws j b =
        let all = length-items in let there = b.there in
        record { there = omega arith; bad = λ s. b.bad (subst (IsPairOf p r) (item_second j there) s.pair); earlier = sound_forced ws j (omega arith) b.earlier }

    -- the first bad forbidden pair is the first bad item where the weights and the forced pairs are sound
    pub bad_forbidden : ((n : ℕ) → n < length weights → IsSoundItem p r weights (map weighed weights) n) → ((k : ℕ) → k < length forced → IsPairOf p r (pair_at forced k)) → (j : ℕ) → IsFirstBadPair p r forbidden j
        → IsFirstBadItem p r weights (items_of weights forced forbidden) (length weights + length forced + j)
    bad_forbidden ws fs j b =
        let all = length-items in let there = b.there in
        record { there = omega arith; bad = λ s. b.bad (subst (IsPairOf p r) (item_third j) s.pair); earlier = sound_forbidden ws fs j b.earlier }

-- the pairs that have a weight are of agents of the instance
pub weights_in_range : {w : Written} → IsInstance w → (n : ℕ) → n < length w.weights → IsPairOf (length w.proposers) (length w.reviewers) (pair_at (map weighed w.weights) n)
weights_in_range {w} i n l =
    let all = length-items w.weights w.forced w.forbidden in
    subst (IsPairOf (length w.proposers) (length w.reviewers)) (item_first w.weights w.forced w.forbidden n l) (i.items n (omega arith)).pair

-- forced and forbidden pairs name agents
pub forced_in_range : {w : Written} → IsInstance w → (n : ℕ) → n < length w.forced → IsPairOf (length w.proposers) (length w.reviewers) (pair_at w.forced n)
forced_in_range {w} i n l =
    let all = length-items w.weights w.forced w.forbidden in
    subst (IsPairOf (length w.proposers) (length w.reviewers)) (item_second w.weights w.forced w.forbidden n l) (i.items (length w.weights + n) (omega arith)).pair

-- the forbidden pairs of an instance are of its agents
pub forbidden_in_range : {w : Written} → IsInstance w → (n : ℕ) → n < length w.forbidden → IsPairOf (length w.proposers) (length w.reviewers) (pair_at w.forbidden n)
forbidden_in_range {w} i n l =
    let all = length-items w.weights w.forced w.forbidden in
    subst (IsPairOf (length w.proposers) (length w.reviewers)) (item_third w.weights w.forced w.forbidden n) (i.items (length w.weights + length w.forced + n) (omega arith)).pair

-- all of a list of pairs
pub all_pairs : (P : ℕ × ℕ → Type 0) (pairs : List (ℕ × ℕ)) (n : ℕ) → length pairs ≤ n → ((k : ℕ) → k < n → P (pair_at pairs k)) → All P pairs
all_pairs P pairs n whole h = λ k d l. subst P (get_or_default pairs k (0, 0) d l) (h k (omega arith))

-- the pairs of sound weights differ
pub weights_differ : {proposers reviewers : ℕ} (weights : List (ℕ × ℕ × ℤ)) (forced forbidden : List (ℕ × ℕ))
    → ((n : ℕ) → n < length (items_of weights forced forbidden) → IsSoundItem proposers reviewers weights (items_of weights forced forbidden) n)
    → (n k : ℕ) → k < n → n < length weights → pair_at (map weighed weights) k ≢ pair_at (map weighed weights) n
weights_differ weights forced forbidden sound n k before inside same =
    let all = length-items weights forced forbidden in
    (sound n (omega arith)).fresh inside k before (item_first weights forced forbidden k (omega arith) ∙ same ∙ sym (item_first weights forced forbidden n inside))
