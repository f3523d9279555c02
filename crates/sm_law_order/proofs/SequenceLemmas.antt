-- Sequences of eliminations from the proposers' best, and the closed sets along them.
use Rattle.std.proofs.Common.{◌≡◌, ℕ, zero, suc, ◌<◌, ◌≤◌, inl, inr, arith, refl, sym, ap, ◌∙◌, Bool, true, false, true≢false, List, [], ◌∷◌, ◌++◌, length, map, slice_set, ext_get_or}
use Rattle.std.specs.List.{range_with_len}
use Rattle.std.proofs.lemmas.List.{length-append}
use Rattle.std.proofs.lemmas.List.FromFn.{get_or-map-range_with_len, length-map-range_with_len}
use Rattle.sm_lists.proofs.Counting.{eq_or_ne, less_same_more}
use Rattle.sm_lists.proofs.ResultLemmas.{same_bool}
use Rattle.sm_market.specs.Lists.{Lists, IsMarket}
use Rattle.sm_market.specs.Matching.{Places}
use Rattle.sm_market.specs.Stable.{IsStable}
use Rattle.sm_market.proofs.Core.{Pair}
use Rattle.sm_market.proofs.Bridge.{sides_of, stand_of, stable_of, stable_equal}
use Rattle.sm_theory.specs.Rotations.{proposer_at, reviewer_at, IsExposed, eliminated}
use Rattle.sm_theory.specs.Chains.{rotation_at, stage, AreEliminable, IsCompleteChain}
use Rattle.sm_theory.specs.ClosedSets.{is_member, IsMember, IsClosed, matching_of, IsReady, IsSameCycle}
use Rattle.sm_theory.specs.Routes.{is_only_in}
use Rattle.sm_theory.proofs.Core.Cycle.{Moves, moves_at}
use Rattle.sm_theory.proofs.Core.Chain.{way_of, up_at, rise}
use Rattle.sm_theory.proofs.Core.Correspondence.{InChain, all_in_chain}
use Rattle.sm_theory.proofs.Bridge.Rotation.{cycle_of, exposed_of, exposed_back, elim_of, eliminated_stable}
use Rattle.sm_theory.proofs.Bridge.Chain.{chain_of, eliminable_of, rotation_at-push_before, rotation_at-push_new, stage_before}
use Rattle.sm_theory.proofs.Bridge.Sets.{set_is_of, set_stable}
use Rattle.sm_theory.proofs.Chains.Rotations.{exposed_where_ready, best_is_unique}
use Rattle.sm_theory.proofs.Routes.OneMore.{same_elim, IsOneMore, one_more_exposed, one_more_next}
use Rattle.sm_theory.proofs.Routes.Sets.{front_of, front_long, front_all, front_others, front_new, front_same, front_second, front_into}
use Rattle.sm_theory.proofs.Routes.Shortest.{added_closed, added_one, front_closed}
use Rattle.sm_law_order.specs.Order.{Precedes, ComesBy}
use Rattle.sm_law_order.specs.Laws.{PrecedesInSequences, PrecedesInChains, OneOrder}
use Rattle.sm_law_order.proofs.OrderLemmas.{precedes_inside, down_set, down_closed, down_itself, down_out}

pair_equal : (x y : ℕ × ℕ) → x.0 ≡ y.0 → x.1 ≡ y.1 → x ≡ y
pair_equal x y p q = λ i. (p i, q i)

-- a rotation is the same cycle as itself
same_itself : (x y : List (ℕ × ℕ)) → x ≡ y → IsSameCycle x y
same_itself x y e = rw e (record { there = λ i a. (i, a, refl); back = λ i a. (i, a, refl) })

module _ {l : Lists} (h : IsMarket l) {first : Places} {rotations : List (List (ℕ × ℕ))} (chain : IsCompleteChain l first rotations) where
  -- p has r at stage k, from where rotation k moves it
  record HasPair (k : ℕ) (x : ℕ × ℕ) : Type 0 where
    pair : Pair (sides_of l h) (stand_of l (stage l first rotations k)) x.0 x.1
    moves : Moves (cycle_of (rotation_at rotations k)) x.0

  has_pair : (x : List (ℕ × ℕ)) (k : ℕ) → k < length rotations → (some : 0 < length x) → IsSameCycle x (rotation_at rotations k) → HasPair k (proposer_at x 0, reviewer_at x 0)
  has_pair x k g some same =
      let w = same.there 0 some in
      let who : proposer_at (rotation_at rotations k) w.0 ≡ proposer_at x 0 = ap (λ pair. pair.0) w.2 in
      let has : reviewer_at (rotation_at rotations k) w.0 ≡ reviewer_at x 0 = ap (λ pair. pair.1) w.2 in
      record {
        pair = rw (who, has) at (((chain_of h chain).exposed k g).paired w.0 w.1);
        moves = rw who at (moves_at (cycle_of (rotation_at rotations k)) w.0 w.1);
      }

  -- two rotations of a chain with a pair in common aren't one behind the other
  not_behind : (x : ℕ × ℕ) (j k : ℕ) → j < k → k < length rotations → HasPair j x → HasPair k x → ⊥
  not_behind x j k less g a b = omega (
    arith,
    up_at (way_of (chain_of h chain)) j x.0 (omega arith) a.moves,
    rise (way_of (chain_of h chain)) x.0 (suc j) k less (omega arith),
    a.pair.place_is,
    b.pair.place_is,
  )

  -- a cycle is only one rotation of a chain
  same_one : (x : List (ℕ × ℕ)) (j k : ℕ) → j < length rotations → k < length rotations → 0 < length x → IsSameCycle x (rotation_at rotations j) → IsSameCycle x (rotation_at rotations k) → j ≡ k
  same_one x j k j_in k_in some a b = elim (less_same_more j k) [
    | inl less ↦ absurd (not_behind (proposer_at x 0, reviewer_at x 0) j k less k_in (has_pair x j j_in some a) (has_pair x k k_in some b))
    | inr (inl e) ↦ e
    | inr (inr more) ↦ absurd (not_behind (proposer_at x 0, reviewer_at x 0) k j more j_in (has_pair x k k_in some b) (has_pair x j j_in some a))
  ]

  -- a closed set without members has the first matching
  no_members : (set : List Bool) → IsClosed l rotations set → ((k : ℕ) → k < length rotations → IsMember set k → ⊥) → matching_of l first rotations set ≡ first
  no_members set closed none = stable_equal h (set_stable h chain set closed) chain.from_best.stable (λ p. elim ((set_is_of h chain set).attained p) [ inl e ↦ e | inr a ↦ absurd (none a.at a.below a.member) ])

  abbrev empty_set : List Bool
  empty_set = map (λ _. false) (range_with_len 0 (length rotations))

  empty_none : (k : ℕ) → k < length rotations → IsMember empty_set k → ⊥
  empty_none k g member = true≢false (sym member ∙ get_or-map-range_with_len (λ _. false) 0 (length rotations) k k false g (omega arith))

  empty_closed : IsClosed l rotations empty_set
  empty_closed = record { one_each = length-map-range_with_len (λ _. false) 0 (length rotations); closed = λ i j i_in j_in member need. absurd (empty_none j j_in member) }

  -- the rotation comes in the sequence before place a
  record Met (sequence : List (List (ℕ × ℕ))) (a k : ℕ) : Type 0 where
    at : ℕ
    below : at < a
    same : IsSameCycle (rotation_at sequence at) (rotation_at rotations k)

  -- the closed set of what a sequence has before place a
  record Along (sequence : List (List (ℕ × ℕ))) (a : ℕ) : Type 0 where
    set : List Bool
    closed : IsClosed l rotations set
    is : matching_of l first rotations set ≡ stage l first sequence a
    met : (k : ℕ) → k < length rotations → IsMember set k → Met sequence a k
    has : (b k : ℕ) → b < a → k < length rotations → IsSameCycle (rotation_at sequence b) (rotation_at rotations k) → IsMember set k

  -- one elimination more is one member more
  along_next : (sequence : List (List (ℕ × ℕ))) (a : ℕ) → IsExposed l (stage l first sequence a) (rotation_at sequence a) → Along sequence a → Along sequence (suc a)
  along_next sequence a x w = record {
    set = slice_set w.set v.at true;
    closed = closed;
    is = one_more_next h chain w.closed closed v.at v.below one
        ∙ ap (λ m. eliminated l m (rotation_at rotations v.at)) w.is
        ∙ stable_equal h (eliminated_stable h stable y) (eliminated_stable h stable x) (λ p. sym (same_elim (exposed_of h stable.matching x) (exposed_of h stable.matching y) v.there v.back (elim_of h stable.matching x) (elim_of h stable.matching y) p));
    met = λ k g member. elim (eq_or_ne k v.at) [
      | inl e ↦ record { at = a; below = omega arith; same = rw e same }
      | inr apart ↦ let u = w.met k g (one.less k member apart) in record { at = u.at; below = omega (arith, u.below); same = u.same }
    ];
    has = λ b k less g is_k. elim (eq_or_ne b a) [
      | inl e ↦ rw (same_one (rotation_at sequence a) k v.at g v.below x.not_empty (rw e at is_k) same) one.inside
      | inr apart ↦ one.more k (w.has b k (omega arith) g is_k)
    ];
  }
    where
      stable : IsStable l (stage l first sequence a)
      stable = rw w.is at (set_stable h chain w.set w.closed)

      v : InChain (chain_of h chain) (stand_of l (stage l first sequence a)) (cycle_of (rotation_at sequence a))
      v = all_in_chain (chain_of h chain) (stable_of h stable) (exposed_of h stable.matching x)

      same : IsSameCycle (rotation_at sequence a) (rotation_at rotations v.at)
      same = record {
        there = λ i b. let u = v.there i b in (u.at, u.below, pair_equal _ _ u.who_is u.has_is);
        back = λ i b. let u = v.back i b in (u.at, u.below, pair_equal _ _ u.who_is u.has_is);
      }

      y : IsExposed l (stage l first sequence a) (rotation_at rotations v.at)
      y = exposed_back h (rotation_at rotations v.at) v.exposed

      ready : IsReady l rotations w.set v.at
      ready = (exposed_where_ready l first rotations w.set v.at h chain w.closed v.below).0 (rw w.is y)

      closed : IsClosed l rotations (slice_set w.set v.at true)
      closed = added_closed h chain w.closed v.at v.below ready

      one : IsOneMore w.set (slice_set w.set v.at true) v.at
      one = added_one h chain w.closed v.at v.below ready

  along : (sequence : List (List (ℕ × ℕ))) → AreEliminable l first sequence → (a : ℕ) → a ≤ length sequence → Along sequence a
  along sequence e zero less = record {
    set = empty_set;
    closed = empty_closed;
    is = no_members empty_set empty_closed empty_none;
    met = λ k g member. absurd (empty_none k g member);
    has = λ b k less g same. absurd (omega arith);
  }
  along sequence e (suc a) less = along_next sequence a (e.exposed a (omega arith)) (along sequence e a (omega arith))

  -- what precedes a rotation of a sequence comes there or before
  comes_by : (i j : ℕ) → i < length rotations → j < length rotations → Precedes l rotations i j → (sequence : List (List (ℕ × ℕ))) → AreEliminable l first sequence
      → (b : ℕ) → b < length sequence → IsSameCycle (rotation_at sequence b) (rotation_at rotations j) → ComesBy sequence b (rotation_at rotations i)
  comes_by i j i_in j_in w sequence e b g same =
      let s = along sequence e (suc b) g in
      let u = s.met i i_in (precedes_inside s.closed i j w (s.has b j (omega arith) j_in same)) in
      record { at = u.at; not_later = omega (arith, u.below); same = u.same }

  -- a sequence that goes on from another, whose rotations are the members of a set
  record From (start : List (List (ℕ × ℕ))) (set : List Bool) : Type 0 where
    sequence : List (List (ℕ × ℕ))
    longer : length start ≤ length sequence
    begins : (a : ℕ) → a < length start → rotation_at sequence a ≡ rotation_at start a
    eliminable : AreEliminable l first sequence
    is : stage l first sequence (length sequence) ≡ matching_of l first rotations set
    each : (a : ℕ) → a < length sequence → (k : ℕ) × (k < length rotations) × IsMember set k × (rotation_at sequence a ≡ rotation_at rotations k)
    all : (k : ℕ) → k < length rotations → IsMember set k → (a : ℕ) × (a < length sequence) × (rotation_at sequence a ≡ rotation_at rotations k)

  from_nothing : (set : List Bool) → IsClosed l rotations set → ((k : ℕ) → k < length rotations → IsMember set k → ⊥) → From [] set
  from_nothing set closed none = record {
    sequence = [];
    longer = omega arith;
    begins = λ a less. refl;
    eliminable = record { exposed = λ k less. absurd (omega (arith, less)) };
    is = sym (no_members set closed none);
    each = λ a less. absurd (omega (arith, less));
    all = λ k g member. absurd (none k g member);
  }

  -- it goes on from itself
  from_here : {start : List (List (ℕ × ℕ))} {set : List Bool} → (w : From start set) → From w.sequence set
  from_here w = record { sequence = w.sequence; longer = omega arith; begins = λ a less. refl; eliminable = w.eliminable; is = w.is; each = w.each; all = w.all }

  -- a member more is a rotation more
  from_more : {start : List (List (ℕ × ℕ))} {small large : List Bool} → IsClosed l rotations small → IsClosed l rotations large → (k : ℕ) → k < length rotations → IsOneMore small large k → From start small → From start large
  from_more {start} {small} {large} a b k g one w = record {
    sequence = w.sequence ++ rotation_at rotations k ∷ [];
    longer = omega (arith, w.longer, long);
    begins = λ i less. before i (omega (arith, less, w.longer)) ∙ w.begins i less;
    eliminable = record {
      exposed = λ i less. elim (eq_or_ne i (length w.sequence)) [
        | inl e ↦ rw (e, stage_before l first w.sequence (rotation_at rotations k) (length w.sequence) (omega arith), new, w.is) (one_more_exposed h chain a b k g one)
        | inr apart ↦ rw (stage_before l first w.sequence (rotation_at rotations k) i (omega (arith, less, long)), before i (omega (arith, less, long))) (w.eliminable.exposed i (omega (arith, less, long)))
      ];
    };
    is = ap (stage l first (w.sequence ++ rotation_at rotations k ∷ [])) long ∙ rw (stage_before l first w.sequence (rotation_at rotations k) (length w.sequence) (omega arith), new, w.is) (sym (one_more_next h chain a b k g one));
    each = λ i less. elim (eq_or_ne i (length w.sequence)) [
      | inl e ↦ (k, g, one.inside, rw e new)
      | inr apart ↦ let u = w.each i (omega (arith, less, long)) in (u.0, u.1, one.more u.0 u.2, before i (omega (arith, less, long)) ∙ u.3)
    ];
    all = λ j j_in member. elim (eq_or_ne j k) [
      | inl e ↦ (length w.sequence, omega (arith, long), rw e new)
      | inr apart ↦ let u = w.all j j_in (one.less j member apart) in (u.0, omega (arith, u.1, long), before u.0 u.1 ∙ u.2)
    ];
  }
    where
      long : length (w.sequence ++ rotation_at rotations k ∷ []) ≡ suc (length w.sequence)
      long = omega (arith, length-append w.sequence (rotation_at rotations k ∷ []))

      before : (i : ℕ) → i < length w.sequence → rotation_at (w.sequence ++ rotation_at rotations k ∷ []) i ≡ rotation_at w.sequence i
      before i less = rotation_at-push_before w.sequence (rotation_at rotations k) i less

      new : rotation_at (w.sequence ++ rotation_at rotations k ∷ []) (length w.sequence) ≡ rotation_at rotations k
      new = rotation_at-push_new w.sequence (rotation_at rotations k) (length w.sequence) refl

  module _ {one other : List Bool} (a : IsClosed l rotations one) (b : IsClosed l rotations other) where
    abbrev front : ℕ → List Bool
    front i = front_of one other (length rotations) i

    front_one : (i : ℕ) → i < length rotations → is_only_in one other i ≡ true → IsOneMore (front i) (front (suc i)) i
    front_one i g only =
        let new = front_new one other (length rotations) i g only in
        record {
          out = λ member. true≢false (sym member ∙ new.0);
          inside = new.1;
          more = λ j member. elim (eq_or_ne j i) [ inl e ↦ rw e new.1 | inr apart ↦ front_others one other (length rotations) i j apart ∙ member ];
          less = λ j member apart. sym (front_others one other (length rotations) i j apart) ∙ member;
        }

    -- from what two sets have in common to the first of them
    from_front : {start : List (List (ℕ × ℕ))} (i : ℕ) → i ≤ length rotations → From start (front 0) → From start (front i)
    from_front {start} zero less w = w
    from_front {start} (suc i) less w = go (is_only_in one other i) refl (from_front i (omega arith) w)
      where
        go : (c : Bool) → is_only_in one other i ≡ c → From start (front i) → From start (front (suc i))
        go true e v = from_more (front_closed h chain a b i) (front_closed h chain a b (suc i)) i (omega arith) (front_one i (omega arith) e) v
        go false e v = rw (front_same one other (length rotations) i (omega arith) e) v

    from_all : {start : List (List (ℕ × ℕ))} → From start (front 0) → From start one
    from_all w = rw (front_all one other (length rotations) a.one_each) at (from_front (length rotations) (omega arith) w)

  -- the members of a closed set make a sequence
  sequence_of : (set : List Bool) → IsClosed l rotations set → From [] set
  sequence_of set closed = from_all closed empty_closed (from_nothing (front_of set empty_set (length rotations) 0) (front_closed h chain closed empty_closed 0) (λ k g member.
      elim (front_second set empty_set (length rotations) 0 k g member) [ inl less ↦ omega (arith, less) | inr inside ↦ empty_none k g inside ]))

  abbrev full_set : List Bool
  full_set = map (λ _. true) (range_with_len 0 (length rotations))

  full_each : (k : ℕ) → k < length rotations → IsMember full_set k
  full_each k g = get_or-map-range_with_len (λ _. true) 0 (length rotations) k k false g (omega arith)

  full_closed : IsClosed l rotations full_set
  full_closed = record { one_each = length-map-range_with_len (λ _. true) 0 (length rotations); closed = λ i j i_in j_in member need. full_each i i_in }

  -- what a set has in common with that of all is the set
  full_front : (set : List Bool) → IsClosed l rotations set → set ≡ front_of full_set set (length rotations) 0
  full_front set closed = ext_get_or false set (front_of full_set set (length rotations) 0) (closed.one_each ∙ sym (front_long full_set set (length rotations) 0)) (λ k less.
      let g : k < length rotations = omega (arith, less, closed.one_each) in
      same_bool (is_member set k) (is_member (front_of full_set set (length rotations) 0) k)
      (λ member. front_into full_set set (length rotations) 0 k g (full_each k g) (inr member))
      (λ member. elim (front_second full_set set (length rotations) 0 k g member) [ inl below ↦ absurd (omega (arith, below)) | inr inside ↦ inside ]))

  -- a sequence of the members of a closed set goes on to a complete chain
  complete_from : (set : List Bool) → IsClosed l rotations set → (w : From [] set) → From w.sequence full_set
  complete_from set closed w = from_all full_closed closed (rw (full_front set closed) at (from_here w))

  complete_is : {start : List (List (ℕ × ℕ))} → (w : From start full_set) → IsCompleteChain l first w.sequence
  complete_is w = record {
    from_best = chain.from_best;
    exposed = w.eliminable.exposed;
    complete = λ other x.
        let x' : IsExposed l (matching_of l first rotations full_set) other = rw w.is at x in
        let stable = set_stable h chain full_set full_closed in
        let v : InChain (chain_of h chain) (stand_of l (matching_of l first rotations full_set)) (cycle_of other) = all_in_chain (chain_of h chain) (stable_of h stable) (exposed_of h stable.matching x') in
        ((exposed_where_ready l first rotations full_set v.at h chain full_closed v.below).0 (exposed_back h (rotation_at rotations v.at) v.exposed)).outside (full_each v.at v.below);
  }

  -- what comes by a member in a chain that begins with the members of a set is one of them
  comes_inside : (set : List Bool) (w : From [] set) (v : From w.sequence full_set) (i j : ℕ) → i < length rotations → j < length rotations → IsMember set j
      → ((b : ℕ) → b < length v.sequence → IsSameCycle (rotation_at v.sequence b) (rotation_at rotations j) → ComesBy v.sequence b (rotation_at rotations i)) → IsMember set i
  comes_inside set w v i j i_in j_in member comes =
      let b = w.all j j_in member in
      let u = comes b.0 (omega (arith, b.1, v.longer)) (same_itself (rotation_at v.sequence b.0) (rotation_at rotations j) (v.begins b.0 b.1 ∙ b.2)) in
      let k = w.each u.at (omega (arith, u.not_later, b.1)) in
      let e : i ≡ k.0 = same_one (rotation_at v.sequence u.at) i k.0 i_in k.1 (v.eliminable.exposed u.at (omega (arith, u.not_later, b.1, v.longer))).not_empty
      u.same (same_itself (rotation_at v.sequence u.at) (rotation_at rotations k.0) (v.begins u.at (omega (arith, u.not_later, b.1)) ∙ k.3)) in
      rw e k.2

  -- a rotation that comes by another in every complete chain precedes it
  precedes_by_chains : (i j : ℕ) → i < length rotations → j < length rotations
      → ((other : List (List (ℕ × ℕ))) → IsCompleteChain l first other → (b : ℕ) → b < length other → IsSameCycle (rotation_at other b) (rotation_at rotations j) → ComesBy other b (rotation_at rotations i))
      → Precedes l rotations i j
  precedes_by_chains i j i_in j_in always = down_out h chain i j i_in (comes_inside (down_set h chain j) members whole i j i_in j_in (down_itself h chain j j_in) (always whole.sequence (complete_is whole)))
    where
      members : From [] (down_set h chain j)
      members = sequence_of (down_set h chain j) (down_closed h chain j)

      whole : From members.sequence full_set
      whole = complete_from (down_set h chain j) (down_closed h chain j) members

-- what precedes a rotation comes before it in every sequence of eliminations
pub precedes_in_sequences : PrecedesInSequences
precedes_in_sequences l first rotations i j h chain i_in j_in = (
  (λ w sequence e b g same. comes_by h chain i j i_in j_in w sequence e b g same),
  (λ always. precedes_by_chains h chain i j i_in j_in (λ other complete b g same. always other (eliminable_of complete) b g same)),
)

-- and in every complete chain
pub precedes_in_chains : PrecedesInChains
precedes_in_chains l first rotations i j h chain i_in j_in = (
  (λ w other complete b g same. comes_by h chain i j i_in j_in w other (eliminable_of complete) b g same),
  (λ always. precedes_by_chains h chain i j i_in j_in always),
)

-- being the same cycle goes on from one to the next
same_over : {x y z : List (ℕ × ℕ)} → IsSameCycle x y → IsSameCycle y z → IsSameCycle x z
same_over a b = record {
  there = λ i less. let u = a.there i less in let v = b.there u.0 u.1 in (v.0, v.1, v.2 ∙ u.2);
  back = λ i less. let u = b.back i less in let v = a.back u.0 u.1 in (v.0, v.1, v.2 ∙ u.2);
}

-- and goes back
same_back : {x y : List (ℕ × ℕ)} → IsSameCycle x y → IsSameCycle y x
same_back a = record { there = a.back; back = a.there }

module _ {l : Lists} (h : IsMarket l) {first : Places} {rotations rotations' : List (List (ℕ × ℕ))} (chain : IsCompleteChain l first rotations) (chain' : IsCompleteChain l first rotations') where
  -- what precedes a rotation in one chain precedes it in another
  precedes_alike : (i j i' j' : ℕ) → i < length rotations → j < length rotations → i' < length rotations' → j' < length rotations'
      → IsSameCycle (rotation_at rotations i) (rotation_at rotations' i') → IsSameCycle (rotation_at rotations j) (rotation_at rotations' j')
      → Precedes l rotations i j → Precedes l rotations' i' j'
  precedes_alike i j i' j' i_in j_in i_in' j_in' same_i same_j w = precedes_by_chains h chain' i' j' i_in' j_in' (λ other complete b g same.
      let u = comes_by h chain i j i_in j_in w other (eliminable_of complete) b g (same_over same (same_back same_j)) in
      record { at = u.at; not_later = u.not_later; same = same_over u.same same_i })

-- all complete chains give one order
pub one_order : OneOrder
one_order l first first' rotations rotations' i j i' j' h chain chain' i_in j_in i_in' j_in' same_i same_j =
    let e : first' ≡ first = (best_is_unique l first' first h).0 chain'.from_best chain.from_best in
    let chain_there : IsCompleteChain l first rotations' = rw e at chain' in (
      precedes_alike h chain chain_there i j i' j' i_in j_in i_in' j_in' same_i same_j,
      precedes_alike h chain_there chain i' j' i j i_in' j_in' i_in j_in (same_back same_i) (same_back same_j),
    )
