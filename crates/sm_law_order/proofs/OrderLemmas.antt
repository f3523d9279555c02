-- The closure of predecessors, closed sets, and what is eliminated at stable matchings.
use Rattle.std.proofs.Common.{◌≡◌, ℕ, zero, suc, ◌+◌, ◌<◌, ◌≤◌, inl, inr, arith, refl, sym, ◌∙◌, Bool, true, false, true≢false, List, [], ◌∷◌, ◌++◌, length, map, slice_set}
use Rattle.std.specs.List.{range_with_len}
use Rattle.std.proofs.lemmas.List.{get_or-set_same, get_or-set_other, length-set}
use Rattle.std.proofs.lemmas.List.FromFn.{get_or-map-range_with_len, length-map-range_with_len}
use Rattle.sm_lists.proofs.Counting.{Decided, bool_of, holds_of, of_holds, Decided-and, Decided-some, lt_or_le, eq_or_ne}
use Rattle.sm_market.specs.Lists.{Lists, IsMarket}
use Rattle.sm_market.specs.Matching.{Places}
use Rattle.sm_market.specs.Stable.{IsStable}
use Rattle.sm_theory.specs.Rotations.{IsExposed, proposer_at}
use Rattle.sm_theory.specs.Chains.{rotation_at, IsCompleteChain, IsNeededBy}
use Rattle.sm_theory.specs.ClosedSets.{is_member, IsMember, IsClosed, matching_of}
use Rattle.sm_theory.specs.Net.{IsPath}
use Rattle.sm_theory.proofs.Core.Cycle.{moves_at}
use Rattle.sm_theory.proofs.Core.Chain.{way_of, up_at, upper}
use Rattle.sm_theory.proofs.Net.Tests.{some_first}
use Rattle.sm_theory.proofs.Bridge.Rotation.{cycle_of}
use Rattle.sm_theory.proofs.Bridge.Chain.{chain_of, closed_of, Decided-member}
use Rattle.sm_theory.proofs.Bridge.Sets.{set_is_of}
use Rattle.sm_theory.proofs.Chains.Rotations.{predecessor_is_earlier, sets_are_matchings, exposed_where_ready}
use Rattle.sm_theory.proofs.Routes.Shortest.{added_closed, added_one}
use Rattle.sm_theory.proofs.Vectors.Decisions.{Decided-needed}
use Rattle.sm_law_order.specs.Order.{IsPredecessor, Precedes, IsEliminated}
use Rattle.sm_law_order.specs.Laws.{PrecedesIsOrder, ClosedSetsAreDownSets, PrecedesInClosedSets, PrecedesInMatchings, PrecedesWhereExposed}

-- one path behind another
path_over : (Step : ℕ → ℕ → Type 0) (path more : List ℕ) (i j k : ℕ) → IsPath Step i path j → IsPath Step j more k → IsPath Step i (path ++ more) k
path_over Step [] more i j k w v = rw (sym w) at v
path_over Step (n ∷ path) more i j k w v = (w.0, path_over Step path more n j k w.1 v)

-- what precedes a rotation that precedes another precedes the other
pub precedes_over : {l : Lists} {rotations : List (List (ℕ × ℕ))} {i j k : ℕ} → Precedes l rotations i j → Precedes l rotations j k → Precedes l rotations i k
precedes_over {l} {rotations} {i} {j} {k} w v = record { path = w.path ++ v.path; is = path_over (IsPredecessor l rotations) w.path v.path i j k w.is v.is }

-- each rotation precedes itself
pub precedes_itself : (l : Lists) (rotations : List (List (ℕ × ℕ))) (i : ℕ) → Precedes l rotations i i
precedes_itself l rotations i = record { path = []; is = refl }

-- a predecessor of what precedes j
precedes_before : {l : Lists} {rotations : List (List (ℕ × ℕ))} {i k j : ℕ} → IsPredecessor l rotations i k → Precedes l rotations k j → Precedes l rotations i j
precedes_before {l} {rotations} {i} {k} {j} need w = record { path = k ∷ w.path; is = (need, w.is) }

-- a closed set has what precedes a member
path_inside : {l : Lists} {rotations : List (List (ℕ × ℕ))} {set : List Bool} → IsClosed l rotations set → (path : List ℕ) (i j : ℕ) → IsPath (IsPredecessor l rotations) i path j → IsMember set j → IsMember set i
path_inside closed [] i j w member = rw (sym w) at member
path_inside closed (k ∷ path) i j w member = closed.closed i k w.0.early_in w.0.late_in (path_inside closed path k j w.1 member) w.0.needed

pub precedes_inside : {l : Lists} {rotations : List (List (ℕ × ℕ))} {set : List Bool} → IsClosed l rotations set → (i j : ℕ) → Precedes l rotations i j → IsMember set j → IsMember set i
precedes_inside closed i j w member = path_inside closed w.path i j w.is member

-- closed sets and those that have what precedes are the same
pub closed_sets_are_down_sets : ClosedSetsAreDownSets
closed_sets_are_down_sets l rotations set = (
  (λ closed. record { one_each = closed.one_each; down = λ i j w member. precedes_inside closed i j w member }),
  (λ down. record {
    one_each = down.one_each;
    closed = λ i j i_in j_in member need. down.down i j (precedes_before (record { early_in = i_in; late_in = j_in; needed = need }) (precedes_itself l rotations j)) member;
  }),
)

module _ {l : Lists} (h : IsMarket l) {first : Places} {rotations : List (List (ℕ × ℕ))} (chain : IsCompleteChain l first rotations) where
  predecessor_lower : (i j : ℕ) → IsPredecessor l rotations i j → i < j
  predecessor_lower i j w = predecessor_is_earlier l first rotations i j h chain w.early_in w.late_in w.needed

  path_rises : (path : List ℕ) (i j : ℕ) → IsPath (IsPredecessor l rotations) i path j → i ≤ j
  path_rises [] i j w = omega arith
  path_rises (k ∷ path) i j w = omega (arith, predecessor_lower i k w.0, path_rises path k j w.1)

  -- what precedes a rotation doesn't stand behind it
  pub precedes_rises : (i j : ℕ) → Precedes l rotations i j → i ≤ j
  precedes_rises i j w = path_rises w.path i j w.is

  -- i is a predecessor of k, which precedes j
  abbrev Through : (i j k : ℕ) → Type 0
  Through i j k = IsNeededBy l (rotation_at rotations i) (rotation_at rotations k) × Precedes l rotations k j

  -- a path from i that isn't empty goes through some k
  path_through : (i j : ℕ) → (i ≡ j → ⊥) → (path : List ℕ) → IsPath (IsPredecessor l rotations) i path j → (i < length rotations) × ((k : ℕ) × (k < length rotations) × Through i j k)
  path_through i j apart [] w = absurd (apart w)
  path_through i j apart (k ∷ path) w = (w.0.early_in, (k, w.0.late_in, (w.0.needed, record { path = path; is = w.1 })))

  -- whether i precedes j is decided, where it is of those behind i
  Decided-next : (i j : ℕ) → ((k : ℕ) → i < k → Decided (Precedes l rotations k j)) → Decided (Precedes l rotations i j)
  Decided-next i j known = elim (eq_or_ne i j) [
    | inl e ↦ inl (rw e (precedes_itself l rotations j))
    | inr e ↦ elim (lt_or_le i (length rotations)) [
      | inr out ↦ inr (λ w. let u = path_through i j e w.path w.is in omega (arith, out, u.0))
      | inl g ↦ elim (Decided-some (length rotations) (Through i j) (λ k k_in. decide g k k_in)) [
        | inl w ↦ inl (precedes_before (record { early_in = g; late_in = w.below; needed = w.holds.0 }) w.holds.1)
        | inr none ↦ inr (λ w. let u = path_through i j e w.path w.is in none (some_first (length rotations) (Through i j) (λ k k_in. decide g k k_in) u.1.0 u.1.1 u.1.2))
      ]
    ]
  ]
    where
      decide : i < length rotations → (k : ℕ) → k < length rotations → Decided (Through i j k)
      decide g k k_in = elim (lt_or_le i k) [
        | inl more ↦ Decided-and (Decided-needed l (rotation_at rotations i) (rotation_at rotations k)) (known k more)
        | inr back ↦ inr (λ w. omega (arith, predecessor_is_earlier l first rotations i k h chain g k_in w.0))
      ]

  Decided-precedes_within : (n i j : ℕ) → j < i + n → Decided (Precedes l rotations i j)
  Decided-precedes_within zero i j less = inr (λ w. omega (arith, precedes_rises i j w))
  Decided-precedes_within (suc n) i j less = Decided-next i j (λ k more. Decided-precedes_within n k j (omega arith))

  Decided-precedes : (i j : ℕ) → Decided (Precedes l rotations i j)
  Decided-precedes i j = Decided-precedes_within (suc j) i j (omega arith)

  -- the rotations that precede j
  pub down_set : ℕ → List Bool
  down_set j = map (λ i. bool_of (Decided-precedes i j)) (range_with_len 0 (length rotations))

  down_at : (i j : ℕ) → i < length rotations → is_member (down_set j) i ≡ bool_of (Decided-precedes i j)
  unfolding down_set
  down_at i j g = get_or-map-range_with_len (λ i. bool_of (Decided-precedes i j)) 0 (length rotations) i i false g (omega arith)

  pub down_into : (i j : ℕ) → i < length rotations → Precedes l rotations i j → IsMember (down_set j) i
  down_into i j g w = down_at i j g ∙ of_holds (Decided-precedes i j) w

  pub down_out : (i j : ℕ) → i < length rotations → IsMember (down_set j) i → Precedes l rotations i j
  down_out i j g e = holds_of (Decided-precedes i j) (sym (down_at i j g) ∙ e)

  pub down_closed : (j : ℕ) → IsClosed l rotations (down_set j)
  unfolding down_set
  down_closed j = record {
    one_each = length-map-range_with_len _ 0 (length rotations);
    closed = λ i k i_in k_in member need. down_into i j i_in (precedes_before (record { early_in = i_in; late_in = k_in; needed = need }) (down_out k j k_in member));
  }

  -- j itself is one of them
  pub down_itself : (j : ℕ) → j < length rotations → IsMember (down_set j) j
  down_itself j g = down_into j j g (precedes_itself l rotations j)

  -- a rotation is eliminated at the matching of a closed set exactly where it is a member
  pub member_eliminated : (set : List Bool) (k : ℕ) → k < length rotations → IsMember set k → IsEliminated l (matching_of l first rotations set) (rotation_at rotations k)
  member_eliminated set k g member = record {
    moved = λ i a.
        let w = moves_at (cycle_of (rotation_at rotations k)) i a in
        omega (arith, (set_is_of h chain set).reach (proposer_at (rotation_at rotations k) i) k g member w, ((chain_of h chain).onward k g).moved i a);
  }

  pub eliminated_member : {set : List Bool} → IsClosed l rotations set → (k : ℕ) → k < length rotations → IsEliminated l (matching_of l first rotations set) (rotation_at rotations k) → IsMember set k
  eliminated_member {set} closed k g w = elim (Decided-member set k) [
    | inl member ↦ member
    | inr out ↦
        let some = (chain.exposed k g).not_empty in
        let p : ℕ = proposer_at (rotation_at rotations k) 0 in
        let mv = moves_at (cycle_of (rotation_at rotations k)) 0 some in
        absurd (omega (
          arith,
          upper (way_of (chain_of h chain)) (closed_of h closed) (set_is_of h chain set) k p g out mv,
          up_at (way_of (chain_of h chain)) k p g mv,
          ((chain_of h chain).onward k g).moved 0 some,
          w.moved 0 some,
        ))
  ]

-- the closure is a partial order, and a linear extension of it is the chain
pub precedes_is_order : PrecedesIsOrder
precedes_is_order l first rotations h chain = (
  (λ i. precedes_itself l rotations i),
  (λ i j k w v. precedes_over w v),
  (λ i j w v. omega (arith, precedes_rises h chain i j w, precedes_rises h chain j i v)),
  (λ i j w. precedes_rises h chain i j w),
)

-- what precedes j is what every closed set with j has
pub precedes_in_closed_sets : PrecedesInClosedSets
precedes_in_closed_sets l first rotations i j h chain i_in j_in = (
  (λ w set closed member. precedes_inside closed i j w member),
  (λ all. down_out h chain i j i_in (all (down_set h chain j) (down_closed h chain j) (down_itself h chain j j_in))),
)

-- what precedes j is what is eliminated wherever j is
pub precedes_in_matchings : PrecedesInMatchings
precedes_in_matchings l first rotations i j h chain i_in j_in = (there, back)
  where
    there : Precedes l rotations i j → (m : Places) → IsStable l m → IsEliminated l m (rotation_at rotations j) → IsEliminated l m (rotation_at rotations i)
    there w m hm gone =
        let u = (sets_are_matchings l first rotations h chain).all m hm in
        let gone' : IsEliminated l (matching_of l first rotations u.0) (rotation_at rotations j) = rw u.2 gone in
        rw u.2 at (member_eliminated h chain u.0 i i_in (precedes_inside u.1 i j w (eliminated_member h chain u.1 j j_in gone')))

    back : ((m : Places) → IsStable l m → IsEliminated l m (rotation_at rotations j) → IsEliminated l m (rotation_at rotations i)) → Precedes l rotations i j
    back all =
        let set : List Bool = down_set h chain j in
        let closed = down_closed h chain j in
        down_out h chain i j i_in (eliminated_member h chain closed i i_in
        (all (matching_of l first rotations set) ((sets_are_matchings l first rotations h chain).stable set closed) (member_eliminated h chain set j j_in (down_itself h chain j j_in))))

module _ {l : Lists} (h : IsMarket l) {first : Places} {rotations : List (List (ℕ × ℕ))} (chain : IsCompleteChain l first rotations) where
  -- the rotations that precede j, but for j itself
  abbrev before_set : ℕ → List Bool
  before_set j = slice_set (down_set h chain j) j false

  before_out : (j : ℕ) → j < length rotations → ¬ IsMember (before_set j) j
  before_out j g member = true≢false (sym member ∙ get_or-set_same (down_set h chain j) j false false (omega (arith, g, (down_closed h chain j).one_each)))

  before_others : (i j : ℕ) → (i ≡ j → ⊥) → is_member (before_set j) i ≡ is_member (down_set h chain j) i
  before_others i j apart = get_or-set_other (down_set h chain j) j i false false apart

  before_has : (i j k : ℕ) → i < length rotations → k < length rotations → IsMember (down_set h chain j) k → k ≤ j → IsNeededBy l (rotation_at rotations i) (rotation_at rotations k) → IsMember (before_set j) i
  before_has i j k i_in k_in member less need =
      before_others i j (λ e. omega (arith, e, predecessor_is_earlier l first rotations i k h chain i_in k_in need))
      ∙ (down_closed h chain j).closed i k i_in k_in member need

  before_closed : (j : ℕ) → j < length rotations → IsClosed l rotations (before_set j)
  before_closed j g = record {
    one_each = length-set (down_set h chain j) j false ∙ (down_closed h chain j).one_each;
    closed = λ i k i_in k_in member need. elim (eq_or_ne k j) [
      | inl e ↦ absurd (before_out j g (rw e at member))
      | inr apart ↦
          let inside : IsMember (down_set h chain j) k = sym (before_others k j apart) ∙ member in
          before_has i j k i_in k_in inside (precedes_rises h chain k j (down_out h chain k j k_in inside)) need
    ];
  }

  -- at its matching j is exposed
  before_exposed : (j : ℕ) → j < length rotations → IsExposed l (matching_of l first rotations (before_set j)) (rotation_at rotations j)
  before_exposed j g = (exposed_where_ready l first rotations (before_set j) j h chain (before_closed j g) g).1 (record {
    outside = before_out j g;
    prepared = λ i i_in need. before_has i j j i_in g (down_itself h chain j g) (omega arith) need;
  })

-- what precedes j is what is eliminated wherever j is exposed
pub precedes_where_exposed : PrecedesWhereExposed
precedes_where_exposed l first rotations i j h chain i_in j_in apart = (there, back)
  where
    there : Precedes l rotations i j → (m : Places) → IsStable l m → IsExposed l m (rotation_at rotations j) → IsEliminated l m (rotation_at rotations i)
    there w m hm x =
        let u = (sets_are_matchings l first rotations h chain).all m hm in
        let x' : IsExposed l (matching_of l first rotations u.0) (rotation_at rotations j) = rw u.2 x in
        let ready = (exposed_where_ready l first rotations u.0 j h chain u.1 j_in).0 x' in
        let one = added_one h chain u.1 j j_in ready in
        rw u.2 at (member_eliminated h chain u.0 i i_in (one.less i (precedes_inside (added_closed h chain u.1 j j_in ready) i j w one.inside) apart))

    back : ((m : Places) → IsStable l m → IsExposed l m (rotation_at rotations j) → IsEliminated l m (rotation_at rotations i)) → Precedes l rotations i j
    back all =
        let closed = before_closed h chain j j_in in
        let inside = eliminated_member h chain closed i i_in (all (matching_of l first rotations (before_set h chain j)) ((sets_are_matchings l first rotations h chain).stable (before_set h chain j) closed) (before_exposed h chain j j_in)) in
        down_out h chain i j i_in (sym (before_others h chain i j apart) ∙ inside)
