-- Sets of rotations and their matchings.
use Rattle.std.proofs.Common.{◌≡◌, ℕ, zero, suc, ◌<◌, ◌≤◌, ◌⊎◌, inl, inr, arith, refl, sym, ap, ◌∙◌, subst, List, [], Option, Some, None, length, Bool, false, max, lt-ltb, le-ltb, Contains, slice_index_or, nat_le, map}
use Rattle.std.specs.Option.{option_map}
use Rattle.std.specs.List.{All}
use Rattle.std.proofs.lemmas.Bool.{le-leb, lt-leb, false_from_ne_true}
use Rattle.std.proofs.lemmas.List.{get_or_read, get_or_default, get_or-map, length-map, ext_get_or, get_or_past}
use Rattle.std.proofs.lemmas.List.FromFn.{get_or-map-range_with_len, length-map-range_with_len}
use Rattle.sm_lists.proofs.ResultLemmas.{cond-and_false}
use Rattle.sm_market.specs.Lists.{Lists, row, place_of, IsMarket}
use Rattle.sm_market.specs.Matching.{Places, held, standing}
use Rattle.sm_market.specs.Stable.{IsStable}
use Rattle.sm_lists.proofs.Counting.{lt_or_le, eq_or_ne}
use Rattle.sm_market.proofs.Bridge.{stand_of}
use Rattle.sm_theory.specs.Rotations.{pair_of, reviewer_after}
use Rattle.sm_theory.specs.Chains.{rotation_at, stage, IsCompleteChain, AreNeedsOf}
use Rattle.sm_theory.specs.ClosedSets.{is_member, IsMember, IsClosed, worst_place, matching_of}
use Rattle.sm_theory.proofs.Core.Cycle.{Moves}
use Rattle.sm_theory.proofs.Core.Chain.{upper, up_at, IsOf, way_of}
use Rattle.sm_theory.proofs.Bridge.Rotation.{cycle_of}
use Rattle.sm_theory.proofs.Bridge.Chain.{chain_of, closed_of, Decided-member}
use Rattle.sm_theory.proofs.Bridge.Places.{row_past}
use Rattle.sm_theory.proofs.Bridge.Sets.{set_is_of, worst_more}
use Rattle.sm_theory.proofs.Chains.Rotations.{sets_are_matchings}
use Rattle.sm_poset.specs.Moves.{IsMove, rotation_of, place_to, AreMovesOf, IsWorstOf, IsWorstPlace, moves_at, AreMoves}
use Rattle.sm_poset.specs.Posets.{RotationPoset}
use Rattle.sm_poset.specs.Kept.{AreLeaders, IsKept}
use Rattle.sm_poset.proofs.ChainLemmas.{move_stands, moves_of_move}

-- p's worst place is no better than i and the places to which members move p, and it is one of these
pub record Worst (l : Lists) (rotations : List (List (ℕ × ℕ))) (set : List Bool) (p i n worst : ℕ) : Type 0 where
  pub low : i ≤ worst
  pub reach : (k j : ℕ) → k < n → IsMember set k → IsMove l rotations p k j → j ≤ worst
  pub attained : (worst ≡ i) ⊎ ((k : ℕ) × (k < n) × IsMember set k × IsMove l rotations p k worst)

-- where rotation n moves p, if it does
abbrev pub target_of : Lists → List (List (ℕ × ℕ)) → (p n : ℕ) → ℕ
target_of l rotations p n = place_of l.proposers p (reviewer_after (rotation_at rotations n) p)

module _ (l : Lists) (rotations : List (List (ℕ × ℕ))) (set : List Bool) (p i : ℕ) where
  place_is : (k n j : ℕ) → k ≡ n → IsMove l rotations p k j → j ≡ target_of l rotations p n
  place_is k n j e w = w.place ∙ ap (target_of l rotations p) e

  -- nothing more than before
  kept : (n w : ℕ) → ((j : ℕ) → IsMember set n → IsMove l rotations p n j → ⊥) → Worst l rotations set p i n w → Worst l rotations set p i (suc n) w
  kept n w none x = record {
    low = x.low;
    reach = λ k j h member v. elim (eq_or_ne k n) [
      | inl e ↦ absurd (none j (subst (IsMember set) e member) (subst (λ m. IsMove l rotations p m j) e v))
      | inr e ↦ x.reach k j (omega arith) member v
    ];
    attained = elim x.attained [ inl e ↦ inl e | inr y ↦ inr (y.0, omega (arith, y.1), y.2, y.3) ];
  }

  -- one more member that moves p
  more : (n w : ℕ) → IsMember set n → IsMove l rotations p n (target_of l rotations p n) → Worst l rotations set p i n w → Worst l rotations set p i (suc n) (max w (target_of l rotations p n))
  more n w member v x = record {
    low = omega (arith, x.low);
    reach = λ k j h inside u. elim (eq_or_ne k n) [
      | inl e ↦ omega (arith, place_is k n j e u)
      | inr e ↦ omega (arith, x.reach k j (omega arith) inside u)
    ];
    attained = elim (lt_or_le w (target_of l rotations p n)) [
      | inl less ↦
          let e : target_of l rotations p n ≡ max w (target_of l rotations p n) = omega arith in
          inr (n, omega arith, member, subst (IsMove l rotations p n) e v)
      | inr le ↦
          let e : w ≡ max w (target_of l rotations p n) = omega arith in
          elim x.attained [
            | inl y ↦ inl (sym e ∙ y)
            | inr y ↦ inr (y.0, omega (arith, y.1), y.2, subst (IsMove l rotations p y.0) e y.3)
          ]
    ];
  }

  -- the worst place, as it is computed
  pub worst : (n : ℕ) → Worst l rotations set p i n (worst_place l rotations set p i n)
  worst zero = record { low = omega arith; reach = λ k j h. absurd (omega arith); attained = inl refl }
  worst (suc n) = elim (Decided-member set n) [
    | inr out ↦
        let e : worst_place l rotations set p i (suc n) ≡ worst_place l rotations set p i n = worst_more l rotations set p i n ∙ rw (false_from_ne_true (is_member set n) out) refl in
        subst (Worst l rotations set p i (suc n)) (sym e) (kept n (worst_place l rotations set p i n) (λ j member v. out member) (worst n))
    | inl member ↦ elim (lt_or_le (pair_of (rotation_at rotations n) p) (length (rotation_at rotations n))) [
      | inr past ↦
          let e : worst_place l rotations set p i (suc n) ≡ worst_place l rotations set p i n = worst_more l rotations set p i n ∙ rw (le-ltb (pair_of (rotation_at rotations n) p) (length (rotation_at rotations n)) past) (cond-and_false (is_member set n) _ _) in
          subst (Worst l rotations set p i (suc n)) (sym e) (kept n (worst_place l rotations set p i n) (λ j _ v. let m = v.moved in omega arith) (worst n))
      | inl inside ↦
          let e : worst_place l rotations set p i (suc n) ≡ max (worst_place l rotations set p i n) (target_of l rotations p n) = worst_more l rotations set p i n ∙ rw (lt-ltb (pair_of (rotation_at rotations n) p) (length (rotation_at rotations n)) inside, member) refl in
          subst (Worst l rotations set p i (suc n)) (sym e) (more n (worst_place l rotations set p i n) member (record { moved = inside; place = refl }) (worst n))
    ]
  ]

-- what is worst among all moves of p is its worst place
pub worst_is : {l : Lists} {rotations : List (List (ℕ × ℕ))} {p n : ℕ} {moves : List (ℕ × ℕ)} → AreMovesOf l rotations n p moves → (set : List Bool) (i best : ℕ) → IsWorstOf i moves set best
    → best ≡ worst_place l rotations set p i n
worst_is {l} {rotations} {p} {n} {moves} m set i best w =
    let x = worst l rotations set p i n in
    let up : best ≤ worst_place l rotations set p i n = elim w.attained [
      | inl e ↦ omega (arith, x.low)
      | inr a ↦ let le = x.reach (rotation_of moves a.0) (place_to moves a.0) (m.sound a.0 a.1) a.2 (m.each a.0 a.1) in omega (arith, a.3)
    ] in
    let down : worst_place l rotations set p i n ≤ best = elim x.attained [
      | inl e ↦ omega (arith, w.first_no_worse)
      | inr a ↦ among a.0 a.1 a.2 (m.all a.0 (worst_place l rotations set p i n) a.1 a.3)
    ] in
    omega arith
  where
    among : (k : ℕ) → k < n → IsMember set k → Contains {X = ℕ × ℕ} moves (k, worst_place l rotations set p i n) → worst_place l rotations set p i n ≤ best
    among k h member c =
        let at : slice_index_or moves c.0 (0, 0) ≡ (k, worst_place l rotations set p i n) = sym (get_or_read moves c.0 (k, worst_place l rotations set p i n) c.1 (sym c.2) (0, 0)) in
        let le = w.none_worse c.0 c.1 (subst (IsMember set) (sym (ap (λ x. x.0) at)) member) in
        omega (arith, ap (λ x. x.1) at)

worst_place_is : {l : Lists} {rotations : List (List (ℕ × ℕ))} {p n : ℕ} {moves : List (ℕ × ℕ)} → AreMovesOf l rotations n p moves → (set : List Bool) (first worst : Option ℕ) → IsWorstPlace first moves set worst
    → worst ≡ option_map (λ i. worst_place l rotations set p i n) first
worst_place_is m set None worst w = w
worst_place_is m set (Some i) None w = absurd w
worst_place_is m set (Some i) (Some best) w = ap Some (worst_is m set i best w)

-- the worst places of all proposers are those of the set's matching
pub worst_places_are : {l : Lists} (first : Places) {rotations : List (List (ℕ × ℕ))} {moves : List (List (ℕ × ℕ))} (set : List Bool) → AreMoves l rotations (length rotations) moves → (places : List (Option ℕ)) → length places ≡ length l.proposers
    → ((p : ℕ) → p < length l.proposers → IsWorstPlace (held first.proposers p) (moves_at moves p) set (held places p)) → places ≡ (matching_of l first rotations set).proposers
worst_places_are {l} first {rotations} {moves} set m places long each =
    ext_get_or None places (matching_of l first rotations set).proposers (long ∙ sym (length-map-range_with_len (λ p. option_map (λ i. worst_place l rotations set p i (length rotations)) (held first.proposers p)) 0 (length l.proposers)))
    (λ p h.
    let less : p < length l.proposers = omega arith in
    worst_place_is (m.of p less) set (held first.proposers p) (held places p) (each p less)
    ∙ sym (get_or-map-range_with_len (λ p. option_map (λ i. worst_place l rotations set p i (length rotations)) (held first.proposers p)) 0 (length l.proposers) p p None less (omega arith)))

-- a set is closed where all predecessors of each member are members, and there alone
pub closed_from : {l : Lists} {rotations : List (List (ℕ × ℕ))} (needs : List (List ℕ)) (set : List Bool) → length set ≡ length rotations → ((j : ℕ) → j < length rotations → AreNeedsOf l rotations j (row needs j))
    → ((j : ℕ) → j < length set → IsMember set j → All (IsMember set) (row needs j)) → IsClosed l rotations set
closed_from needs set long are all = record {
  one_each = long;
  closed = λ i j a b member need.
      let c = (are j b).all i a need in
      subst (IsMember set) c.2 (all j (omega arith) member c.0 i c.1);
}

-- in a closed set all predecessors of each member are members
pub closed_gives : {l : Lists} {rotations : List (List (ℕ × ℕ))} (needs : List (List ℕ)) (set : List Bool) → ((j : ℕ) → j < length rotations → AreNeedsOf l rotations j (row needs j))
    → IsClosed l rotations set → (j : ℕ) → j < length set → IsMember set j → All (IsMember set) (row needs j)
closed_gives {l} {rotations} needs set are closed j h member a d less =
    let b : j < length rotations = omega (arith, closed.one_each) in
    let need = are j b in
    subst (IsMember set) (get_or_default (row needs j) a 0 d less)
    (closed.closed (slice_index_or (row needs j) a 0) j (need.sound a less) b member (need.each a less))

-- the predecessors are in range
pub needs_in_range : {l : Lists} {rotations : List (List (ℕ × ℕ))} (needs : List (List ℕ)) (set : List Bool) → length set ≡ length rotations → length needs ≡ length rotations → ((j : ℕ) → j < length rotations → AreNeedsOf l rotations j (row needs j))
    → (j : ℕ) → All (λ k. k < length set) (row needs j)
needs_in_range {l} {rotations} needs set long each are j a d less = elim (lt_or_le j (length rotations)) [
  | inl b ↦ let is = get_or_default (row needs j) a 0 d less in omega (arith, (are j b).sound a less)
  | inr past ↦ absurd (omega (arith, row_past needs j (omega arith)))
]

-- where one rotation leads one proposer decides whether it is a member of the closed set of a stable matching
pub member_where : {l : Lists} (h : IsMarket l) {first : Places} {rotations : List (List (ℕ × ℕ))} (chain : IsCompleteChain l first rotations) {m : Places} (set : List Bool) → IsClosed l rotations set → matching_of l first rotations set ≡ m
    → (p k i : ℕ) → k < length rotations → IsMove l rotations p k i → nat_le i (standing l.proposers m.proposers p) ≡ is_member set k
member_where {l} h {first} {rotations} chain {m} set closed is p k i g w = elim (Decided-member set k) [
  | inl member ↦ le-leb i (standing l.proposers m.proposers p) (omega (arith, of.reach p k g member mv, move_stands h chain p k i g w)) ∙ sym member
  | inr out ↦
      lt-leb i (standing l.proposers m.proposers p) (omega (arith, upper (way_of (chain_of h chain)) (closed_of h closed) of k p g out mv, up_at (way_of (chain_of h chain)) k p g mv, move_stands h chain p k i g w))
      ∙ sym (false_from_ne_true (is_member set k) out)
]
  where
    mv : Moves (cycle_of (rotation_at rotations k)) p
    mv = moves_of_move h chain p k i w

    of : IsOf (length rotations) (λ k. stand_of l (stage l first rotations k)) (λ k. cycle_of (rotation_at rotations k)) (IsMember set) (stand_of l m)
    of = subst (λ (n : Places). IsOf (length rotations) (λ k. stand_of l (stage l first rotations k)) (λ k. cycle_of (rotation_at rotations k)) (IsMember set) (stand_of l n)) is (set_is_of h chain set)

-- the set of the rotations whose leaders stand where they are led, or worse
abbrev pub reached_set : Lists → Places → List (ℕ × ℕ) → List Bool
reached_set l m leaders = map (λ leader. nat_le leader.1 (standing l.proposers m.proposers leader.0)) leaders

-- it is the closed set of the matching
pub record IsSetOf (l : Lists) (first m : Places) (rotations : List (List (ℕ × ℕ))) (set : List Bool) : Type 0 where
  pub closed : IsClosed l rotations set
  pub matching : matching_of l first rotations set ≡ m
  pub one : (other : List Bool) → IsClosed l rotations other → matching_of l first rotations other ≡ m → other ≡ set

-- the rotations whose leaders stand no better than their new place are the set of a stable matching
pub reached_set_is : {l : Lists} (h : IsMarket l) {first : Places} {rotations : List (List (ℕ × ℕ))} (chain : IsCompleteChain l first rotations) {m : Places} → IsStable l m → (leaders : List (ℕ × ℕ)) → AreLeaders l rotations (length rotations) leaders
    → IsSetOf l first m rotations (reached_set l m leaders)
reached_set_is {l} h {first} {rotations} chain {m} stable leaders w =
    let law = sets_are_matchings l first rotations h chain in
    let found = law.all m stable in
    let same : found.0 ≡ reached_set l m leaders = ext_get_or false found.0 (reached_set l m leaders)
    (found.1.one_each ∙ sym w.one_each ∙ sym (length-map leaders (λ leader. nat_le leader.1 (standing l.proposers m.proposers leader.0))))
    (λ k less.
    let g : k < length rotations = omega (arith, found.1.one_each) in
    sym (member_where h chain found.0 found.1 found.2 (slice_index_or leaders k (0, 0)).0 k (slice_index_or leaders k (0, 0)).1 g (w.leads k g))
    ∙ sym (get_or-map (λ leader. nat_le leader.1 (standing l.proposers m.proposers leader.0)) leaders k (0, 0) false (omega (arith, w.one_each)))) in
    record {
      closed = subst (IsClosed l rotations) same found.1;
      matching = ap (matching_of l first rotations) (sym same) ∙ found.2;
      one = λ other closed is. law.different other found.0 closed found.1 (is ∙ sym found.2) ∙ same;
    }

-- the rotations of the moves are in range
pub moves_in_range : {l : Lists} {rotations : List (List (ℕ × ℕ))} {n : ℕ} {moves : List (List (ℕ × ℕ))} → AreMoves l rotations n moves → (set : List Bool) → length set ≡ n → (p a : ℕ) → a < length (moves_at moves p) → rotation_of (moves_at moves p) a < length set
moves_in_range {l} {rotations} {n} {moves} w set long p a h = elim (lt_or_le p (length l.proposers)) [
  | inl less ↦ omega (arith, (w.of p less).sound a h)
  | inr past ↦ absurd (let none = ap length (get_or_past moves p [] (omega (arith, w.one_each))) in omega arith)
]

-- the worst places of all proposers make the matching of a closed set
pub record IsMatchingOf (poset : RotationPoset) (set : List Bool) (places : List (Option ℕ)) : Type 0 where
  pub stable : IsStable poset.lists (matching_of poset.lists poset.first.places poset.rotations set)
  pub places_are : places ≡ (matching_of poset.lists poset.first.places poset.rotations set).proposers

-- the worst places by the moves that are kept of a poset make the matching of a closed set
pub matching_made : {poset : RotationPoset} {needs : List (List ℕ)} {moves : List (List (ℕ × ℕ))} {leaders : List (ℕ × ℕ)} → IsKept poset needs moves leaders → (set : List Bool) → IsClosed poset.lists poset.rotations set → (places : List (Option ℕ)) → length places ≡ length moves
    → ((p : ℕ) → p < length moves → IsWorstPlace (held poset.first.places.proposers p) (moves_at moves p) set (held places p)) → IsMatchingOf poset set places
matching_made {poset} kept set closed places long each = record {
  stable = (sets_are_matchings poset.lists poset.first.places poset.rotations kept.chain.market kept.chain.printed.chain).stable set closed;
  places_are = worst_places_are poset.first.places set kept.moves_are places (long ∙ kept.moves_are.one_each) (λ p h. each p (omega (arith, kept.moves_are.one_each)));
}
