-- The net of the rotations of an answer, of what they need and of the conditions.
use Rattle.std.proofs.Common.{◌≡◌, ℕ, ◌+◌, ◌<◌, ◌^◌, ◌∙◌, inl, inr, arith, sym, ap, subst, List, [], length, map, get_or, ℤ, Vec, Global}
use Rattle.std.proofs.lemmas.Bool.{cases_lt}
use Rattle.std.proofs.lemmas.List.{length-map, get_or-map, get_or_past}
use Rattle.sm_lists.specs.Rows.{row, rows_of}
use Rattle.sm_agents.specs.Written.{Written, place_of}
use Rattle.sm_agents.specs.Sound.{IsInstance, IsPairOf}
use Rattle.sm_lists.specs.Pairs.{pair_at}
use Rattle.sm_agents.specs.declared.kinds.Measure.{Measure}
use Rattle.sm_agents.proofs.ItemLemmas.{forced_in_range, forbidden_in_range}
use Rattle.sm_market.specs.Limits.{IsWithinLimits}
use Rattle.sm_market.specs.Matching.{Places}
use Rattle.sm_market.proofs.PairingLemmas.{held_in_range}
use Rattle.sm_theory.specs.Chains.{AreNeedsOf}
use Rattle.sm_theory.specs.Vectors.{AreLevels}
use Rattle.sm_theory.specs.Weights.{gain_of}
use Rattle.sm_theory.proofs.Chains.Length.{short_eliminable}
use Rattle.sm_check_net.specs.CheckedNets.{NetParts, net_of_parts, HasParts, AreRowsRising, AreNumbersBelow, NeedsAreOf}
use Rattle.sm_check_net.specs.Moves.{moves_in}
use Rattle.sm_check_net.specs.Spans.{bonds_of, HaveFirstLevels, AreFirstBelow}
use Rattle.sm_check_net.proofs.NetOfLemmas.{net_is}
use Rattle.sm_seats.specs.SeatMarket.{seat_market}
use Rattle.sm_seats.specs.Seating.{seating_of, levels_of}
use Rattle.sm_seats.specs.Correspondence.{IsSeating, weights_of, leveled}
use Rattle.sm_seats.proofs.MarketLaws.{length-proposers}
use Rattle.sm_seats.proofs.ShownNetLemmas.{net_is_shown}
use Rattle.sm_report.specs.Lines.{LineData}
use Rattle.sm_check_clauses.specs.declared.chain_walk.ChainWalk.{ChainWalk}
use Rattle.sm_check_clauses.specs.Said.{rotations_in, all_needs_in}
use Rattle.sm_check_clauses.specs.SeatMatchings.{first_of}
use Rattle.sm_check_clauses.specs.Flows.{net_in}
use Rattle.sm_check_weight.specs.Kept.{HasWholePoset}
use Rattle.sm_check_weight.proofs.WholeLemmas.{complete}
use Rattle.sm_check_weight.proofs.NeedsLemmas.{needs_at_end}
use Rattle.sm_check_weight.proofs.KeptLemmas.{needs_below}

-- there are as many rows of levels as proposers, and conditions by levels stand beside these
pub levels_long : (w : Written) (vectors : List (Vec ℕ Global)) → AreLevels (seat_market w) (rows_of vectors) → length vectors ≡ length w.proposers
levels_long w vectors are = sym (length-map vectors (λ v. v.items)) ∙ are.one_each ∙ length-proposers w

named : (w : Written) (n : ℕ) (pairs : List (ℕ × ℕ)) → n ≡ length w.proposers → ((c : ℕ) → c < length pairs → IsPairOf (length w.proposers) (length w.reviewers) (pair_at pairs c)) → AreFirstBelow n (leveled w pairs)
named w n pairs long each c l =
    let f : (ℕ × ℕ) → (ℕ × ℕ) = λ pair. (pair.0, place_of w.proposers pair.0 pair.1 + 1) in
    let on : c < length pairs = omega (arith, l, length-map pairs f) in
    subst (λ (pair : ℕ × ℕ). pair.0 < n) (sym (get_or-map f pairs c (0, 0) (0, 0) on)) (subst (λ (m : ℕ). (pair_at pairs c).0 < m) (sym long) (each c on).proposer)

-- forced pairs name proposers that are there
pub forced_below : {w : Written} {n : ℕ} {forced : List (ℕ × ℕ)} → IsInstance w → n ≡ length w.proposers → forced ≡ leveled w w.forced → AreFirstBelow n forced
forced_below {w} {n} i long is = subst (AreFirstBelow n) (sym is) (named w n w.forced long (forced_in_range i))

-- forbidden pairs name proposers that are there
pub forbidden_below : {w : Written} {n : ℕ} {forbidden : List (ℕ × ℕ)} → IsInstance w → n ≡ length w.proposers → forbidden ≡ leveled w w.forbidden → AreFirstBelow n forbidden
forbidden_below {w} {n} i long is = subst (AreFirstBelow n) (sym is) (named w n w.forbidden long (forbidden_in_range i))

module _ {w : Written} {above : List LineData} {walk : ChainWalk} (g : HasWholePoset w above walk) where
  -- there are few rotations
  pub few_rotations : IsWithinLimits (seat_market w) → length (rotations_in w above) < 2 ^ 24
  few_rotations limits =
      let i = g.walk_of.is_walk.is_walk in
      omega (arith, short_eliminable i.market i.noted.matching i.noted.eliminable, limits.proposers.entries)

  -- the places that are held at first have levels
  pub first_has_levels : {levels : List (List ℕ)} → AreLevels (seat_market w) levels → HaveFirstLevels levels walk.first.places.proposers
  first_has_levels are p i h =
      let m = g.walk_of.is_walk.is_walk.first_made.matching.proposers in
      omega (arith, m.on_list p i h, are.per_place p (held_in_range m p i h))

  -- what each needs
  pub needs_of_each : (j : ℕ) → j < length (rotations_in w above) → AreNeedsOf (seat_market w) (rotations_in w above) j (row (all_needs_in above) j)
  needs_of_each = needs_at_end (seat_market w) (first_of w above) g.walk_of.is_walk.is_walk.market (rotations_in w above) (all_needs_in above) (complete g.walk_of) g.one_each g.needs

  -- the numbers of what each needs rise
  pub needs_rise : AreRowsRising (all_needs_in above)
  needs_rise = record { rising = each }
    where
      each : (k a b : ℕ) → a < b → b < length (row (all_needs_in above) k) → get_or (row (all_needs_in above) k) a 0 < get_or (row (all_needs_in above) k) b 0
      each k a b less on = elim (cases_lt k (length (all_needs_in above))) [
        | inl here ↦ (g.needs k here).rising a b less on
        | inr past ↦ absurd (let none = ap (λ (xs : List ℕ). length xs) (get_or_past (all_needs_in above) k [] past) in omega (arith, none, on))
      ]

  -- they are those of rotations that there are
  pub numbers_below : {n : ℕ} {needs : List (List ℕ)} → n ≡ length (rotations_in w above) → needs ≡ all_needs_in above → AreNumbersBelow n needs
  numbers_below {n} {needs} long same = subst (AreNumbersBelow n) (sym same) (subst (λ (m : ℕ). AreNumbersBelow m (all_needs_in above)) (sym long) (needs_below g))

  -- there are as many lists of needs as rotations
  pub needs_long : (vectors : List (Vec ℕ Global)) → rows_of vectors ≡ all_needs_in above → length vectors ≡ length (rotations_in w above)
  needs_long vectors same = sym (length-map vectors (λ v. v.items)) ∙ ap (λ (xs : List (List ℕ)). length xs) same ∙ g.one_each

  -- a net with these needs has the predecessors of the rotations
  pub needs_are : {gains : List ℤ} {bonds : List (ℕ × ℕ)} {needs : List (List ℕ)} {parts : NetParts} → needs ≡ all_needs_in above → length gains ≡ length (rotations_in w above) → HasParts parts gains needs bonds → NeedsAreOf (seat_market w) (rotations_in w above) parts
  needs_are {gains} {bonds} {needs} {parts} same long h = record {
    one_each = sym (ap (λ (xs : List ℤ). length xs) h.same_gains ∙ long);
    each = λ j less. subst (λ (rows : List (List ℕ)). AreNeedsOf (seat_market w) (rotations_in w above) j (row rows j)) (sym (h.same_needs ∙ same)) (needs_of_each j less);
  }

  -- the net that is made of them
  pub net_made : IsSeating w (seating_of w) → (by : Measure) {levels : List (List ℕ)} {weights : List (List ℤ)} {gains : List ℤ} {needs : List (List ℕ)} {forced forbidden bonds : List (ℕ × ℕ)} {parts : NetParts} → levels ≡ levels_of (seating_of w) → weights ≡ weights_of by w (seating_of w)
      → gains ≡ map (gain_of (seat_market w) weights) (rotations_in w above) → needs ≡ all_needs_in above → forced ≡ leveled w w.forced → forbidden ≡ leveled w w.forbidden
      → bonds ≡ bonds_of levels walk.first.places.proposers (moves_in walk.moves.items) forced forbidden → HasParts parts gains needs bonds → net_of_parts parts ≡ net_in w by above
  net_made seating by {levels} {weights} {gains} {needs} {forced} {forbidden} {bonds} {parts} l v e n f b m h =
      let i = g.walk_of.is_walk.is_walk in
      let gains_are : gains ≡ map (gain_of (seat_market w) (weights_of by w (seating_of w))) (rotations_in w above) = e ∙ ap (λ (ws : List (List ℤ)). map (gain_of (seat_market w) ws) (rotations_in w above)) v in
      let bonds_are : bonds ≡ bonds_of (levels_of (seating_of w)) (first_of w above).proposers (moves_in walk.moves.items) (leveled w w.forced) (leveled w w.forbidden) =
      m ∙ ap (λ (ls : List (List ℕ)). bonds_of ls walk.first.places.proposers (moves_in walk.moves.items) forced forbidden) l
      ∙ ap (λ (p : Places). bonds_of (levels_of (seating_of w)) p.proposers (moves_in walk.moves.items) forced forbidden) i.first_is
      ∙ ap (λ (c : List (ℕ × ℕ)). bonds_of (levels_of (seating_of w)) (first_of w above).proposers (moves_in walk.moves.items) c forbidden) f
      ∙ ap (λ (c : List (ℕ × ℕ)). bonds_of (levels_of (seating_of w)) (first_of w above).proposers (moves_in walk.moves.items) (leveled w w.forced) c) b in
      net_is (seat_market w) (levels_of (seating_of w)) (weights_of by w (seating_of w)) (leveled w w.forced) (leveled w w.forbidden) (first_of w above) (rotations_in w above) (all_needs_in above) (moves_in walk.moves.items) parts i.moves.moves
      (subst (λ (x : List (ℕ × ℕ)). HasParts parts (map (gain_of (seat_market w) (weights_of by w (seating_of w))) (rotations_in w above)) (all_needs_in above) x) bonds_are
      (subst (λ (x : List (List ℕ)). HasParts parts (map (gain_of (seat_market w) (weights_of by w (seating_of w))) (rotations_in w above)) x bonds) n
      (subst (λ (x : List ℤ). HasParts parts x needs bonds) gains_are h)))
      ∙ sym (net_is_shown seating (complete g.walk_of) by (all_needs_in above))
