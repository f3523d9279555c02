-- The net that is looked up in is the net of gains, predecessors and conditions.
use Rattle.std.proofs.Common.{◌≡◌, ℕ, suc, ◌<◌, ◌≤◌, ◌||◌, inl, inr, arith, refl, sym, ap, ◌∙◌, Bool, true, false, not, List, [], ◌∷◌, length, map, get_or, eqb-true, eq-eqb, ne_eqb, pos}
use Rattle.std.specs.Prelude.{◌==◌, ◌&&◌, nat_lt, if◌then◌else◌}
use Rattle.std.specs.List.{list_any, position_or_len, flat_map}
use Rattle.std.proofs.lemmas.Bool.{lt-ltb, ltb-true, and_from}
use Rattle.std.proofs.lemmas.List.{length-map, get_or-map, get_or_past}
use Rattle.std.proofs.lemmas.List.Folds.{list_any_at, list_any-append}
use Rattle.std.proofs.lemmas.List.Sums.{position_or_len_is, fails_before_first, passes_at_first, prefix_len-le-length}
use Rattle.sm_lists.proofs.Counting.{lt_or_le}
use Rattle.sm_market.specs.Lists.{Lists, place_of}
use Rattle.sm_market.specs.Matching.{Places, held}
use Rattle.sm_theory.specs.Rotations.{proposer_at, reviewer_at, target_at, pair_of}
use Rattle.sm_theory.specs.Chains.{rotation_at}
use Rattle.sm_theory.specs.Weights.{gain_of}
use Rattle.sm_lists.proofs.ResultLemmas.{same_bool}
use Rattle.sm_theory.specs.Conditions.{level_at, has_level, moves_to, moves_off, entry_node, exit_node, forces, forbids, leads_to_need, rise_of, fall_of}
use Rattle.sm_theory.proofs.Net.Tests.{and_parts, some_passes}
use Rattle.sm_check_net.specs.declared.moves.Move.{Move}
use Rattle.sm_check_net.specs.Moves.{move_at, AreRotationMoves, AreMovesByRotation}
use Rattle.sm_check_net.specs.Pairs.{has_pair}
use Rattle.sm_check_net.specs.declared.spans.Passage.TheVariants.{Entry, Exit}
use Rattle.sm_check_net.specs.Spans.{comes_to, goes_off, some_pass, entry_by, exit_by, forced_pairs, forbidden_pairs}
use Rattle.sm_check_net.specs.CheckedNets.{gain_at}
use Rattle.sm_check_net.specs.Laws.{NetIsOf}

same_eq : (a b : ℕ) → (a == b) ≡ (b == a)
same_eq a b = same_bool (a == b) (b == a) (λ h. eq-eqb b a (sym (eqb-true a b h))) (λ h. eq-eqb a b (sym (eqb-true b a h)))

-- the first places of two tests that are the same at each place
same_first : {X Y : Type 0} (t : X → Bool) (s : Y → Bool) (xs : List X) (ys : List Y) (d : X) (e : Y) → length xs ≡ length ys
    → ((k : ℕ) → k < length ys → t (get_or xs k d) ≡ s (get_or ys k e)) → position_or_len t xs ≡ position_or_len s ys
same_first t s xs ys d e long same =
    position_or_len_is t xs (position_or_len s ys) d (omega (arith, most))
    (λ k less. same k (omega (arith, most)) ∙ fails_before_first s ys k e less)
    (λ less. same _ (omega (arith, long)) ∙ passes_at_first s ys e (omega (arith, long)))
  where
    most : position_or_len s ys ≤ length ys
    most = prefix_len-le-length _ ys

module _ {l : Lists} {rotation : List (ℕ × ℕ)} {moves : List Move} (m : AreRotationMoves l rotation moves) (levels : List (List ℕ)) (p level : ℕ) where
  -- the pair of a proposer in a rotation is the one that has it
  pub pair_is : (a : ℕ) → a < length rotation → proposer_at rotation a ≡ p → pair_of rotation p ≡ a
  pair_is a less e = position_or_len_is (λ (pair : ℕ × ℕ). pair.0 == p) rotation a (0, 0) (omega arith)
      (λ k few. ne_eqb (proposer_at rotation k) p (λ f. m.distinct k a few less (f ∙ sym e)))
      (λ _. eq-eqb (proposer_at rotation a) p e)

  -- where a rotation moves a proposer, the pair that is looked for has it
  pub moved : pair_of rotation p < length rotation → proposer_at rotation (pair_of rotation p) ≡ p
  moved less = eqb-true _ p (passes_at_first (λ (pair : ℕ × ℕ). pair.0 == p) rotation (0, 0) less)

  -- where a move of p leads and from where
  pub come_is : some_pass Entry levels p level moves ≡ moves_to l levels p level rotation
  come_is = same_bool (some_pass Entry levels p level moves) (moves_to l levels p level rotation)
      (λ h.
      let w = some_passes (comes_to levels p level) moves (record { proposer = 0; from = 0; to = 0 }) h in
      let both = and_parts _ _ w.holds in
      let less : w.at < length rotation = omega (arith, m.one_each, w.below) in
      let one = m.each w.at less in
      let who : proposer_at rotation w.at ≡ p = sym one.proposer ∙ eqb-true _ p both.0 in
      let pair = pair_is w.at less who in
      let to : place_of l.proposers p (target_at rotation (pair_of rotation p)) ≡ (move_at moves w.at).to = (λ t. place_of l.proposers (sym who t) (target_at rotation (pair t))) ∙ sym one.to in
      and_from _ _ (lt-ltb _ _ (omega (arith, pair, less))) ((λ t. level_at levels p (to t) == level) ∙ both.1))
      (λ h.
      let both = and_parts (nat_lt (pair_of rotation p) (length rotation)) _ h in
      let less : pair_of rotation p < length rotation = ltb-true _ _ both.0 in
      let one = m.each (pair_of rotation p) less in
      let who = moved less in
      let to : (move_at moves (pair_of rotation p)).to ≡ place_of l.proposers p (target_at rotation (pair_of rotation p)) = one.to ∙ (λ t. place_of l.proposers (who t) (target_at rotation (pair_of rotation p))) in
      list_any_at (comes_to levels p level) moves (pair_of rotation p) (record { proposer = 0; from = 0; to = 0 }) (omega (arith, m.one_each, less))
      (and_from _ _ (eq-eqb _ p (one.proposer ∙ who)) ((λ t. level_at levels p (to t) == level) ∙ both.1)))

  -- and where p leaves the level
  pub go_is : some_pass Exit levels p level moves ≡ moves_off l levels p level rotation
  go_is = same_bool (some_pass Exit levels p level moves) (moves_off l levels p level rotation)
      (λ h.
      let w = some_passes (goes_off levels p level) moves (record { proposer = 0; from = 0; to = 0 }) h in
      let both = and_parts _ _ w.holds in
      let less : w.at < length rotation = omega (arith, m.one_each, w.below) in
      let one = m.each w.at less in
      let who : proposer_at rotation w.at ≡ p = sym one.proposer ∙ eqb-true _ p both.0 in
      let pair = pair_is w.at less who in
      let from : place_of l.proposers p (reviewer_at rotation (pair_of rotation p)) ≡ (move_at moves w.at).from = (λ t. place_of l.proposers (sym who t) (reviewer_at rotation (pair t))) ∙ sym one.from in
      let to : place_of l.proposers p (target_at rotation (pair_of rotation p)) ≡ (move_at moves w.at).to = (λ t. place_of l.proposers (sym who t) (target_at rotation (pair t))) ∙ sym one.to in
      and_from _ _ (lt-ltb _ _ (omega (arith, pair, less))) ((λ t. level_at levels p (from t) == level && not (level_at levels p (to t) == level)) ∙ both.1))
      (λ h.
      let both = and_parts (nat_lt (pair_of rotation p) (length rotation)) _ h in
      let less : pair_of rotation p < length rotation = ltb-true _ _ both.0 in
      let one = m.each (pair_of rotation p) less in
      let who = moved less in
      let from : (move_at moves (pair_of rotation p)).from ≡ place_of l.proposers p (reviewer_at rotation (pair_of rotation p)) = one.from ∙ (λ t. place_of l.proposers (who t) (reviewer_at rotation (pair_of rotation p))) in
      let to : (move_at moves (pair_of rotation p)).to ≡ place_of l.proposers p (target_at rotation (pair_of rotation p)) = one.to ∙ (λ t. place_of l.proposers (who t) (target_at rotation (pair_of rotation p))) in
      list_any_at (goes_off levels p level) moves (pair_of rotation p) (record { proposer = 0; from = 0; to = 0 }) (omega (arith, m.one_each, less))
      (and_from _ _ (eq-eqb _ p (one.proposer ∙ who)) ((λ t. level_at levels p (from t) == level && not (level_at levels p (to t) == level)) ∙ both.1)))

module _ {l : Lists} {rotations : List (List (ℕ × ℕ))} {rows : List (List Move)} (m : AreMovesByRotation l rotations rows) (levels : List (List ℕ)) (first : Places) where
  abbrev entry : ℕ → ℕ → ℕ
  entry = entry_by levels first.proposers rows

  abbrev exit : ℕ → ℕ → ℕ
  exit = exit_by levels rows

  entry_is : (p level : ℕ) → entry p level ≡ entry_node l levels first rotations p level
  entry_is p level = ap (λ n. if has_level levels p level (held first.proposers p) then 0 else suc n)
      (same_first (some_pass Entry levels p level) (moves_to l levels p level) rows rotations [] [] m.one_each (λ k less. come_is (m.each k less) levels p level))

  exit_is : (p level : ℕ) → exit p level ≡ exit_node l levels rotations p level
  exit_is p level = ap suc (same_first (some_pass Exit levels p level) (moves_off l levels p level) rows rotations [] [] m.one_each (λ k less. go_is (m.each k less) levels p level))

  -- the bonds of pairs are their edges
  forced_are : (i j : ℕ) (pairs : List (ℕ × ℕ)) → has_pair (flat_map (forced_pairs entry exit (suc (length rows))) pairs) i j ≡ list_any (λ c. forces l levels first rotations c i j) pairs
  forced_are i j [] = refl
  forced_are i j (c ∷ pairs) =
      list_any-append (λ (x : ℕ × ℕ). x.0 == i && x.1 == j) (forced_pairs entry exit (suc (length rows)) c) (flat_map (forced_pairs entry exit (suc (length rows))) pairs)
      ∙ (λ t. one t || forced_are i j pairs t)
    where
      no_more : (b : Bool) → (b || false) ≡ b
      no_more true = refl
      no_more false = refl

      one : has_pair (forced_pairs entry exit (suc (length rows)) c) i j ≡ forces l levels first rotations c i j
      one =
          (λ t. (0 == i && entry_is c.0 c.1 t == j) || no_more (exit_is c.0 c.1 t == i && suc (m.one_each t) == j) t)
          ∙ (λ t. (same_eq 0 i t && same_eq (entry_node l levels first rotations c.0 c.1) j t) || (same_eq (exit_node l levels rotations c.0 c.1) i t && same_eq (suc (length rotations)) j t))

  forbidden_are : (i j : ℕ) (pairs : List (ℕ × ℕ)) → has_pair (flat_map (forbidden_pairs entry exit) pairs) i j ≡ list_any (λ c. forbids l levels first rotations c i j) pairs
  forbidden_are i j [] = refl
  forbidden_are i j (c ∷ pairs) = (λ t. one t || forbidden_are i j pairs t)
    where
      one : (entry c.0 c.1 == i && exit c.0 c.1 == j) ≡ forbids l levels first rotations c i j
      one =
          (λ t. entry_is c.0 c.1 t == i && exit_is c.0 c.1 t == j)
          ∙ (λ t. same_eq (entry_node l levels first rotations c.0 c.1) i t && same_eq (exit_node l levels rotations c.0 c.1) j t)

-- the law that gains, needs and bonds make the net of gains, predecessors and conditions
pub net_is : NetIsOf
net_is l levels weights forced forbidden first rotations needs rows parts m h =
    (λ t. record {
      size = size t;
      supply = λ k. fall_of (gain k t);
      drain = λ k. rise_of (gain k t);
      unbounded = λ i j. not (i == j) && (not (i == 0 && j == suc (size t)) && (leads_to_need (h.same_needs t) i j || bond i j t));
    })
  where
    size : length parts.gains ≡ length rotations
    size = ap length h.same_gains ∙ length-map rotations (gain_of l weights)

    gain : (k : ℕ) → gain_at parts.gains k ≡ gain_of l weights (rotation_at rotations k)
    gain k = ap (λ gs. gain_at gs k) h.same_gains ∙ elim (lt_or_le k (length rotations)) [
      | inl less ↦ get_or-map (gain_of l weights) rotations k [] (pos 0) less
      | inr past ↦ get_or_past (map (gain_of l weights) rotations) k (pos 0) (rw (length-map rotations (gain_of l weights)) past) ∙ ap (gain_of l weights) (sym (get_or_past rotations k [] past))
    ]

    bond : (i j : ℕ) → has_pair parts.bonds i j ≡ (list_any (λ c. forces l levels first rotations c i j) forced || list_any (λ c. forbids l levels first rotations c i j) forbidden)
    bond i j =
        h.same_bonds i j
        ∙ list_any-append (λ (x : ℕ × ℕ). x.0 == i && x.1 == j) (flat_map (forced_pairs (entry_by levels first.proposers rows) (exit_by levels rows) (suc (length rows))) forced) (flat_map (forbidden_pairs (entry_by levels first.proposers rows) (exit_by levels rows)) forbidden)
        ∙ (λ t. forced_are m levels first i j forced t || forbidden_are m levels first i j forbidden t)
