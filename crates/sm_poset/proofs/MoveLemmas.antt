-- Lists of moves, and how they grow.
use Rattle.std.proofs.Common.{◌≡◌, ℕ, ◌+◌, ◌<◌, ◌≤◌, ◌++◌, ◌∷◌, [], inl, inr, arith, refl, sym, ap, ◌∙◌, subst, List, length, slice_index, Contains, set}
use Rattle.std.proofs.lemmas.List.{get_or_append_left, get_or_push, length_push, length-set, get_or-set_same, get_or-set_other, get_or_past}
use Rattle.std.proofs.lemmas.List.Elements.{Contains-append_left, Contains-append_right}
use Rattle.sm_market.specs.Lists.{Lists, row, place_of, IsMarket}
use Rattle.sm_market.specs.Matching.{Places}
use Rattle.sm_lists.proofs.Counting.{lt_or_le, eq_or_ne}
use Rattle.sm_lists.proofs.ItemLemmas.{push_cases}
use Rattle.sm_market.proofs.CycleLemmas.{AreDistinct, pair_at_is}
use Rattle.sm_theory.specs.Rotations.{proposer_at, target_at, pair_of}
use Rattle.sm_theory.specs.Chains.{rotation_at, IsCompleteChain}
use Rattle.sm_poset.specs.Moves.{IsMove, rotation_of, place_to, AreMovesOf, GoDown, moves_at}
use Rattle.sm_poset.specs.Kept.{AreMovesAfter, ArePlacesOf}
use Rattle.sm_poset.proofs.ChainLemmas.{proposer_at-pair_of, move_on_list, further}

-- nothing moves before the first rotation
pub no_moves_yet : (l : Lists) (rotations : List (List (ℕ × ℕ))) (p : ℕ) → AreMovesOf l rotations 0 p []
no_moves_yet l rotations p = record {
  rising = λ a b _ h. absurd (omega arith);
  sound = λ a h. absurd (omega arith);
  each = λ a h. absurd (omega arith);
  all = λ k i h. absurd (omega arith);
}

-- one more rotation, which doesn't move p
pub moves_past : {l : Lists} {rotations : List (List (ℕ × ℕ))} {k p : ℕ} {moves : List (ℕ × ℕ)} → AreMovesOf l rotations k p moves → length (rotation_at rotations k) ≤ pair_of (rotation_at rotations k) p
    → AreMovesOf l rotations (k + 1) p moves
moves_past {l} {rotations} {k} {p} {moves} w out = record {
  rising = w.rising;
  sound = λ a h. let s = w.sound a h in omega arith;
  each = w.each;
  all = λ j i h v. elim (lt_or_le j k) [
    | inl less ↦ w.all j i less v
    | inr more ↦
        let e : j ≡ k = omega arith in
        let u : pair_of (rotation_at rotations k) p < length (rotation_at rotations k) = subst (λ j. pair_of (rotation_at rotations j) p < length (rotation_at rotations j)) e v.moved in
        absurd (omega arith)
  ];
}

-- one more rotation, which moves p to place i
pub moves_more : {l : Lists} {rotations : List (List (ℕ × ℕ))} {k p i : ℕ} {moves : List (ℕ × ℕ)} → AreMovesOf l rotations k p moves → IsMove l rotations p k i
    → AreMovesOf l rotations (k + 1) p (moves ++ (k, i) ∷ [])
moves_more {l} {rotations} {k} {p} {i} {moves} w v = record {
  rising = λ a b h g. elim (lt_or_le b (length moves)) [
    | inl x ↦ omega (arith, old a (omega arith), old b x, w.rising a b h x)
    | inr x ↦ omega (arith, old a (omega (arith, long)), new b (omega (arith, long)), w.sound a (omega (arith, long)))
  ];
  sound = λ a h. elim (lt_or_le a (length moves)) [
    | inl x ↦ omega (arith, old a x, w.sound a x)
    | inr x ↦ omega (arith, new a (omega (arith, long)))
  ];
  each = push_cases (λ a x. IsMove l rotations p x.0 x.1) moves (k, i) (0, 0) v w.each;
  all = λ j q h u. elim (lt_or_le j k) [
    | inl less ↦ let x : ℕ × ℕ = (j, q) in Contains-append_left moves ((k, i) ∷ []) x (w.all j q less u)
    | inr more ↦ let x : ℕ × ℕ = (j, q) in Contains-append_right moves ((k, i) ∷ []) x (last j q (omega arith) u)
  ];
}
  where
    long : length (moves ++ (k, i) ∷ []) ≡ length moves + 1
    long = length_push moves (k, i)

    old : (a : ℕ) → a < length moves → rotation_of (moves ++ (k, i) ∷ []) a ≡ rotation_of moves a
    old a h = ap (λ x. x.0) (get_or_append_left moves ((k, i) ∷ []) (0, 0) a h)

    new : (a : ℕ) → length moves ≡ a → rotation_of (moves ++ (k, i) ∷ []) a ≡ k
    new a e = ap (λ x. x.0) (get_or_push moves (k, i) (0, 0) a e)

    last : (j q : ℕ) → j ≡ k → IsMove l rotations p j q → Contains {X = ℕ × ℕ} ((k, i) ∷ []) (j, q)
    last j q e u =
        let same : q ≡ i = u.place ∙ ap (λ n. place_of l.proposers p (target_at (rotation_at rotations n) (pair_of (rotation_at rotations n) p))) e ∙ sym v.place in
        (0, omega arith, λ t. (sym e t, sym same t))

-- the moves of all once one more proposer of a rotation has got one
pub moved_step : {l : Lists} {rotation : List (ℕ × ℕ)} (lists before : List (List (ℕ × ℕ))) (k i p place : ℕ) (items : List (ℕ × ℕ)) → AreDistinct rotation → i < length rotation
    → proposer_at rotation i ≡ p → p < length lists → items ≡ moves_at lists p ++ (k, place) ∷ [] → place ≡ place_of l.proposers p (target_at rotation i)
    → ((q : ℕ) → AreMovesAfter l k rotation i q (moves_at before q) (moves_at lists q))
    → (q : ℕ) → AreMovesAfter l k rotation (i + 1) q (moves_at before q) (moves_at (set lists p items) q)
moved_step {l} {rotation} lists before k i p place items distinct h is lt pushed there w q = elim (eq_or_ne q p) [
  | inl e ↦
      let pair : pair_of rotation q ≡ i = ap (pair_of rotation) (e ∙ sym is) ∙ pair_at_is distinct i h in
      let now : moves_at (set lists p items) q ≡ items = ap (moves_at (set lists p items)) e ∙ get_or-set_same lists p items [] lt in
      let was : moves_at lists p ≡ moves_at before q = ap (moves_at lists) (sym e) ∙ (w q).same (omega arith) in
      let at : place ≡ place_of l.proposers q (target_at rotation (pair_of rotation q)) = there ∙ ap (λ a. place_of l.proposers a (target_at rotation i)) (sym e) ∙ ap (λ n. place_of l.proposers q (target_at rotation n)) (sym pair) in
      record {
        one_more = λ _. now ∙ pushed ∙ ap (λ (x : List (ℕ × ℕ)). x ++ (k, place) ∷ []) was ∙ ap (λ a. moves_at before q ++ (k, a) ∷ []) at;
        same = λ g. absurd (omega arith);
      }
  | inr ne ↦
      let now : moves_at (set lists p items) q ≡ moves_at lists q = get_or-set_other lists p q items [] ne in
      record {
        one_more = λ g. elim (eq_or_ne (pair_of rotation q) i) [
          | inl e ↦ absurd (ne (sym (proposer_at-pair_of rotation q (omega arith)) ∙ ap (proposer_at rotation) e ∙ is))
          | inr other ↦ now ∙ (w q).one_more (omega arith)
        ];
        same = λ g. now ∙ (w q).same (omega arith);
      }
]

-- the moves once each proposer of rotation k has got one more
pub moved_on : {l : Lists} {rotations : List (List (ℕ × ℕ))} {k p : ℕ} {before after : List (ℕ × ℕ)} → AreMovesOf l rotations k p before
    → AreMovesAfter l k (rotation_at rotations k) (length (rotation_at rotations k)) p before after → AreMovesOf l rotations (k + 1) p after
moved_on {l} {rotations} {k} {p} {before} {after} w v = elim (lt_or_le (pair_of (rotation_at rotations k) p) (length (rotation_at rotations k))) [
  | inr out ↦ rw (v.same out) (moves_past w out)
  | inl inside ↦
      let move : IsMove l rotations p k (place_of l.proposers p (target_at (rotation_at rotations k) (pair_of (rotation_at rotations k) p))) = record { moved = inside; place = refl } in
      rw (v.one_more inside) (moves_more w move)
]

-- the places from which the next ones are looked for
module _ {l : Lists} {at : List ℕ} (w : ArePlacesOf l at) (p : ℕ) (place : ℕ) (on : place < length (row l.proposers p)) where
  pub places_set : ArePlacesOf l (set at p place)
  places_set = record {
    one_each = length-set at p place ∙ w.one_each;
    on_list = λ q some. elim (eq_or_ne q p) [
      | inl e ↦ elim (lt_or_le p (length at)) [
        | inl less ↦ rw (e, get_or-set_same at p place 0 less) on
        | inr more ↦ rw (e, get_or_past (set at p place) p 0 (omega (arith, length-set at p place, more))) (omega (arith, on))
      ]
      | inr ne ↦ rw (get_or-set_other at p q place 0 ne) (w.on_list q some)
    ];
  }

-- each moved proposer's place is noted
pub there_more : (l : Lists) (rotation : List (ℕ × ℕ)) (at : List ℕ) (i p place : ℕ) → AreDistinct rotation → i < length rotation → proposer_at rotation i ≡ p → p < length at → place ≡ place_of l.proposers p (target_at rotation i)
    → ((j : ℕ) → j < i → slice_index at (proposer_at rotation j) ≡ place_of l.proposers (proposer_at rotation j) (target_at rotation j))
    → (j : ℕ) → j < i + 1 → slice_index (set at p place) (proposer_at rotation j) ≡ place_of l.proposers (proposer_at rotation j) (target_at rotation j)
there_more l rotation at i p place distinct inside is lt there w j less = elim (eq_or_ne j i) [
  | inl e ↦ rw (e, is) (get_or-set_same at p place 0 lt ∙ there)
  | inr ne ↦ get_or-set_other at p (proposer_at rotation j) place 0 (λ e. distinct.distinct j i (omega arith) inside (e ∙ sym is)) ∙ w j (omega arith)
]

module _ {l : Lists} (h : IsMarket l) {first : Places} {rotations : List (List (ℕ × ℕ))} (chain : IsCompleteChain l first rotations) where
  -- the moves go down p's list
  pub go_down : {p : ℕ} {moves : List (ℕ × ℕ)} → AreMovesOf l rotations (length rotations) p moves → GoDown l p moves
  go_down {p} {moves} w = record {
    on_list = λ a x. move_on_list h chain p (rotation_of moves a) (place_to moves a) (w.sound a x) (w.each a x);
    further = λ a b x y. further h chain p (rotation_of moves a) (rotation_of moves b) (place_to moves a) (place_to moves b) (w.rising a b x y) (w.sound b y) (w.each a (omega arith)) (w.each b y);
  }
