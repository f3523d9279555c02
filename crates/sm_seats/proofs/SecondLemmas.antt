-- Second weights that are all 0, and the lightest matchings by both sums, in the market and in the instance.
use Rattle.std.proofs.Common.{◌≡◌, ℕ, zero, suc, ◌≤◌, ◌⊎◌, inl, inr, List, [], ◌∷◌, Option, Some, None, length, get_or, map, ℤ, pos, ◌+ℤ◌, ◌-ℤ◌, ◌<ℤ◌, refl, sym, ap, ◌∙◌, subst, arith}
use Rattle.std.specs.List.{range_with_len}
use Rattle.std.proofs.lemmas.Int.{ints}
use Rattle.std.proofs.lemmas.List.{get_or_past}
use Rattle.sm_agents.specs.Written.{Written}
use Rattle.sm_instance.specs.Matching.{standing as written_standing}
use Rattle.sm_instance.specs.Ranks.{weight_of as written_weight, second_of}
use Rattle.sm_instance.specs.Lightest.{IsLightestByBoth}
use Rattle.sm_agents.specs.declared.kinds.Measure.{Measure}
use Rattle.sm_agents.specs.declared.kinds.Measure.TheVariants.{Ranks, Given}
use Rattle.sm_market.specs.Lists.{Lists, row, agents, place_of}
use Rattle.sm_market.specs.Matching.{Places, IsMatching, held, standing}
use Rattle.sm_theory.specs.Rotations.{proposer_at, reviewer_at, target_at}
use Rattle.sm_theory.specs.Weights.{total, weight_at, weight_of, weight_of_place, gain_of}
use Rattle.sm_theory.specs.SecondNets.{AreSumsUpTo, IsLightestOfTwo}
use Rattle.sm_seats.specs.Seating.{Seating, written_place, written_of, at_places, levels_of}
use Rattle.sm_seats.specs.Correspondence.{IsSeating, leveled, weights_by, weights_of}
use Rattle.sm_seats.proofs.SeatingLaws.{as_well}
use Rattle.sm_seats.proofs.VectorLaws.{allowed_seats}
use Rattle.sm_seats.specs.Levels.{pair_second_by, seconds_by}

-- Sums of 0.

total_zero : (f : ℕ → ℤ) (n : ℕ) → ((i : ℕ) → f i ≡ pos 0) → total f n ≡ pos 0
total_zero f zero each = refl
total_zero f (suc n) each = ap (λ z. z +ℤ f n) (total_zero f n each) ∙ ap (λ z. pos 0 +ℤ z) (each n)

-- what is read of numbers that are all 0
pub read_zero : {X : Type 0} (f : X → ℤ) → ((x : X) → f x ≡ pos 0) → (xs : List X) (i : ℕ) → get_or (map f xs) i (pos 0) ≡ pos 0
read_zero f each [] i = get_or_past [] i (pos 0) (omega arith)
read_zero f each (x ∷ xs) zero = each x
read_zero f each (x ∷ xs) (suc i) = read_zero f each xs i

row_zero : (f : ℕ → List ℤ) → ((p i : ℕ) → get_or (f p) i (pos 0) ≡ pos 0) → (xs : List ℕ) (p i : ℕ) → get_or (get_or (map f xs) p []) i (pos 0) ≡ pos 0
row_zero f each [] p i = ap (λ (row : List ℤ). get_or row i (pos 0)) (get_or_past [] p [] (omega arith)) ∙ get_or_past [] i (pos 0) (omega arith)
row_zero f each (x ∷ xs) zero i = each x i
row_zero f each (x ∷ xs) (suc p) i = row_zero f each xs p i

module _ (weigh : ℕ → Option ℕ → ℤ) (none : (p : ℕ) (place : Option ℕ) → weigh p place ≡ pos 0) (s : Seating) where
  weight_zero : (p i : ℕ) → weight_at (weights_by weigh s) p i ≡ pos 0
  weight_zero p i = row_zero (at_places s (λ p i. weigh p (Some i)))
      (λ p i. read_zero (λ i. weigh p (Some (written_place s p i))) (λ i. none p (Some (written_place s p i))) (range_with_len 0 (length (row s.market.proposers p))) i)
      (agents s.market.proposers) p i

  place_zero : (p : ℕ) (place : Option ℕ) → weight_of_place (weights_by weigh s) p place ≡ pos 0
  place_zero p None = refl
  place_zero p (Some i) = weight_zero p i

  pub weight_none : (l : Lists) (m : Places) → weight_of l (weights_by weigh s) m ≡ pos 0
  weight_none l m = total_zero (λ p. weight_of_place (weights_by weigh s) p (held m.proposers p)) (length l.proposers) (λ p. place_zero p (held m.proposers p))

  -- so all gains are 0
  pub gain_none : (l : Lists) (rotation : List (ℕ × ℕ)) → gain_of l (weights_by weigh s) rotation ≡ pos 0
  gain_none l rotation = total_zero _ (length rotation) (λ i.
      let p = proposer_at rotation i in
      let old = weight_at (weights_by weigh s) p (place_of l.proposers p (reviewer_at rotation i)) in
      ap (λ z. z -ℤ old) (weight_zero p (place_of l.proposers p (target_at rotation i)))
      ∙ ap (λ z. pos 0 -ℤ z) (weight_zero p (place_of l.proposers p (reviewer_at rotation i))))

-- Of two sums.

sums_same : (a a' b b' c c' d d' : ℤ) → a ≡ a' → b ≡ b' → c ≡ c' → d ≡ d' → AreSumsUpTo a b c d → AreSumsUpTo a' b' c' d'
sums_same a a' b b' c c' d d' ea eb ec ed sums =
    subst (λ z. AreSumsUpTo z b' c' d') ea (subst (λ z. AreSumsUpTo a z c' d') eb (subst (λ z. AreSumsUpTo a b z d') ec (subst (λ z. AreSumsUpTo a b c z) ed sums)))

not_lighter : (a b c d : ℤ) → AreSumsUpTo a b c d → (c <ℤ a) ⊎ ((c ≡ a) × (d <ℤ b)) → ⊥
not_lighter a b c d (inl less) (inl more) = omega (arith, ints)
not_lighter a b c d (inl less) (inr same) = let e = same.0 in omega (arith, ints)
not_lighter a b c d (inr up) (inl more) = let e = up.0 in omega (arith, ints)
not_lighter a b c d (inr up) (inr same) = let le = up.1 in let l = same.1 in omega (arith, ints)

module _ {w : Written} {s : Seating} (h : IsSeating w s) where
  -- the second sum of a matching of seats is that of its matching in the instance
  pub seconds_alike : (by : Measure) (m : Places) → IsMatching s.market m → weight_of s.market (seconds_by by w s) m ≡ second_of by w (written_of s m.proposers)
  seconds_alike Ranks m f = weight_none (pair_second_by Ranks w) (λ p place. refl) s s.market m
  seconds_alike Given m f = h.seconds m f

  abbrev IsLightestSeated : Measure → Places → Type 0
  IsLightestSeated by m = IsLightestOfTwo s.market (levels_of s) (weights_of by w s) (seconds_by by w s) (leveled w w.forced) (leveled w w.forbidden) m

  -- the lightest of the seats that is best for the proposers is so in the instance, too
  pub lightest_by_both : (by : Measure) (m : Places) → IsLightestSeated by m
      → ((n : Places) → IsLightestSeated by n → (p : ℕ) → standing s.market.proposers m.proposers p ≤ standing s.market.proposers n.proposers p)
      → IsLightestByBoth by w (written_of s m.proposers)
  lightest_by_both by m least best =
      let first : Places → ℤ = λ n. weight_of s.market (weights_of by w s) n in
      let second : Places → ℤ = λ n. weight_of s.market (seconds_by by w s) n in
      let mine = written_of s m.proposers in
      let my_first : first m ≡ written_weight by w mine = h.weights by m least.stable.matching in
      let my_second : second m ≡ second_of by w mine = seconds_alike by m least.stable.matching in
      record {
        stable = h.forgotten m least.stable;
        allowed = (h.allowed m least.stable.matching).0 least.allowed;
        lightest = λ others st a lighter.
            let x = allowed_seats h st a in
            let its_first : first x.matching ≡ written_weight by w others = h.weights by x.matching x.stable.matching ∙ ap (written_weight by w) x.forgets in
            let its_second : second x.matching ≡ second_of by w others = seconds_alike by x.matching x.stable.matching ∙ ap (second_of by w) x.forgets in
            not_lighter (written_weight by w mine) (second_of by w mine) (written_weight by w others) (second_of by w others)
            (sums_same (first m) _ (second m) _ (first x.matching) _ (second x.matching) _ my_first my_second its_first its_second (least.lightest x.matching x.stable x.allowed)) lighter;
        best = λ others st a same alike p.
            let x = allowed_seats h st a in
            let its_first : first x.matching ≡ first m = h.weights by x.matching x.stable.matching ∙ ap (written_weight by w) x.forgets ∙ same ∙ sym my_first in
            let its_second : second x.matching ≡ second m = seconds_alike by x.matching x.stable.matching ∙ ap (second_of by w) x.forgets ∙ alike ∙ sym my_second in
            let as_light : IsLightestSeated by x.matching = record {
              stable = x.stable;
              allowed = x.allowed;
              lightest = λ k sk ak. sums_same (first m) (first x.matching) (second m) (second x.matching) (first k) (first k) (second k) (second k) (sym its_first) (sym its_second) refl refl (least.lightest k sk ak);
            } in
            subst (λ (y : List (Option ℕ)). written_standing w mine p ≤ written_standing w y p) x.forgets
            (as_well h least.stable x.stable p (best x.matching as_light p));
      }
