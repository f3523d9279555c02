-- Pairs that give everybody the same, in whatever order they stand.
use Rattle.std.proofs.Common.{◌≡◌, ◌≢◌, ℕ, ◌+◌, ◌==◌, inl, inr, arith, refl, sym, ap, ◌∙◌, cond, List, [], ◌∷◌, ◌++◌, length, map, Option, Some, None, subst, eq-eqb, ne_eqb}
use Rattle.std.specs.Prelude.{IsSome}
use Rattle.std.specs.List.{range_with_len}
use Rattle.std.specs.Option.{option_map, option_or}
use Rattle.std.proofs.lemmas.Bool.{cases_eq}
use Rattle.std.proofs.lemmas.List.Sums.{sum_by-append}
use Rattle.sm_agents.specs.Written.{Written, place_of, capacity_of}
use Rattle.sm_market.specs.Lists.{Lists, place_of as market_place_of, agents}
use Rattle.sm_theory.specs.Lattice.{with_proposers}
use Rattle.sm_holding.specs.Held.{partner_in, places_in, times_second, CanFollow}
use Rattle.sm_holding.proofs.PairLemmas.{times_second-push}
use Rattle.sm_check_clauses.specs.Pairs.{IsWanted, AreAllThere}
use Rattle.sm_check_clauses.specs.SeatMatchings.{IsFreeSeat, seat_places_in}
use Rattle.sm_check_roommates.proofs.CoupleLemmas.{partner_in-append}

-- they give each agent the same, and each stands second as often
pub record AreSamePairs (xs ys : List (ℕ × ℕ)) : Type 0 where
  pub partners : (p : ℕ) → partner_in xs p ≡ partner_in ys p
  pub times : (r : ℕ) → times_second xs r ≡ times_second ys r

-- the same pairs
pub same_pairs : (xs ys : List (ℕ × ℕ)) → xs ≡ ys → AreSamePairs xs ys
same_pairs xs ys e = record { partners = λ p. ap (λ (zs : List (ℕ × ℕ)). partner_in zs p) e; times = λ r. ap (λ (zs : List (ℕ × ℕ)). times_second zs r) e }

times_append : (xs ys : List (ℕ × ℕ)) (r : ℕ) → times_second (xs ++ ys) r ≡ times_second xs r + times_second ys r
times_append xs ys r = sum_by-append (λ (pair : ℕ × ℕ). cond (pair.1 == r) 1 0) xs ys

-- with more behind them
pub same_more : {xs ys : List (ℕ × ℕ)} → AreSamePairs xs ys → (zs : List (ℕ × ℕ)) → AreSamePairs (xs ++ zs) (ys ++ zs)
same_more {xs} {ys} s zs = record {
  partners = λ p. partner_in-append xs zs p ∙ ap (λ (o : Option ℕ). option_or o (partner_in zs p)) (s.partners p) ∙ sym (partner_in-append ys zs p);
  times = λ r. times_append xs zs r ∙ ap (λ n. n + times_second zs r) (s.times r) ∙ sym (times_append ys zs r);
}

times_one : (xs : List (ℕ × ℕ)) (a : ℕ × ℕ) (r : ℕ) → times_second (xs ++ a ∷ []) r ≡ times_second xs r + cond (a.1 == r) 1 0
times_one xs a r = times_second-push xs a.0 a.1 r

partner_one : (xs : List (ℕ × ℕ)) (a : ℕ × ℕ) (p : ℕ) → partner_in (xs ++ a ∷ []) p ≡ option_or (partner_in xs p) (cond (a.0 == p) (Some a.1) None)
partner_one xs a p = partner_in-append xs (a ∷ []) p

-- with two behind them in either order, whose first agents are two
pub same_exchanged : (xs : List (ℕ × ℕ)) (a b : ℕ × ℕ) → a.0 ≢ b.0 → AreSamePairs ((xs ++ a ∷ []) ++ b ∷ []) ((xs ++ b ∷ []) ++ a ∷ [])
same_exchanged xs a b apart = record { partners = partners; times = times }
  where
    first_then : (x y : ℕ × ℕ) (p : ℕ) → partner_in ((xs ++ x ∷ []) ++ y ∷ []) p ≡ option_or (option_or (partner_in xs p) (cond (x.0 == p) (Some x.1) None)) (cond (y.0 == p) (Some y.1) None)
    first_then x y p = partner_one (xs ++ x ∷ []) y p ∙ ap (λ (o : Option ℕ). option_or o (cond (y.0 == p) (Some y.1) None)) (partner_one xs x p)

    swap_first : (o u v : Option ℕ) → u ≡ None → option_or (option_or o u) v ≡ option_or (option_or o v) u
    swap_first None None None e = refl
    swap_first None None (Some v) e = refl
    swap_first None (Some u) v e = absurd (some e)
      where
        some : ◌≡◌ {A = Option ℕ} (Some u) None → ⊥
        some e = grind arith
    swap_first (Some o) u v e = refl

    swap_second : (o u v : Option ℕ) → v ≡ None → option_or (option_or o u) v ≡ option_or (option_or o v) u
    swap_second o u v e = sym (swap_first o v u e)

    partners : (p : ℕ) → partner_in ((xs ++ a ∷ []) ++ b ∷ []) p ≡ partner_in ((xs ++ b ∷ []) ++ a ∷ []) p
    partners p =
        first_then a b p
        ∙ elim (cases_eq a.0 p) [
          | inl is ↦ swap_second (partner_in xs p) (cond (a.0 == p) (Some a.1) None) (cond (b.0 == p) (Some b.1) None) (ap (λ t. cond t (Some b.1) None) (ne_eqb b.0 p (λ e. apart (is ∙ sym e))))
          | inr other ↦ swap_first (partner_in xs p) (cond (a.0 == p) (Some a.1) None) (cond (b.0 == p) (Some b.1) None) (ap (λ t. cond t (Some a.1) None) (ne_eqb a.0 p other))
        ]
        ∙ sym (first_then b a p)

    times : (r : ℕ) → times_second ((xs ++ a ∷ []) ++ b ∷ []) r ≡ times_second ((xs ++ b ∷ []) ++ a ∷ []) r
    times r = omega (arith, times_one (xs ++ a ∷ []) b r, times_one xs a r, times_one (xs ++ b ∷ []) a r, times_one xs b r)

-- What is read of pairs.

-- the matching of an instance that they give
pub same_places : (w : Written) {xs ys : List (ℕ × ℕ)} → AreSamePairs xs ys → places_in w xs ≡ places_in w ys
same_places w {xs} {ys} s = ap (λ (f : ℕ → Option ℕ). map (λ p. option_map (place_of w.proposers p) (f p)) (range_with_len 0 (length w.proposers))) (λ i p. s.partners p i)

-- and that of a market
pub same_seat_places : (l : Lists) {xs ys : List (ℕ × ℕ)} → AreSamePairs xs ys → seat_places_in l xs ≡ seat_places_in l ys
same_seat_places l {xs} {ys} s = ap (λ (f : ℕ → Option ℕ). with_proposers l (map (λ p. option_map (market_place_of l.proposers p) (f p)) (agents l.proposers))) (λ i p. s.partners p i)

-- whether one more may stand behind them
pub free_same : {w : Written} {xs ys : List (ℕ × ℕ)} {pair : ℕ × ℕ} → AreSamePairs xs ys → CanFollow w xs pair → CanFollow w ys pair
free_same {w} {xs} {ys} {pair} s f = record {
  acceptable = f.acceptable;
  proposer_free = sym (s.partners pair.0) ∙ f.proposer_free;
  place_free = let less = f.place_free in omega (arith, less, s.times pair.1);
}

pub free_seat_same : {l : Lists} {xs ys : List (ℕ × ℕ)} {pair : ℕ × ℕ} → AreSamePairs xs ys → IsFreeSeat l xs pair → IsFreeSeat l ys pair
free_seat_same {l} {xs} {ys} {pair} s f = record {
  acceptable = f.acceptable;
  proposer_free = sym (s.partners pair.0) ∙ f.proposer_free;
  seat_free = sym (s.times pair.1) ∙ f.seat_free;
}

pub wanted_same : {w : Written} {wanted : List (Option ℕ)} {xs ys : List (ℕ × ℕ)} {pair : ℕ × ℕ} → AreSamePairs xs ys → IsWanted w wanted xs pair → IsWanted w wanted ys pair
wanted_same {w} {wanted} {xs} {ys} {pair} s f = record { in_matching = f.in_matching; once = sym (s.partners pair.0) ∙ f.once }

pub all_there_same : (wanted : List (Option ℕ)) {xs ys : List (ℕ × ℕ)} → AreSamePairs xs ys → AreAllThere wanted xs → AreAllThere wanted ys
all_there_same wanted s h p some = subst IsSome (s.partners p) (h p some)

-- Two pairs that may stand one behind the other.

nobody_first : (o u : Option ℕ) → option_or o u ≡ None → o ≡ None
nobody_first None u e = refl
nobody_first (Some o) u e = e

nobody_second : (o u : Option ℕ) → option_or o u ≡ None → u ≡ None
nobody_second None u e = e
nobody_second (Some o) u e = absurd (some e)
  where
    some : ◌≡◌ {A = Option ℕ} (Some o) None → ⊥
    some e = grind arith

module _ (xs : List (ℕ × ℕ)) (a b : ℕ × ℕ) where
  -- who is given nobody with one more pair isn't in that one
  pub apart_of : partner_in (xs ++ a ∷ []) b.0 ≡ None → a.0 ≢ b.0
  apart_of e same = some (sym (ap (λ t. cond t (Some a.1) None) (eq-eqb a.0 b.0 same)) ∙ nobody_second (partner_in xs b.0) (cond (a.0 == b.0) (Some a.1) None) (sym (partner_one xs a b.0) ∙ e))
    where
      some : ◌≡◌ {A = Option ℕ} (Some a.1) None → ⊥
      some e = grind arith

  -- nor in those before it
  pub nobody_before : partner_in (xs ++ a ∷ []) b.0 ≡ None → partner_in xs b.0 ≡ None
  nobody_before e = nobody_first (partner_in xs b.0) (cond (a.0 == b.0) (Some a.1) None) (sym (partner_one xs a b.0) ∙ e)

  -- and the other is given nobody with this one
  pub nobody_then : a.0 ≢ b.0 → partner_in xs a.0 ≡ None → partner_in (xs ++ b ∷ []) a.0 ≡ None
  nobody_then apart e =
      partner_one xs b a.0 ∙ ap (λ (o : Option ℕ). option_or o (cond (b.0 == a.0) (Some b.1) None)) e
      ∙ ap (λ t. cond t (Some b.1) None) (ne_eqb b.0 a.0 (λ same. apart (sym same)))

  module _ {w : Written} (f : CanFollow w xs a) (g : CanFollow w (xs ++ a ∷ []) b) where
    -- the two have different proposers, and may stand in the other order
    pub free_apart : a.0 ≢ b.0
    free_apart = apart_of g.proposer_free

    -- the second may stand first
    pub free_first : CanFollow w xs b
    free_first = record {
      acceptable = g.acceptable;
      proposer_free = nobody_before g.proposer_free;
      place_free = let less = g.place_free in omega (arith, less, times_one xs a b.1);
    }

    -- and the first behind it
    pub free_second : CanFollow w (xs ++ b ∷ []) a
    free_second = record {
      acceptable = f.acceptable;
      proposer_free = nobody_then free_apart f.proposer_free;
      place_free = elim (cases_eq a.1 b.1) [
        | inl same ↦
            let less = g.place_free in
            let first = ap {B = ℕ} (λ t. cond t 1 0) (eq-eqb a.1 b.1 same) in
            let second = ap {B = ℕ} (λ t. cond t 1 0) (eq-eqb b.1 a.1 (sym same)) in
            let times = ap (times_second xs) same in
            let most = ap (capacity_of w.reviewers) same in
            omega (arith, less, times_one xs a b.1, times_one xs b a.1, first, second, times, most)
        | inr other ↦
            let less = f.place_free in
            let second = ap {B = ℕ} (λ t. cond t 1 0) (ne_eqb b.1 a.1 (λ same. other (sym same))) in
            omega (arith, less, times_one xs b a.1, second)
      ];
    }

  module _ {l : Lists} (f : IsFreeSeat l xs a) (g : IsFreeSeat l (xs ++ a ∷ []) b) where
    -- so it is with seats
    pub free_seat_apart : a.0 ≢ b.0
    free_seat_apart = apart_of g.proposer_free

    -- the second pair may stand first
    pub free_seat_first : IsFreeSeat l xs b
    free_seat_first = record {
      acceptable = g.acceptable;
      proposer_free = nobody_before g.proposer_free;
      seat_free = let free = g.seat_free in omega (arith, free, times_one xs a b.1);
    }

    -- and the first pair behind it
    pub free_seat_second : IsFreeSeat l (xs ++ b ∷ []) a
    free_seat_second = record {
      acceptable = f.acceptable;
      proposer_free = nobody_then free_seat_apart f.proposer_free;
      seat_free = elim (cases_eq b.1 a.1) [
        | inl same ↦
            let free = g.seat_free in
            let first = ap {B = ℕ} (λ t. cond t 1 0) (eq-eqb a.1 b.1 (sym same)) in
            absurd (omega (arith, free, times_one xs a b.1, first))
        | inr other ↦
            let free = f.seat_free in
            let second = ap {B = ℕ} (λ t. cond t 1 0) (ne_eqb b.1 a.1 other) in
            omega (arith, free, times_one xs b a.1, second)
      ];
    }

  module _ {w : Written} {wanted : List (Option ℕ)} (f : IsWanted w wanted xs a) (g : IsWanted w wanted (xs ++ a ∷ []) b) where
    -- and with pairs that are wanted
    pub wanted_apart : a.0 ≢ b.0
    wanted_apart = apart_of g.once

    -- the second is wanted first
    pub wanted_first : IsWanted w wanted xs b
    wanted_first = record { in_matching = g.in_matching; once = nobody_before g.once }

    -- and the first behind it
    pub wanted_second : IsWanted w wanted (xs ++ b ∷ []) a
    wanted_second = record { in_matching = f.in_matching; once = nobody_then wanted_apart f.once }
