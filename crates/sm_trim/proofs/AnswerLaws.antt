-- What is best, lightest and listed of the stable matchings is the same in the trimmed instance.
use Rattle.std.proofs.Common.{◌≡◌, ◌↔◌, ℕ, Bool, List, Option, ◌≤ℤ◌, ◌<ℤ◌, refl, sym, subst, ◌∙◌, arith, inl, inr}
use Rattle.sm_agents.specs.Written.{Written}
use Rattle.sm_agents.specs.declared.kinds.Measure.{Measure}
use Rattle.sm_agents.specs.declared.kinds.Measure.TheVariants.{Ranks, Given}
use Rattle.sm_agents.specs.declared.kinds.Side.{Side}
use Rattle.sm_agents.specs.declared.kinds.Side.TheVariants.{Proposers, Reviewers}
use Rattle.sm_theory.specs.Listings.{IsListing}
use Rattle.sm_instance.specs.Matching.{standing}
use Rattle.sm_instance.specs.Stable.{IsStable, IsBestOf}
use Rattle.sm_instance.specs.Lightest.{IsLightest, IsLighter, IsLightestByBoth}
use Rattle.sm_instance.specs.Allowed.{IsAllowed}
use Rattle.sm_instance.specs.Ranks.{IsBefore, order_of, rank_vector_of, weight_of, second_of}
use Rattle.sm_seats.specs.Vectors.{IsAllowedRankVector}
use Rattle.sm_trim.specs.Cuts.{IsTrimmed}
use Rattle.sm_trim.specs.Laws.{TrimsKeepBests, TrimsKeepLightest, TrimsKeepListings}

-- two instances with the same stable matchings, which stand the same, weigh the same and are allowed alike, and with one order
pub record AreAlike (w t : Written) : Type 0 where
  pub stable : (places : List (Option ℕ)) → IsStable w places ↔ IsStable t places
  pub standings : (places : List (Option ℕ)) → IsStable w places → (p : ℕ) → standing t places p ≡ standing w places p
  pub weights : (by : Measure) (places : List (Option ℕ)) → IsStable w places → weight_of by t places ≡ weight_of by w places
  pub seconds : (by : Measure) (places : List (Option ℕ)) → IsStable w places → second_of by t places ≡ second_of by w places
  pub allowed : (places : List (Option ℕ)) → IsStable w places → IsAllowed w places ↔ IsAllowed t places
  pub ranks : (places : List (Option ℕ)) → IsStable w places → rank_vector_of t places ≡ rank_vector_of w places
  pub order : t.order ≡ w.order

second_sums : {w t : Written} → IsTrimmed w t → (by : Measure) (places : List (Option ℕ)) → IsStable w places → second_of by t places ≡ second_of by w places
second_sums h Ranks places s = refl
second_sums h Given places s = h.seconds places s

-- so are an instance and what it is trimmed to
pub alike : {w t : Written} → IsTrimmed w t → AreAlike w t
alike h = record { stable = h.stable; standings = h.standings; weights = h.weights; seconds = second_sums h; allowed = h.allowed; ranks = h.ranks; order = h.cut.order }

turned : {w t : Written} → AreAlike w t → AreAlike t w
turned a = record {
  stable = λ places. ((a.stable places).1, (a.stable places).0);
  standings = λ places s p. sym (a.standings places ((a.stable places).1 s) p);
  weights = λ by places s. sym (a.weights by places ((a.stable places).1 s));
  seconds = λ by places s. sym (a.seconds by places ((a.stable places).1 s));
  allowed = λ places s. ((a.allowed places ((a.stable places).1 s)).1, (a.allowed places ((a.stable places).1 s)).0);
  ranks = λ places s. sym (a.ranks places ((a.stable places).1 s));
  order = sym a.order;
}

-- and two that are alike to a third one
pub alike_follows : {w t u : Written} → AreAlike w t → AreAlike t u → AreAlike w u
alike_follows one two = record {
  stable = λ places. ((λ s. (two.stable places).0 ((one.stable places).0 s)), (λ s. (one.stable places).1 ((two.stable places).1 s)));
  standings = λ places s p. two.standings places ((one.stable places).0 s) p ∙ one.standings places s p;
  weights = λ by places s. two.weights by places ((one.stable places).0 s) ∙ one.weights by places s;
  seconds = λ by places s. two.seconds by places ((one.stable places).0 s) ∙ one.seconds by places s;
  allowed = λ places s.
      let n = (one.stable places).0 s in
      ((λ a. (two.allowed places n).0 ((one.allowed places s).0 a)), (λ a. (one.allowed places s).1 ((two.allowed places n).1 a)));
  ranks = λ places s. two.ranks places ((one.stable places).0 s) ∙ one.ranks places s;
  order = two.order ∙ one.order;
}

best_over : (side : Side) {w t : Written} (a : AreAlike w t) (places : List (Option ℕ)) → IsBestOf side w places → IsBestOf side t places
best_over Proposers a places b = record {
  stable = (a.stable places).0 b.stable;
  best = λ others s p.
      let old = (a.stable others).1 s in
      let less = b.best others old p in
      let one = a.standings places b.stable p in
      let two = a.standings others old p in
      omega arith;
}
best_over Reviewers a places b = record {
  stable = (a.stable places).0 b.stable;
  worst = λ others s p.
      let old = (a.stable others).1 s in
      let less = b.worst others old p in
      let one = a.standings places b.stable p in
      let two = a.standings others old p in
      omega arith;
}

lightest_over : (by : Measure) {w t : Written} (a : AreAlike w t) (places : List (Option ℕ)) → IsLightest by w places → IsLightest by t places
lightest_over by {w} {t} a places l = record {
  stable = (a.stable places).0 l.stable;
  allowed = (a.allowed places l.stable).0 l.allowed;
  lightest = λ others s h.
      let old = (a.stable others).1 s in
      subst (λ x. x ≤ℤ weight_of by t others) (sym (a.weights by places l.stable))
      (subst (λ y. weight_of by w places ≤ℤ y) (sym (a.weights by others old)) (l.lightest others old ((a.allowed others old).1 h)));
  best = λ others s h same p.
      let old = (a.stable others).1 s in
      let less = l.best others old ((a.allowed others old).1 h) (sym (a.weights by others old) ∙ same ∙ a.weights by places l.stable) p in
      let one = a.standings places l.stable p in
      let two = a.standings others old p in
      omega arith;
}

lighter_was : (by : Measure) {w t : Written} (a : AreAlike w t) (others places : List (Option ℕ)) → IsStable w others → IsStable w places → IsLighter by t others places → IsLighter by w others places
lighter_was by {w} {t} a others places o s (inl less) =
    inl (subst (λ x. x <ℤ weight_of by w places) (a.weights by others o) (subst (λ y. weight_of by t others <ℤ y) (a.weights by places s) less))
lighter_was by {w} {t} a others places o s (inr two) =
    inr (
      sym (a.weights by others o) ∙ two.0 ∙ a.weights by places s,
      subst (λ x. x <ℤ second_of by w places) (a.seconds by others o) (subst (λ y. second_of by t others <ℤ y) (a.seconds by places s) two.1),
    )

lightest_by_both_over : (by : Measure) {w t : Written} (a : AreAlike w t) (places : List (Option ℕ)) → IsLightestByBoth by w places → IsLightestByBoth by t places
lightest_by_both_over by a places l = record {
  stable = (a.stable places).0 l.stable;
  allowed = (a.allowed places l.stable).0 l.allowed;
  lightest = λ others s h lighter.
      let old = (a.stable others).1 s in
      l.lightest others old ((a.allowed others old).1 h) (lighter_was by a others places old l.stable lighter);
  best = λ others s h same seconds p.
      let old = (a.stable others).1 s in
      let less = l.best others old ((a.allowed others old).1 h) (sym (a.weights by others old) ∙ same ∙ a.weights by places l.stable)
      (sym (a.seconds by others old) ∙ seconds ∙ a.seconds by places l.stable) p in
      let one = a.standings places l.stable p in
      let two = a.standings others old p in
      omega arith;
}

-- alike instances have the same best matchings
pub bests_alike : (side : Side) {w t : Written} → AreAlike w t → (places : List (Option ℕ)) → IsBestOf side w places ↔ IsBestOf side t places
bests_alike side a places = (best_over side a places, best_over side (turned a) places)

-- and the same lightest ones
pub lightest_alike : (by : Measure) {w t : Written} → AreAlike w t → (places : List (Option ℕ)) → (IsLightest by w places ↔ IsLightest by t places) × (IsLightestByBoth by w places ↔ IsLightestByBoth by t places)
lightest_alike by a places = (
  (lightest_over by a places, lightest_over by (turned a) places),
  (lightest_by_both_over by a places, lightest_by_both_over by (turned a) places),
)

-- a listing of what is in question is one of whatever is in question exactly where it is
listed_over : (Before : List ℕ → List ℕ → Type 0) (P Q : List ℕ → Type 0) → ((v : List ℕ) → P v ↔ Q v) → (cursor : Option (List ℕ)) (limit : ℕ) (out : List (List ℕ)) (more : Bool)
    → IsListing Before P cursor limit out more → IsListing Before Q cursor limit out more
listed_over Before P Q same cursor limit out more l = record {
  begins = l.begins;
  rises = l.rises;
  sound = λ k on. (same _).0 (l.sound k on);
  whole = λ v one. l.whole v ((same v).1 one);
  limited = l.limited;
  ended = ((λ e v one. l.ended.0 e v ((same v).1 one)), (λ none. l.ended.1 (λ v one. none v ((same v).0 one))));
  cut = l.cut;
}

vector_over : {w t : Written} → AreAlike w t → (v : List ℕ) → IsAllowedRankVector w v → IsAllowedRankVector t v
vector_over a v x = record {
  places = x.places;
  stable = (a.stable x.places).0 x.stable;
  allowed = (a.allowed x.places x.stable).0 x.allowed;
  vector = x.vector ∙ sym (a.ranks x.places x.stable);
}

-- and the same rank vectors
pub vectors_alike : {w t : Written} → AreAlike w t → (v : List ℕ) → IsAllowedRankVector w v ↔ IsAllowedRankVector t v
vectors_alike a v = (vector_over a v, vector_over (turned a) v)

listing_over : {w t : Written} → AreAlike w t → (cursor : Option (List ℕ)) (limit : ℕ) (out : List (List ℕ)) (more : Bool)
    → IsListing (IsBefore (order_of w)) (IsAllowedRankVector w) cursor limit out more → IsListing (IsBefore (order_of t)) (IsAllowedRankVector t) cursor limit out more
listing_over {w} {t} a cursor limit out more l =
    subst (λ order. IsListing (IsBefore order) (IsAllowedRankVector t) cursor limit out more) (sym a.order)
    (listed_over (IsBefore w.order) (IsAllowedRankVector w) (IsAllowedRankVector t) (vectors_alike a) cursor limit out more l)

-- and the same listings of these
pub listings_alike : {w t : Written} → AreAlike w t → (cursor : Option (List ℕ)) (limit : ℕ) (out : List (List ℕ)) (more : Bool)
    → IsListing (IsBefore (order_of w)) (IsAllowedRankVector w) cursor limit out more ↔ IsListing (IsBefore (order_of t)) (IsAllowedRankVector t) cursor limit out more
listings_alike a cursor limit out more = (listing_over a cursor limit out more, listing_over (turned a) cursor limit out more)

-- so it is of an instance and what it is trimmed to

pub trims_keep_bests : TrimsKeepBests
trims_keep_bests side w t places h = bests_alike side (alike h) places

pub trims_keep_lightest : TrimsKeepLightest
trims_keep_lightest by w t places h = lightest_alike by (alike h) places

pub trims_keep_listings : TrimsKeepListings
trims_keep_listings w t h = (vectors_alike (alike h), listings_alike (alike h))
