-- From the definitions over lists to the functions of Core, and back.
use Rattle.std.proofs.Common.{◌≡◌, ℕ, ◌<◌, ◌≤◌, ◌⊎◌, inl, inr, arith, refl, sym, ap, ◌∙◌, List, [], length, Option, None, Some}
use Rattle.std.proofs.lemmas.List.{get_or_past, ext_get_or}
use Rattle.sm_market.specs.Lists.{Lists, row, entry, place_of, reversed_lists, AreMutual, IsMarket}
use Rattle.sm_market.specs.Matching.{Places, held, standing, reversed, AreHeldInTurn, IsMatching}
use Rattle.sm_market.specs.Stable.{Blocks, IsStable}
use Rattle.sm_lists.proofs.PlaceLemmas.{entry-place_of}
use Rattle.sm_market.proofs.PlaceLemmas.{place_of-entry}
use Rattle.sm_market.proofs.Core.{Half, Sides, Stand, Kept, Fit, Stable, Stable-turned, same_reviewers}

-- who is on a's list has a on its own
pub place_back : {rows others : List (List ℕ)} → AreMutual rows others → (a b : ℕ) → place_of rows a b < length (row rows a) → place_of others b a < length (row others b)
place_back {rows} {others} h a b on = rw (entry-place_of rows a b on) at (h.returned a (place_of rows a b) on)

-- the lists of one side, over lists, are a half as functions
pub half_of : {rows others : List (List ℕ)} → AreMutual rows others → Half (length rows) (λ a. length (row rows a)) (place_of rows) (entry rows) (λ a. length (row others a)) (place_of others)
half_of {rows} {others} h = record {
  few = λ p past. ap length (get_or_past rows p [] past);
  place_at = place_of-entry h;
  at_place = entry-place_of rows;
  back = place_back h;
}

-- the two sides of a market as functions on numbers
abbrev pub sides_of : (l : Lists) → IsMarket l → Sides
sides_of l h = record {
  bound = length l.proposers;
  len = λ p. length (row l.proposers p);
  place = place_of l.proposers;
  at = entry l.proposers;
  bound' = length l.reviewers;
  len' = λ r. length (row l.reviewers r);
  rank = place_of l.reviewers;
  at' = entry l.reviewers;
  left = half_of h.proposers;
  right = half_of h.reviewers;
}

-- the standings of both sides in a matching
abbrev pub stand_of : Lists → Places → Stand
stand_of l m = record { a = standing l.proposers m.proposers; b = standing l.reviewers m.reviewers }

-- a market with its sides exchanged is a market
abbrev pub IsMarket-reversed : {l : Lists} → IsMarket l → IsMarket (reversed_lists l)
IsMarket-reversed h = record { proposers = h.reviewers; reviewers = h.proposers }

-- a matching with its sides exchanged is a matching
abbrev pub IsMatching-reversed : {l : Lists} {m : Places} → IsMatching l m → IsMatching (reversed_lists l) (reversed m)
IsMatching-reversed h = record { proposers = h.reviewers; reviewers = h.proposers }

-- an agent is unmatched, or holds a place
pub record HoldsPlace (rows : List (List ℕ)) (places : List (Option ℕ)) (a : ℕ) : Type 0 where
  pub place : ℕ
  pub held_is : held places a ≡ Some place
  pub standing_is : standing rows places a ≡ place

-- a is unmatched, and so stands past its list
pub record HoldsNone (rows : List (List ℕ)) (places : List (Option ℕ)) (a : ℕ) : Type 0 where
  pub held_is : held places a ≡ None
  pub standing_is : standing rows places a ≡ length (row rows a)

-- an agent holds no place or some place
pub held_cases : (rows : List (List ℕ)) (places : List (Option ℕ)) (a : ℕ) → HoldsNone rows places a ⊎ HoldsPlace rows places a
held_cases rows places a = go (held places a) refl
  where
    go : (o : Option ℕ) → held places a ≡ o → HoldsNone rows places a ⊎ HoldsPlace rows places a
    go None e = inl (record { held_is = e; standing_is = rw e })
    go (Some i) e = inr (record { place = i; held_is = e; standing_is = rw e })

-- who holds a place stands there
pub standing-some : (rows : List (List ℕ)) (places : List (Option ℕ)) (a i : ℕ) → held places a ≡ Some i → standing rows places a ≡ i
standing-some rows places a i e = rw e

-- who is unmatched stands at the length of its list
pub standing-none : (rows : List (List ℕ)) (places : List (Option ℕ)) (a : ℕ) → held places a ≡ None → standing rows places a ≡ length (row rows a)
standing-none rows places a e = rw e

-- who stands on its list holds the place at which it stands
pub held_at : (rows : List (List ℕ)) (places : List (Option ℕ)) (a : ℕ) → standing rows places a < length (row rows a) → held places a ≡ Some (standing rows places a)
held_at rows places a h = elim (held_cases rows places a) [
  | inl w ↦ absurd (omega (arith, w.standing_is))
  | inr w ↦ w.held_is ∙ ap Some (sym w.standing_is)
]

-- who stands past its list is unmatched
pub held_none : {rows others : List (List ℕ)} {places theirs : List (Option ℕ)} → AreHeldInTurn rows others places theirs → (a : ℕ) → length (row rows a) ≤ standing rows places a → held places a ≡ None
held_none {rows} {others} {places} h a past = elim (held_cases rows places a) [
  | inl w ↦ w.held_is
  | inr w ↦ absurd (omega (arith, w.standing_is, h.on_list a w.place w.held_is))
]

-- one side of a matching over lists, as functions
pub kept_of : {rows others : List (List ℕ)} {places theirs : List (Option ℕ)} → AreHeldInTurn rows others places theirs → Kept (λ a. length (row rows a)) (place_of rows) (place_of others) (standing rows places) (standing others theirs)
kept_of {rows} {others} {places} {theirs} h = record {
  within = λ p. elim (held_cases rows places p) [ inl w ↦ omega (arith, w.standing_is) | inr w ↦ omega (arith, w.standing_is, h.on_list p w.place w.held_is) ];
  kept = λ p r on e.
      let i = place_of rows p r in
      let held_is : held places p ≡ Some i = held_at rows places p on ∙ ap Some (sym e) in
      let turn : held theirs r ≡ Some (place_of others r p) = rw (entry-place_of rows p r (omega arith)) at (h.in_turn p i held_is) in
      sym (standing-some others theirs r _ turn);
}

-- a matching over lists is one as functions
pub fit_of : {l : Lists} (h : IsMarket l) {m : Places} → IsMatching l m → Fit (sides_of l h) (stand_of l m)
fit_of h f = record { left = kept_of f.proposers; right = kept_of f.reviewers }

-- a stable matching over lists is one as functions
pub stable_of : {l : Lists} (h : IsMarket l) {m : Places} → IsStable l m → Stable (sides_of l h) (stand_of l m)
stable_of {l} h {m} f = record {
  fit = fit_of h f.matching;
  unblocked = λ p r on better gains.
      let e = entry-place_of l.proposers p r on in
      f.unblocked p (place_of l.proposers p r) (record { on_list = on; proposer_gains = better; reviewer_gains = rw e gains });
}

-- back: a matching from its standings
pub held_in_turn_of : {rows others : List (List ℕ)} {places theirs : List (Option ℕ)} → AreMutual rows others → length places ≡ length rows
    → ((a i : ℕ) → held places a ≡ Some i → i < length (row rows a))
    → Kept (λ a. length (row rows a)) (place_of rows) (place_of others) (standing rows places) (standing others theirs)
    → AreHeldInTurn rows others places theirs
held_in_turn_of {rows} {others} {places} {theirs} lists one on k = record {
  one_each = one;
  on_list = on;
  in_turn = λ a i e.
      let at = standing-some rows places a i e in
      let here = place_of-entry lists a i (on a i e) in
      let theirs_is = k.kept a (entry rows a i) (omega (arith, on a i e, at)) (here ∙ sym at) in
      let back = place_back lists a (entry rows a i) (omega (arith, here, on a i e)) in
      held_at others theirs (entry rows a i) (omega (arith, theirs_is, back)) ∙ ap Some (sym theirs_is);
}

-- what is stable as functions has no blocking pair over lists
pub unblocked_of : {l : Lists} (h : IsMarket l) {m : Places} → Stable (sides_of l h) (stand_of l m) → (p i : ℕ) → ¬ Blocks l m p i
unblocked_of {l} h {m} s p i b =
    let e = place_of-entry h.proposers p i b.on_list in
    s.unblocked p (entry l.proposers p i) (omega (arith, e, b.on_list)) (omega (arith, e, b.proposer_gains)) b.reviewer_gains

-- a stable matching with the sides exchanged
pub IsStable-reversed : {l : Lists} (h : IsMarket l) {m : Places} → IsStable l m → IsStable (reversed_lists l) (reversed m)
IsStable-reversed {l} h {m} s = record { matching = IsMatching-reversed s.matching; unblocked = unblocked_of (IsMarket-reversed h) {m = reversed m} (Stable-turned (stable_of h s)) }

-- two matchings in which all stand alike are equal
pub places_equal : {l : Lists} {m n : Places} → IsMatching l m → IsMatching l n
    → ((p : ℕ) → standing l.proposers m.proposers p ≡ standing l.proposers n.proposers p)
    → ((r : ℕ) → standing l.reviewers m.reviewers r ≡ standing l.reviewers n.reviewers r) → m ≡ n
places_equal {l} {m} {n} hm hn left right = λ i. record { proposers = one i; reviewers = two i }
  where
    same : (rows : List (List ℕ)) (xs ys : List (Option ℕ)) (a : ℕ) → ((i : ℕ) → held xs a ≡ Some i → i < length (row rows a)) → ((i : ℕ) → held ys a ≡ Some i → i < length (row rows a)) → standing rows xs a ≡ standing rows ys a → held xs a ≡ held ys a
    same rows xs ys a on on' e = elim (held_cases rows xs a) [
      | inl w ↦ elim (held_cases rows ys a) [
        | inl v ↦ w.held_is ∙ sym v.held_is
        | inr v ↦ absurd (omega (arith, w.standing_is, v.standing_is, on' v.place v.held_is))
      ]
      | inr w ↦ elim (held_cases rows ys a) [
        | inl v ↦ absurd (omega (arith, w.standing_is, v.standing_is, on w.place w.held_is))
        | inr v ↦ w.held_is ∙ ap Some (sym w.standing_is ∙ e ∙ v.standing_is) ∙ sym v.held_is
      ]
    ]

    one : m.proposers ≡ n.proposers
    one = ext_get_or None m.proposers n.proposers (hm.proposers.one_each ∙ sym hn.proposers.one_each) (λ i _. same l.proposers m.proposers n.proposers i (hm.proposers.on_list i) (hn.proposers.on_list i) (left i))

    two : m.reviewers ≡ n.reviewers
    two = ext_get_or None m.reviewers n.reviewers (hm.reviewers.one_each ∙ sym hn.reviewers.one_each) (λ i _. same l.reviewers m.reviewers n.reviewers i (hm.reviewers.on_list i) (hn.reviewers.on_list i) (right i))

-- two stable matchings in which each proposer stands alike are one
pub stable_equal : {l : Lists} (h : IsMarket l) {m n : Places} → IsStable l m → IsStable l n → ((p : ℕ) → standing l.proposers m.proposers p ≡ standing l.proposers n.proposers p) → m ≡ n
stable_equal h hm hn alike = places_equal hm.matching hn.matching alike (same_reviewers (fit_of h hm.matching) (fit_of h hn.matching) alike)
