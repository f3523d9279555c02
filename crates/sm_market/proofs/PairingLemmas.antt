-- A matching is determined by what one side holds.
use Rattle.std.proofs.Common.{◌≡◌, ℕ, ◌<◌, List, Option, Some, None, length, sym, ap, subst, ◌∙◌, arith, ⊎_elim}
use Rattle.std.proofs.lemmas.List.{ext_get_or}
use Rattle.sm_market.specs.Lists.{Lists, entry, place_of}
use Rattle.sm_market.specs.Matching.{Places, held, AreHeldInTurn, IsMatching}
use Rattle.sm_market.specs.PairingFaults.{AreHeld}
use Rattle.sm_lists.proofs.PlaceLemmas.{entry-place_of}
use Rattle.sm_lists.proofs.RowLemmas.{row_in_range}
use Rattle.sm_market.proofs.SeatLemmas.{same_place, option_cases}

-- an agent that holds a place is one of its side
pub held_in_range : {rows others : List (List ℕ)} {places theirs : List (Option ℕ)} → AreHeldInTurn rows others places theirs → (a i : ℕ) → held places a ≡ Some i → a < length rows
held_in_range {rows} h a i e = row_in_range rows a i (h.on_list a i e)

-- two agents that have one partner are one
pub one_partner : {rows others : List (List ℕ)} {places theirs : List (Option ℕ)} → AreHeldInTurn rows others places theirs → AreHeldInTurn others rows theirs places
    → (a c i j : ℕ) → held places a ≡ Some i → held places c ≡ Some j → entry rows a i ≡ entry rows c j → a ≡ c
one_partner {rows} {others} {places} {theirs} here there a c i j h g same =
    let b : ℕ = entry rows a i in
    let turn : held theirs b ≡ Some (place_of others b a) = here.in_turn a i h in
    let Q : ℕ → Type 0 = λ d. held theirs d ≡ Some (place_of others d c) in
    let turn' : held theirs b ≡ Some (place_of others b c) = subst Q (sym same) (here.in_turn c j g) in
    let k_is = same_place turn turn' in
    sym (entry-place_of others b a (there.on_list b (place_of others b a) turn)) ∙ ap (λ k. entry others b k) k_is ∙ entry-place_of others b c (there.on_list b (place_of others b c) turn')

-- the proposers of a matching can hold what they hold
pub held_of_matching : {l : Lists} {m : Places} → IsMatching l m → AreHeld l m.proposers
held_of_matching f = record {
  one_each = f.proposers.one_each;
  on_lists = λ p x. let on = f.proposers.on_list p x.at x.holds in let past = x.past in omega arith;
  untaken = λ p x.
      let one = one_partner f.proposers f.reviewers x.earlier p x.there x.at x.earlier_holds x.holds x.same in
      let before = x.before in omega arith;
}

-- what an agent holds in one matching it holds in another in which the other side holds the same
held_kept : {rows others : List (List ℕ)} {places theirs places' theirs' : List (Option ℕ)} → AreHeldInTurn rows others places theirs → AreHeldInTurn others rows theirs places → AreHeldInTurn others rows theirs' places' → theirs ≡ theirs'
    → (a i : ℕ) → held places a ≡ Some i → held places' a ≡ Some i
held_kept {rows} {others} {places} {theirs} {places'} {theirs'} here there there' same a i h =
    let b : ℕ = entry rows a i in
    let k : ℕ = place_of others b a in
    let back : held theirs b ≡ Some k = here.in_turn a i h in
    let is_a : entry others b k ≡ a = entry-place_of others b a (there.on_list b k back) in
    let P : List (Option ℕ) → ℕ → Type 0 = λ ps c. held ps c ≡ Some (place_of rows c b) in
    let i_is : place_of rows a b ≡ i = same_place (subst (P places) is_a (there.in_turn b k back)) h in
    let Q : List (Option ℕ) → Type 0 = λ t. held t b ≡ Some k in
    subst (P places') is_a (there'.in_turn b k (subst Q same back)) ∙ ap Some i_is

held_same : {rows others : List (List ℕ)} {places theirs places' theirs' : List (Option ℕ)} → AreHeldInTurn rows others places theirs → AreHeldInTurn others rows theirs places → AreHeldInTurn rows others places' theirs' → AreHeldInTurn others rows theirs' places' → theirs ≡ theirs' → places ≡ places'
held_same {rows} {others} {places} {theirs} {places'} {theirs'} here there here' there' same =
    ext_get_or None places places' (here.one_each ∙ sym here'.one_each)
    (λ a _. ⊎_elim
    (λ none. ⊎_elim
    (λ none'. none ∙ sym none')
    (λ x. let e = held_kept here' there' there (sym same) a x.0 x.1 in cc)
    (option_cases (held places' a)))
    (λ x. x.1 ∙ sym (held_kept here there there' same a x.0 x.1))
    (option_cases (held places a)))

-- matchings in which the proposers hold the same are the same
pub reviewers_same : {l : Lists} {m n : Places} → IsMatching l m → IsMatching l n → m.proposers ≡ n.proposers → m.reviewers ≡ n.reviewers
reviewers_same a b same = held_same a.reviewers a.proposers b.reviewers b.proposers same

-- matchings in which the proposers hold the same are one
pub one_matching : {l : Lists} {m n : Places} → IsMatching l m → IsMatching l n → m.proposers ≡ n.proposers → m ≡ n
one_matching f g same = λ i. record { proposers = same i; reviewers = reviewers_same f g same i }
