-- How many places of lists are left, where some have come to a place of theirs.
use Rattle.std.proofs.Common.{◌≡◌, ℕ, ◌+◌, ◌-◌, ◌*◌, ◌<◌, ◌≤◌, List, length, get_or, set, replicate, ap, arith, inl, inr}
use Rattle.std.specs.List.{sum_by}
use Rattle.std.proofs.lemmas.Bool.{cases_lt}
use Rattle.std.proofs.lemmas.List.{get_or_past, get_or-replicate, length-replicate, length-set, get_or_default}
use Rattle.std.proofs.lemmas.List.Sums.{sum_by-set, sum_by-le}
use Rattle.sm_text.specs.Limits.{most_agents}

-- all are at the first place
pub zeros : (n p : ℕ) → let zero : ℕ = 0 in get_or (replicate n zero) p zero ≡ zero
zeros n p =
    let zero : ℕ = 0 in
    let long = length-replicate n zero in
    elim (cases_lt p n) [ inl l ↦ get_or-replicate n p zero zero l | inr l ↦ get_or_past (replicate n zero) p zero (omega arith) ]

-- so many places of the lists are left at most, all in all
abbrev pub left : List ℕ → ℕ
left places = length places * most_agents - sum_by (λ i. i) places

-- whoever comes to its next place leaves fewer
pub one_less : (places : List ℕ) (a : ℕ) → a < length places → let moved = set places a (get_or places a 0 + 1) in ((b : ℕ) → get_or moved b 0 ≤ most_agents) → left moved < left places
one_less places a there short =
    let moved : List ℕ = set places a (get_or places a 0 + 1) in
    let long : length moved ≡ length places = length-set places a (get_or places a 0 + 1) in
    let one = sum_by-set (λ (x : ℕ). x) places a (get_or places a 0 + 1) 0 there in
    let few = sum_by-le (λ (x : ℕ). x) most_agents moved (λ k d l. let same = get_or_default moved k d 0 l in omega (arith, same, short k)) in
    let e = ap (λ x. x * most_agents) long in
    omega (arith, one, few, e)
