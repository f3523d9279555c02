-- What the rank vector of a matching says of its proposers.
use Rattle.std.proofs.Common.{◌≡◌, ℕ, ◌+◌, ◌-◌, ◌<◌, ◌≤◌, List, length, Option, Some, None, unwrap_or, get_or, slice_index, refl, ap, ◌∙◌, arith}
use Rattle.std.specs.List.{range_with_len}
use Rattle.std.proofs.lemmas.List.{get_or-map, length-map}
use Rattle.std.proofs.lemmas.List.FromFn.{length-range_with_len, get_or-range_with_len}
use Rattle.sm_agents.specs.Written.{Written, row}
use Rattle.sm_instance.specs.Matching.{held, standing, IsMatching}
use Rattle.sm_instance.specs.Ranks.{rank_vector_of}
use Rattle.sm_seats.specs.Vectors.{IsAllowedRankVector}

-- it has a rank for each proposer
pub vector_long : {w : Written} {ranks : List ℕ} → IsAllowedRankVector w ranks → length ranks ≡ length w.proposers
vector_long {w} {ranks} a =
    ap (λ (xs : List ℕ). length xs) a.vector ∙ length-map (range_with_len 0 (length w.proposers)) (λ p. standing w a.places p + 1) ∙ length-range_with_len 0 (length w.proposers)

-- the rank of a proposer's partner is one more than the place that it holds
pub rank_at : (w : Written) {ranks : List ℕ} (places : List (Option ℕ)) → ranks ≡ rank_vector_of w places → (p : ℕ) → p < length w.proposers → slice_index ranks p ≡ standing w places p + 1
rank_at w {ranks} places is p l =
    let n = length w.proposers in
    let long = length-range_with_len 0 n in
    ap (λ (xs : List ℕ). get_or xs p 0) is ∙ get_or-map (λ p. standing w places p + 1) (range_with_len 0 n) p 0 0 (omega (arith, l, long))
    ∙ ap (λ k. standing w places k + 1) (let e = get_or-range_with_len 0 n p 0 l in omega arith)

matched : (o : Option ℕ) (n : ℕ) → unwrap_or o n < n → o ≡ Some (unwrap_or o n)
matched None n l = absurd (omega arith)
matched (Some k) n l = refl

unmatched : (o : Option ℕ) (n : ℕ) → ((k : ℕ) → o ≡ Some k → k < n) → n ≤ unwrap_or o n → o ≡ None
unmatched None n on l = refl
unmatched (Some k) n on l = absurd (let h = on k refl in omega arith)

-- so a rank that is on the list says which place is held
pub held_at : (w : Written) {rank : ℕ} (places : List (Option ℕ)) (p : ℕ) → standing w places p + 1 ≡ rank → rank ≤ length (row w.proposers p) → held places p ≡ Some (rank - 1)
held_at w {rank} places p is within =
    let same : standing w places p ≡ rank - 1 = omega (arith, is) in
    matched (held places p) (length (row w.proposers p)) (omega (arith, is, within)) ∙ ap (λ k. Some k) same

-- and one past the list that none is
pub alone_at : (w : Written) {rank : ℕ} (places : List (Option ℕ)) → IsMatching w places → (p : ℕ) → standing w places p + 1 ≡ rank → length (row w.proposers p) < rank → held places p ≡ None
alone_at w places m p is past = unmatched (held places p) (length (row w.proposers p)) (λ k held. m.assigned.on_lists p k held) (omega (arith, is, past))

at_most : (o : Option ℕ) (n : ℕ) → ((k : ℕ) → o ≡ Some k → k < n) → unwrap_or o n ≤ n
at_most None n on = omega arith
at_most (Some k) n on = let h = on k refl in omega arith

-- nobody stands worse than one past its list
pub standing_within : (w : Written) (places : List (Option ℕ)) → IsMatching w places → (p : ℕ) → standing w places p ≤ length (row w.proposers p)
standing_within w places m p = at_most (held places p) (length (row w.proposers p)) (λ k held. m.assigned.on_lists p k held)
