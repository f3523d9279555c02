-- What is kept of the rank vector of a matching.
use Rattle.std.proofs.Common.{◌≡◌, ◌⊎◌, inl, inr, ℕ, zero, suc, ◌+◌, ◌/◌, ◌<◌, ◌≤◌, slice_index, min, max, List, [], ◌∷◌, refl, length, map, fold, set, Option, get_or, ⊎_elim, sym, ap, ◌∙◌, subst, arith}
use Rattle.std.specs.List.{range_with_len}
use Rattle.std.proofs.lemmas.Bool.{cases_eq, cases_lt}
use Rattle.std.proofs.lemmas.List.{length-set, get_or-set_same, get_or-set_other, get_or_past, ext_get_or}
use Rattle.std.proofs.lemmas.List.FromFn.{length-map-range_with_len, get_or-map-range_with_len}
use Rattle.sm_agents.specs.Written.{Written}
use Rattle.sm_instance.specs.Matching.{held, IsMatching}
use Rattle.sm_instance.specs.Ranks.{rank_vector_of, worse_rank, regret_of}
use Rattle.sm_answer_list.proofs.RankLemmas.{rank_at}
use Rattle.sm_answer_survey.specs.Regrets.{piece, IsWorseRank, AreWorseRanks, AreSameIn, AreGreatest}

-- a rank is put in place, with the greater one of the pair
pub one_kept : {w : Written} {ranks worse : List ℕ} (p rank n : ℕ) → AreWorseRanks w ranks worse → p < length w.proposers → IsWorseRank w p rank n → AreWorseRanks w (set ranks p rank) (set worse p n)
one_kept {w} {ranks} {worse} p rank n h l new = record {
  ranks_each = length-set ranks p rank ∙ h.ranks_each;
  worse_each = length-set worse p n ∙ h.worse_each;
  are = λ q. ⊎_elim
      (λ same. subst (λ k. IsWorseRank w k (get_or (set ranks p rank) k 0) (get_or (set worse p n) k 0)) (sym same)
      (rw (get_or-set_same ranks p rank 0 (omega (arith, l, h.ranks_each)), get_or-set_same worse p n 0 (omega (arith, l, h.worse_each))) new))
      (λ other. rw (get_or-set_other ranks p q rank 0 other, get_or-set_other worse p q n 0 other) (h.are q))
      (cases_eq q p);
}

-- the greatest of the greater ranks is the regret
pub greatest_is : {w : Written} {ranks worse : List ℕ} (places : List (Option ℕ)) → AreWorseRanks w ranks worse → IsMatching w places → ranks ≡ rank_vector_of w places → fold max 0 worse ≡ regret_of w places
greatest_is {w} {ranks} {worse} places h m is =
    let n = length w.proposers in
    let f : ℕ → ℕ = λ p. worse_rank w p (held places p) in
    ap (fold max 0) (ext_get_or 0 worse (map f (range_with_len 0 n)) (h.worse_each ∙ sym (length-map-range_with_len f 0 n))
    (λ p l. let inside : p < n = omega (arith, l, h.worse_each) in h.are p places m (sym (rank_at w places is p inside)) ∙ sym (get_or-map-range_with_len f 0 n p p 0 inside (omega arith))))

-- a number of a list is reached between two places
pub record IsReachedBelow (from to : ℕ) (numbers : List ℕ) (n : ℕ) : Type 0 where
  pub at : ℕ
  pub begins : from ≤ at
  pub ends : at < to
  pub is : slice_index numbers at ≡ n

-- the greatest number is at least what it began with, and each of the numbers
below_greatest : (a : ℕ) (ns : List ℕ) → a ≤ fold max a ns
below_greatest a [] = omega arith
below_greatest a (n ∷ ns) = let h = below_greatest (max a n) ns in omega (arith, h)

pub each_below : (a : ℕ) (ns : List ℕ) (k : ℕ) → get_or ns k 0 ≤ fold max a ns
each_below a [] k = omega arith
each_below a (n ∷ ns) zero = let h = below_greatest (max a n) ns in omega (arith, h)
each_below a (n ∷ ns) (suc k) = each_below (max a n) ns k

-- and it is one of these
record IsReached (ns : List ℕ) (n : ℕ) : Type 0 where
  at : ℕ
  there : at < length ns
  is : get_or ns at 0 ≡ n

later : (n m : ℕ) (ns : List ℕ) → IsReached ns m → IsReached (n ∷ ns) m
later n m ns r = record { at = suc r.at; there = let t = r.there in omega (arith, t); is = r.is }

greatest_reached : (a : ℕ) (ns : List ℕ) → (fold max a ns ≡ a) ⊎ IsReached ns (fold max a ns)
greatest_reached a [] = inl refl
greatest_reached a (n ∷ ns) = elim (greatest_reached (max a n) ns) [
  | inl e ↦ elim (cases_lt a n) [
    | inl l ↦ inr (record { at = 0; there = omega arith; is = omega (arith, e, l) })
    | inr l ↦ inl (omega (arith, e, l))
  ]
  | inr r ↦ inr (later n (fold max (max a n) ns) ns r)
]

-- the greatest of the greatest numbers of the pieces is the greatest of all
pub greatest_of_pieces : (numbers greatest : List ℕ) → AreGreatest numbers greatest → fold max 0 greatest ≡ fold max 0 numbers
greatest_of_pieces numbers greatest h = omega (arith, at_least, at_most)
  where
    at_least : fold max 0 numbers ≤ fold max 0 greatest
    at_least = elim (greatest_reached 0 numbers) [
      | inl e ↦ omega (arith, e)
      | inr r ↦
          let k = r.at / piece in
          let there = r.there in
          let cover = h.cover in
          let few : k < length greatest = omega (arith, there, cover) in
          let bound = (h.are k few).bound r.at (omega arith) (omega arith) in
          let top = each_below 0 greatest k in
          omega (arith, bound, top, r.is)
    ]

    at_most : fold max 0 greatest ≤ fold max 0 numbers
    at_most = elim (greatest_reached 0 greatest) [
      | inl e ↦ omega (arith, e)
      | inr r ↦ elim ((h.are r.at r.there).reached) [
        | inl e ↦ omega (arith, e, r.is)
        | inr s ↦ let top = each_below 0 numbers s.at in omega (arith, top, s.is, r.is)
      ]
    ]

-- numbers that are the same below a place stay so with the next one
pub same_set : (kept ranks : List ℕ) (from p : ℕ) → p < length kept → ((q : ℕ) → from ≤ q → q < p → slice_index kept q ≡ slice_index ranks q) → (q : ℕ) → from ≤ q → q < p + 1 → slice_index (set kept p (slice_index ranks p)) q ≡ slice_index ranks q
same_set kept ranks from p there same q l m = ⊎_elim
    (λ e. rw e (get_or-set_same kept p (slice_index ranks p) 0 there))
    (λ other. get_or-set_other kept p q (slice_index ranks p) 0 other ∙ same q l (omega (arith, m, other)))
    (cases_eq q p)

pub same_left : (kept ranks : List ℕ) (from p : ℕ) → slice_index kept p ≡ slice_index ranks p → ((q : ℕ) → from ≤ q → q < p → slice_index kept q ≡ slice_index ranks q) → (q : ℕ) → from ≤ q → q < p + 1 → slice_index kept q ≡ slice_index ranks q
same_left kept ranks from p here same q l m = ⊎_elim (λ e. rw e here) (λ other. same q l (omega (arith, m, other))) (cases_eq q p)

-- and the others stay as they were
pub others_set : (numbers before : List ℕ) (from p n : ℕ) → from ≤ p → ((q : ℕ) → (q < from) ⊎ (p ≤ q) → slice_index numbers q ≡ slice_index before q) → (q : ℕ) → (q < from) ⊎ (p + 1 ≤ q) → slice_index (set numbers p n) q ≡ slice_index before q
others_set numbers before from p n begins others q out =
    get_or-set_other numbers p q n 0 (λ e. elim out [ inl l ↦ omega (arith, l, e, begins) | inr l ↦ omega (arith, l, e) ])
    ∙ others q (elim out [ inl l ↦ inl l | inr l ↦ inr (omega (arith, l)) ])

pub others_left : (numbers before : List ℕ) (from p : ℕ) → ((q : ℕ) → (q < from) ⊎ (p ≤ q) → slice_index numbers q ≡ slice_index before q) → (q : ℕ) → (q < from) ⊎ (p + 1 ≤ q) → slice_index numbers q ≡ slice_index before q
others_left numbers before from p others q out = others q (elim out [ inl l ↦ inl l | inr l ↦ inr (omega (arith, l)) ])

-- lists of one length that are the same up to a piece's end are the same in all of it
pub same_whole : (kept ranks : List ℕ) (from p to : ℕ) → length kept ≡ length ranks → to ≡ min (from + piece) (length kept) → to ≤ p → ((q : ℕ) → from ≤ q → q < p → slice_index kept q ≡ slice_index ranks q) → AreSameIn from kept ranks
same_whole kept ranks from p to long ends past same q l m = elim (cases_lt q p) [
  | inl below ↦ same q l below
  | inr above ↦ get_or_past kept q 0 (omega (arith, above, past, ends, m)) ∙ sym (get_or_past ranks q 0 (omega (arith, above, past, ends, m, long)))
]
