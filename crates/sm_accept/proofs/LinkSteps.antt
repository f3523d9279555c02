-- Linking the numbers that are in, and taking out the last pair of a reviewer's list.
use Rattle.std.proofs.Common.{◌≡◌, ◌≢◌, ℕ, ◌+◌, ◌-◌, ◌<◌, ◌≤◌, ◌⊎◌, inl, inr, arith, refl, sym, ap, ◌∙◌, List, length, set, get_or}
use Rattle.std.proofs.lemmas.List.{get_or-set_same, get_or-set_other, length-set}
use Rattle.sm_market.specs.Lists.{Lists, row, entry, place_of, IsMarket}
use Rattle.sm_lists.proofs.Counting.{lt_or_le, eq_or_ne}
use Rattle.sm_lists.proofs.PlaceLemmas.{entry-place_of}
use Rattle.sm_market.proofs.PlaceLemmas.{place_of-entry}
use Rattle.sm_accept.specs.Linking.{Linking, HoldsPair, IsNumberIn, Follows, AreStarts, AreLinkedBelow, IsLinkedOf, link_at}
use Rattle.sm_accept.proofs.LinkLemmas.{apart, link_in_range, in_le, held_in, in_held, follows_once, followed_once, IsTakenOut, follows_join, follows_still}

-- the numbers of p's list up to `last`, which is in, are linked, and none behind it is in up to number k
pub record AreLinkedUpTo (l : Lists) (ends starts : List ℕ) (p k last : ℕ) (next before : List ℕ) : Type 0 where
  pub below : AreLinkedBelow l ends starts p next before
  pub last_in : IsNumberIn l ends p last
  pub last_le : last ≤ k
  pub none : (x : ℕ) → last < x → x ≤ k → ¬ IsNumberIn l ends p x
  pub forward : (j : ℕ) → j < last → IsNumberIn l ends p j → Follows l ends p j (link_at starts next p j)
  pub back : (j : ℕ) → 0 < j → j ≤ last → IsNumberIn l ends p j → Follows l ends p (link_at starts before p j) j

-- before the first proposer nothing is to be said of links
pub linked_none : (l : Lists) (ends starts next before : List ℕ) → AreLinkedBelow l ends starts 0 next before
linked_none l ends starts next before = record { forward = λ p j lt. absurd (omega (arith, lt)); back = λ p j lt. absurd (omega (arith, lt)) }

-- the number in front of a list is in
pub row_begins : {l : Lists} {ends starts next before : List ℕ} {p : ℕ} → AreLinkedBelow l ends starts p next before → AreLinkedUpTo l ends starts p 0 0 next before
row_begins t = record {
  below = t;
  last_in = inl (inl refl);
  last_le = omega arith;
  none = λ x more le. absurd (omega (arith, more, le));
  forward = λ j less. absurd (omega (arith, less));
  back = λ j some le. absurd (omega (arith, some, le));
}

-- a number that isn't in is passed
pub row_skips : {l : Lists} {ends starts next before : List ℕ} {p k last : ℕ} → ¬ IsNumberIn l ends p (k + 1) → AreLinkedUpTo l ends starts p k last next before → AreLinkedUpTo l ends starts p (k + 1) last next before
row_skips {l} {ends} {p = p} {k = k} out t = record {
  below = t.below;
  last_in = t.last_in;
  last_le = omega (arith, t.last_le);
  none = λ x more le held. elim (lt_or_le x (k + 1)) [
    | inl less ↦ t.none x more (omega (arith, less)) held
    | inr past ↦ let same : x ≡ k + 1 = omega (arith, le, past) in out (rw same at held)
  ];
  forward = t.forward;
  back = t.back;
}

-- one that is in is linked with the last one before it
pub row_joins : {l : Lists} {ends starts next before : List ℕ} {p k last n : ℕ} (s : AreStarts l starts) → p < length l.proposers → length next ≡ get_or starts (length l.proposers) 0 → length before ≡ get_or starts (length l.proposers) 0
    → n ≡ k + 1 → IsNumberIn l ends p n → AreLinkedUpTo l ends starts p k last next before
    → AreLinkedUpTo l ends starts p n n (set next (get_or starts p 0 + last) n) (set before (get_or starts p 0 + n) last)
row_joins {l} {ends} {starts} {next} {before} {p} {k} {last} {n} s hp long long' is held t = record {
  below = record {
    forward = λ q j less on in_. rw (forward_still q j (omega (arith, less, hp)) (omega (arith, on)) (λ w. omega (arith, less, w.0))) (t.below.forward q j less on in_);
    back = λ q j less some on in_. rw (back_still q j (omega (arith, less, hp)) (omega (arith, on)) (λ w. omega (arith, less, w.0))) (t.below.back q j less some on in_);
  };
  last_in = held;
  last_le = omega arith;
  none = λ x more le. absurd (omega (arith, more, le));
  forward = λ j less in_. elim (eq_or_ne j last) [
    | inl same ↦ rw (same, get_or-set_same next (get_or starts p 0 + last) n 0 there) follows
    | inr ne ↦ elim (lt_or_le j last) [
      | inl earlier ↦ rw (forward_still p j hp (omega (arith, less, in_le held)) (λ w. ne w.1)) (t.forward j earlier in_)
      | inr later ↦ absurd (t.none j (omega (arith, ne, later)) (omega (arith, less, is)) in_)
    ]
  ];
  back = λ j some le in_. elim (eq_or_ne j n) [
    | inl same ↦ rw (same, get_or-set_same before (get_or starts p 0 + n) last 0 there') follows
    | inr ne ↦ elim (lt_or_le last j) [
      | inl later ↦ absurd (t.none j later (omega (arith, ne, le, is)) in_)
      | inr earlier ↦ rw (back_still p j hp (omega (arith, le, in_le held)) (λ w. ne w.1)) (t.back j some earlier in_)
    ]
  ];
}
  where
    follows : Follows l ends p last n
    follows = record { lower = t.last_in; upper = held; rising = omega (arith, t.last_le, is); between = λ x more less. t.none x more (omega (arith, less, is)) }

    there : get_or starts p 0 + last < length next
    there = omega (arith, long, link_in_range s p last hp (omega (arith, t.last_le, is, in_le held)))

    there' : get_or starts p 0 + n < length before
    there' = omega (arith, long', link_in_range s p n hp (omega (arith, in_le held)))

    forward_still : (q j : ℕ) → q < length l.proposers → j < length (row l.proposers q) + 2 → ((q ≡ p) × (j ≡ last) → ⊥) → link_at starts (set next (get_or starts p 0 + last) n) q j ≡ link_at starts next q j
    forward_still q j hq hj ne = get_or-set_other next (get_or starts p 0 + last) (get_or starts q 0 + j) n 0 (λ e. ne (apart s q p j last hq hp hj (omega (arith, t.last_le, is, in_le held)) e))

    back_still : (q j : ℕ) → q < length l.proposers → j < length (row l.proposers q) + 2 → ((q ≡ p) × (j ≡ n) → ⊥) → link_at starts (set before (get_or starts p 0 + n) last) q j ≡ link_at starts before q j
    back_still q j hq hj ne = get_or-set_other before (get_or starts p 0 + n) (get_or starts q 0 + j) last 0 (λ e. ne (apart s q p j n hq hp hj (omega (arith, in_le held)) e))

-- the number behind a list is in, and then the list is linked
pub row_ends : {l : Lists} {ends starts next before : List ℕ} {p n : ℕ} → n ≡ length (row l.proposers p) + 1 → AreLinkedUpTo l ends starts p n n next before → AreLinkedBelow l ends starts (p + 1) next before
row_ends {l} {ends} {starts} {next} {before} {p} {n} end t = record {
  forward = λ q j less on in_. elim (eq_or_ne q p) [
    | inl same ↦ rw same (t.forward j (omega (arith, end, ap (λ x. length (row l.proposers x)) same, on)) (rw same at in_))
    | inr ne ↦ t.below.forward q j (omega (arith, less, ne)) on in_
  ];
  back = λ q j less some on in_. elim (eq_or_ne q p) [
    | inl same ↦ rw same (t.back j some (omega (arith, end, ap (λ x. length (row l.proposers x)) same, on)) (rw same at in_))
    | inr ne ↦ t.below.back q j (omega (arith, less, ne)) some on in_
  ];
}

-- a place that isn't held has a number that isn't in
pub not_in : {l : Lists} {ends : List ℕ} {p k : ℕ} → k < length (row l.proposers p) → ¬ HoldsPair l ends p k → ¬ IsNumberIn l ends p (k + 1)
not_in {l} {ends} {p} {k} on out held = let e : k + 1 - 1 ≡ k = omega arith in out (rw e at (in_held held (omega arith) (omega (arith, on))))

-- once the numbers of all proposers are linked, the set is made
pub all_linked : {l : Lists} {ends starts next before : List ℕ} {n : ℕ} → n ≡ length l.proposers → AreStarts l starts → length ends ≡ length l.reviewers → ((r : ℕ) → get_or ends r 0 ≤ length (row l.reviewers r))
    → length next ≡ get_or starts (length l.proposers) 0 → length before ≡ get_or starts (length l.proposers) 0 → AreLinkedBelow l ends starts n next before
    → IsLinkedOf l (record { ends = ends; starts = starts; next = next; before = before })
all_linked all s each on long long' t = record {
  ends_each = each;
  ends_on_lists = on;
  starts = s;
  next_each = long;
  before_each = long';
  next = λ p j hp. t.forward p j (omega (arith, all, hp));
  before = λ p j hp. t.back p j (omega (arith, all, hp));
}

-- taking out the last pair that is held of r's list
module _ {l : Lists} {v : Linking} {r : ℕ} (last : ℕ) (market : IsMarket l) (made : IsLinkedOf l v) (hr : r < length l.reviewers) (end_is : get_or v.ends r 0 ≡ last + 1) where
  -- the last pair's place is on r's list
  pub last_on_list : last < length (row l.reviewers r)
  last_on_list = omega (arith, made.ends_on_lists r)

  listed : place_of l.proposers (entry l.reviewers r last) r < length (row l.proposers (entry l.reviewers r last))
  listed = market.reviewers.returned r last last_on_list

  who_in_range : entry l.reviewers r last < length l.proposers
  who_in_range = market.reviewers.in_range r last last_on_list

  there : entry l.proposers (entry l.reviewers r last) (place_of l.proposers (entry l.reviewers r last) r) ≡ r
  there = entry-place_of l.proposers (entry l.reviewers r last) r listed

  rank : place_of l.reviewers r (entry l.reviewers r last) ≡ last
  rank = place_of-entry market.reviewers r last last_on_list

  in_ends : r < length v.ends
  in_ends = omega (arith, made.ends_each)

  -- and the pair is held
  pub last_held : HoldsPair l v.ends (entry l.reviewers r last) (place_of l.proposers (entry l.reviewers r last) r)
  last_held = record { on_list = listed; in_front = rw there (omega (arith, rank)) }

  held_still : (q j : ℕ) → HoldsPair l (set v.ends r last) q j → HoldsPair l v.ends q j
  held_still q j h = record {
    on_list = h.on_list;
    in_front = let front = h.in_front in elim (eq_or_ne (entry l.proposers q j) r) [
      | inl e ↦ let now : get_or (set v.ends r last) (entry l.proposers q j) 0 ≡ last = ap (λ s. get_or (set v.ends r last) s 0) e ∙ get_or-set_same v.ends r last 0 in_ends in
          let was : get_or v.ends (entry l.proposers q j) 0 ≡ last + 1 = ap (λ s. get_or v.ends s 0) e ∙ end_is in omega arith
      | inr ne ↦ let same = get_or-set_other v.ends r (entry l.proposers q j) last 0 ne in omega arith
    ];
  }

  held_gone : ¬ HoldsPair l (set v.ends r last) (entry l.reviewers r last) (place_of l.proposers (entry l.reviewers r last) r)
  held_gone h = let front = rw there at h.in_front in let now = get_or-set_same v.ends r last 0 in_ends in omega (arith, rank)

  held_stays : (q j : ℕ) → HoldsPair l v.ends q j → (q ≢ entry l.reviewers r last) ⊎ (j ≢ place_of l.proposers (entry l.reviewers r last) r) → HoldsPair l (set v.ends r last) q j
  held_stays q j h other = record {
    on_list = h.on_list;
    in_front = let front = h.in_front in elim (eq_or_ne (entry l.proposers q j) r) [
      | inr ne ↦ let same = get_or-set_other v.ends r (entry l.proposers q j) last 0 ne in omega arith
      | inl e ↦ let now : get_or (set v.ends r last) (entry l.proposers q j) 0 ≡ last = ap (λ s. get_or (set v.ends r last) s 0) e ∙ get_or-set_same v.ends r last 0 in_ends in
          let was : get_or v.ends (entry l.proposers q j) 0 ≡ last + 1 = ap (λ s. get_or v.ends s 0) e ∙ end_is in
          let better : place_of l.reviewers (entry l.proposers q j) q ≢ last = not_last e in omega arith
    ];
  }
    where
      not_last : entry l.proposers q j ≡ r → place_of l.reviewers (entry l.proposers q j) q ≢ last
      not_last e is =
          let back : entry l.reviewers r (place_of l.reviewers r q) ≡ q = entry-place_of l.reviewers r q (rw e at (market.proposers.returned q j h.on_list)) in
          let rank_is : place_of l.reviewers r q ≡ last = rw e at is in
          let who_is : q ≡ entry l.reviewers r last = sym back ∙ ap (entry l.reviewers r) rank_is in
          let place_is : j ≡ place_of l.proposers (entry l.reviewers r last) r = sym (place_of-entry market.proposers q j h.on_list) ∙ ap (place_of l.proposers q) e ∙ ap (λ x. place_of l.proposers x r) who_is in
          elim other [ inl ne ↦ ne who_is | inr ne ↦ ne place_is ]

  -- with the end of r's list one less this pair alone is taken out
  pub taken_out : IsTakenOut l v.ends (set v.ends r last) (entry l.reviewers r last) (place_of l.proposers (entry l.reviewers r last) r + 1)
  taken_out = record { still_in = still; gone = gone; stays = stays }
    where
      still : (q j : ℕ) → IsNumberIn l (set v.ends r last) q j → IsNumberIn l v.ends q j
      still q j (inl e) = inl e
      still q j (inr w) = inr (record { place = w.place; number = w.number; held = held_still q w.place w.held })

      gone : ¬ IsNumberIn l (set v.ends r last) (entry l.reviewers r last) (place_of l.proposers (entry l.reviewers r last) r + 1)
      gone (inl (inl e)) = omega arith
      gone (inl (inr e)) = omega (arith, listed)
      gone (inr w) = let n = w.number in let same : w.place ≡ place_of l.proposers (entry l.reviewers r last) r = omega arith in held_gone (rw same at w.held)

      stays : (q j : ℕ) → IsNumberIn l v.ends q j → (q ≢ entry l.reviewers r last) ⊎ (j ≢ place_of l.proposers (entry l.reviewers r last) r + 1) → IsNumberIn l (set v.ends r last) q j
      stays q j (inl e) _ = inl e
      stays q j (inr w) other = inr (record { place = w.place; number = w.number; held = held_stays q w.place w.held (elim other [ inl ne ↦ inl ne | inr ne ↦ inr (λ e. ne (w.number ∙ ap (λ x. x + 1) e)) ]) })

  -- what the number of the pair follows, and what follows it
  pub last_before : Follows l v.ends (entry l.reviewers r last) (link_at v.starts v.before (entry l.reviewers r last) (place_of l.proposers (entry l.reviewers r last) r + 1)) (place_of l.proposers (entry l.reviewers r last) r + 1)
  last_before = made.before _ _ who_in_range (omega arith) (omega (arith, listed)) (held_in last_held)

  -- what follows the number of the pair
  pub last_next : Follows l v.ends (entry l.reviewers r last) (place_of l.proposers (entry l.reviewers r last) r + 1) (link_at v.starts v.next (entry l.reviewers r last) (place_of l.proposers (entry l.reviewers r last) r + 1))
  last_next = made.next _ _ who_in_range (omega (arith, listed)) (held_in last_held)

  -- the same where the pair's proposer and number are known by other names
  module _ {p k : ℕ} (is_p : p ≡ entry l.reviewers r last) (is_k : k ≡ place_of l.proposers (entry l.reviewers r last) r) where
    -- what it follows
    pub ahead : {b : ℕ} → b ≡ link_at v.starts v.before p (k + 1) → Follows l v.ends p b (place_of l.proposers p r + 1)
    ahead is_b = rw (is_b, is_k, is_p) last_before

    -- what follows it
    pub behind : {n : ℕ} → n ≡ link_at v.starts v.next p (k + 1) → Follows l v.ends p (place_of l.proposers p r + 1) n
    behind is_n = rw (is_n, is_k, is_p) last_next

    -- its number is among the links
    pub number_fits : get_or v.starts p 0 + (k + 1) < get_or v.starts (length l.proposers) 0
    number_fits = rw (is_k, is_p) (link_in_range made.starts (entry l.reviewers r last) (place_of l.proposers (entry l.reviewers r last) r + 1) who_in_range (omega (arith, listed)))

  module _ {p b n : ℕ} (is_p : p ≡ entry l.reviewers r last) (f : Follows l v.ends p b (place_of l.proposers p r + 1)) (g : Follows l v.ends p (place_of l.proposers p r + 1) n) where
    hp : p < length l.proposers
    hp = omega (arith, who_in_range, is_p)

    on_list : place_of l.proposers p r < length (row l.proposers p)
    on_list = rw is_p listed

    out : IsTakenOut l v.ends (set v.ends r last) p (place_of l.proposers p r + 1)
    out = rw is_p taken_out

    -- the link of the number before it is there
    pub before_in_range : get_or v.starts p 0 + b < length v.next
    before_in_range = let rising = f.rising in omega (arith, made.next_each, on_list, link_in_range made.starts p b hp (omega (arith, on_list)))

    -- the link of the number behind it is there
    pub next_in_range : get_or v.starts p 0 + n < length v.before
    next_in_range = omega (arith, made.before_each, link_in_range made.starts p n hp (omega (arith, in_le g.upper)))

    -- once these two are linked with each other, the links are those of the set without the pair
    pub unlinked : IsLinkedOf l (record { ends = set v.ends r last; starts = v.starts; next = set v.next (get_or v.starts p 0 + b) n; before = set v.before (get_or v.starts p 0 + n) b })
    unlinked = record {
      ends_each = length-set v.ends r last ∙ made.ends_each;
      ends_on_lists = λ s. elim (eq_or_ne s r) [
        | inl e ↦ rw (e, get_or-set_same v.ends r last 0 in_ends) (omega (arith, last_on_list))
        | inr ne ↦ rw (get_or-set_other v.ends r s last 0 ne) (made.ends_on_lists s)
      ];
      starts = made.starts;
      next_each = length-set v.next (get_or v.starts p 0 + b) n ∙ made.next_each;
      before_each = length-set v.before (get_or v.starts p 0 + n) b ∙ made.before_each;
      next = λ q j hq hj h. forward q j hq hj h (eq_or_ne q p) (eq_or_ne j b);
      before = λ q j hq some hj h. back q j hq some hj h (eq_or_ne q p) (eq_or_ne j n);
    }
      where
        b_le : b < length (row l.proposers p) + 2
        b_le = let rising = f.rising in omega (arith, on_list)

        n_le : n < length (row l.proposers p) + 2
        n_le = omega (arith, in_le g.upper)

        still_forward : (q j : ℕ) → q < length l.proposers → j ≤ length (row l.proposers q) → ((q ≡ p) × (j ≡ b) → ⊥) → link_at v.starts (set v.next (get_or v.starts p 0 + b) n) q j ≡ link_at v.starts v.next q j
        still_forward q j hq hj ne = get_or-set_other v.next (get_or v.starts p 0 + b) (get_or v.starts q 0 + j) n 0 (λ e. ne (apart made.starts q p j b hq hp (omega arith) b_le e))

        still_back : (q j : ℕ) → q < length l.proposers → j ≤ length (row l.proposers q) + 1 → ((q ≡ p) × (j ≡ n) → ⊥) → link_at v.starts (set v.before (get_or v.starts p 0 + n) b) q j ≡ link_at v.starts v.before q j
        still_back q j hq hj ne = get_or-set_other v.before (get_or v.starts p 0 + n) (get_or v.starts q 0 + j) b 0 (λ e. ne (apart made.starts q p j n hq hp (omega arith) n_le e))

        forward : (q j : ℕ) → q < length l.proposers → j ≤ length (row l.proposers q) → IsNumberIn l (set v.ends r last) q j → (q ≡ p) ⊎ (q ≢ p) → (j ≡ b) ⊎ (j ≢ b) → Follows l (set v.ends r last) q j (link_at v.starts (set v.next (get_or v.starts p 0 + b) n) q j)
        forward q j hq hj h (inl same) (inl e) = rw (same, e, get_or-set_same v.next (get_or v.starts p 0 + b) n 0 before_in_range) (follows_join out f g)
        forward q j hq hj h (inl same) (inr ne) =
            let old = made.next q j hq hj (out.still_in q j h) in
            let apart_x : link_at v.starts v.next q j ≢ place_of l.proposers p r + 1 = λ e. ne (followed_once (rw same at (rw e at old)) f) in
            rw (still_forward q j hq hj (λ w. ne w.1)) (follows_still out old h (out.stays q _ old.upper (inr apart_x)))
        forward q j hq hj h (inr ne) _ =
            let old = made.next q j hq hj (out.still_in q j h) in
            rw (still_forward q j hq hj (λ w. ne w.0)) (follows_still out old h (out.stays q _ old.upper (inl ne)))

        back : (q j : ℕ) → q < length l.proposers → 0 < j → j ≤ length (row l.proposers q) + 1 → IsNumberIn l (set v.ends r last) q j → (q ≡ p) ⊎ (q ≢ p) → (j ≡ n) ⊎ (j ≢ n) → Follows l (set v.ends r last) q (link_at v.starts (set v.before (get_or v.starts p 0 + n) b) q j) j
        back q j hq some hj h (inl same) (inl e) = rw (same, e, get_or-set_same v.before (get_or v.starts p 0 + n) b 0 next_in_range) (follows_join out f g)
        back q j hq some hj h (inl same) (inr ne) =
            let old = made.before q j hq some hj (out.still_in q j h) in
            let apart_x : link_at v.starts v.before q j ≢ place_of l.proposers p r + 1 = λ e. ne (follows_once (rw same at (rw e at old)) g) in
            rw (still_back q j hq hj (λ w. ne w.1)) (follows_still out old (out.stays q _ old.lower (inr apart_x)) h)
        back q j hq some hj h (inr ne) _ =
            let old = made.before q j hq some hj (out.still_in q j h) in
            rw (still_back q j hq hj (λ w. ne w.0)) (follows_still out old (out.stays q _ old.lower (inl ne)) h)
