-- What is held: a rotation enters, and the last one leaves.
use Rattle.std.proofs.Common.{◌≡◌, ◌≢◌, ℕ, zero, suc, ◌+◌, ◌-◌, ◌<◌, ◌≤◌, ◌⊎◌, ◌++◌, ◌∷◌, inl, inr, arith, refl, sym, ap, ◌∙◌, subst, List, [], length, Bool, true, false, slice_index, set, take, Contains}
use Rattle.std.proofs.lemmas.Bool.{false≢true}
use Rattle.std.proofs.lemmas.List.{get_or-set_same, get_or-set_other, length-set, get_or_default, set-set, set-get_or, length_push, get_or_push, take_more, length-take}
use Rattle.sm_market.specs.Lists.{row}
use Rattle.sm_lists.proofs.Counting.{eq_or_ne, lt_or_le}
use Rattle.sm_theory.specs.ClosedSets.{IsMember}
use Rattle.sm_theory.proofs.Bridge.Chain.{Decided-member}
use Rattle.sm_board.specs.Board.{Board, IsBoard, members_in, stay, level, stay_level, IsInside}
use Rattle.sm_board.specs.Growing.{IsLogOf}
use Rattle.sm_board.specs.Courses.{Held, IsHeld, IsMovedOn, IsMovedBack}
use Rattle.sm_board.proofs.MemberLemmas.{members_few, members_in-member, members_in-other}
use Rattle.sm_board.proofs.BoardLemmas.{enter_ends_stays}
use Rattle.sm_board.proofs.GrowLemmas.{log_grows, log_falls}

-- a proposer is on a list, or isn't
pub on_or_off : (xs : List ℕ) (p : ℕ) → ((a : ℕ) × (a < length xs) × (slice_index xs a ≡ p)) ⊎ ((a : ℕ) → a < length xs → slice_index xs a ≢ p)
on_or_off [] p = inr (λ a x. absurd (omega arith))
on_or_off (x ∷ xs) p = elim (eq_or_ne x p) [
  | inl e ↦ inl (0, omega arith, e)
  | inr ne ↦ elim (on_or_off xs p) [
    | inl w ↦ inl (suc w.0, omega (arith, w.1), w.2)
    | inr none ↦ inr (λ a h. behind ne none a h)
  ]
]
  where
    behind : x ≢ p → ((a : ℕ) → a < length xs → slice_index xs a ≢ p) → (a : ℕ) → a < length (x ∷ xs) → slice_index (x ∷ xs) a ≢ p
    behind ne none zero h = ne
    behind ne none (suc a) h = none a (omega arith)

-- who stands at a place of a list is on it
pub contains_at : (xs : List ℕ) (a p : ℕ) → a < length xs → slice_index xs a ≡ p → Contains xs p
contains_at xs a p h e = (a, h, get_or_default xs a p 0 h ∙ e)

-- who is on a list stands at some place
pub contained_at : (xs : List ℕ) (p : ℕ) (c : Contains xs p) → slice_index xs c.0 ≡ p
contained_at xs p c = sym (get_or_default xs c.0 p 0 c.1) ∙ c.2

-- a member on a list is counted
some_member : (C : List Bool) (xs : List ℕ) (a : ℕ) → a < length xs → IsMember C (slice_index xs a) → 0 < members_in C xs
some_member C [] a h m = absurd (omega arith)
some_member C (x ∷ xs) zero h m = omega (arith, members_in-member C x xs m)
some_member C (x ∷ xs) (suc a) h m = elim (Decided-member C x) [
  | inl k ↦ omega (arith, members_in-member C x xs k)
  | inr out ↦ omega (arith, members_in-other C x xs out, some_member C xs a (omega arith) m)
]

-- a mover is a proposer of the board
pub mover_in : {b : Board} → IsBoard b → (x a : ℕ) → a < length (row b.movers x) → slice_index (row b.movers x) a < length b.leaves
mover_in {b} h x a less = elim (lt_or_le p (length b.leaves)) [
  | inl k ↦ k
  | inr past ↦
      let c = h.back p x (contains_at (row b.movers x) a p less refl) in
      absurd (omega (arith, c.1, ap length (get_or_past_row b.leaves p past)))
]
  where
    p : ℕ
    p = slice_index (row b.movers x) a

    get_or_past_row : (rows : List (List ℕ)) (q : ℕ) → length rows ≤ q → row rows q ≡ []
    get_or_past_row [] q h = refl
    get_or_past_row (r ∷ rs) zero h = absurd (omega arith)
    get_or_past_row (r ∷ rs) (suc q) h = get_or_past_row rs q (omega arith)

-- one more goes on
pub moved_on_more : {b : Board} {at now later then : List ℕ} (x i L : ℕ) → IsBoard b → i < length (row b.movers x) → let p = slice_index (row b.movers x) i in p < length at → p < length now → IsMovedOn b (row b.movers x) i at now later then → L ≡ stay_level b p (slice_index later p + 1) → IsMovedOn b (row b.movers x) (i + 1) at now (set later p (slice_index later p + 1)) (set then p L)
moved_on_more {b} {at} {now} {later} {then} x i L h less at_in now_in w e = record {
  at_each = length-set later p (slice_index later p + 1) ∙ w.at_each;
  now_each = length-set then p L ∙ w.now_each;
  gone = λ a k. elim (eq_or_ne a i) [
    | inl same ↦ subst Gone (ap (slice_index (row b.movers x)) (sym same)) (
      get_or-set_same later p (slice_index later p + 1) 0 (omega (arith, w.at_each)) ∙ ap (λ n. n + 1) own.0,
      get_or-set_same then p L 0 (omega (arith, w.now_each)) ∙ e ∙ ap (λ n. stay_level b p (n + 1)) own.0,
    )
    | inr other ↦
        let ne : slice_index (row b.movers x) a ≢ p = h.movers_once x a i (omega arith) less in
        let g = w.gone a (omega arith) in
        (get_or-set_other later p (slice_index (row b.movers x) a) (slice_index later p + 1) 0 ne ∙ g.0, get_or-set_other then p (slice_index (row b.movers x) a) L 0 ne ∙ g.1)
  ];
  stays = λ q out.
      let ne : q ≢ p = λ same. out i (omega arith) (sym same) in
      let g = w.stays q (λ a k. out a (omega arith)) in
      (get_or-set_other later p q (slice_index later p + 1) 0 ne ∙ g.0, get_or-set_other then p q L 0 ne ∙ g.1);
}
  where
    p : ℕ
    p = slice_index (row b.movers x) i

    Gone : ℕ → Type 0
    Gone q = (slice_index (set later p (slice_index later p + 1)) q ≡ slice_index at q + 1) × (slice_index (set then p L) q ≡ stay_level b q (slice_index at q + 1))

    own : (slice_index later p ≡ slice_index at p) × (slice_index then p ≡ slice_index now p)
    own = w.stays p (λ a k. h.movers_once x a i k less)

-- one more proposer of the rotation goes back to the stay before
pub moved_back_more : {b : Board} {at now later then : List ℕ} (x i L : ℕ) → IsBoard b → i < length (row b.movers x) → let p = slice_index (row b.movers x) i in p < length at → p < length now → 0 < slice_index at p → IsMovedBack b (row b.movers x) i at now later then → L ≡ stay_level b p (slice_index later p - 1) → IsMovedBack b (row b.movers x) (i + 1) at now (set later p (slice_index later p - 1)) (set then p L)
moved_back_more {b} {at} {now} {later} {then} x i L h less at_in now_in some w e = record {
  at_each = length-set later p (slice_index later p - 1) ∙ w.at_each;
  now_each = length-set then p L ∙ w.now_each;
  gone = λ a k. elim (eq_or_ne a i) [
    | inl same ↦
        let new = get_or-set_same later p (slice_index later p - 1) 0 (omega (arith, w.at_each)) in
        let levels = get_or-set_same then p L 0 (omega (arith, w.now_each)) in
        subst Gone (ap (slice_index (row b.movers x)) (sym same)) (
          omega (arith, own.0),
          levels ∙ e ∙ ap (stay_level b p) (sym new),
        )
    | inr other ↦
        let ne : slice_index (row b.movers x) a ≢ p = h.movers_once x a i (omega arith) less in
        let g = w.gone a (omega arith) in
        let same = get_or-set_other later p (slice_index (row b.movers x) a) (slice_index later p - 1) 0 ne in
        (omega (arith, g.0), get_or-set_other then p (slice_index (row b.movers x) a) L 0 ne ∙ g.1 ∙ ap (stay_level b (slice_index (row b.movers x) a)) (sym same))
  ];
  stays = λ q out.
      let ne : q ≢ p = λ same. out i (omega arith) (sym same) in
      let g = w.stays q (λ a k. out a (omega arith)) in
      (get_or-set_other later p q (slice_index later p - 1) 0 ne ∙ g.0, get_or-set_other then p q L 0 ne ∙ g.1);
}
  where
    p : ℕ
    p = slice_index (row b.movers x) i

    Gone : ℕ → Type 0
    Gone q = (slice_index (set later p (slice_index later p - 1)) q + 1 ≡ slice_index at q) × (slice_index (set then p L) q ≡ stay_level b q (slice_index (set later p (slice_index later p - 1)) q))

    own : (slice_index later p ≡ slice_index at p) × (slice_index then p ≡ slice_index now p)
    own = w.stays p (λ a k. h.movers_once x a i k less)

-- a rotation that isn't held ends the stays of those that it moves, and each of them has another stay behind
pub room_on : {b : Board} → IsBoard b → (C : List Bool) (x : ℕ) → x < length C → (IsMember C x → ⊥) → (a : ℕ) → a < length (row b.movers x) → stay b C (slice_index (row b.movers x) a) < length (row b.leaves (slice_index (row b.movers x) a))
room_on {b} h C x less out a k =
    let p : ℕ = slice_index (row b.movers x) a in
    let e = (enter_ends_stays b C p x h less out).0 (contains_at (row b.movers x) a p k refl) in
    omega (arith, members_few (set C x true) (row b.leaves p))

-- what is held once a rotation has entered
pub enter_held : {b : Board} (h : Held) (x : ℕ) (later then : List ℕ) → IsBoard b → IsHeld b h → x < length b.needs → (IsMember h.set x → ⊥) → IsMovedOn b (row b.movers x) (length (row b.movers x)) h.stays h.levels later then → IsHeld b (record { set = set h.set x true; log = h.log ++ x ∷ []; room = h.room; stays = later; levels = then })
enter_held {b} h x later then ground w less out m = record {
  logged = log_grows b h.log h.set x w.logged less out;
  room = w.room;
  at_each = m.at_each ∙ w.at_each;
  now_each = m.now_each ∙ w.now_each;
  at_is = λ p k. (each p k).0;
  now_is = λ p k. (each p k).1;
}
  where
    in_it : x < length h.set
    in_it = omega (arith, w.logged.one_each)

    each : (p : ℕ) → p < length b.leaves → (slice_index later p ≡ stay b (set h.set x true) p) × (slice_index then p ≡ level b (set h.set x true) p)
    each p k = elim (on_or_off (row b.movers x) p) [
      | inl c ↦
          let g = subst (λ q. (slice_index later q ≡ slice_index h.stays q + 1) × (slice_index then q ≡ stay_level b q (slice_index h.stays q + 1))) c.2 (m.gone c.0 c.1) in
          let e = (enter_ends_stays b h.set p x ground in_it out).0 (contains_at (row b.movers x) c.0 p c.1 c.2) in
          let up : slice_index h.stays p + 1 ≡ stay b (set h.set x true) p = omega (arith, w.at_is p k) in
          (g.0 ∙ up, g.1 ∙ ap (stay_level b p) up)
      | inr none ↦
          let g = m.stays p none in
          let e = (enter_ends_stays b h.set p x ground in_it out).1 (λ c. none c.0 c.1 (contained_at (row b.movers x) p c)) in
          (g.0 ∙ w.at_is p k ∙ sym e, g.1 ∙ w.now_is p k ∙ ap (stay_level b p) (sym e))
    ]

-- what was held before its last rotation entered
pub leave_held : {b : Board} (h : Held) (x : ℕ) (log later then : List ℕ) → IsBoard b → IsHeld b h → h.log ≡ log ++ x ∷ [] → IsMovedBack b (row b.movers x) (length (row b.movers x)) h.stays h.levels later then → IsHeld b (record { set = set h.set x false; log = log; room = h.room; stays = later; levels = then })
leave_held {b} h x log later then ground w last m = record {
  logged = before;
  room = w.room;
  at_each = m.at_each ∙ w.at_each;
  now_each = m.now_each ∙ w.now_each;
  at_is = λ p k. (each p k).0;
  now_is = λ p k. (each p k).1;
}
  where
    logged : IsLogOf b (log ++ x ∷ []) h.set
    logged = subst (λ l. IsLogOf b l h.set) last w.logged

    before : IsLogOf b log (set h.set x false)
    before = log_falls b log h.set x logged

    small : x < length h.set
    small = omega (arith, logged.one_each, logged.in_range (length log) (omega (arith, length_push log x)), get_or_push log x 0 (length log) refl)

    there : IsMember h.set x
    there = subst (IsMember h.set) (get_or_push log x 0 (length log) refl) (logged.each (length log) (omega (arith, length_push log x)))

    back : set (set h.set x false) x true ≡ h.set
    back = set-set h.set x false true ∙ ap (set h.set x) (sym there) ∙ set-get_or h.set x false

    out : IsMember (set h.set x false) x → ⊥
    out e = false≢true (sym (get_or-set_same h.set x false false small) ∙ e)

    in_it : x < length (set h.set x false)
    in_it = omega (arith, small, length-set h.set x false)

    each : (p : ℕ) → p < length b.leaves → (slice_index later p ≡ stay b (set h.set x false) p) × (slice_index then p ≡ level b (set h.set x false) p)
    each p k = elim (on_or_off (row b.movers x) p) [
      | inl c ↦
          let g = subst (λ q. (slice_index later q + 1 ≡ slice_index h.stays q) × (slice_index then q ≡ stay_level b q (slice_index later q))) c.2 (m.gone c.0 c.1) in
          let e = (enter_ends_stays b (set h.set x false) p x ground in_it out).0 (contains_at (row b.movers x) c.0 p c.1 c.2) in
          let same : stay b (set (set h.set x false) x true) p ≡ stay b h.set p = ap (λ C. stay b C p) back in
          let down : slice_index later p ≡ stay b (set h.set x false) p = omega (arith, w.at_is p k, g.0, e, same) in
          (down, g.1 ∙ ap (stay_level b p) down)
      | inr none ↦
          let g = m.stays p none in
          let e = (enter_ends_stays b (set h.set x false) p x ground in_it out).1 (λ c. none c.0 c.1 (contained_at (row b.movers x) p c)) in
          let same : stay b (set h.set x false) p ≡ stay b h.set p = sym e ∙ ap (λ C. stay b C p) back in
          (g.0 ∙ w.at_is p k ∙ sym same, g.1 ∙ w.now_is p k ∙ ap (stay_level b p) (sym same))
    ]

-- each whom a held rotation moves has a stay before
pub room_back : {b : Board} → IsBoard b → (h : Held) → IsHeld b h → (x : ℕ) → IsMember h.set x → (a : ℕ) → a < length (row b.movers x) → (0 < slice_index h.stays (slice_index (row b.movers x) a)) × (slice_index h.stays (slice_index (row b.movers x) a) ≤ length (row b.leaves (slice_index (row b.movers x) a)))
room_back {b} ground h w x m a k = (omega (arith, positive, w.at_is p in_it), omega (arith, members_few h.set (row b.leaves p), w.at_is p in_it))
  where
    p : ℕ
    p = slice_index (row b.movers x) a

    in_it : p < length b.leaves
    in_it = mover_in ground x a k

    positive : 0 < stay b h.set p
    positive = let c = ground.back p x (contains_at (row b.movers x) a p k refl) in
        some_member h.set (row b.leaves p) c.0 c.1 (subst (IsMember h.set) (sym (contained_at (row b.leaves p) x c)) m)

-- whoever is held can be read again: two sets of one log are the same
pub one_log : {b : Board} {log : List ℕ} {C D : List Bool} → IsLogOf b log C → IsLogOf b log D → IsInside C D
one_log {b} {log} {C} {D} c d x m = let w = c.all x m in subst (IsMember D) (contained_at log x w) (d.each w.0 w.1)

-- the same is held where each part is the same
pub held_is : {b : Board} {s s' : List Bool} {l l' : List ℕ} {r r' : ℕ} {a a' n n' : List ℕ} → s' ≡ s → l' ≡ l → r' ≡ r → a' ≡ a → n' ≡ n → IsHeld b (record { set = s; log = l; room = r; stays = a; levels = n }) → IsHeld b (record { set = s'; log = l'; room = r'; stays = a'; levels = n' })
held_is {b} {s} {s'} {l} {l'} {r} {r'} {a} {a'} {n} {n'} es el er ea en w =
    subst (λ x. IsHeld b (record { set = x; log = l'; room = r'; stays = a'; levels = n' })) (sym es)
    (subst (λ x. IsHeld b (record { set = s; log = x; room = r'; stays = a'; levels = n' })) (sym el)
    (subst (λ x. IsHeld b (record { set = s; log = l; room = x; stays = a'; levels = n' })) (sym er)
    (subst (λ x. IsHeld b (record { set = s; log = l; room = r; stays = x; levels = n' })) (sym ea)
    (subst (λ x. IsHeld b (record { set = s; log = l; room = r; stays = a; levels = x })) (sym en) w))))

-- the last one that entered, and those before
pub last_entered : (items : List ℕ) (count : ℕ) → 0 < count → count ≤ length items → take count items ≡ take (count - 1) items ++ slice_index items (count - 1) ∷ []
last_entered items count some few =
    let e : count - 1 + 1 ≡ count = omega arith in
    sym (ap (λ n. take n items) e) ∙ take_more items (count - 1) 0 (omega arith)

-- how many are held, as the log has them
pub count_is : (items : List ℕ) (count : ℕ) (log : List ℕ) → count ≤ length items → take count items ≡ log → length log ≡ count
count_is items count log few e = omega (arith, length-take count items, ap length e)

-- the last of the log is held
pub last_member : {b : Board} {h : Held} (log : List ℕ) (x : ℕ) → IsHeld b h → h.log ≡ log ++ x ∷ [] → IsMember h.set x
last_member {b} {h} log x w e =
    let logged : IsLogOf b (log ++ x ∷ []) h.set = subst (λ l. IsLogOf b l h.set) e w.logged in
    subst (IsMember h.set) (get_or_push log x 0 (length log) refl) (logged.each (length log) (omega (arith, length_push log x)))
