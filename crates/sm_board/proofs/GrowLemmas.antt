-- How a set grows.
use Rattle.std.proofs.Common.{◌≡◌, ◌≢◌, ℕ, zero, suc, ◌+◌, ◌<◌, ◌≤◌, ◌++◌, ◌∷◌, inl, inr, arith, refl, sym, ap, ◌∙◌, subst, List, [], length, Bool, true, false, slice_index, Contains, set}
use Rattle.std.proofs.lemmas.Bool.{false≢true}
use Rattle.std.proofs.lemmas.List.{get_or_append_left, get_or_push, length_push, get_or-set_same, get_or-set_other, length-set, get_or_default}
use Rattle.std.proofs.lemmas.List.Elements.{Contains-append_left, Contains-push, Contains-push_cases}
use Rattle.sm_market.specs.Lists.{row}
use Rattle.sm_lists.proofs.Counting.{pigeonhole, eq_or_ne, lt_or_le}
use Rattle.sm_theory.specs.ClosedSets.{IsMember}
use Rattle.sm_theory.proofs.Bridge.Chain.{Decided-member}
use Rattle.sm_board.specs.Board.{Board, leave, stay_level, stay, IsInside, IsOpen, members_in}
use Rattle.sm_board.specs.Growing.{IsLogOf, LogFits, LogGrows, LogFalls, ClosedWhenDone, NeedMayEnter, ShutLeaveIsIn, LowLeaveIsIn, IdleStays, FreeKeepsLevels, BarredChangesLevels, AskedIsIn, RaiseFinds, RaiseIsPast, RaiseIsLast, RaiseIsBarred, LeastIsFound, AskedIsClosed}
use Rattle.sm_board.proofs.MemberLemmas.{entered, is_member-set_other, members_in-member, members_in-other, more_members}
use Rattle.sm_board.proofs.BoardLemmas.{members_are_first, past_is_shut, leave_is_in, level_stays, level_rises}

contained : (xs : List ℕ) (x : ℕ) (c : Contains xs x) → slice_index xs c.0 ≡ x
contained xs x c = sym (get_or_default xs c.0 x 0 c.1) ∙ c.2

-- what is in a list with one more at the end
at_old : (log : List ℕ) (x a : ℕ) → a < length log → slice_index (log ++ x ∷ []) a ≡ slice_index log a
at_old log x a h = get_or_append_left log (x ∷ []) 0 a h

at_new : (log : List ℕ) (x a : ℕ) → length log ≡ a → slice_index (log ++ x ∷ []) a ≡ x
at_new log x a e = get_or_push log x 0 a e

-- what enters was no member, so it stands in the log once
pub log_grows : LogGrows
log_grows b log C x w g out = record {
  one_each = length-set C x true ∙ w.one_each;
  in_range = λ a h. elim (lt_or_le a (length log)) [
    | inl k ↦ omega (arith, at_old log x a k, w.in_range a k)
    | inr k ↦ omega (arith, at_new log x a (omega (arith, length_push log x)))
  ];
  once = λ a c h k e. elim (lt_or_le c (length log)) [
    | inl m ↦ w.once a c h m (sym (at_old log x a (omega arith)) ∙ e ∙ at_old log x c m)
    | inr m ↦
        let old : a < length log = omega (arith, length_push log x) in
        out (subst (IsMember C) (sym (at_old log x a old) ∙ e ∙ at_new log x c (omega (arith, length_push log x))) (w.each a old))
  ];
  each = λ a h. elim (lt_or_le a (length log)) [
    | inl k ↦ subst (IsMember (set C x true)) (sym (at_old log x a k)) (is_member-set_other C x (slice_index log a) (λ e. out (subst (IsMember C) e (w.each a k))) ∙ w.each a k)
    | inr k ↦ subst (IsMember (set C x true)) (sym (at_new log x a (omega (arith, length_push log x)))) (entered C x (omega (arith, w.one_each)))
  ];
  all = λ y m. elim (eq_or_ne y x) [
    | inl e ↦ subst (Contains (log ++ x ∷ [])) (sym e) (Contains-push log x)
    | inr ne ↦ Contains-append_left log (x ∷ []) y (w.all y (sym (is_member-set_other C x y ne) ∙ m))
  ];
}

-- what leaves stands nowhere else in the log
pub log_falls : LogFalls
log_falls b log C x w = record {
  one_each = length-set C x false ∙ w.one_each;
  in_range = λ a h. omega (arith, at_old log x a h, w.in_range a (omega (arith, length_push log x)));
  once = λ a c h k e. w.once a c h (omega (arith, length_push log x)) (at_old log x a (omega arith) ∙ e ∙ sym (at_old log x c k));
  each = λ a h.
      let ne : slice_index log a ≢ x = λ e. w.once a (length log) h (omega (arith, length_push log x)) (at_old log x a h ∙ e ∙ sym (at_new log x (length log) refl)) in
      get_or-set_other C x (slice_index log a) false false ne ∙ subst (IsMember C) (at_old log x a h) (w.each a (omega (arith, length_push log x)));
  all = λ y m. elim (eq_or_ne y x) [
    | inl e ↦
        let last : slice_index (log ++ x ∷ []) (length log) < length b.needs = w.in_range (length log) (omega (arith, length_push log x)) in
        let in_it : x < length C = omega (arith, at_new log x (length log) refl, w.one_each) in
        absurd (false≢true (sym (get_or-set_same C x false false in_it) ∙ subst (IsMember (set C x false)) e m))
    | inr ne ↦ elim (Contains-push_cases log x y (w.all y (sym (get_or-set_other C x y false false ne) ∙ m))) [
      | inl c ↦ c
      | inr e ↦ absurd (ne (sym e))
    ]
  ];
}

log_short : (b : Board) (log : List ℕ) (C : List Bool) → IsLogOf b log C → length log ≤ length b.needs
log_short b log C w = elim (lt_or_le (length b.needs) (length log)) [
  | inl more ↦ let t = pigeonhole (length b.needs) (slice_index log) (λ i h. w.in_range i (omega arith)) in absurd (w.once t.one t.two t.order (omega (arith, t.within)) t.same)
  | inr le ↦ le
]

-- the entries of a log are numbers below a bound, all different
pub log_fits : LogFits
log_fits b log C w = (log_short b log C w, λ x g out. omega (arith, log_short b (log ++ x ∷ []) (set C x true) (log_grows b log C x w g out), length_push log x))

-- each member stands in the log, and its predecessors are members
pub closed_when_done : ClosedWhenDone
closed_when_done b log C w done = record {
  one_each = w.one_each;
  closed = λ i j m need.
      let c = w.all j m in
      done c.0 i c.1 (subst (λ k. Contains (row b.needs k) i) (sym (contained log j c)) need);
}

-- one more that is in the other set
pub inside_more : (C D : List Bool) (y : ℕ) → IsInside C D → IsMember D y → IsInside (set C y true) D
inside_more C D y inside m k x = elim (eq_or_ne k y) [
  | inl e ↦ subst (IsMember D) (sym e) m
  | inr ne ↦ inside k (sym (is_member-set_other C y k ne) ∙ x)
]

-- a closed set has what its members need
pub need_may_enter : NeedMayEnter
need_may_enter b C D j y inside d m need less = inside_more C D y inside (d.closed y j (inside j m) need)

-- the stay in a set that fits is open, so it is another one
pub shut_leave_is_in : ShutLeaveIsIn
shut_leave_is_in b g C D p h inside d less shut = leave_is_in b C D p h inside d.closed (λ e. shut (subst (IsOpen g p) (sym e) (d.opens p less)))

-- the level there is another, so the stay is
pub low_leave_is_in : LowLeaveIsIn
low_leave_is_in b C D p wanted h inside d low high = leave_is_in b C D p h inside d (λ e. let same = ap (stay_level b p) e in omega arith)

same_members : (C D : List Bool) (xs : List ℕ) → IsInside C D → ((a : ℕ) → a < length xs → IsMember D (slice_index xs a) → IsMember C (slice_index xs a)) → members_in D xs ≡ members_in C xs
same_members C D [] inside old = refl
same_members C D (x ∷ xs) inside old = elim (Decided-member D x) [
  | inl m ↦ members_in-member D x xs m ∙ ap suc (same_members C D xs inside (λ a h. old (suc a) (omega arith))) ∙ sym (members_in-member C x xs (old 0 (omega arith) m))
  | inr out ↦ members_in-other D x xs out ∙ same_members C D xs inside (λ a h. old (suc a) (omega arith)) ∙ sym (members_in-other C x xs (λ m. out (inside x m)))
]

-- no new member is counted
pub idle_stays : IdleStays
idle_stays b C D p h inside idle = same_members C D (row b.leaves p) inside (λ a less m. elim (Decided-member C (leave b p a)) [
  | inl k ↦ k
  | inr out ↦ absurd (idle (leave b p a) m out (h.there p (leave b p a) (a, less, get_or_default (row b.leaves p) a (leave b p a) 0 less)))
])

-- by `level_stays` at each position before `bar`
pub free_keeps_levels : FreeKeepsLevels
free_keeps_levels b order C D bar h o few inside c d free j less =
    sym (level_stays b C D (slice_index order j) h inside c d (o.in_range j (omega arith)) (λ x m out. free x j m out less))

-- by `level_rises` at that position
pub barred_changes_levels : BarredChangesLevels
barred_changes_levels b order C D bar x j h o few inside c d new out less ch same =
    let up = level_rises b C D (slice_index order j) x h inside c d (o.in_range j (omega arith)) new out ch in
    omega (arith, same j less)

-- by the order of their entering: what ended the stays before was held already
pub asked_is_in : AskedIsIn
asked_is_in b g log who at D h askers shut d a less = fuel (suc a) a (omega arith) less
  where
    -- all before a are in: p is at the stay or behind it
    step : (a : ℕ) → a < length log → ((c : ℕ) → c < a → IsMember D (slice_index log c)) → IsMember D (slice_index log a)
    step a less before = askers.below a less D d.closed ((members_are_first b D p j h d.closed (askers.within a less)).1 (elim (lt_or_le j (stay b D p)) [
      | inl k ↦ k
      | inr le ↦ absurd (elim (eq_or_ne (stay b D p) j) [
        | inl e ↦ shut a less (subst (IsOpen g p) e (d.opens p (askers.someone a less)))
        | inr ne ↦
            let s : ℕ = stay b D p in
            let w = askers.come a s less (omega arith) in
            let m : IsMember D (leave b p s) = subst (IsMember D) w.2 (before w.0 w.1) in
            let k = (members_are_first b D p s h d.closed (omega (arith, askers.within a less))).0 m in
            omega arith
      ])
    ]))
      where
        p : ℕ
        p = slice_index who a

        j : ℕ
        j = slice_index at a

    fuel : (n a : ℕ) → a < n → a < length log → IsMember D (slice_index log a)
    fuel zero a x less = absurd (omega arith)
    fuel (suc n) a x less = step a less (λ c y. fuel n c (omega arith) (omega arith))

-- all that is brought in is in each set that is sought, so what is sought and found is the least
pub raise_finds : RaiseFinds
raise_finds b g order C now p wanted bar h o few c forced w free = record {
  fits = w.fits;
  more = w.more;
  reaches = w.reaches;
  same = free_keeps_levels b order C now bar h o few w.more c w.fits.closed free;
  least = λ D f more reaches. forced D (record { fits = f; more = more; reaches = reaches });
}

-- by `past_is_shut`
pub raise_is_past : RaiseIsPast
raise_is_past b g order C now p wanted bar q h forced less past D f more reaches same =
    past_is_shut b g now D q h (forced D (record { fits = f; more = more; reaches = reaches })) past (f.opens q less)

-- a set that is sought would need a later stay of p, and none is open
pub raise_is_last : RaiseIsLast
raise_is_last b g order C now p wanted bar h forced less low last D f more reaches same =
    let inside : IsInside now D = forced D (record { fits = f; more = more; reaches = reaches }) in
    let grows = more_members now D (row b.leaves p) inside in
    let w = f.opens p less in
    elim (eq_or_ne (stay b now p) (stay b D p)) [
      | inl e ↦ omega (arith, ap (stay_level b p) e)
      | inr ne ↦ omega (arith, w.before)
    ]

-- by `barred_changes_levels`
pub raise_is_barred : RaiseIsBarred
raise_is_barred b g order C p wanted bar x j h o few c new out less ch D f more reaches same =
    barred_changes_levels b order C D bar x j h o few more c f.closed (new D (record { fits = f; more = more; reaches = reaches })) out less ch same

-- it fits, and is inside each that does
pub least_is_found : LeastIsFound
least_is_found b g C c opens inside = record { one = record { closed = c; opens = opens }; least = inside }

-- at the first open asker a new one begins, and all before it is whole
pub asked_is_closed : AskedIsClosed
asked_is_closed b g log who at zero whole less shut now a i x need = absurd (omega arith)
asked_is_closed b g log who at (suc c) whole less shut now a i x need =
    let e : suc c ≡ c + 1 = omega arith in
    let w = whole c (omega arith) (λ same. shut c (omega arith)
    (subst (λ j. IsOpen g (slice_index who c) j) (sym (same.1 ∙ ap (slice_index at) (sym e)))
    (subst (λ q. IsOpen g q (slice_index at (suc c))) (sym (same.0 ∙ ap (slice_index who) (sym e))) now))) a i (omega arith) need in
    (w.0, omega (arith, w.1), w.2)
