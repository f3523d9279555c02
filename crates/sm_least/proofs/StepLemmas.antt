-- Steps by which what is held grows.
use Rattle.std.proofs.Common.{◌≡◌, ℕ, ◌+◌, ◌<◌, ◌≤◌, inl, inr, arith, refl, sym, ap, ◌∙◌, subst, List, [], length, Bool, true, slice_index, take, Contains}
use Rattle.std.proofs.lemmas.Bool.{false≢true}
use Rattle.std.proofs.lemmas.List.{take-take, get_or-take, take_all}
use Rattle.sm_market.specs.Lists.{row}
use Rattle.sm_lists.proofs.Counting.{eq_or_ne, lt_or_le}
use Rattle.sm_theory.specs.ClosedSets.{IsMember}
use Rattle.sm_theory.proofs.Bridge.Chain.{Decided-member}
use Rattle.sm_theory.specs.Vectors.{IsOrder}
use Rattle.sm_board.specs.Board.{Board, IsBoard, stay, stay_level, level, leave, is_shut, IsClosedIn, IsInside, Gates, IsOpen, Fits}
use Rattle.sm_board.specs.Growing.{AreNeedsIn}
use Rattle.sm_board.specs.Walks.{IsRaised, IsNotRaised}
use Rattle.sm_board.specs.Courses.{Course, IsCourse, Held, IsHeld, HoldsMore, IsBroken, Breaks}
use Rattle.sm_least.specs.Steps.{IsHigh, IsIdle, AreOpened, AreSettled}
use Rattle.sm_board.proofs.MemberLemmas.{more_members}
use Rattle.sm_board.proofs.BoardLemmas.{members_are_first}
use Rattle.sm_board.proofs.GrowLemmas.{idle_stays, shut_leave_is_in, low_leave_is_in, log_fits, raise_finds, barred_changes_levels}
use Rattle.sm_board.proofs.HeldLemmas.{contained_at, contains_at, on_or_off}

-- nothing has entered
pub grows_same : {t : Course} {h : Held} (bar : ℕ) → IsHeld t.board h → HoldsMore t bar h h
grows_same {t} {h} bar w = record {
  held = w;
  front = take_all (length h.log) h.log (omega arith);
  longer = omega arith;
  more = λ k m. m;
  free = λ x j m out less ch. out m;
}

-- more enters, and then more
pub grows_more : {t : Course} {bar : ℕ} {h k m : Held} → HoldsMore t bar h k → HoldsMore t bar k m → HoldsMore t bar h m
grows_more {t} {bar} {h} {k} {m} g w = record {
  held = w.held;
  front = sym (take-take (length h.log) (length k.log) m.log g.longer) ∙ ap (take (length h.log)) w.front ∙ g.front;
  longer = omega (arith, g.longer, w.longer);
  more = λ x i. w.more x (g.more x i);
  free = λ x j i out less. elim (Decided-member k.set x) [
    | inl in_it ↦ g.free x j in_it out less
    | inr new ↦ w.free x j i new less
  ];
}

-- what breaks the bar for a greater set breaks it for a smaller one
pub broken_back : {t : Course} {bar : ℕ} {C D now : List Bool} → IsInside C now → IsBroken t bar now D → IsBroken t bar C D
broken_back inside w = record {
  rotation = w.rotation;
  member = w.member;
  new = λ m. w.new (inside w.rotation m);
  position = w.position;
  early = w.early;
  changes = w.changes;
}

-- a member of the set stands in the log, a new one behind what was held
pub new_behind : {t : Course} {bar : ℕ} {h k : Held} → IsHeld t.board h → HoldsMore t bar h k → (x : ℕ) → IsMember k.set x → (IsMember h.set x → ⊥) → (c : ℕ) × (length h.log ≤ c) × (c < length k.log) × (slice_index k.log c ≡ x)
new_behind {t} {bar} {h} {k} w g x m out =
    let c = g.held.logged.all x m in
    let is = contained_at k.log x c in
    elim (lt_or_le c.0 (length h.log)) [
      | inl old ↦
          let e : slice_index h.log c.0 ≡ x = ap (λ xs. slice_index xs c.0) (sym g.front) ∙ get_or-take (length h.log) k.log c.0 0 old ∙ is in
          absurd (out (subst (IsMember h.set) e (w.logged.each c.0 old)))
      | inr new ↦ (c.0, new, c.1, is)
    ]

-- the old part of the log
pub old_log : {t : Course} {bar : ℕ} {h k : Held} → HoldsMore t bar h k → (c : ℕ) → c < length h.log → slice_index k.log c ≡ slice_index h.log c
old_log {t} {bar} {h} {k} g c less = sym (get_or-take (length h.log) k.log c 0 less) ∙ ap (λ xs. slice_index xs c) g.front

-- whom nothing new moves keeps its stay
pub idle_keeps : {t : Course} {bar : ℕ} {h k : Held} → IsBoard t.board → IsHeld t.board h → HoldsMore t bar h k → (p : ℕ) → IsIdle t.board k.log (length h.log) p → stay t.board k.set p ≡ stay t.board h.set p
idle_keeps {t} {bar} {h} {k} ground w g p idle = idle_stays t.board h.set k.set p ground g.more (λ x m out moves.
    let c = new_behind w g x m out in
    idle c.0 c.1 c.2 (subst (λ y. Contains (row t.board.movers y) p) (sym c.3) moves))

-- idle in the longer log is idle in the shorter one
pub idle_before : {t : Course} {bar : ℕ} {h k : Held} → HoldsMore t bar h k → (from p : ℕ) → IsIdle t.board k.log from p → IsIdle t.board h.log from p
idle_before {t} {bar} {h} {k} g from p idle c le less moves = idle c le (omega (arith, g.longer)) (subst (λ y. Contains (row t.board.movers y) p) (sym (old_log g c less)) moves)

-- what stands on a list that is read
pub read_in : {items xs : List ℕ} (i : ℕ) → items ≡ xs → i < length items → Contains xs (slice_index items i)
read_in {items} {xs} i e less = subst (λ ys. Contains ys (slice_index items i)) e (contains_at items i (slice_index items i) less refl)

-- one more of those read
pub one_more : {items xs : List ℕ} (P : ℕ → Type 0) (i : ℕ) → items ≡ xs → P (slice_index items i) → ((a : ℕ) → a < i → P (slice_index xs a)) → (a : ℕ) → a < i + 1 → P (slice_index xs a)
one_more {items} {xs} P i e own before a less = elim (eq_or_ne a i) [
  | inl same ↦ subst (λ k. P (slice_index xs k)) (sym same) (subst (λ ys. P (slice_index ys i)) e own)
  | inr ne ↦ before a (omega arith)
]

-- the predecessors of one more of the log are members
pub needs_more : {t : Course} {bar : ℕ} {h k : Held} (place x : ℕ) → HoldsMore t bar h k → place < length h.log → AreNeedsIn t.board h.set h.log place → x ≡ slice_index h.log place → ((i : ℕ) → Contains (row t.board.needs x) i → IsMember k.set i) → AreNeedsIn t.board k.set k.log (place + 1)
needs_more {t} {bar} {h} {k} place x g less before e own a i few need = elim (eq_or_ne a place) [
  | inl same ↦ own i (subst (λ y. Contains (row t.board.needs y) i) (ap (slice_index k.log) same ∙ old_log g place less ∙ sym e) need)
  | inr ne ↦ g.more i (before a i (omega arith) (subst (λ y. Contains (row t.board.needs y) i) (old_log g a (omega arith)) need))
]

-- what ends a proposer's stay isn't held
pub leave_fresh : {b : Board} {h : Held} (p a x : ℕ) → IsBoard b → IsHeld b h → IsClosedIn b h.set → p < length b.leaves → a ≡ slice_index h.stays p → a < length (row b.leaves p) → x ≡ leave b p a → IsMember h.set x → ⊥
leave_fresh {b} {h} p a x ground w closed less e few is m =
    let k = (members_are_first b h.set p a ground closed few).0 (subst (IsMember h.set) is m) in
    omega (arith, w.at_is p less)

-- where a proposer's stay is shut, what ends it is in each set that fits
pub shut_leave : {b : Board} {g : Gates} {h : Held} {D : List Bool} (p a x : ℕ) → IsBoard b → IsHeld b h → p < length b.leaves → a ≡ slice_index h.stays p → is_shut g p a ≡ true → x ≡ leave b p a → Fits b g D → IsInside h.set D → IsMember D x
shut_leave {b} {g} {h} {D} p a x ground w less e shut is fits inside =
    let at : a ≡ stay b h.set p = e ∙ w.at_is p less in
    subst (IsMember D) (sym (is ∙ ap (leave b p) at)) (shut_leave_is_in b g h.set D p ground inside fits less (λ o. false≢true (sym o.unshut ∙ ap (is_shut g p) (sym at) ∙ shut)))

-- and where that is the last one before the end of the open ones, none fits
pub shut_last : {b : Board} {g : Gates} {h : Held} {D : List Bool} (p a : ℕ) → IsBoard b → IsHeld b h → p < length b.leaves → a ≡ slice_index h.stays p → is_shut g p a ≡ true → slice_index g.until p ≤ a + 1 → Fits b g D → IsInside h.set D → ⊥
shut_last {b} {g} {h} {D} p a ground w less e shut last fits inside =
    let at : a ≡ stay b h.set p = e ∙ w.at_is p less in
    let more = more_members h.set D (row b.leaves p) inside in
    let o = fits.opens p less in
    elim (eq_or_ne a (stay b D p)) [
      | inl same ↦ false≢true (sym o.unshut ∙ ap (is_shut g p) (sym same) ∙ shut)
      | inr ne ↦ omega (arith, o.before)
    ]

-- past the open ones none fits
pub past_last : {b : Board} {g : Gates} {h : Held} {D : List Bool} (p a : ℕ) → IsBoard b → IsHeld b h → p < length b.leaves → a ≡ slice_index h.stays p → slice_index g.until p ≤ a → Fits b g D → IsInside h.set D → ⊥
past_last {b} {g} {h} {D} p a ground w less e past fits inside =
    let more = more_members h.set D (row b.leaves p) inside in
    let o = fits.opens p less in
    omega (arith, o.before, w.at_is p less)

-- where a proposer's level is too low, what ends its stay is in each set that is high enough
pub low_leave : {b : Board} {g : Gates} {h : Held} {D : List Bool} (p a x wanted : ℕ) → IsBoard b → IsHeld b h → p < length b.leaves → a ≡ slice_index h.stays p → slice_index h.levels p < wanted → x ≡ leave b p a → IsHigh b g p wanted D → IsInside h.set D → IsMember D x
low_leave {b} {g} {h} {D} p a x wanted ground w less e low is high inside =
    let at : a ≡ stay b h.set p = e ∙ w.at_is p less in
    subst (IsMember D) (sym (is ∙ ap (leave b p) at)) (low_leave_is_in b h.set D p wanted ground inside high.fits.closed (omega (arith, w.now_is p less)) high.reaches)

-- and where that is the last one before the end of the open ones, none is
pub low_last : {b : Board} {g : Gates} {h : Held} {D : List Bool} (p a wanted : ℕ) → IsBoard b → IsHeld b h → p < length b.leaves → a ≡ slice_index h.stays p → slice_index h.levels p < wanted → slice_index g.until p ≤ a + 1 → IsHigh b g p wanted D → IsInside h.set D → ⊥
low_last {b} {g} {h} {D} p a wanted ground w less e low last high inside =
    let at : a ≡ stay b h.set p = e ∙ w.at_is p less in
    let more = more_members h.set D (row b.leaves p) inside in
    let o = high.fits.opens p less in
    elim (eq_or_ne (stay b h.set p) (stay b D p)) [
      | inl same ↦
          let level_same : level b h.set p ≡ level b D p = ap (stay_level b p) same in
          omega (arith, w.now_is p less, high.reaches)
      | inr ne ↦ omega (arith, o.before)
    ]

-- a new member makes the log longer
pub grew : {t : Course} {bar : ℕ} {h k : Held} (x : ℕ) → IsHeld t.board h → HoldsMore t bar h k → IsMember k.set x → (IsMember h.set x → ⊥) → length h.log < length k.log
grew x w g m out = let c = new_behind w g x m out in omega (arith, c.1, c.2)

-- the log is no longer than there are rotations
pub log_few : {b : Board} {h : Held} → IsHeld b h → length h.log ≤ length b.needs
log_few {b} {h} w = (log_fits b h.log h.set w.logged).0

-- those that were opened stay open where they are idle
pub opened_more : {t : Course} {bar : ℕ} {g : Gates} {h k : Held} (from i : ℕ) (items movers : List ℕ) → IsBoard t.board → IsHeld t.board h → HoldsMore t bar h k → from ≤ length h.log → items ≡ movers → AreOpened t.board g h from movers i → IsOpen g (slice_index items i) (stay t.board k.set (slice_index items i)) → AreOpened t.board g k from movers (i + 1)
opened_more {t} {bar} {g} {h} {k} from i items movers ground w g' le e before own a less idle = elim (eq_or_ne a i) [
  | inl same ↦ subst (λ q. IsOpen g q (stay t.board k.set q)) (ap (λ xs. slice_index xs i) e ∙ ap (slice_index movers) (sym same)) own
  | inr ne ↦
      let q : ℕ = slice_index movers a in
      let still = idle_keeps ground w g' q (λ c far few. idle c (omega arith) few) in
      subst (IsOpen g q) (sym still) (before a (omega arith) (idle_before g' from q idle))
]

-- once those are opened whom one more of the log moves, all are that are idle behind it
pub settled_more : {t : Course} {bar : ℕ} {g : Gates} {h k : Held} (place x n : ℕ) → IsBoard t.board → IsHeld t.board h → HoldsMore t bar h k → place < length h.log → x ≡ slice_index h.log place → AreSettled t.board g h place n → AreOpened t.board g k (length h.log) (row t.board.movers x) (length (row t.board.movers x)) → AreSettled t.board g k (place + 1) n
settled_more {t} {bar} {g} {h} {k} place x n ground w g' less e before opened p in_it idle = elim (on_or_off (row t.board.movers x) p) [
  | inl c ↦ subst (λ q. IsOpen g q (stay t.board k.set q)) c.2 (opened c.0 c.1 (subst (IsIdle t.board k.log (length h.log)) (sym c.2) (λ d far few. idle d (omega arith) few)))
  | inr none ↦
      let still = idle_keeps ground w g' p (λ d far few. idle d (omega arith) few) in
      subst (IsOpen g p) (sym still) (before p in_it (λ d far few moves. elim (eq_or_ne d place) [
        | inl same ↦
            let m : Contains (row t.board.movers x) p = subst (λ y. Contains (row t.board.movers y) p) (ap (slice_index h.log) same ∙ sym e) moves in
            none m.0 m.1 (contained_at (row t.board.movers x) p m)
        | inr ne ↦ idle d (omega arith) (omega (arith, g'.longer)) (subst (λ y. Contains (row t.board.movers y) p) (sym (old_log g' d few)) moves)
      ]))
]

-- behind the whole log everyone is idle
pub settled_fits : {b : Board} {g : Gates} (h : Held) (place : ℕ) → IsClosedIn b h.set → length h.log ≤ place → AreSettled b g h place (length b.leaves) → Fits b g h.set
settled_fits {b} {g} h place closed past settled = record { closed = closed; opens = λ p less. settled p less (λ c far few. absurd (omega arith)) }

-- whoever isn't moved by what has entered has an open stay, where all had
pub settled_behind : {t : Course} {bar : ℕ} {g : Gates} {h k : Held} → IsBoard t.board → IsHeld t.board h → HoldsMore t bar h k → Fits t.board g h.set → AreSettled t.board g k (length h.log) (length t.board.leaves)
settled_behind ground w g fits p less idle = subst (IsOpen _ p) (sym (idle_keeps ground w g p idle)) (fits.opens p less)

-- what fits, is high enough and changes no level before the bar is what was to be found
pub raised : {t : Course} {bar : ℕ} {g : Gates} {h k : Held} (p wanted : ℕ) → IsCourse t → IsOrder (length t.board.leaves) t.order → bar ≤ length t.order → Fits t.board g h.set → HoldsMore t bar h k → Fits t.board g k.set → wanted ≤ level t.board k.set p → ((D : List Bool) → IsHigh t.board g p wanted D → IsInside h.set D → IsInside k.set D) → IsRaised t.board g t.order h.set p wanted bar k.set
raised {t} {bar} {g} {h} {k} p wanted course ordered few fits g' now high least =
    raise_finds t.board g t.order h.set k.set p wanted bar course.board ordered few fits.closed
    (λ D s. least D (record { fits = s.fits; reaches = s.reaches }) s.more)
    (record { fits = now; more = g'.more; reaches = high })
    g'.free

-- and where each that is high enough changes such a level there is none
pub not_raised : {t : Course} {bar : ℕ} {g : Gates} (C : List Bool) (p wanted : ℕ) → IsCourse t → IsOrder (length t.board.leaves) t.order → bar ≤ length t.order → Fits t.board g C → Breaks (IsHigh t.board g p wanted) t bar C → IsNotRaised t.board g t.order C p wanted bar
not_raised {t} {bar} {g} C p wanted course ordered few fits breaks D f more reaches same =
    let w = breaks D (record { fits = f; reaches = reaches }) more in
    barred_changes_levels t.board t.order C D bar w.rotation w.position course.board ordered few more fits.closed f.closed w.member w.new w.early w.changes same

-- a set whose log is empty has no member
pub none_held : {b : Board} {h : Held} → IsHeld b h → h.log ≡ [] → (x : ℕ) → IsMember h.set x → ⊥
none_held w e x m = let c = w.logged.all x m in omega (arith, c.1, ap length e)

-- it is closed, and inside each other
pub nothing_closed : {b : Board} {h : Held} → IsHeld b h → h.log ≡ [] → IsClosedIn b h.set
nothing_closed w e = record { one_each = w.logged.one_each; closed = λ i j m need. absurd (none_held w e j m) }

-- one more proposer has an open stay
pub settled_next : {t : Course} {bar : ℕ} {g : Gates} {h k : Held} (p : ℕ) → IsBoard t.board → IsHeld t.board h → HoldsMore t bar h k → AreSettled t.board g h 0 p → IsOpen g p (stay t.board k.set p) → AreSettled t.board g k 0 (p + 1)
settled_next {t} {bar} {g} {h} {k} p ground w g' before own q less idle = elim (eq_or_ne q p) [
  | inl same ↦ subst (λ r. IsOpen g r (stay t.board k.set r)) (sym same) own
  | inr ne ↦
      let still = idle_keeps ground w g' q (λ c far few. idle c (omega arith) few) in
      subst (IsOpen g q) (sym still) (before q (omega arith) (idle_before g' 0 q idle))
]

-- no level can be changed before the first position
pub none_breaks : {t : Course} {C D : List Bool} → IsBroken t 0 C D → ⊥
none_breaks w = omega (arith, w.early)
