-- Where a walk stands: marks as lengths of the log.
use Rattle.std.proofs.Common.{◌≡◌, ◌≢◌, ◌⊎◌, ℕ, ◌+◌, ◌<◌, ◌≤◌, inl, inr, arith, sym, ap, ◌∙◌, subst, List, length, Bool, false, slice_index, slice_index_or, set, take, None, Some}
use Rattle.std.proofs.lemmas.List.{get_or_default, ext_get_or, take-take, take_all, length-take, get_or-take, length-set, get_or-set_same, get_or-set_other}
use Rattle.sm_lists.proofs.ResultLemmas.{same_bool}
use Rattle.sm_lists.proofs.Counting.{eq_or_ne, lt_or_le}
use Rattle.sm_theory.specs.ClosedSets.{IsMember}
use Rattle.sm_theory.specs.Vectors.{IsOrder}
use Rattle.sm_board.specs.Board.{IsBoard, Board, level, IsInside, IsClosedIn, Gates, Fits, IsLeast}
use Rattle.sm_board.specs.Growing.{IsLogOf}
use Rattle.sm_board.specs.Courses.{Course, Held, IsHeld}
use Rattle.sm_board.specs.Walks.{vector, AgreesUpTo, IsMark, IsNextUp, NoneFrom, IsVectorWalk, HasFirstVector, IsRaised, IsNotRaised}
use Rattle.sm_board.proofs.HeldLemmas.{one_log, contained_at}
use Rattle.sm_board.proofs.WalkLemmas.{vector_at, vector_long, up_where_raised, none_where_not_raised, next_up_is_first, mark_before, mark_behind, walk_begins, follow_on, follow_ends}
use Rattle.sm_lister.specs.declared.vector_walk.VectorWalk.{VectorWalk}
use Rattle.sm_lists.specs.Orders.{AreAlikeBelow}
use Rattle.sm_lister.specs.Walking.{AreLogMarks, IsMadeFor, IsUnderWay, AreLeast, IsHeldUp, IsBroughtTo, IsVectorReached, IsMarkedAlong}

-- a log has one set
pub one_set : {b : Board} {log : List ℕ} {C D : List Bool} → IsLogOf b log C → IsLogOf b log D → C ≡ D
one_set {b} {log} {C} {D} c d = ext_get_or false C D (c.one_each ∙ sym d.one_each) (λ k _. same_bool (slice_index_or C k false) (slice_index_or D k false) (one_log c d k) (one_log d c k))

-- the set of the front of a log is inside that of the log
pub front_inside : {b : Board} {log : List ℕ} {C D : List Bool} (n : ℕ) → IsLogOf b (take n log) C → IsLogOf b log D → IsInside C D
front_inside {b} {log} {C} {D} n c d x m =
    let has = c.all x m in
    let few : has.0 < n = omega (arith, has.1, length-take n log) in
    let at : slice_index log has.0 ≡ x = sym (get_or-take n log has.0 0 few) ∙ contained_at (take n log) x has in
    subst (IsMember D) at (d.each has.0 (omega (arith, has.1, length-take n log)))

-- the levels held are the vector
pub levels_are : {b : Board} {h : Held} → IsHeld b h → h.levels ≡ vector b h.set
levels_are {b} {h} w = ext_get_or 0 h.levels (vector b h.set) (w.now_each ∙ sym (vector_long b h.set))
    (λ p x. let less : p < length b.leaves = omega (arith, w.now_each) in w.now_is p less ∙ sym (vector_at b h.set p less))

-- raised beyond the vector's level at a position, what is held is the next set up there
pub up_is : {b : Board} {g : Gates} {order v : List ℕ} {i : ℕ} {C new : List Bool} (p wanted : ℕ) → p ≡ slice_index order i → wanted ≡ slice_index v p + 1 → IsMark b g order v (i + 1) C → IsRaised b g order C p wanted i new → IsNextUp b g order v i new
up_is {b} {g} {order} {v} {i} {C} {new} p wanted at is m r =
    up_where_raised b g order v i C new m (subst (λ q. IsRaised b g order C q (slice_index v q + 1) i new) at (subst (λ w. IsRaised b g order C p w i new) is r))

-- and where it can't be, none is above the vector there
pub none_is : {b : Board} {g : Gates} {order v : List ℕ} {i : ℕ} {C : List Bool} (p wanted : ℕ) → p ≡ slice_index order i → wanted ≡ slice_index v p + 1 → IsMark b g order v (i + 1) C → NoneFrom b g order v (i + 1) → IsNotRaised b g order C p wanted i → NoneFrom b g order v i
none_is {b} {g} {order} {v} {i} {C} p wanted at is m none r =
    none_where_not_raised b g order v i C m (subst (λ q. IsNotRaised b g order C q (slice_index v q + 1) i) at (subst (λ w. IsNotRaised b g order C p w i) is r)) none

-- marks stay where the front of the log stays that they are of
pub marks_keep : {t : Course} {g : Gates} {v log then marks : List ℕ} {d : ℕ} (e m : ℕ) → AreLogMarks t g v log marks d → e ≤ d → ((j : ℕ) → j < e → slice_index marks j ≤ m) → take m then ≡ take m log → m ≤ length then → AreLogMarks t g v then marks e
marks_keep {t} {g} {v} {log} {then} {marks} {d} e m w le most same long = record {
  few = λ j x. let a = most j x in omega arith;
  rising = λ i j a x. w.rising i j a (omega arith);
  are = λ j C x c. w.are j C (omega arith) (subst (λ front. IsLogOf t.board front C) (front j x) c);
}
  where
    front : (j : ℕ) → j < e → take (slice_index marks j) then ≡ take (slice_index marks j) log
    front j x = sym (take-take (slice_index marks j) m then (most j x)) ∙ ap (take (slice_index marks j)) same ∙ take-take (slice_index marks j) m log (most j x)

-- one more mark, at the end of the log
pub marks_add : {t : Course} {g : Gates} {h : Held} {v marks : List ℕ} (i : ℕ) → IsHeld t.board h → AreLogMarks t g v h.log marks i → i < length marks → IsMark t.board g t.order v (i + 1) h.set → AreLogMarks t g v h.log (set marks i (length h.log)) (i + 1)
marks_add {t} {g} {h} {v} {marks} i held w x m = record {
  few = λ j y. few j y (eq_or_ne j i);
  rising = λ j k a y. rising j k a y (eq_or_ne j i) (eq_or_ne k i);
  are = λ j C y c. are j C y c (eq_or_ne j i);
}
  where
    there : (j : ℕ) → j ≢ i → slice_index (set marks i (length h.log)) j ≡ slice_index marks j
    there j ne = get_or-set_other marks i j (length h.log) 0 ne

    here : slice_index (set marks i (length h.log)) i ≡ length h.log
    here = get_or-set_same marks i (length h.log) 0 x

    few : (j : ℕ) → j < i + 1 → (j ≡ i) ⊎ (j ≢ i) → slice_index (set marks i (length h.log)) j ≤ length h.log
    few j y (inl e) = subst (λ k. slice_index (set marks i (length h.log)) k ≤ length h.log) (sym e) (omega (arith, here))
    few j y (inr ne) = omega (arith, there j ne, w.few j (omega arith))

    rising : (j k : ℕ) → j ≤ k → k < i + 1 → (j ≡ i) ⊎ (j ≢ i) → (k ≡ i) ⊎ (k ≢ i) → slice_index (set marks i (length h.log)) j ≤ slice_index (set marks i (length h.log)) k
    rising j k a y e (inl f) = let most = few j (omega arith) e in subst (λ l. slice_index (set marks i (length h.log)) j ≤ slice_index (set marks i (length h.log)) l) (sym f) (omega (arith, here))
    rising j k a y (inl e) (inr nf) = absurd (omega arith)
    rising j k a y (inr ne) (inr nf) = omega (arith, there j ne, there k nf, w.rising j k a (omega arith))

    are : (j : ℕ) (C : List Bool) → j < i + 1 → IsLogOf t.board (take (slice_index (set marks i (length h.log)) j) h.log) C → (j ≡ i) ⊎ (j ≢ i) → IsMark t.board g t.order v (j + 1) C
    are j C y c (inr ne) = w.are j C (omega arith) (subst (λ n. IsLogOf t.board (take n h.log) C) (there j ne) c)
    are j C y c (inl e) =
        let all : take (slice_index (set marks i (length h.log)) j) h.log ≡ h.log = ap (λ k. take (slice_index (set marks i (length h.log)) k) h.log) e ∙ ap (λ n. take n h.log) here ∙ take_all (length h.log) h.log (omega arith) in
        let same : h.set ≡ C = one_set held.logged (subst (λ log. IsLogOf t.board log C) all c) in
        subst (λ k. IsMark t.board g t.order v (k + 1) C) (sym e) (subst (IsMark t.board g t.order v (i + 1)) same m)

-- all marks behind a position at the end of the log
pub marks_fill : {t : Course} {g : Gates} {h : Held} {v w old marks : List ℕ} (i n : ℕ) → IsHeld t.board h → AreLogMarks t g v h.log old i
    → ((j : ℕ) → j < i → slice_index marks j ≡ slice_index old j) → ((j : ℕ) → i ≤ j → j < n → slice_index marks j ≡ length h.log)
    → ((j : ℕ) (C : List Bool) → j < i → IsMark t.board g t.order v (j + 1) C → IsMark t.board g t.order w (j + 1) C)
    → ((j : ℕ) → i ≤ j → j < n → IsMark t.board g t.order w (j + 1) h.set)
    → AreLogMarks t g w h.log marks n
marks_fill {t} {g} {h} {v} {w} {old} {marks} i n held are before behind stays new = record {
  few = λ j y. few j y (lt_or_le j i);
  rising = λ j k a y. rising j k a y (lt_or_le j i) (lt_or_le k i);
  are = λ j C y c. all j C y c (lt_or_le j i);
}
  where
    few : (j : ℕ) → j < n → (j < i) ⊎ (i ≤ j) → slice_index marks j ≤ length h.log
    few j y (inl less) = omega (arith, before j less, are.few j less)
    few j y (inr le) = omega (arith, behind j le y)

    rising : (j k : ℕ) → j ≤ k → k < n → (j < i) ⊎ (i ≤ j) → (k < i) ⊎ (i ≤ k) → slice_index marks j ≤ slice_index marks k
    rising j k a y e (inr le) = let most = few j (omega arith) e in omega (arith, behind k le y)
    rising j k a y (inl e) (inl less) = omega (arith, before j e, before k less, are.rising j k a less)
    rising j k a y (inr e) (inl less) = absurd (omega arith)

    all : (j : ℕ) (C : List Bool) → j < n → IsLogOf t.board (take (slice_index marks j) h.log) C → (j < i) ⊎ (i ≤ j) → IsMark t.board g t.order w (j + 1) C
    all j C y c (inl less) = stays j C less (are.are j C less (subst (λ m. IsLogOf t.board (take m h.log) C) (before j less) c))
    all j C y c (inr le) =
        let whole : take (slice_index marks j) h.log ≡ h.log = ap (λ m. take m h.log) (behind j le y) ∙ take_all (length h.log) h.log (omega arith) in
        subst (IsMark t.board g t.order w (j + 1)) (one_set held.logged (subst (λ log. IsLogOf t.board log C) whole c)) (new j le y)

-- a set agrees with its own vector everywhere
agrees_own : {order w : List ℕ} (b : Board) (C : List Bool) → IsOrder (length b.leaves) order → w ≡ vector b C → AgreesUpTo b order w (length b.leaves) C
agrees_own {order} {w} b C o is j less = sym (ap (λ u. slice_index u (slice_index order j)) is ∙ vector_at b C (slice_index order j) (o.in_range j (omega (arith, o.long))))

-- the same is made for what is held now
pub made_held : {t : Course} {g : Gates} {h k : Held} {v marks : List ℕ} → IsMadeFor t g h v marks → IsHeld t.board k → IsMadeFor t g k v marks
made_held w held = record { order = w.order; held = held; gates = w.gates; level_each = w.level_each; mark_each = w.mark_each }

-- below the least proposer at a position and behind it, what is up there has the levels of the vector
pub alike_up : {t : Course} {g : Gates} {h : Held} {v marks : List ℕ} {i : ℕ} (least : List ℕ) → IsHeldUp t g h v marks i → AreLeast t.order least → AreAlikeBelow (slice_index least i) v h.levels
alike_up {t} {g} {h} {v} {marks} {i} least w are p less =
    let order = w.made.order in
    let within : i < length t.order = omega (arith, w.within, order.long) in
    let few : p < length t.board.leaves = omega (arith, less, are i i (omega arith) within, order.in_range i within) in
    let at = order.each p few in
    elim (lt_or_le at.0 i) [
      | inl before ↦ sym (w.made.held.now_is p few ∙ ap (level t.board h.set) (sym at.2) ∙ w.up.up.agrees at.0 before ∙ ap (slice_index v) at.2)
      | inr behind ↦ absurd (omega (arith, less, are i at.0 behind at.1, at.2))
    ]

-- the same of a number that was read there
pub alike_from : {t : Course} {g : Gates} {h : Held} {v marks : List ℕ} {i : ℕ} (least : List ℕ) (from : ℕ) → IsHeldUp t g h v marks i → AreLeast t.order least → length least ≡ length t.board.leaves → from ≡ slice_index_or least i from → AreAlikeBelow from v h.levels
alike_from {t} {g} {h} {v} {marks} {i} least from w are each is =
    let few : i < length least = omega (arith, w.within, each) in
    subst (λ n. AreAlikeBelow n v h.levels) (get_or_default least i 0 from few ∙ sym is) (alike_up least w are)

-- the next set up at a position, with none behind, is reached
pub reached_up : {t : Course} {g : Gates} {h : Held} {old new : VectorWalk} (i from : ℕ) → IsBoard t.board → IsHeldUp t g h old.vector.items old.marks.items i → IsBroughtTo t h i from old new → AreAlikeBelow from old.vector.items h.levels → IsVectorReached t g (Some old.vector.items) h new
reached_up {t} {g} {h} {old} {new} i from board w b alike = record {
  fits = w.up.up.fits;
  first = next_up_is_first t.board g t.order v i h.set board order within w.up w.none;
  vector_is = is;
  under_way = record {
    made = record { order = order; held = held; gates = w.made.gates; level_each = ap length is ∙ vector_long t.board h.set; mark_each = b.mark_each ∙ w.made.mark_each };
    within = omega arith;
    are = marks_fill i (length t.board.leaves) held w.are b.kept (λ j le y. b.new j le (omega (arith, w.made.mark_each)))
        (λ j C y m. subst (λ u. IsMark t.board g t.order u (j + 1) C) (sym is) (mark_before order within w.up (j + 1) (omega arith) m))
        (λ j le y. subst (λ u. IsMark t.board g t.order u (j + 1) h.set) (sym is) (mark_behind order within w.up (j + 1) (omega arith) (omega (arith, order.long))));
    closed = w.up.up.fits.closed;
    agrees = agrees_own t.board h.set order is;
    none = λ j D le y. absurd (omega (arith, order.long));
  };
  changed = λ p less. alike p (omega (arith, less, b.from_is)) ∙ ap (λ u. slice_index u p) (sym b.vector_is);
}
  where
    v : List ℕ
    v = old.vector.items

    order : IsOrder (length t.board.leaves) t.order
    order = w.made.order

    held : IsHeld t.board h
    held = w.made.held

    is : new.vector.items ≡ vector t.board h.set
    is = b.vector_is ∙ levels_are held

    within : i < length t.order
    within = omega (arith, w.within, order.long)

-- so is the least set, where there is no vector
pub reached_first : {t : Course} {g : Gates} {h : Held} {old new : VectorWalk} → IsBoard t.board → IsMadeFor t g h old.vector.items old.marks.items → IsLeast (Fits t.board g) h.set → IsBroughtTo t h 0 0 old new → IsVectorReached t g None h new
reached_first {t} {g} {h} {old} {new} board made least b = record {
  fits = least.one;
  first = begins.1;
  vector_is = is;
  under_way = record {
    made = record { order = made.order; held = made.held; gates = made.gates; level_each = ap length is ∙ vector_long t.board h.set; mark_each = b.mark_each ∙ made.mark_each };
    within = omega arith;
    are = marks_fill {v = new.vector.items} {old = old.marks.items} 0 (length t.board.leaves) made.held (record { few = λ j y. absurd (omega arith); rising = λ j k a y. absurd (omega arith); are = λ j C y. absurd (omega arith) }) (λ j y. absurd (omega arith)) (λ j le y. b.new j le (omega (arith, made.mark_each)))
        (λ j C y. absurd (omega arith))
        (λ j le y. subst (λ u. IsMark t.board g t.order u (j + 1) h.set) (sym is) (begins.0.marks (j + 1) (omega (arith, made.order.long))));
    closed = least.one.closed;
    agrees = agrees_own t.board h.set made.order is;
    none = λ j D le y. absurd (omega (arith, made.order.long));
  };
  changed = b.from_is;
}
  where
    is : new.vector.items ≡ vector t.board h.set
    is = b.vector_is ∙ levels_are made.held

    begins : IsVectorWalk t.board g t.order (vector t.board h.set) (length t.order) (λ _. h.set) × HasFirstVector t.board g t.order h.set
    begins = walk_begins t.board g t.order h.set board made.order least

-- the marks below a position stay where the front of the log up to its own stays
pub marks_below : {t : Course} {g : Gates} {v log then marks : List ℕ} (i : ℕ) → AreLogMarks t g v log marks (i + 1) → take (slice_index marks i) then ≡ take (slice_index marks i) log → slice_index marks i ≤ length then → AreLogMarks t g v then marks i
marks_below {t} {g} {v} {log} {then} {marks} i w same long = marks_keep i (slice_index marks i) w (omega arith) (λ j x. w.rising j i (omega arith) (omega arith)) same long

-- a position less, where none is above the vector there
pub under_way_below : {t : Course} {g : Gates} {h k : Held} {v marks : List ℕ} (i : ℕ) → IsUnderWay t g h v marks (i + 1) → IsHeld t.board k → take (slice_index marks i) k.log ≡ take (slice_index marks i) h.log → slice_index marks i ≤ length k.log → NoneFrom t.board g t.order v i → IsMark t.board g t.order v (i + 1) k.set → IsUnderWay t g k v marks i
under_way_below i w held same long none m = record {
  made = made_held w.made held;
  within = let a = w.within in omega arith;
  are = marks_below i w.are same long;
  closed = m.fits.closed;
  agrees = λ j x. m.agrees j (omega arith);
  none = none;
}

-- where a vector can't be followed further the walk is under way up to there
pub under_way_here : {t : Course} {g : Gates} {h k : Held} {v marks : List ℕ} (i p wanted : ℕ) → IsMarkedAlong t g h v marks i → i < length t.board.leaves → IsHeld t.board k → k.log ≡ h.log → p ≡ slice_index t.order i → wanted ≡ slice_index v p → IsNotRaised t.board g t.order h.set p wanted i → IsUnderWay t g k v marks i
under_way_here {t} {g} {h} {k} {v} {marks} i p wanted w x held same at is r = record {
  made = made_held w.made held;
  within = omega arith;
  are = subst (λ log. AreLogMarks t g v log marks i) (sym same) w.are;
  closed = subst (IsClosedIn t.board) set_is w.mark.fits.closed;
  agrees = subst (AgreesUpTo t.board t.order v i) set_is w.mark.agrees;
  none = follow_ends t.board g t.order v i h.set w.mark (subst (λ q. IsNotRaised t.board g t.order h.set q (slice_index v q) i) at (subst (λ n. IsNotRaised t.board g t.order h.set p n i) is r));
}
  where
    set_is : h.set ≡ k.set
    set_is = one_set w.made.held.logged (subst (λ log. IsLogOf t.board log k.set) same held.logged)

-- what is found at a position along a vector
pub along_on : {t : Course} {g : Gates} {h : Held} {v marks : List ℕ} (k : Held) (i p wanted : ℕ) → IsBoard t.board → IsOrder (length t.board.leaves) t.order → IsMarkedAlong t g h v marks i → i < length t.board.leaves → p ≡ slice_index t.order i → wanted ≡ slice_index v p → IsRaised t.board g t.order h.set p wanted i k.set
    → (level t.board k.set p ≡ wanted → IsMark t.board g t.order v (i + 1) k.set)
    × (wanted < level t.board k.set p → IsNextUp t.board g t.order v i k.set × NoneFrom t.board g t.order v (i + 1))
along_on {t} {g} {h} {v} {marks} k i p wanted board order w x at is r =
    let q : ℕ = slice_index t.order i in
    let a : wanted ≡ slice_index v q = is ∙ ap (slice_index v) at in
    let l : level t.board k.set p ≡ level t.board k.set q = ap (level t.board k.set) at in
    let on = follow_on t.board g t.order v i h.set k.set board order (omega (arith, order.long)) w.mark
    (subst (λ q. IsRaised t.board g t.order h.set q (slice_index v q) i k.set) at (subst (λ n. IsRaised t.board g t.order h.set p n i k.set) is r)) in
    ((λ e. on.0 (sym l ∙ e ∙ a)), (λ up. on.1 (omega arith)))

-- the marks before a position stay where the log grows
pub along_grows : {t : Course} {g : Gates} {h : Held} {v marks : List ℕ} (k : Held) (i : ℕ) → IsMarkedAlong t g h v marks i → take (length h.log) k.log ≡ h.log → length h.log ≤ length k.log → AreLogMarks t g v k.log marks i
along_grows {t} {g} {h} {v} {marks} k i w front long = marks_keep i (length h.log) w.are (omega arith) w.are.few (front ∙ sym (take_all (length h.log) h.log (omega arith))) long

-- one position further along a vector
pub along_next : {t : Course} {g : Gates} {h k : Held} {v marks then : List ℕ} (i : ℕ) → IsMarkedAlong t g h v marks i → i < length t.board.leaves → IsHeld t.board k → take (length h.log) k.log ≡ h.log → length h.log ≤ length k.log → then ≡ set marks i (length k.log) → IsMark t.board g t.order v (i + 1) k.set → IsMarkedAlong t g k v then (i + 1)
along_next {t} {g} {h} {k} {v} {marks} {then} i w x held front long is m = record {
  made = record { order = w.made.order; held = held; gates = w.made.gates; level_each = w.made.level_each; mark_each = ap length is ∙ length-set marks i (length k.log) ∙ w.made.mark_each };
  are = subst (λ ms. AreLogMarks t g v k.log ms (i + 1)) (sym is) (marks_add i held (along_grows k i w front long) (omega (arith, w.made.mark_each)) m);
  mark = m;
}

-- a log whose front is another one is no shorter
pub front_long : (log then : List ℕ) → take (length log) then ≡ log → length log ≤ length then
front_long log then e = omega (arith, length-take (length log) then, ap length e)

-- the level held of the proposer at a position
pub level_held : {b : Board} {order : List ℕ} (k : Held) (i p : ℕ) → IsOrder (length b.leaves) order → IsHeld b k → i < length b.leaves → p ≡ slice_index order i → slice_index k.levels p ≡ level b k.set p
level_held k i p o held x at = held.now_is p (let a = o.in_range i (omega (arith, o.long)) in omega arith)

-- what is taken back and grows again has the same front, and is no shorter
pub taken_back : {between : List ℕ} (old then : List ℕ) (n : ℕ) → n ≤ length old → between ≡ take n old → take (length between) then ≡ between → (take n then ≡ take n old) × (n ≤ length then)
taken_back {between} old then n le is same =
    let long : length between ≡ n = omega (arith, le, ap length is, length-take n old) in
    (subst (λ k. take k then ≡ take n old) long (same ∙ is), omega (arith, long, front_long between then same))

-- the same vector and marks
pub under_way_same : {t : Course} {g : Gates} {k : Held} {v w marks then : List ℕ} {d : ℕ} → IsUnderWay t g k v marks d → w ≡ v → then ≡ marks → IsUnderWay t g k w then d
under_way_same {t} {g} {k} {v} {w} {marks} {then} {d} u ev em = subst (λ x. IsUnderWay t g k x then d) (sym ev) (subst (λ x. IsUnderWay t g k v x d) (sym em) u)

-- what is up for a vector and marks is up for equal ones
pub held_up_same : {t : Course} {g : Gates} {k : Held} {v w marks then : List ℕ} {i : ℕ} → IsHeldUp t g k v marks i → w ≡ v → then ≡ marks → IsHeldUp t g k w then i
held_up_same {t} {g} {k} {v} {w} {marks} {then} {i} u ev em = subst (λ x. IsHeldUp t g k x then i) (sym ev) (subst (λ x. IsHeldUp t g k v x i) (sym em) u)
