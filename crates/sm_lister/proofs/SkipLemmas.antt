-- Positions at which no rotation changes a level first are passed over.
use Rattle.std.proofs.Common.{◌≡◌, ℕ, zero, suc, ◌+◌, ◌-◌, ◌<◌, ◌≤◌, ◌∷◌, ◌++◌, [], arith, sym, subst, List, length, Bool, false, slice_index, set, take}
use Rattle.std.proofs.lemmas.List.{take_all, take_more}
use Rattle.sm_board.specs.Board.{Board, IsBoard, Gates, IsFirstChange}
use Rattle.sm_board.specs.Growing.{IsLogOf}
use Rattle.sm_board.specs.Courses.{Course, Held}
use Rattle.sm_board.specs.Walks.{NoneFrom}
use Rattle.sm_board.proofs.GrowLemmas.{log_falls}
use Rattle.sm_board.proofs.WalkLemmas.{none_without_turn}
use Rattle.sm_lister.specs.Walking.{AreLogMarks, IsUnderWay, IsSkip}

-- a front of a log has a set
pub record FrontSet (b : Board) (log : List ℕ) (n : ℕ) : Type 0 where
  pub set : List Bool
  pub logged : IsLogOf b (take n log) set

-- the first n of a log are the log of a set
pub front_set : {b : Board} {log : List ℕ} {C : List Bool} → IsLogOf b log C → (k n : ℕ) → n + k ≡ length log → FrontSet b log n
front_set {b} {log} {C} w zero n e = record { set = C; logged = subst (λ front. IsLogOf b front C) (sym (take_all n log (omega arith))) w }
front_set {b} {log} {C} w (suc k) n e =
    let r = front_set w k (n + 1) (omega arith) in
    let more : take (n + 1) log ≡ take n log ++ slice_index log n ∷ [] = take_more log n 0 (omega arith) in
    record { set = set r.set (slice_index log n) false; logged = log_falls b (take n log) r.set (slice_index log n) (subst (λ front. IsLogOf b front r.set) more r.logged) }

-- none is above the vector from a position on where no rotation changes a level there first, and none is above behind it
pub none_back : {t : Course} {g : Gates} {h : Held} {v marks : List ℕ} {d : ℕ} → IsBoard t.board → IsUnderWay t g h v marks d → (k s : ℕ) → s + k ≡ d → ((j x : ℕ) → s ≤ j → j < d → ¬ IsFirstChange t.board t.order x j) → NoneFrom t.board g t.order v s
none_back {t} {g} {h} {v} {marks} {d} board w zero s e none = subst (NoneFrom t.board g t.order v) (omega arith) w.none
none_back {t} {g} {h} {v} {marks} {d} board w (suc k) s e none =
    let less : s < d = omega arith in
    let behind = none_back board w k (s + 1) (omega arith) (λ j x a b. none j x (omega arith) b) in
    let few = w.are.few s less in
    let f = front_set w.made.held.logged (length h.log - slice_index marks s) (slice_index marks s) (omega arith) in
    none_without_turn t.board g t.order v s f.set board w.made.order (omega (arith, w.within, w.made.order.long)) (w.are.are s f.set less f.logged) (λ x. none s x (omega arith) less) behind

-- fewer marks
pub marks_fewer : {t : Course} {g : Gates} {v log marks : List ℕ} {d : ℕ} (s : ℕ) → s ≤ d → AreLogMarks t g v log marks d → AreLogMarks t g v log marks s
marks_fewer s le w = record { few = λ i x. w.few i (omega arith); rising = λ i j a x. w.rising i j a (omega arith); are = λ i C x. w.are i C (omega arith) }

-- a walk goes on from a skip
pub under_way_skip : {t : Course} {g : Gates} {h : Held} {v marks : List ℕ} {d : ℕ} (s : ℕ) → IsBoard t.board → IsUnderWay t g h v marks d → IsSkip t.board t.order d s → IsUnderWay t g h v marks s
under_way_skip {t} {g} {h} {v} {marks} {d} s board w skip = record {
  made = w.made;
  within = let a = w.within in let b = skip.low in omega arith;
  are = marks_fewer s skip.low w.are;
  closed = w.closed;
  agrees = λ j x. w.agrees j (let b = skip.low in omega arith);
  none = none_back board w (d - s) s (let b = skip.low in omega arith) skip.none;
}
