-- What a walk needs before its first step: skips from marked positions.
use Rattle.std.proofs.Common.{◌≡◌, ◌⊎◌, ℕ, ◌+◌, ◌<◌, inl, inr, arith, sym, ◌∙◌, subst, List, length, Bool, true, false, slice_index}
use Rattle.std.proofs.lemmas.Bool.{false≢true}
use Rattle.sm_lists.proofs.Counting.{less_same_more}
use Rattle.sm_theory.specs.Vectors.{IsOrder, AreInRange}
use Rattle.sm_board.specs.Board.{IsFirstChange, IsClosedIn, Gates, Fits, IsLeast}
use Rattle.sm_least.specs.Searches.{Search, IsSearch}
use Rattle.sm_board.specs.Courses.{Course, IsCourse, Held, IsHeld}
use Rattle.sm_least.specs.Gates.{AreUnbounded, AreGatesOf}
use Rattle.sm_least.proofs.SearchLemmas.{nothing_excluded}
use Rattle.sm_lister.specs.declared.vector_walk.VectorWalk.{VectorWalk}
use Rattle.sm_lister.specs.Walking.{AreSkips, IsMadeFor, IsUnderWay, AreFirstChanges, SkipsNoFirstChange, IsKeptWalk}
use Rattle.sm_lister.specs.Kept.{IsLister}

-- a rotation changes the level first at no other position than its own
pub first_is : {t : Course} (x j : ℕ) → IsCourse t → x < length t.board.needs → j < length t.order → IsFirstChange t.board t.order x j → slice_index t.first x ≡ j
first_is {t} x j course less on f = go (less_same_more (slice_index t.first x) j)
  where
    own : IsFirstChange t.board t.order x (slice_index t.first x)
    own = course.first_are x less

    go : (slice_index t.first x < j) ⊎ ((slice_index t.first x ≡ j) ⊎ (j < slice_index t.first x)) → slice_index t.first x ≡ j
    go (inl before) = absurd (f.none_before (slice_index t.first x) before (own.changes (omega arith)))
    go (inr (inl e)) = e
    go (inr (inr behind)) = absurd (own.none_before j behind (f.changes on))

-- where the positions of first changes are marked, skips that pass over none of these are right
pub are_skips : {t : Course} (changes : List Bool) (skip : List ℕ) → IsCourse t → IsOrder (length t.board.leaves) t.order → length changes ≡ length t.board.leaves → AreFirstChanges t (length t.board.needs) changes → length skip ≡ length changes + 1 → SkipsNoFirstChange changes skip → AreSkips t.board t.order skip
are_skips {t} changes skip course order each turned long skips d x = record {
  low = (skips d x).0;
  none = λ j y le less f.
      let on : j < length t.order = omega (arith, order.long) in
      let change = f.changes on in
      let few : y < length t.board.needs = subst (λ k. k < length t.board.needs) change.is (course.board.in_range (slice_index t.order j) change.at change.within) in
      false≢true (sym ((skips d x).1 j le less) ∙ turned y j few (omega arith) (first_is y j course few on f));
}

-- where nothing fits a walk that has made no step is under way from no position on
pub under_way_none : {t : Course} {g : Gates} {h : Held} {v marks : List ℕ} → IsMadeFor t g h v marks → IsClosedIn t.board h.set → ((D : List Bool) → Fits t.board g D → ⊥) → IsUnderWay t g h v marks 0
under_way_none made closed none = record {
  made = made;
  within = omega arith;
  are = record { few = λ j x. absurd (omega arith); rising = λ j k a x. absurd (omega arith); are = λ j C x. absurd (omega arith) };
  closed = closed;
  agrees = λ j x. absurd (omega arith);
  none = λ j D le less up. none D up.fits;
}

-- where no step was made yet a lister is one of the search that began
pub is_started : {P S : Search} {n : ℕ} {forced forbidden : List (ℕ × ℕ)} {order : List ℕ} {any : Bool} (walk : VectorWalk) → P ≡ S → IsSearch S → n ≡ length S.poset.lists.proposers → AreInRange n forced → AreUnbounded S.course.board forced forbidden S.gates → IsOrder n order → S.course.order ≡ order
    → (any ≡ true → IsLeast (Fits S.course.board S.gates) S.held.set) → (any ≡ false → (D : List Bool) → Fits S.course.board S.gates D → ⊥)
    → ((g : Gates) (h : Held) → IsHeld P.course.board h → IsClosedIn P.course.board h.set → AreGatesOf P.course.board g → (any ≡ true → IsLeast (Fits P.course.board g) h.set) → (any ≡ false → (D : List Bool) → Fits P.course.board g D → ⊥) → IsKeptWalk P.course g h walk)
    → IsLister P.poset P.levels forced forbidden P.course P.gates P.held walk false
is_started {P} {S} {n} {forced} {forbidden} {order} {any} walk e s count range gates o is least none walks =
    subst (λ P. ((g : Gates) (h : Held) → IsHeld P.course.board h → IsClosedIn P.course.board h.set → AreGatesOf P.course.board g → (any ≡ true → IsLeast (Fits P.course.board g) h.set) → (any ≡ false → (D : List Bool) → Fits P.course.board g D → ⊥) → IsKeptWalk P.course g h walk) → IsLister P.poset P.levels forced forbidden P.course P.gates P.held walk false) (sym e)
    (λ walks. record {
      going = record {
        board = s.board;
        in_range = subst (λ n. AreInRange n forced) count range;
        low = gates.low;
        high = gates.high;
        gates = gates.gates;
        bounds = nothing_excluded gates.low gates.high s.board gates.wide;
        order = subst (λ n. IsOrder n S.course.order) count (subst (IsOrder n) (sym is) o);
      };
      walking = walks S.gates S.held s.held s.closed s.gates least none;
      fits = λ no. absurd (false≢true no);
      reached = λ no. absurd (false≢true no);
    }) walks
