-- What a walk finds, as level vectors of the stable matchings that conditions allow.
use Rattle.std.proofs.Common.{◌≡◌, if◌then◌else◌, true, false, ℕ, refl, length, slice_index, slice_index_or, arith, ◌+◌, ◌-◌, ◌<◌, sym, ap, ◌∙◌, subst, List, [], Bool, Option, None, Some, unwrap_or}
use Rattle.sm_theory.specs.ClosedSets.{IsClosed, matching_of}
use Rattle.sm_theory.specs.Vectors.{IsBefore, IsAllowedVector, level_vector_of}
use Rattle.sm_theory.specs.Listings.{IsNextListed, IsNoneBehind}
use Rattle.sm_poset.specs.Posets.{RotationPoset}
use Rattle.sm_board.specs.Board.{IsBoard, Gates, Fits}
use Rattle.sm_board.specs.BoardOf.{AreGates}
use Rattle.sm_board.specs.Courses.{Course, Held}
use Rattle.sm_board.specs.Walks.{vector, NoneFrom, HasFirstVector, IsFirstAbove}
use Rattle.sm_board.proofs.BoardSets.{gates_mean_conditions}
use Rattle.sm_board.proofs.WalkBridge.{walk_is_next, vector_is}
use Rattle.sm_lister.specs.declared.vector_walk.VectorWalk.{VectorWalk}
use Rattle.std.proofs.lemmas.Bool.{false≢true}
use Rattle.std.proofs.lemmas.List.{get_or_default}
use Rattle.sm_lister.proofs.SkipLemmas.{under_way_skip}
use Rattle.sm_lister.specs.Walking.{cursor_of, IsFirstSetBehind, NoneLeft, AreSkips, AreLeast, IsUnderWay, IsBroughtTo, IsVectorReached, IsKeptWalk}
use Rattle.sm_lister.specs.Barred.{HasRoom}
use Rattle.sm_lister.specs.Kept.{IsGoing}

module _ {poset : RotationPoset} {levels : List (List ℕ)} {forced forbidden : List (ℕ × ℕ)} {t : Course} {g : Gates} (w : IsGoing poset levels forced forbidden t g) where
  abbrev IsOne : List ℕ → Type 0
  IsOne = IsAllowedVector poset.lists levels forced forbidden

  -- the first set behind a cursor has the next vector
  pub next_found : (cursor : Option (List ℕ)) (C : List Bool) → Fits t.board g C → IsFirstSetBehind t g cursor C → IsNextListed (IsBefore t.order) IsOne cursor (vector t.board C)
  next_found None C f first = subst (λ b. AreGates b w.low w.high forced forbidden g → Fits b g C → HasFirstVector b g t.order C → IsNextListed (IsBefore t.order) IsOne None (vector b C)) (sym w.board.is)
      (λ a f first. (walk_is_next poset.lists levels poset.first.places poset.rotations w.board.needs w.board.moves w.low w.high forced forbidden g t.order w.board.ground w.in_range a w.bounds w.order).0 C f first) w.gates f first
  next_found (Some v) C f first = subst (λ b. AreGates b w.low w.high forced forbidden g → Fits b g C → IsFirstAbove b g t.order v C → IsNextListed (IsBefore t.order) IsOne (Some v) (vector b C)) (sym w.board.is)
      (λ a f first. (walk_is_next poset.lists levels poset.first.places poset.rotations w.board.needs w.board.moves w.low w.high forced forbidden g t.order w.board.ground w.in_range a w.bounds w.order).1 v C f first) w.gates f first

  -- where no set is left, no vector is behind the cursor
  pub none_found : (cursor : Option (List ℕ)) → NoneLeft t g cursor → IsNoneBehind (IsBefore t.order) IsOne cursor
  none_found None none = subst (λ b. AreGates b w.low w.high forced forbidden g → ((C : List Bool) → Fits b g C → ⊥) → IsNoneBehind (IsBefore t.order) IsOne None) (sym w.board.is)
      (λ a none. (walk_is_next poset.lists levels poset.first.places poset.rotations w.board.needs w.board.moves w.low w.high forced forbidden g t.order w.board.ground w.in_range a w.bounds w.order).2 none) w.gates none
  none_found (Some v) none = subst (λ b. AreGates b w.low w.high forced forbidden g → NoneFrom b g t.order v 0 → IsNoneBehind (IsBefore t.order) IsOne (Some v)) (sym w.board.is)
      (λ a none. (walk_is_next poset.lists levels poset.first.places poset.rotations w.board.needs w.board.moves w.low w.high forced forbidden g t.order w.board.ground w.in_range a w.bounds w.order).3 v none) w.gates none

  -- a set that fits is closed in the poset, and its vector is that of its matching
  pub fits_closed : (C : List Bool) → Fits t.board g C → IsClosed poset.lists poset.rotations C
  fits_closed C f = subst (λ b. AreGates b w.low w.high forced forbidden g → Fits b g C → IsClosed poset.lists poset.rotations C) (sym w.board.is)
      (λ a f. ((gates_mean_conditions poset.lists levels poset.first.places poset.rotations w.board.needs w.board.moves w.low w.high forced forbidden g C w.board.ground w.in_range a).0 f).0) w.gates f

  -- the levels of a set that fits are the level vector of its matching
  pub vector_shown : (C : List Bool) → Fits t.board g C → vector t.board C ≡ level_vector_of poset.lists levels (matching_of poset.lists poset.first.places poset.rotations C)
  vector_shown C f = subst (λ b. vector b C ≡ level_vector_of poset.lists levels (matching_of poset.lists poset.first.places poset.rotations C)) (sym w.board.is) (vector_is w.board.ground (fits_closed C f))

-- where a vector was reached it is the cursor
pub cursor_is : (w : VectorWalk) {v : List ℕ} → w.given ≡ true → w.vector.items ≡ v → cursor_of w ≡ Some v
cursor_is w {v} given is = ap (λ given. if given then Some w.vector.items else None) given ∙ ap Some is

-- without one there is none
pub cursor_none : (w : VectorWalk) → w.given ≡ false → cursor_of w ≡ None
cursor_none w given = ap (λ given. if given then Some w.vector.items else None) given

-- and where there is a cursor it is the vector
pub vector_at : (w : VectorWalk) {v : List ℕ} → w.given ≡ true → cursor_of w ≡ Some v → w.vector.items ≡ v
vector_at w given at = ap (λ o. unwrap_or o []) (sym (cursor_is w given refl) ∙ at)

-- where the depth is 0 none is left
pub none_left : {t : Course} {g : Gates} {h : Held} (w : VectorWalk) → IsKeptWalk t g h w → w.fresh ≡ false → w.depth ≡ 0 → NoneLeft t g (cursor_of w)
none_left {t} {g} {h} w kept over zero = go w.given refl
  where
    go : (x : Bool) → w.given ≡ x → NoneLeft t g (cursor_of w)
    go true e = subst (λ x. NoneLeft t g (if x then Some w.vector.items else None)) (sym e) (subst (NoneFrom t.board g t.order w.vector.items) zero (kept.under_way over).none)
    go false e = subst (λ x. NoneLeft t g (if x then Some w.vector.items else None)) (sym e) (kept.nothing over e)

-- a step leaves a walk under way from the depth that it comes to
pub goes_on : {t : Course} {g : Gates} {h k : Held} (old new : VectorWalk) → IsKeptWalk t g h old → new.fresh ≡ false → (new.given ≡ false → NoneLeft t g None) → new.skip ≡ old.skip → new.least ≡ old.least → HasRoom t new.bars → IsUnderWay t g k new.vector.items new.marks.items new.depth → IsKeptWalk t g k new
goes_on {t} {g} {h} {k} old new kept over nothing skip least room w = record {
  made = w.made;
  skip_each = ap (λ s. length s.items) skip ∙ kept.skip_each;
  skips = subst (λ s. AreSkips t.board t.order s.items) (sym skip) kept.skips;
  least_each = ap (λ s. length s.items) least ∙ kept.least_each;
  least_are = subst (λ s. AreLeast t.order s.items) (sym least) kept.least_are;
  room = room;
  least = λ yes. absurd (false≢true (sym over ∙ yes));
  under_way = λ _. w;
  nothing = λ no. nothing;
}

-- where a set is reached the walk goes on everywhere
pub goes_on_reached : {t : Course} {g : Gates} {h k : Held} {cursor : Option (List ℕ)} {i from : ℕ} (old middle new : VectorWalk) → IsKeptWalk t g h old → middle.fresh ≡ false → (middle.given ≡ false → NoneLeft t g None) → middle.skip ≡ old.skip → middle.least ≡ old.least → HasRoom t middle.bars → IsBroughtTo t k i from middle new → IsVectorReached t g cursor k new → IsKeptWalk t g k new
goes_on_reached {t} {g} {h} {k} old middle new kept over nothing skip least room b r =
    goes_on old new kept (b.fresh ∙ over) (λ no. nothing (sym b.given ∙ no)) (b.skip ∙ skip) (b.least ∙ least) (subst (HasRoom t) (sym b.bars) room)
    (subst (IsUnderWay t g k new.vector.items new.marks.items) (sym b.everywhere) r.under_way)

-- a walk goes on from the skip of its depth
pub skipped : {t : Course} {g : Gates} {h : Held} (w : VectorWalk) (below : ℕ) → IsBoard t.board → IsKeptWalk t g h w → w.fresh ≡ false → below ≡ slice_index_or w.skip.items w.depth below → IsUnderWay t g h w.vector.items w.marks.items below
skipped {t} {g} {h} w below board kept over is =
    let under = kept.under_way over in
    let few : w.depth < length w.skip.items = let a = under.within in omega (arith, kept.skip_each) in
    subst (IsUnderWay t g h w.vector.items w.marks.items) (get_or_default w.skip.items w.depth 0 below few ∙ sym is)
    (under_way_skip (slice_index w.skip.items w.depth) board under (kept.skips w.depth few))

-- so it does behind the position where a level may change first
pub skipped_on : {t : Course} {g : Gates} {h : Held} (w : VectorWalk) (below : ℕ) → IsBoard t.board → IsKeptWalk t g h w → w.fresh ≡ false → below ≡ slice_index_or w.skip.items w.depth below → below ≡ below - 1 + 1 → IsUnderWay t g h w.vector.items w.marks.items (below - 1 + 1)
skipped_on {t} {g} {h} w below board kept over is some = subst (IsUnderWay t g h w.vector.items w.marks.items) some (skipped w below board kept over is)
