-- What a search finds is what it is asked for.
use Rattle.std.proofs.Common.{◌≡◌, ℕ, ◌<◌, arith, sym, ap, ◌∙◌, subst, List, Bool, length, slice_index}
use Rattle.std.proofs.lemmas.List.{ext_get_or}
use Rattle.sm_market.specs.Matching.{Places}
use Rattle.sm_market.specs.Stable.{IsStable}
use Rattle.sm_theory.specs.ClosedSets.{IsClosed, matching_of}
use Rattle.sm_theory.specs.Vectors.{IsAllowed, IsWithin, level_of, level_vector_of, AreInRange}
use Rattle.sm_theory.proofs.Chains.Rotations.{sets_are_matchings}
use Rattle.sm_poset.specs.Posets.{RotationPoset}
use Rattle.sm_board.specs.Board.{Board, IsBoard, stay, level, Gates, Fits, IsLeast, IsClosedIn}
use Rattle.sm_board.specs.Walks.{vector, ExcludeNothing}
use Rattle.sm_board.specs.BoardOf.{AreGates, IsLeastWithin, IsBestAllowed, IsBoardFor}
use Rattle.sm_least.specs.Gates.{AreUnbounded, AreWide}
use Rattle.sm_board.proofs.BoardLemmas.{stays_in}
use Rattle.sm_board.proofs.BoardBridge.{board, many, is_board}
use Rattle.sm_board.proofs.BoardSets.{level_is, least_is_best, board_shows_sets}
use Rattle.sm_board.proofs.WalkBridge.{vector_is}
use Rattle.sm_board.proofs.WalkLemmas.{vector_at, vector_long}

-- the least set that fits is that of the best matching
pub best_found : {poset : RotationPoset} {levels : List (List ℕ)} {b c : Board} {low high : List ℕ} {forced forbidden : List (ℕ × ℕ)} (g : Gates) (C : List Bool) → IsBoardFor poset levels b → AreInRange (length poset.lists.proposers) forced → c ≡ b → AreGates c low high forced forbidden g → IsLeast (Fits b g) C → IsLeastWithin poset.lists levels low high forced forbidden (matching_of poset.lists poset.first.places poset.rotations C)
best_found {poset} {levels} {b} {c} {low} {high} {forced} {forbidden} g C w in_range e gates least =
    (least_is_best poset.lists levels poset.first.places poset.rotations w.needs w.moves low high forced forbidden g w.ground in_range
    (subst (λ d. AreGates d low high forced forbidden g) (e ∙ w.is) gates)).0 C
    (subst (λ d. IsLeast (Fits d g) C) w.is least)

-- and where none fits there is none
pub none_found : {poset : RotationPoset} {levels : List (List ℕ)} {b c : Board} {low high : List ℕ} {forced forbidden : List (ℕ × ℕ)} (g : Gates) → IsBoardFor poset levels b → AreInRange (length poset.lists.proposers) forced → c ≡ b → AreGates c low high forced forbidden g → ((C : List Bool) → Fits b g C → ⊥) → (m : Places) → IsStable poset.lists m → IsWithin poset.lists levels low high m → IsAllowed levels forced forbidden m → ⊥
none_found {poset} {levels} {b} {c} {low} {high} {forced} {forbidden} g w in_range e gates none =
    (least_is_best poset.lists levels poset.first.places poset.rotations w.needs w.moves low high forced forbidden g w.ground in_range
    (subst (λ d. AreGates d low high forced forbidden g) (e ∙ w.is) gates)).1
    (λ C f. none C (subst (λ d. Fits d g C) (sym w.is) f))

-- the closed sets of the board are those of the poset
pub closed_for : {poset : RotationPoset} {levels : List (List ℕ)} {b : Board} (C : List Bool) → IsBoardFor poset levels b → IsClosedIn b C → IsClosed poset.lists poset.rotations C
closed_for {poset} {levels} {b} C w closed =
    (board_shows_sets poset.lists levels poset.first.places poset.rotations w.needs w.moves C w.ground).0.0 (subst (λ d. IsClosedIn d C) w.is closed)

-- bounds between which all stays lie exclude nothing
pub nothing_excluded : {poset : RotationPoset} {levels : List (List ℕ)} {b : Board} (low high : List ℕ) → IsBoardFor poset levels b → AreWide b low high → ExcludeNothing poset.lists levels low high
nothing_excluded {poset} {levels} {b} low high w wide m stable p less =
    let ground = w.ground in
    let s = (sets_are_matchings poset.lists poset.first.places poset.rotations ground.market ground.chain).all m stable in
    let at : level_of poset.lists levels m p ≡ level (board ground) s.0 p = ap (λ n. level_of poset.lists levels n p) (sym s.2) ∙ level_is ground s.1 p less in
    let in_it : p < length (board ground).leaves = omega (arith, many ground) in
    let between = subst (λ d. AreWide d low high) w.is wide p (stay (board ground) s.0 p) in_it (stays_in (is_board ground) s.0 p in_it) in
    (omega (arith, between.0, at), omega (arith, between.1, at))

-- what has the levels of a closed set is the level vector of its matching
pub vector_for : {poset : RotationPoset} {levels : List (List ℕ)} {b : Board} (C : List Bool) (v : List ℕ) → IsBoardFor poset levels b → IsClosed poset.lists poset.rotations C → length v ≡ length b.leaves
    → ((p : ℕ) → p < length b.leaves → slice_index v p ≡ level b C p) → v ≡ level_vector_of poset.lists levels (matching_of poset.lists poset.first.places poset.rotations C)
vector_for {poset} {levels} {b} C v w closed long are =
    ext_get_or 0 v (vector b C) (long ∙ sym (vector_long b C)) (λ p less. are p (omega (arith, long)) ∙ sym (vector_at b C p (omega (arith, long))))
    ∙ ap (λ d. vector d C) w.is ∙ vector_is w.ground closed

-- the proposers of the poset are those of the board
pub proposers_for : {poset : RotationPoset} {levels : List (List ℕ)} {b : Board} → IsBoardFor poset levels b → length b.leaves ≡ length poset.lists.proposers
proposers_for {poset} {levels} {b} w = ap (λ (d : Board). length d.leaves) w.is ∙ many w.ground

-- the board is one
pub board_made : {poset : RotationPoset} {levels : List (List ℕ)} {b : Board} → IsBoardFor poset levels b → IsBoard b
board_made {poset} {levels} {b} w = subst IsBoard (sym w.is) (is_board w.ground)

-- what a search without bounds finds is the best matching that is allowed
pub best_unbounded : {poset : RotationPoset} {levels : List (List ℕ)} {b c : Board} {forced forbidden : List (ℕ × ℕ)} (g : Gates) (C : List Bool) → IsBoardFor poset levels b → AreInRange (length poset.lists.proposers) forced → c ≡ b → AreUnbounded c forced forbidden g → IsLeast (Fits b g) C → IsBestAllowed poset.lists levels forced forbidden (matching_of poset.lists poset.first.places poset.rotations C)
best_unbounded {poset} {levels} {b} {c} {forced} {forbidden} g C w in_range e u least =
    let found = best_found g C w in_range e u.gates least in
    let free = nothing_excluded u.low u.high w (subst (λ d. AreWide d u.low u.high) e u.wide) in
    record { stable = found.stable; allowed = found.allowed; best = λ n stable allowed p. found.best n stable (free n stable) allowed p }

-- and where it finds none there is none
pub none_unbounded : {poset : RotationPoset} {levels : List (List ℕ)} {b c : Board} {forced forbidden : List (ℕ × ℕ)} (g : Gates) → IsBoardFor poset levels b → AreInRange (length poset.lists.proposers) forced → c ≡ b → AreUnbounded c forced forbidden g → ((C : List Bool) → Fits b g C → ⊥) → (m : Places) → IsStable poset.lists m → IsAllowed levels forced forbidden m → ⊥
none_unbounded {poset} {levels} {b} {c} {forced} {forbidden} g w in_range e u none m stable allowed =
    none_found g w in_range e u.gates none m stable (nothing_excluded u.low u.high w (subst (λ d. AreWide d u.low u.high) e u.wide) m stable) allowed
