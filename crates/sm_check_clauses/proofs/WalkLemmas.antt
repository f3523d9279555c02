-- A chain of rotations as an answer writes it, one line after another.
use Rattle.std.proofs.Common.{◌≡◌, ℕ, suc, ◌<◌, inl, inr, List, [], ◌∷◌, ◌++◌, length, map, Option, None, Vec, Global, true, false, ◌&&◌, refl, sym, ap, ◌∙◌, subst, arith}
use Rattle.std.specs.Prelude.{IfSome, not, pred}
use Rattle.std.specs.List.{list_all, cons_option}
use Rattle.std.proofs.lemmas.Bool.{false≢true, cases_lt}
use Rattle.std.proofs.lemmas.List.{length_push, get_or_past, get_or_push, get_or_append_left}
use Rattle.sm_lists.proofs.BoolLemmas.{first_true, second_true}
use Rattle.sm_agents.specs.Written.{Written}
use Rattle.sm_market.specs.Lists.{Lists}
use Rattle.sm_market.specs.Matching.{Places}
use Rattle.sm_market.specs.Pairing.{Paired, IsPairingOf}
use Rattle.sm_market.specs.Stable.{IsStable}
use Rattle.sm_theory.specs.Rotations.{IsExposed, IsLowestExposed, IsNothingExposed, eliminated}
use Rattle.sm_theory.specs.Chains.{stage, rotation_at, AreNeedsOf}
use Rattle.sm_theory.proofs.Bridge.Chain.{stage_before, rotation_at-push_before, rotation_at-push_new, eliminable_more}
use Rattle.sm_check_net.specs.declared.moves.Move.{Move}
use Rattle.sm_check_net.specs.Moves.{moves_in, row_of_moves, AreRotationMoves, AreOnLists}
use Rattle.sm_check_decide.specs.Exposure.{IsSearchOf}
use Rattle.sm_check_decide.specs.Noting.{IsNotesFor, AreNoted}
use Rattle.sm_seats.specs.SeatMarket.{seat_market}
use Rattle.sm_report.specs.declared.lines.Seat.{Seat}
use Rattle.sm_report.specs.declared.lines.Line.{Line}
use Rattle.sm_report.specs.Lines.{LineData, line_of}
use Rattle.sm_theory.proofs.Chains.Length.{short_eliminable}
use Rattle.sm_check_clauses.specs.declared.verdicts.Reason.{Reason}
use Rattle.sm_check_clauses.specs.declared.verdicts.Reason.TheVariants as reason
use Rattle.sm_check_clauses.specs.declared.chain_walk.ChainWalk.{ChainWalk}
use Rattle.sm_check_forms.specs.Seats.{all_numbered, seat_number}
use Rattle.sm_check_clauses.specs.Said.{first_in, firsts_in, rotation_in, rotations_in, needs_in, is_up_to_firsts, is_up_to_rotations, IsFirstBehind}
use Rattle.sm_check_clauses.specs.SeatMatchings.{IsFreeSeat, first_of, seat_places_in, AreSeatPairs}
use Rattle.sm_check_clauses.specs.Chain.{RotationsHold, reached, last_rotation}
use Rattle.sm_check_clauses.specs.SeatPairsKept.{HasTakenSeat}
use Rattle.sm_check_clauses.specs.declared.seat_pairs.SeatPairs.{SeatPairs}
use Rattle.sm_report.specs.Heads.{HeadData}
use Rattle.sm_check_clauses.specs.Walks.{AreChainMoves, IsChainWalk, IsWalkOf, AreFirstsKept}
use Rattle.sm_check_clauses.specs.WalksKept.{HasStepped}
use Rattle.sm_check_clauses.specs.Verdicts.{IsFirstThere}
use Rattle.sm_check_clauses.proofs.AnswerLemmas.{first_clause, said_same, said_one}
use Rattle.sm_check_forms.proofs.TakingLemmas.{all_more}
use Rattle.sm_check_clauses.proofs.SeatPairLemmas.{none_free}

-- the matching that is reached with one more rotation
stage_new : (l : Lists) (first : Places) (xs : List (List (ℕ × ℕ))) (x : List (ℕ × ℕ)) → stage l first (xs ++ x ∷ []) (length (xs ++ x ∷ [])) ≡ eliminated l (stage l first xs (length xs)) x
stage_new l first xs x =
    let long : length (xs ++ x ∷ []) ≡ suc (length xs) = omega (arith, length_push xs x) in
    ap (stage l first (xs ++ x ∷ [])) long
    ∙ ap (λ (m : Places). eliminated l m (rotation_at (xs ++ x ∷ []) (length xs))) (stage_before l first xs x (length xs) (omega arith))
    ∙ ap (eliminated l (stage l first xs (length xs))) (rotation_at-push_new xs x (length xs) refl)

-- the moves of one more rotation
pub no_moves : (l : Lists) → AreChainMoves l [] []
no_moves l = record {
  moves = record { one_each = refl; each = λ k less. absurd (omega arith) };
  on_lists = λ k i less. absurd (let none : length (row_of_moves [] k) ≡ 0 = ap (λ (m : List Move). length m) (get_or_past {X = List Move} [] k [] (omega arith)) in omega (arith, none, less));
}

-- its moves stand behind those before
pub moves_more : {l : Lists} {rotations : List (List (ℕ × ℕ))} {rows : List (List Move)} → AreChainMoves l rotations rows → (rotation : List (ℕ × ℕ)) (moves : List Move) → AreRotationMoves l rotation moves → AreOnLists l moves
    → AreChainMoves l (rotations ++ rotation ∷ []) (rows ++ moves ∷ [])
moves_more {l} {rotations} {rows} c rotation moves is on = record {
  moves = record { one_each = omega (arith, c.moves.one_each, length_push rotations rotation, length_push rows moves); each = each };
  on_lists = on_lists;
}
  where
    each : (k : ℕ) → k < length (rotations ++ rotation ∷ []) → AreRotationMoves l (rotation_at (rotations ++ rotation ∷ []) k) (row_of_moves (rows ++ moves ∷ []) k)
    each k less = elim (cases_lt k (length rotations)) [
      | inl below ↦ subst (AreRotationMoves l (rotation_at (rotations ++ rotation ∷ []) k)) (sym (get_or_append_left rows (moves ∷ []) [] k (omega (arith, c.moves.one_each, below))))
          (subst (λ (r : List (ℕ × ℕ)). AreRotationMoves l r (row_of_moves rows k)) (sym (rotation_at-push_before rotations rotation k below)) (c.moves.each k below))
      | inr past ↦
          let e : k ≡ length rotations = omega (arith, past, less, length_push rotations rotation) in
          let f : length rows ≡ k = omega (arith, e, c.moves.one_each) in
          subst (AreRotationMoves l (rotation_at (rotations ++ rotation ∷ []) k)) (sym (get_or_push rows moves [] k f))
          (subst (λ (r : List (ℕ × ℕ)). AreRotationMoves l r moves) (sym (rotation_at-push_new rotations rotation k e)) is)
    ]

    on_lists : (k : ℕ) → AreOnLists l (row_of_moves (rows ++ moves ∷ []) k)
    on_lists k = elim (cases_lt k (length rows)) [
      | inl below ↦ subst (AreOnLists l) (sym (get_or_append_left rows (moves ∷ []) [] k below)) (c.on_lists k)
      | inr past ↦ elim (cases_lt (length rows) k) [
        | inl over ↦ λ i less. absurd (let none : length (row_of_moves (rows ++ moves ∷ []) k) ≡ 0 = ap (λ (m : List Move). length m) (get_or_past (rows ++ moves ∷ []) k [] (omega (arith, over, length_push rows moves))) in omega (arith, none, less))
        | inr same ↦ subst (AreOnLists l) (sym (get_or_push rows moves [] k (omega (arith, past, same)))) on
      ]
    ]

module _ {l : Lists} {first : Places} {rotations : List (List (ℕ × ℕ))} {walk : ChainWalk} (k : IsChainWalk l first rotations walk) (rotation : List (ℕ × ℕ)) where
  -- there is room for one more that is exposed
  pub room : IsExposed l walk.matching.places rotation → walk.notes.count < walk.notes.most
  room x =
      let short = short_eliminable k.market k.best.stable.matching (eliminable_more rotation k.noted.eliminable k.reached x) in
      omega (arith, short, length_push rotations rotation, k.noted.count, k.most)

  -- the walk with all that is kept of it has taken one step more
  pub stepped : (after : ChainWalk) → after.first ≡ walk.first → AreChainMoves l (rotations ++ rotation ∷ []) (moves_in after.moves.items) → IsLowestExposed l walk.matching.places rotation → IsSearchOf l (eliminated l walk.matching.places rotation) after.search → IsPairingOf l after.matching → after.matching.places ≡ eliminated l walk.matching.places rotation
      → IsStable l after.matching.places → IsNotesFor l after.notes → after.notes.most ≡ walk.notes.most → AreNoted l first (rotations ++ rotation ∷ []) after.notes → after.is_whole ≡ walk.is_whole → HasStepped l first rotations rotation walk after
  stepped after from moves lowest search made moved stable notes most noted same = record {
    lowest = lowest;
    is_walk = record {
      market = k.market;
      best = k.best;
      first_made = subst (IsPairingOf l) (sym from) k.first_made;
      first_is = ap (λ (m : Paired). m.places) from ∙ k.first_is;
      moves = moves;
      made = made;
      reached = moved ∙ ap (λ (m : Places). eliminated l m rotation) k.reached ∙ sym (stage_new l first rotations rotation);
      stable = stable;
      search = subst (λ (m : Places). IsSearchOf l m after.search) (sym moved) search;
      notes = notes;
      most = most ∙ k.most;
      noted = noted;
    };
    same = same;
  }

-- a line that isn't up to the rotations says nothing of them
pub none_said : (w : Written) (x : LineData) → is_up_to_rotations x ≡ false → (first_in w x ≡ None) × (rotation_in w x ≡ None) × (needs_in x ≡ None)
none_said w (LineData.First p seat) e = absurd (false≢true (sym e))
none_said w (LineData.Rotation i pairs) e = absurd (false≢true (sym e))
none_said w (LineData.Needs i needed) e = absurd (false≢true (sym e))
none_said w _ e = (refl, refl, refl)

-- and no other line says anything of them
pub other_line : (w : Written) (x : Line) → ((p : ℕ) (seat : Seat) → x ≡ Line.First p seat → ⊥) → ((i : ℕ) (pairs : Vec (ℕ × Seat) Global) → x ≡ Line.Rotation i pairs → ⊥) → ((i : ℕ) (needed : Vec ℕ Global) → x ≡ Line.Needs i needed → ⊥)
    → (first_in w (line_of x) ≡ None) × (rotation_in w (line_of x) ≡ None) × (needs_in (line_of x) ≡ None)
other_line w (Line.First p seat) a b c = absurd (a p seat refl)
other_line w (Line.Rotation i pairs) a b c = absurd (b i pairs refl)
other_line w (Line.Needs i needed) a b c = absurd (c i needed refl)
other_line w _ a b c = (refl, refl, refl)

module _ {w : Written} {above : List LineData} {walk : ChainWalk} (k : IsWalkOf w above walk) where
  -- the clauses at a line
  rotations_hold : (x : LineData) → first_in w x ≡ None → IfSome (rotation_in w x) (IsLowestExposed (seat_market w) (reached w above)) → (IsFirstBehind is_up_to_rotations above x → IsNothingExposed (seat_market w) (reached w above))
      → IfSome (needs_in x) (AreNeedsOf (seat_market w) (rotations_in w above) (last_rotation w above)) → (why : Reason) → RotationsHold w above x why
  rotations_hold x none exposed missing needs reason.NotAMatching = (subst (λ (o : Option (ℕ × ℕ)). IfSome o (IsFreeSeat (seat_market w) (firsts_in w above))) (sym none) tt, tt)
  rotations_hold x none exposed missing needs reason.Blocked = (λ _. k.is_walk.best.stable, tt)
  rotations_hold x none exposed missing needs reason.NotBest = (λ _. k.is_walk.best, tt)
  rotations_hold x none exposed missing needs reason.NotExposed = (tt, exposed)
  rotations_hold x none exposed missing needs reason.RotationMissing = (tt, missing)
  rotations_hold x none exposed missing needs reason.WrongNeeds = (tt, needs)
  rotations_hold x none exposed missing needs _ = (tt, tt)

  -- what is kept of it
  walk_on : (x : LineData) (after : ChainWalk) → first_in w x ≡ None → rotation_in w x ≡ None → IsChainWalk (seat_market w) (first_of w above) (rotations_in w above) after
      → IsChainWalk (seat_market w) (first_of w (above ++ x ∷ [])) (rotations_in w (above ++ x ∷ [])) after
  walk_on x after none no_rotation is =
      subst (λ (pairs : List (ℕ × ℕ)). IsChainWalk (seat_market w) (seat_places_in (seat_market w) pairs) (rotations_in w (above ++ x ∷ [])) after) (sym (said_same (first_in w) above x none))
      (subst (λ (rotations : List (List (ℕ × ℕ))). IsChainWalk (seat_market w) (first_of w above) rotations after) (sym (said_same (rotation_in w) above x no_rotation)) is)

  -- a line of the group that has neither a pair nor a rotation
  pub still : (x : LineData) → is_up_to_rotations x ≡ true → first_in w x ≡ None → rotation_in w x ≡ None → IfSome (needs_in x) (AreNeedsOf (seat_market w) (rotations_in w above) (last_rotation w above))
      → ((why : Reason) → RotationsHold w above x why) × IsWalkOf w (above ++ x ∷ []) walk
  still x up none no_rotation needs = (
    rotations_hold x none (subst (λ (o : Option (List (ℕ × ℕ))). IfSome o (IsLowestExposed (seat_market w) (reached w above))) (sym no_rotation) tt)
        (λ b. absurd (false≢true (sym (ap not up) ∙ b.behind))) needs,
    record {
      is_walk = walk_on x walk none no_rotation k.is_walk;
      going = λ e. all_more is_up_to_rotations above x (k.going e) up;
      whole = k.whole;
    },
  )

  -- a line behind the group
  pub past : (x : LineData) → is_up_to_rotations x ≡ false → (after : ChainWalk) → IsChainWalk (seat_market w) (first_of w above) (rotations_in w above) after → IsNothingExposed (seat_market w) after.matching.places → after.is_whole ≡ true
      → ((why : Reason) → RotationsHold w above x why) × IsWalkOf w (above ++ x ∷ []) after
  past x behind after is ended whole =
      let said = none_said w x behind in (
        rotations_hold x said.0 (subst (λ (o : Option (List (ℕ × ℕ))). IfSome o (IsLowestExposed (seat_market w) (reached w above))) (sym said.1) tt)
            (λ _. subst (IsNothingExposed (seat_market w)) is.reached ended)
            (subst (λ (o : Option (List ℕ)). IfSome o (AreNeedsOf (seat_market w) (rotations_in w above) (last_rotation w above))) (sym said.2) tt),
        record {
          is_walk = walk_on x after said.0 said.1 is;
          going = λ e. absurd (false≢true (sym e ∙ whole));
          whole = λ _. ended;
        },
      )

  -- a line with a rotation
  pub along : (i : ℕ) (pairs : List (ℕ × Seat)) (rotation : List (ℕ × ℕ)) → rotation ≡ all_numbered w pairs → (after : ChainWalk) → HasStepped (seat_market w) (first_of w above) (rotations_in w above) rotation walk after
      → ((why : Reason) → RotationsHold w above (LineData.Rotation i pairs) why) × IsWalkOf w (above ++ LineData.Rotation i pairs ∷ []) after
  along i pairs rotation is after s =
      let x : LineData = LineData.Rotation i pairs in (
        rotations_hold x refl (subst (λ (m : Places). IsLowestExposed (seat_market w) m (all_numbered w pairs)) k.is_walk.reached (subst (IsLowestExposed (seat_market w) walk.matching.places) is s.lowest))
            (λ b. absurd (false≢true b.behind)) tt,
        record {
          is_walk =
              subst (λ (said : List (ℕ × ℕ)). IsChainWalk (seat_market w) (seat_places_in (seat_market w) said) (rotations_in w (above ++ x ∷ [])) after) (sym (said_same (first_in w) above x refl))
              (subst (λ (rotations : List (List (ℕ × ℕ))). IsChainWalk (seat_market w) (first_of w above) rotations after) (sym (said_one (rotation_in w) above x (all_numbered w pairs) refl))
              (subst (λ (r : List (ℕ × ℕ)). IsChainWalk (seat_market w) (first_of w above) (rotations_in w above ++ r ∷ []) after) is s.is_walk));
          going = λ e. all_more is_up_to_rotations above x (k.going (sym s.same ∙ e)) refl;
          whole = λ e. absurd ((k.whole (sym s.same ∙ e)).none rotation s.lowest.exposed);
        },
      )

  -- no pair may stand behind the matching that was tried
  pub none_more : (p : ℕ) (seat : Seat) → IsFirstThere (RotationsHold w above (LineData.First p seat)) reason.NotAMatching
  none_more p seat = first_clause (λ free. none_free k.is_walk.market (firsts_in w above) k.is_walk.best.stable p (seat_number w seat) free.0)

  -- a line that says what the newest rotation needs
  pub needed : (i : ℕ) (needed : List ℕ) → AreNeedsOf (seat_market w) (rotations_in w above) (last_rotation w above) (map pred needed)
      → ((why : Reason) → RotationsHold w above (LineData.Needs i needed) why) × IsWalkOf w (above ++ LineData.Needs i needed ∷ []) walk
  needed i numbers right = still (LineData.Needs i numbers) refl refl refl right

-- a line of the first seats says nothing of the rotations, and is up to them
pub up_to_firsts : (w : Written) (x : LineData) → is_up_to_firsts x ≡ true → (is_up_to_rotations x ≡ true) × (rotation_in w x ≡ None) × (needs_in x ≡ None)
up_to_firsts w (LineData.Answer head) e = (refl, refl, refl)
up_to_firsts w (LineData.First p seat) e = (refl, refl, refl)
up_to_firsts w _ e = absurd (false≢true e)

all_up_to : (w : Written) (above : List LineData) → list_all is_up_to_firsts above ≡ true → (list_all is_up_to_rotations above ≡ true) × (rotations_in w above ≡ [])
all_up_to w [] e = (refl, refl)
all_up_to w (x ∷ above) e =
    let one = up_to_firsts w x (first_true (is_up_to_firsts x) (list_all is_up_to_firsts above) e) in
    let others = all_up_to w above (second_true (is_up_to_firsts x) (list_all is_up_to_firsts above) e) in
    (ap (λ b. b && list_all is_up_to_rotations above) one.0 ∙ others.0, ap (λ (o : Option (List (ℕ × ℕ))). cons_option o (rotations_in w above)) one.1 ∙ others.1)

-- the rotations begin behind the first matching
pub begun : {w : Written} {above : List LineData} {pairs : SeatPairs} (l : Lists) → l ≡ seat_market w → AreFirstsKept w above pairs → (first : Places) → ((said : List (ℕ × ℕ)) → AreSeatPairs l said pairs → first ≡ seat_places_in l said)
    → (walk : ChainWalk) → IsChainWalk l first [] walk → walk.is_whole ≡ false → IsWalkOf w above walk
begun {w} {above} {pairs} l is k first places walk is_walk going =
    let up = all_up_to w above k.up_to in
    let at : first ≡ first_of w above = (rw is at places) (firsts_in w above) k.kept in
    record {
      is_walk = subst (λ (rotations : List (List (ℕ × ℕ))). IsChainWalk (seat_market w) (first_of w above) rotations walk) (sym up.1) (subst (λ (m : Places). IsChainWalk (seat_market w) m [] walk) at (subst (λ (l : Lists). IsChainWalk l first [] walk) is is_walk));
      going = λ _. up.0;
      whole = λ e. absurd (false≢true (sym going ∙ e));
    }

module _ {w : Written} {above : List LineData} {pairs : SeatPairs} (k : AreFirstsKept w above pairs) where
  -- the clauses at a line while the first matching is written
  written_holds : (x : LineData) → is_up_to_firsts x ≡ true → IfSome (first_in w x) (IsFreeSeat (seat_market w) (firsts_in w above)) → (why : Reason) → RotationsHold w above x why
  written_holds x up free reason.NotAMatching = (free, tt)
  written_holds x up free reason.Blocked = (λ b. absurd (false≢true (sym (ap not up) ∙ b.behind)), tt)
  written_holds x up free reason.NotBest = (λ b. absurd (false≢true (sym (ap not up) ∙ b.behind)), tt)
  written_holds x up free reason.NotExposed = (tt, subst (λ (o : Option (List (ℕ × ℕ))). IfSome o (IsLowestExposed (seat_market w) (reached w above))) (sym (up_to_firsts w x up).1) tt)
  written_holds x up free reason.RotationMissing = (tt, λ b. absurd (false≢true (sym (ap not (up_to_firsts w x up).0) ∙ b.behind)))
  written_holds x up free reason.WrongNeeds = (tt, subst (λ (o : Option (List ℕ)). IfSome o (AreNeedsOf (seat_market w) (rotations_in w above) (last_rotation w above))) (sym (up_to_firsts w x up).2) tt)
  written_holds x up free _ = (tt, tt)

  -- all hold at the head
  pub head_line : (head : HeadData) → ((why : Reason) → RotationsHold w above (LineData.Answer head) why) × AreFirstsKept w (above ++ LineData.Answer head ∷ []) pairs
  head_line head =
      let x : LineData = LineData.Answer head in (
        written_holds x refl tt,
        record {
          up_to = all_more is_up_to_firsts above x k.up_to refl;
          kept = subst (λ (said : List (ℕ × ℕ)). AreSeatPairs (seat_market w) said pairs) (sym (said_same (first_in w) above x refl)) k.kept;
        },
      )

  -- all hold at a first seat that may stand behind those before it
  pub first_line : (p : ℕ) (seat : Seat) (number : ℕ) → number ≡ seat_number w seat → (after : SeatPairs) → HasTakenSeat (seat_market w) (firsts_in w above) (p, number) after
      → ((why : Reason) → RotationsHold w above (LineData.First p seat) why) × AreFirstsKept w (above ++ LineData.First p seat ∷ []) after
  first_line p seat number is after t =
      let x : LineData = LineData.First p seat in
      let one : HasTakenSeat (seat_market w) (firsts_in w above) (p, seat_number w seat) after = subst (λ n. HasTakenSeat (seat_market w) (firsts_in w above) (p, n) after) is t in (
        written_holds x refl one.free,
        record {
          up_to = all_more is_up_to_firsts above x k.up_to refl;
          kept = subst (λ (said : List (ℕ × ℕ)). AreSeatPairs (seat_market w) said after) (sym (said_one (first_in w) above x (p, seat_number w seat) refl)) one.kept;
        },
      )

-- how the rotations so far move their proposers
pub none_rotated : {w : Written} {above : List LineData} {pairs : SeatPairs} → AreFirstsKept w above pairs → AreChainMoves (seat_market w) (rotations_in w above) []
none_rotated {w} {above} k = subst (λ (rotations : List (List (ℕ × ℕ))). AreChainMoves (seat_market w) rotations []) (sym (all_up_to w above k.up_to).1) (no_moves (seat_market w))
