use Rattle.std.proofs.Common.{ℕ, List, Option, refl, sym, ap, ◌∙◌, subst}
use Rattle.std.specs.Prelude.{IfSome}
use Rattle.std.specs.List.{list_all}
use Rattle.std.proofs.lemmas.List.Folds.{list_all-map}
use Rattle.sm_theory.specs.Chains.{AreNeedsOf}
use Rattle.sm_seats.specs.SeatMarket.{seat_market}
use Rattle.sm_report.specs.declared.lines.Seat.{Seat}
use Rattle.sm_check_clauses.specs.Chain.{last_rotation}
use Rattle.sm_report.specs.Lines.{line_of}
use Rattle.sm_check_forms.specs.Seats.{is_seat, pair_has_seat, all_numbered}
use Rattle.sm_check_clauses.specs.Said.{rotations_in}
use Rattle.sm_check_clauses.specs.SeatMatchings.{first_of}
use Rattle.sm_check_clauses.specs.WalksKept.{StepsAlong}
use Rattle.sm_check_clauses.proofs.WalkLemmas.{still, past, along, none_more, needed, other_line}
use Rattle.sm_check_clauses.proofs.chain_walk.ChainWalk.find_fault.Goals as goal

pub returns-then-not-is_up_to_rotations : goal.returns-then-not-is_up_to_rotations
returns-then-not-is_up_to_rotations c = λ above k.
    let w = c.args.instance.now in
    past k (line_of c.args.line.now) (sym c.if-not-is_up_to_rotations.ensures) c.ends.new.self
    ((rw c.requires.market at c.if-not-ends.ensures.walk) (first_of w above) (rotations_in w above) k.is_walk)
    ((rw c.requires.market at c.if-not-ends.ensures.ended).0 refl) c.if-not-ends.ensures.whole

pub rotation_of-requires-clause-seats : goal.rotation_of-requires-clause-seats
rotation_of-requires-clause-seats c =
    let fitting = rw c.in-Rotation.is at c.requires.own.fitting in
    ap (list_all (pair_has_seat c.args.instance.now)) c.deref.ensures.value ∙ sym (list_all-map (is_seat c.args.instance.now) (λ (pair : ℕ × Seat). pair.1) c.in-Rotation.pairs.items) ∙ fitting

pub returns-in-First : goal.returns-in-First
returns-in-First c = λ above k. rw c.in-First.is (none_more k c.in-First.field-0 c.in-First.field-1)

pub returns-else-not-branch : goal.returns-else-not-branch
returns-else-not-branch c = λ above k.
    let w = c.args.instance.now in
    rw c.in-Rotation.is (along k c.in-Rotation.field-0 c.in-Rotation.pairs.items c.in_ok-rotation-in-Rotation.rotation.pairs.items
    (c.in_ok-rotation-in-Rotation.ensures ∙ ap (all_numbered w) c.deref.ensures.value) c.steps.new.self
    (subst (StepsAlong (seat_market w) (first_of w above) (rotations_in w above) c.in_ok-rotation-in-Rotation.rotation.pairs.items c.args.self.now c.steps.new.self) c.if-not-branch.false
    ((rw c.requires.market at c.in_ok-steps-in-Rotation.ensures) (first_of w above) (rotations_in w above) k.is_walk)))

pub returns-else-not-branch-2 : goal.returns-else-not-branch-2
returns-else-not-branch-2 c = λ above k.
    let w = c.args.instance.now in
    let right = c.in_ok-are_needs-in-Needs.ensures (seat_market w) (first_of w above) (rotations_in w above) k.is_walk.noted in
    rw c.in-Needs.is (needed k c.in-Needs.field-0 c.in-Needs.needed.items (rw c.deref-in-Needs.ensures.value at (right.0 c.if-not-branch-2.false)))

pub returns-in_default : goal.returns-in_default
returns-in_default c = λ above k.
    let w = c.args.instance.now in
    let none = other_line w c.args.line.now c.in_default.not-First c.in_default.not-Rotation c.in_default.not-Needs in
    still k (line_of c.args.line.now) (sym c.is_up_to_rotations.ensures ∙ c.if-not-is_up_to_rotations.false) none.0 none.1
    (subst (λ (o : Option (List ℕ)). IfSome o (AreNeedsOf (seat_market w) (rotations_in w above) (last_rotation w above))) (sym none.2) tt)
