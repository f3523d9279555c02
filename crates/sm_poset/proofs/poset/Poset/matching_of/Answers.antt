use Rattle.std.proofs.Common.{◌∙◌, length, sym, ap, subst, arith}
use Rattle.std.proofs.lemmas.List.{length-map}
use Rattle.sm_lists.proofs.ResultLemmas.{IfOk-both}
use Rattle.sm_market.specs.Stable.{IsStable}
use Rattle.sm_theory.specs.ClosedSets.{IsClosed, matching_of}
use Rattle.sm_theory.specs.Values.{rotations_of}
use Rattle.sm_poset.specs.Posets.{RotationPoset, poset_of}
use Rattle.sm_market.proofs.PairingLemmas.{held_of_matching, one_matching}
use Rattle.sm_poset.proofs.SetLemmas.{IsMatchingOf, moves_in_range, matching_made}
use Rattle.sm_poset.proofs.poset.Poset.matching_of.Goals as goal

pub worst_places-requires-clause-in_range : goal.worst_places-requires-clause-in_range
worst_places-requires-clause-in_range c =
    let closed = subst (λ (poset : RotationPoset). IsClosed poset.lists poset.rotations c.args.set.now.members.items) (sym c.self.view_is) c.requires in
    rw (c.deref.ensures.value, c.as_ref-2.ensures, c.deref-2.ensures.value) (moves_in_range c.self.invariant.moves_are c.args.set.now.members.items closed.one_each)

pub held-requires : goal.held-requires
held-requires c =
    let set = c.args.set.now.members.items in
    let poset : RotationPoset = poset_of c.self.inside.market.value c.self.inside.chain.value.first (rotations_of c.self.inside.chain.value.rotations.items) in
    let closed = subst (λ (poset : RotationPoset). IsClosed poset.lists poset.rotations set) (sym c.self.view_is) c.requires in
    let worst = rw (c.deref.ensures.value, c.as_ref-2.ensures, c.deref-2.ensures.value, c.as_ref.ensures) at c.in_ok-places.ensures.worst in
    let many = length-map c.self.inside.digraph.value.moves.items (λ v. v.items) in
    let made : IsMatchingOf poset set c.in_ok-places.places.items = matching_made c.self.invariant set closed c.in_ok-places.places.items
    (omega (arith, c.in_ok-places.ensures.one_each, ap length (rw c.as_ref-2.ensures at c.deref.ensures.value))) (λ p h. worst p (omega arith)) in
    rw (c.deref-3.ensures.value, made.places_are, c.as_ref-3.ensures) (held_of_matching made.stable.matching)

pub returns-clause-places : goal.returns-clause-places
returns-clause-places c =
    let set = c.args.set.now.members.items in
    let poset : RotationPoset = poset_of c.self.inside.market.value c.self.inside.chain.value.first (rotations_of c.self.inside.chain.value.rotations.items) in
    let closed = subst (λ (poset : RotationPoset). IsClosed poset.lists poset.rotations set) (sym c.self.view_is) c.requires in
    let worst = rw (c.deref.ensures.value, c.as_ref-2.ensures, c.deref-2.ensures.value, c.as_ref.ensures) at c.in_ok-places.ensures.worst in
    let many = length-map c.self.inside.digraph.value.moves.items (λ v. v.items) in
    let made : IsMatchingOf poset set c.in_ok-places.places.items = matching_made c.self.invariant set closed c.in_ok-places.places.items
    (omega (arith, c.in_ok-places.ensures.one_each, ap length (rw c.as_ref-2.ensures at c.deref.ensures.value))) (λ p h. worst p (omega arith)) in
    IfOk-both c.held.result _ _ _
    (λ m paired places. one_matching paired.matching made.stable.matching (places ∙ c.deref-3.ensures.value ∙ made.places_are)
    ∙ ap (λ (poset : RotationPoset). matching_of poset.lists poset.first.places poset.rotations set) c.self.view_is)
    (rw c.as_ref-3.ensures at c.held.ensures.pairing) c.held.ensures.places

pub returns-clause-stable : goal.returns-clause-stable
returns-clause-stable c =
    let set = c.args.set.now.members.items in
    let poset : RotationPoset = poset_of c.self.inside.market.value c.self.inside.chain.value.first (rotations_of c.self.inside.chain.value.rotations.items) in
    let closed = subst (λ (poset : RotationPoset). IsClosed poset.lists poset.rotations set) (sym c.self.view_is) c.requires in
    let worst = rw (c.deref.ensures.value, c.as_ref-2.ensures, c.deref-2.ensures.value, c.as_ref.ensures) at c.in_ok-places.ensures.worst in
    let many = length-map c.self.inside.digraph.value.moves.items (λ v. v.items) in
    let made : IsMatchingOf poset set c.in_ok-places.places.items = matching_made c.self.invariant set closed c.in_ok-places.places.items
    (omega (arith, c.in_ok-places.ensures.one_each, ap length (rw c.as_ref-2.ensures at c.deref.ensures.value))) (λ p h. worst p (omega arith)) in
    let stable = subst (λ (other : RotationPoset). IsStable other.lists (matching_of other.lists other.first.places other.rotations set)) c.self.view_is made.stable in
    IfOk-both c.held.result _ _ _
    (λ m here _. subst (IsStable c.args.self.now.lists) (sym here) stable)
    (returns-clause-places c) c.held.ensures.places
