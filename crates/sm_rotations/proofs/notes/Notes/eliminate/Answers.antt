use Rattle.std.proofs.Common.{◌≡◌, ℕ, ◌++◌, ◌∷◌, List, Vec, length, [], arith, ap, ◌∙◌}
use Rattle.std.specs.Vec.{with_items}
use Rattle.std.specs.declared.alloc.Global.{Global}
use Rattle.std.proofs.lemmas.List.{length-map, length_push, map_push}
use Rattle.sm_lists.proofs.ResultLemmas.{take-append_at_length}
use Rattle.sm_market.specs.Vectors.{rows_of}
use Rattle.sm_rotations.specs.Graph.{AreAddedTo}
use Rattle.sm_rotations.specs.Marking.{AreMoved, AreMarked, IsFoundNeed, Adds}
use Rattle.sm_rotations.specs.Footings.{AreSteps, IsFoundAlong}
use Rattle.sm_rotations.proofs.CountLemmas.{few_eliminable}
use Rattle.sm_rotations.proofs.FootingLemmas.{down, found_of_along, along_of_found}
use Rattle.sm_rotations.proofs.MarkingLemmas.{adds_like}
use Rattle.sm_rotations.proofs.NotingLemmas.{followers_longer, found_within, noted_more}
use Rattle.sm_rotations.proofs.TurnedBackLemmas.{followers_lower}
use Rattle.sm_rotations.proofs.notes.Notes.eliminate.Goals as goal

pub overflow_cast-number : goal.overflow_cast-number
overflow_cast-number c =
    let n = c.requires.noted.noted in
    let few = few_eliminable c.proposers.ensures.market c.proposers.ensures.limits n.matching n.eliminable in
    omega (arith, few, c.len-number.ensures, length-map c.args.self.now.followers.items (λ v. v.items), n.followers.one_each)

pub mark_moves-requires-clause-number : goal.mark_moves-requires-clause-number
mark_moves-requires-clause-number c =
    let n = c.requires.noted.noted in
    let few = few_eliminable c.proposers.ensures.market c.proposers.ensures.limits n.matching n.eliminable in
    omega (arith, few, c.len-number.ensures, length-map c.args.self.now.followers.items (λ v. v.items), n.followers.one_each)

pub find-requires-clause-down : goal.find-requires-clause-down
find-requires-clause-down c =
    rw (c.deref.ensures.value, c.deref-2.ensures.value, c.as_slice-pairs.ensures.value) (λ i a. down c.proposers.ensures.market c.in_ok-step.ensures.steps i a)

pub add_once-requires-clause-in_range : goal.add_once-requires-clause-in_range
add_once-requires-clause-in_range c =
    let h = c.proposers.ensures.market in
    let n = c.requires.noted.noted in
    let pairs : List (ℕ × ℕ) = c.args.rotation.now.pairs.items in
    let steps : AreSteps c.args.market.now pairs c.deref.result.now c.deref-2.result.now = rw (c.deref.ensures.value, c.deref-2.ensures.value) c.in_ok-step.ensures.steps in
    let along : Adds (λ i. IsFoundAlong pairs c.deref.result.now c.deref-2.result.now (length pairs) c.args.self.now.last.items c.args.self.now.marks i) [] c.find.new.found.items =
    rw (c.as_slice-pairs.ensures.value, c.deref-3.ensures.value) at c.in_ok-find.ensures in
    let found : Adds (λ i. IsFoundNeed c.args.market.now pairs (length pairs) c.args.self.now.last.items c.args.self.now.marks i) [] c.find.new.found.items = adds_like (found_of_along h steps) (along_of_found h steps) along in
    let pushed : c.deref_mut.result.now ≡ c.args.self.now.followers.items ++ c.new.result ∷ [] = c.deref_mut.ensures.value ∙ c.in_ok-push.ensures.items in
    rw c.deref-4.ensures.value (λ a less.
    let within = found_within n.eliminable c.requires.noted.leads pairs c.requires.exposed h n.matching n.last n.marks found a less in
    omega (arith, within, ap length pushed, length_push c.args.self.now.followers.items c.new.result, length-map c.args.self.now.followers.items (λ v. v.items), n.followers.one_each))

pub add_once-requires-clause-lower : goal.add_once-requires-clause-lower
add_once-requires-clause-lower c =
    let n = c.requires.noted.noted in
    let pushed : c.deref_mut.result.now ≡ c.args.self.now.followers.items ++ c.new.result ∷ [] = c.deref_mut.ensures.value ∙ c.in_ok-push.ensures.items in
    let rows : rows_of c.deref_mut.result.now ≡ rows_of c.args.self.now.followers.items ++ [] ∷ [] =
    ap rows_of pushed ∙ map_push (λ (v : Vec ℕ Global). v.items) c.args.self.now.followers.items c.new.result ∙ ap (λ (xs : List ℕ). rows_of c.args.self.now.followers.items ++ xs ∷ []) c.new.ensures.items in
    let number : c.len-number.result ≡ length c.requires.noted.rotations = omega (arith, c.len-number.ensures, length-map c.args.self.now.followers.items (λ v. v.items), n.followers.one_each) in
    rw (rows, number) (followers_lower (followers_longer n.eliminable c.requires.noted.leads c.args.rotation.now.pairs.items c.requires.exposed c.proposers.ensures.market n.matching n.followers))

pub returns-clause-noted : goal.returns-clause-noted
returns-clause-noted c = λ first rotations n is.
    let h = c.proposers.ensures.market in
    let pairs : List (ℕ × ℕ) = c.args.rotation.now.pairs.items in
    let steps : AreSteps c.args.market.now pairs c.deref.result.now c.deref-2.result.now = rw (c.deref.ensures.value, c.deref-2.ensures.value) c.in_ok-step.ensures.steps in
    let along : Adds (λ i. IsFoundAlong pairs c.deref.result.now c.deref-2.result.now (length pairs) c.args.self.now.last.items c.args.self.now.marks i) [] c.find.new.found.items =
    rw (c.as_slice-pairs.ensures.value, c.deref-3.ensures.value) at c.in_ok-find.ensures in
    let found : Adds (λ i. IsFoundNeed c.args.market.now pairs (length pairs) c.args.self.now.last.items c.args.self.now.marks i) [] c.find.new.found.items = adds_like (found_of_along h steps) (along_of_found h steps) along in
    let pushed : c.deref_mut.result.now ≡ c.args.self.now.followers.items ++ c.new.result ∷ [] = c.deref_mut.ensures.value ∙ c.in_ok-push.ensures.items in
    let rows : rows_of c.deref_mut.result.now ≡ rows_of c.args.self.now.followers.items ++ [] ∷ [] =
    ap rows_of pushed ∙ map_push (λ (v : Vec ℕ Global). v.items) c.args.self.now.followers.items c.new.result ∙ ap (λ (xs : List ℕ). rows_of c.args.self.now.followers.items ++ xs ∷ []) c.new.ensures.items in
    let number : c.len-number.result ≡ length rotations = omega (arith, c.len-number.ensures, length-map c.args.self.now.followers.items (λ v. v.items), n.followers.one_each) in
    let last_is : (with_items c.args.self.now.last c.note_movers.new.last).items ≡ c.note_movers.new.last = take-append_at_length c.args.self.now.last.len c.note_movers.new.last _ (c.note_movers.ensures.one_each ∙ c.deref_mut-2.ensures.len) in
    let followers_are : (with_items c.push.new.self c.add_once.new.lists).items ≡ c.add_once.new.lists = take-append_at_length c.push.new.self.len c.add_once.new.lists _ (let auto = c.add_once.auto.lists in let len = c.deref_mut.ensures.len in omega arith) in
    let moved : AreMoved pairs (length pairs) (length rotations) c.args.self.now.last.items (with_items c.args.self.now.last c.note_movers.new.last).items =
    rw last_is (rw (c.as_slice-pairs.ensures.value, c.deref_mut-2.ensures.value, number) at c.note_movers.ensures) in
    let marked : AreMarked c.args.market.now pairs (length pairs) (length rotations) c.args.self.now.marks c.mark_moves.new.marks = rw (c.as_slice-pairs.ensures.value, number) at c.in_ok-mark_moves.ensures in
    let added : AreAddedTo (length rotations) c.find.new.found.items (rows_of c.args.self.now.followers.items ++ [] ∷ []) (rows_of (with_items c.push.new.self c.add_once.new.lists).items) =
    rw followers_are (rw (c.deref-4.ensures.value, rows, number) at c.in_ok-add_once.ensures) in
    noted_more n.eliminable is pairs c.requires.exposed h n found _ moved marked added
