use Rattle.std.proofs.Common.{◌≡◌, ℕ, ◌<◌, length, arith, ap, sym, ◌∙◌, ◌++◌, ◌∷◌, [], List, Vec, replicate, set, heap_items}
use Rattle.std.specs.declared.alloc.Global.{Global}
use Rattle.std.proofs.lemmas.List.{length-map, length-replicate, length-set, length_push, map-set, map_push, get_or-map}
use Rattle.sm_lists.proofs.RowLemmas.{row_read}
use Rattle.sm_market.specs.Lists.{row}
use Rattle.sm_market.specs.Vectors.{rows_of}
use Rattle.sm_theory.specs.Chains.{rotation_at, IsPrintedChain}
use Rattle.sm_theory.specs.Values.{rotations_of}
use Rattle.sm_theory.specs.declared.rotations.Rotation.{Rotation}
use Rattle.sm_rotations.specs.Graph.{AreCounts}
use Rattle.sm_rotations.specs.Ordering.{AreLeads, IsTurned, AreTurned, AreReadyAtFirst}
use Rattle.sm_rotations.proofs.AddingLemmas.{row-replicate}
use Rattle.sm_rotations.proofs.CountLemmas.{few_rotations}
use Rattle.sm_rotations.proofs.TurnedBackLemmas.{followers_in_range, followers_lower}
use Rattle.sm_rotations.proofs.ChainingLemmas.{rotations_of-push, few_places}
use Rattle.sm_rotations.proofs.NeedsLemmas.{as_many}
use Rattle.sm_rotations.proofs.WrittenLemmas.{nil_of, pairs_at, has_followers, written_start, written_whole, popped_in_range, popped_out, popped_exposed, enough_unmet, places_left, next_is, left_more, written_more}
use Rattle.sm_rotations.proofs.RenumberLemmas.{renumbered_start, lower_still, renumbered_more, needs_written}
use Rattle.sm_rotations.proofs.order.ordered.Goals as goal

pub counts-requires-clause-few : goal.counts-requires-clause-few
counts-requires-clause-few c =
    let few = few_rotations c.proposers.ensures.market c.proposers.ensures.limits c.requires.complete in
    omega (arith, few, as_many c.args.rotations.now, c.requires.followers.one_each, length-map c.args.followers.now (λ v. v.items))

pub counts-requires-clause-in_range : goal.counts-requires-clause-in_range
counts-requires-clause-in_range c =
    let long : length (rows_of c.args.followers.now) ≡ length c.args.followers.now = length-map c.args.followers.now (λ v. v.items) in
    λ i a inside. omega (arith, followers_in_range c.requires.followers (omega (arith, as_many c.args.rotations.now)) i a inside, long)

pub counts-requires-clause-once : goal.counts-requires-clause-once
counts-requires-clause-once c = c.requires.followers.once

pub ready_at_first-requires-clause-few : goal.ready_at_first-requires-clause-few
ready_at_first-requires-clause-few c =
    let few = few_rotations c.proposers.ensures.market c.proposers.ensures.limits c.requires.complete in
    omega (arith, few, as_many c.args.rotations.now, ap length c.as_slice-leads.ensures.value, c.in_ok-leads.ensures.leads.one_each)

pub steps-init : goal.steps-init
steps-init c =
    let u = has_followers c.args.rotations.now c.args.followers.now c.proposers.ensures.market c.requires.complete c.requires.followers in
    let long : length (rows_of c.args.followers.now) ≡ length c.args.followers.now = length-map c.args.followers.now (λ v. v.items) in
    let counts : AreCounts (rows_of c.args.followers.now) (length (rows_of c.args.followers.now)) c.as_mut_slice-unmet.result.now = rw (c.as_mut_slice-unmet.ensures.value, long) c.in_ok-unmet.ensures in
    let long_leads : length c.as_slice-leads.result.now ≡ length (rotations_of c.args.rotations.now) = omega (arith, ap length c.as_slice-leads.ensures.value, c.in_ok-leads.ensures.leads.one_each, as_many c.args.rotations.now) in
    let leads : AreLeads (rotations_of c.args.rotations.now) (length (rotations_of c.args.rotations.now)) c.as_slice-leads.result.now = rw (as_many c.args.rotations.now, c.as_slice-leads.ensures.value) c.in_ok-leads.ensures.leads in
    let first : AreReadyAtFirst c.as_slice-leads.result.now c.as_mut_slice-unmet.result.now (length (rotations_of c.args.rotations.now)) (heap_items c.in_ok-ready.ready) = rw long_leads at c.in_ok-ready.ensures.ready in
    let turned : AreTurned (rotations_of c.args.rotations.now) (length (rotations_of c.args.rotations.now)) (rotations_of c.turn_each.new.rotations) = rw (as_many c.args.rotations.now) c.in_ok-leads.ensures.turned in
    let none = ap rotations_of c.in_ok-written.ensures.items in
    let empty : rows_of c.as_mut_slice-noted.result.now ≡ replicate (length c.as_mut_slice-unmet.result.now) [] = ap rows_of c.as_mut_slice-noted.ensures.value ∙ c.in_ok-noted.ensures in
    let each : length (rows_of c.as_mut_slice-noted.result.now) ≡ length (rotations_of c.args.rotations.now) =
    omega (arith, ap length empty, length-replicate {A = List ℕ} (length c.as_mut_slice-unmet.result.now) [], counts.one_each, u.are.one_each) in
    record {
      order = c.in_ok-ready.ensures.order;
      written = written_start u c.as_mut_slice-unmet.result.now (heap_items c.in_ok-ready.ready) none counts leads first;
      renumbered = renumbered_start none (ap rows_of c.in_ok-needs.ensures.items) each (λ k. rw empty (row-replicate (length c.as_mut_slice-unmet.result.now) k));
      left = rw none (record { one_each = turned.one_each; each = λ k g _. turned.each k g });
      few = rw none (omega arith);
    }

pub overflow_cast-number : goal.overflow_cast-number
overflow_cast-number c =
    let number : c.len-number.result ≡ length (rotations_of c.steps.written.items) = omega (arith, c.len-number.ensures, as_many c.steps.written.items) in
    omega (arith, number, c.steps.invariant.few, few_places c.args.first.now.places c.proposers.ensures.limits)

pub bounds-noted-k : goal.bounds-noted-k
bounds-noted-k c =
    let u = has_followers c.args.rotations.now c.args.followers.now c.proposers.ensures.market c.requires.complete c.requires.followers in
    let w = c.steps.invariant.written in
    let x = c.in-Some.field-0 in
    let popped = c.in-Some.ensures.permutation in
    let long : length (rows_of c.steps.noted) ≡ length c.steps.noted = length-map c.steps.noted (λ v. v.items) in
    omega (arith, popped_in_range u w x popped, c.steps.invariant.renumbered.noted_each, long)

pub bounds-followers-k : goal.bounds-followers-k
bounds-followers-k c =
    let u = has_followers c.args.rotations.now c.args.followers.now c.proposers.ensures.market c.requires.complete c.requires.followers in
    let w = c.steps.invariant.written in
    let x = c.in-Some.field-0 in
    let popped = c.in-Some.ensures.permutation in
    let there : c.in-Some.field-0.0.1 < length c.args.followers.now = omega (arith, popped_in_range u w x popped, u.are.one_each, length-map c.args.followers.now (λ v. v.items)) in
    there

pub add_once-requires-clause-in_range : goal.add_once-requires-clause-in_range
add_once-requires-clause-in_range c =
    let u = has_followers c.args.rotations.now c.args.followers.now c.proposers.ensures.market c.requires.complete c.requires.followers in
    let w = c.steps.invariant.written in
    let x = c.in-Some.field-0 in
    let popped = c.in-Some.ensures.permutation in
    let there : c.in-Some.field-0.0.1 < length c.args.followers.now = omega (arith, popped_in_range u w x popped, u.are.one_each, length-map c.args.followers.now (λ v. v.items)) in
    let those : c.as_slice-those.result.now ≡ row (rows_of c.args.followers.now) c.in-Some.field-0.0.1 = row_read c.args.followers.now c.in-Some.field-0.0.1 c.index-followers-k.result c.as_slice-those.result.now there c.index-followers-k.is c.as_slice-those.ensures.value in
    let long : length (rows_of c.steps.noted) ≡ length c.steps.noted = length-map c.steps.noted (λ v. v.items) in
    rw those (λ a less. omega (arith, followers_lower u.are c.in-Some.field-0.0.1 a less, c.steps.invariant.renumbered.noted_each, long, length-set c.steps.noted c.in-Some.field-0.0.1 c.replace.new.dest))

pub add_once-requires-clause-lower : goal.add_once-requires-clause-lower
add_once-requires-clause-lower c =
    let u = has_followers c.args.rotations.now c.args.followers.now c.proposers.ensures.market c.requires.complete c.requires.followers in
    let w = c.steps.invariant.written in
    let x = c.in-Some.field-0 in
    let popped = c.in-Some.ensures.permutation in
    let g : c.in-Some.field-0.0.1 < length (rotations_of c.args.rotations.now) = popped_in_range u w x popped in
    let taken : rows_of (set c.steps.noted c.in-Some.field-0.0.1 c.replace.new.dest) ≡ set (rows_of c.steps.noted) c.in-Some.field-0.0.1 [] = map-set (λ (v : Vec ℕ Global). v.items) c.steps.noted c.in-Some.field-0.0.1 c.replace.new.dest ∙ ap (λ (v : Vec ℕ Global). set (rows_of c.steps.noted) c.in-Some.field-0.0.1 v.items) c.replace.ensures.after ∙ ap (set (rows_of c.steps.noted) c.in-Some.field-0.0.1) c.new-in-Some.ensures.items in
    let number : c.len-number.result ≡ length (rotations_of c.steps.written.items) = omega (arith, c.len-number.ensures, as_many c.steps.written.items) in
    rw (taken, number) (lower_still u.market u.chain c.steps.invariant.renumbered c.in-Some.field-0.0.1 g)

pub release-requires-clause-in_range : goal.release-requires-clause-in_range
release-requires-clause-in_range c =
    let u = has_followers c.args.rotations.now c.args.followers.now c.proposers.ensures.market c.requires.complete c.requires.followers in
    let w = c.steps.invariant.written in
    let x = c.in-Some.field-0 in
    let popped = c.in-Some.ensures.permutation in
    let there : c.in-Some.field-0.0.1 < length c.args.followers.now = omega (arith, popped_in_range u w x popped, u.are.one_each, length-map c.args.followers.now (λ v. v.items)) in
    let those : c.as_slice-those.result.now ≡ row (rows_of c.args.followers.now) c.in-Some.field-0.0.1 = row_read c.args.followers.now c.in-Some.field-0.0.1 c.index-followers-k.result c.as_slice-those.result.now there c.index-followers-k.is c.as_slice-those.ensures.value in
    rw those (λ a less. omega (arith, followers_lower u.are c.in-Some.field-0.0.1 a less, as_many c.args.rotations.now, ap length c.as_slice-leads.ensures.value, c.in_ok-leads.ensures.leads.one_each))

pub release-requires-clause-enough : goal.release-requires-clause-enough
release-requires-clause-enough c =
    let u = has_followers c.args.rotations.now c.args.followers.now c.proposers.ensures.market c.requires.complete c.requires.followers in
    let w = c.steps.invariant.written in
    let x = c.in-Some.field-0 in
    let popped = c.in-Some.ensures.permutation in
    let there : c.in-Some.field-0.0.1 < length c.args.followers.now = omega (arith, popped_in_range u w x popped, u.are.one_each, length-map c.args.followers.now (λ v. v.items)) in
    let those : c.as_slice-those.result.now ≡ row (rows_of c.args.followers.now) c.in-Some.field-0.0.1 = row_read c.args.followers.now c.in-Some.field-0.0.1 c.index-followers-k.result c.as_slice-those.result.now there c.index-followers-k.is c.as_slice-those.ensures.value in
    rw those (enough_unmet u w x popped)

pub steps-smaller : goal.steps-smaller
steps-smaller c =
    let u = has_followers c.args.rotations.now c.args.followers.now c.proposers.ensures.market c.requires.complete c.requires.followers in
    let w = c.steps.invariant.written in
    let x = c.in-Some.field-0 in
    let popped = c.in-Some.ensures.permutation in
    let inside : c.in-Some.field-0.0.1 < length c.steps.rotations = omega (arith, popped_in_range u w x popped, c.steps.invariant.left.one_each, as_many c.steps.rotations) in
    let taken : c.replace-pairs.result.items ≡ rotation_at (rotations_of c.steps.rotations) c.in-Some.field-0.0.1 = ap (λ (v : Vec (ℕ × ℕ) Global). v.items) c.replace-pairs.ensures.value ∙ pairs_at c.steps.rotations c.in-Some.field-0.0.1 c.index-rotations-k.result inside in
    let order = (c.in-Some.ensures.heap_order c.steps.invariant.order).1 in
    let turned : IsTurned (rotation_at (rotations_of c.args.rotations.now) c.in-Some.field-0.0.1) c.replace-pairs.result.items = rw taken (c.steps.invariant.left.each c.in-Some.field-0.0.1 (popped_in_range u w x popped) (popped_out u w x popped)) in
    let more : rotations_of c.push.new.self.items ≡ rotations_of c.steps.written.items ++ c.replace-pairs.result.items ∷ [] = ap rotations_of c.in_ok-push.ensures.items ∙ rotations_of-push c.steps.written.items (record { pairs = c.replace-pairs.result }) in
    places_left u w x popped order turned more

pub steps-preserved : goal.steps-preserved
steps-preserved c =
    let u = has_followers c.args.rotations.now c.args.followers.now c.proposers.ensures.market c.requires.complete c.requires.followers in
    let w = c.steps.invariant.written in
    let x = c.in-Some.field-0 in
    let popped = c.in-Some.ensures.permutation in
    let inside : c.in-Some.field-0.0.1 < length c.steps.rotations = omega (arith, popped_in_range u w x popped, c.steps.invariant.left.one_each, as_many c.steps.rotations) in
    let g : c.in-Some.field-0.0.1 < length (rotations_of c.args.rotations.now) = popped_in_range u w x popped in
    let taken : c.replace-pairs.result.items ≡ rotation_at (rotations_of c.steps.rotations) c.in-Some.field-0.0.1 = ap (λ (v : Vec (ℕ × ℕ) Global). v.items) c.replace-pairs.ensures.value ∙ pairs_at c.steps.rotations c.in-Some.field-0.0.1 c.index-rotations-k.result inside in
    let there : c.in-Some.field-0.0.1 < length c.args.followers.now = omega (arith, popped_in_range u w x popped, u.are.one_each, length-map c.args.followers.now (λ v. v.items)) in
    let those : c.as_slice-those.result.now ≡ row (rows_of c.args.followers.now) c.in-Some.field-0.0.1 = row_read c.args.followers.now c.in-Some.field-0.0.1 c.index-followers-k.result c.as_slice-those.result.now there c.index-followers-k.is c.as_slice-those.ensures.value in
    let order = (c.in-Some.ensures.heap_order c.steps.invariant.order).1 in
    let turned : IsTurned (rotation_at (rotations_of c.args.rotations.now) c.in-Some.field-0.0.1) c.replace-pairs.result.items = rw taken (c.steps.invariant.left.each c.in-Some.field-0.0.1 (popped_in_range u w x popped) (popped_out u w x popped)) in
    let more : rotations_of c.push.new.self.items ≡ rotations_of c.steps.written.items ++ c.replace-pairs.result.items ∷ [] = ap rotations_of c.in_ok-push.ensures.items ∙ rotations_of-push c.steps.written.items (record { pairs = c.replace-pairs.result }) in
    let emptied : rows_of (set c.steps.noted c.in-Some.field-0.0.1 c.replace.new.dest) ≡ set (rows_of c.steps.noted) c.in-Some.field-0.0.1 [] = map-set (λ (v : Vec ℕ Global). v.items) c.steps.noted c.in-Some.field-0.0.1 c.replace.new.dest ∙ ap (λ (v : Vec ℕ Global). set (rows_of c.steps.noted) c.in-Some.field-0.0.1 v.items) c.replace.ensures.after ∙ ap (set (rows_of c.steps.noted) c.in-Some.field-0.0.1) c.new-in-Some.ensures.items in
    let number : c.len-number.result ≡ length (rotations_of c.steps.written.items) = omega (arith, c.len-number.ensures, as_many c.steps.written.items) in
    let r = c.steps.invariant.renumbered in
    let leads : AreLeads (rotations_of c.args.rotations.now) (length (rotations_of c.args.rotations.now)) c.as_slice-leads.result.now = rw (as_many c.args.rotations.now, c.as_slice-leads.ensures.value) c.in_ok-leads.ensures.leads in
    let released = rw those at c.in_ok-release.ensures.released in
    let added = rw (emptied, number, those) at c.in_ok-add_once.ensures in
    let within : c.in-Some.field-0.0.1 < length c.steps.noted = omega (arith, g, r.noted_each, length-map c.steps.noted (λ v. v.items)) in
    let list : c.replace.result.items ≡ row (rows_of c.steps.noted) c.in-Some.field-0.0.1 = ap (λ (v : Vec ℕ Global). v.items) c.replace.ensures.value ∙ sym (get_or-map (λ (v : Vec ℕ Global). v.items) c.steps.noted c.in-Some.field-0.0.1 c.index-noted-k.result [] within) in
    let one_more : rows_of c.push-in-Some.new.self.items ≡ rows_of c.steps.needs.items ++ row (rows_of c.steps.noted) c.in-Some.field-0.0.1 ∷ [] = ap rows_of c.in_ok-push-2.ensures.items ∙ map_push (λ (v : Vec ℕ Global). v.items) c.steps.needs.items c.replace.result ∙ ap (λ (list : List ℕ). rows_of c.steps.needs.items ++ list ∷ []) list in
    record {
      order = c.in_ok-release.ensures.order;
      written = written_more u w x popped order turned more c.in_ok-release.ensures.one_each leads released;
      renumbered = renumbered_more u.market u.chain r c.in-Some.field-0.0.1 g w.stable (popped_out u w x popped) (popped_exposed u w x popped) turned added (next_is u w x popped order turned more) more one_more;
      left = rw (map-set (λ (r : Rotation). r.pairs.items) c.steps.rotations c.in-Some.field-0.0.1 (record { pairs = c.replace-pairs.new.dest })) (left_more u w x popped order turned more _ c.steps.invariant.left);
      few = omega (arith, c.steps.invariant.few, places_left u w x popped order turned more, ap length more, length_push (rotations_of c.steps.written.items) c.replace-pairs.result.items);
    }

pub returns-clause-chain : goal.returns-clause-chain
returns-clause-chain c =
    let u = has_followers c.args.rotations.now c.args.followers.now c.proposers.ensures.market c.requires.complete c.requires.followers in
    let empty : heap_items c.steps.ready ≡ [] = nil_of (heap_items c.steps.ready) (sym c.steps.ready.data.ok.0 ∙ c.in_default.ensures.none) in
    written_whole u c.steps.invariant.written empty

pub returns-clause-needs : goal.returns-clause-needs
returns-clause-needs c =
    let u = has_followers c.args.rotations.now c.args.followers.now c.proposers.ensures.market c.requires.complete c.requires.followers in
    let empty : heap_items c.steps.ready ≡ [] = nil_of (heap_items c.steps.ready) (sym c.steps.ready.data.ok.0 ∙ c.in_default.ensures.none) in
    let printed : IsPrintedChain c.args.market.now c.args.first.now.places (rotations_of c.steps.written.items) = written_whole u c.steps.invariant.written empty in
    needs_written u.market u.chain u.are printed.chain c.steps.invariant.renumbered
