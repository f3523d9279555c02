use Rattle.std.proofs.Common.{◌≡◌, ℕ, arith, sym, ◌∙◌, subst, List, length, Option}
use Rattle.std.proofs.lemmas.List.{length-map}
use Rattle.sm_lists.proofs.ResultLemmas.{take-append_at_length}
use Rattle.sm_check_net.specs.Moves.{moves_in}
use Rattle.sm_check_net.specs.SetPlaces.{worst_by, AreMade}
use Rattle.sm_check_net.proofs.SetPlaceLemmas.{made_is}
use Rattle.sm_check_net.proofs.set_matching.set_places.Goals as goal

pub returns : goal.returns
returns c rotations m =
    let items : c.deref_mut.result.now ≡ c.args.first.now.places.proposers = c.deref_mut.ensures.value ∙ c.in_ok-places.ensures in
    let long : length c.lower_all.new.places ≡ c.in_ok-places.places.len = omega (arith, c.lower_all.ensures.one_each, c.deref_mut.ensures.len) in
    let n : ℕ = length c.args.moves.now in
    rw (take-append_at_length c.in_ok-places.places.len c.lower_all.new.places _ long)
    (made_is c.args.first.now.places c.args.set.now n c.requires.made.matching.proposers.one_each (sym (length-map c.args.moves.now _) ∙ m.one_each) m
    (subst (λ (xs : List (Option ℕ)). AreMade xs (λ p. worst_by p (moves_in c.args.moves.now) c.args.set.now n) c.lower_all.new.places) items c.lower_all.ensures))
