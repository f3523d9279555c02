use Rattle.std.proofs.Common.{Option, None, Some, refl, sym, take, ◌∙◌}
use Rattle.std.specs.Prelude.{MatchOption}
use Rattle.std.proofs.lemmas.Bool.{false≢true}
use Rattle.sm_check_net.specs.CheckedNets.{NetParts, net_of_parts}
use Rattle.sm_check_clauses.specs.Pairs.{AreAllThere}
use Rattle.sm_check_weight.proofs.EndLemmas.{with_net, with_no_net, end_not_there, end_not_least, end_holds}
use Rattle.sm_check_weight.proofs.claims.Claim.end_fault.Goals as goal

pub returns-then-not-are_all_there : goal.returns-then-not-are_all_there
returns-then-not-are_all_there c = λ pairs k.
    let self = c.args.self.now in
    let set = self.taken.set.items in
    let matching = self.taken.matching.places.items in
    let none : AreAllThere matching pairs → ⊥ = λ all. false≢true ((c.if-not-are_all_there.ensures pairs k).1 (rw c.deref.ensures.value all)) in
    with_net {X = Unit {0}} {Y = λ net. Unit {0}} self.second_net
    (λ _. end_not_there (net_of_parts self.net) (take self.first.flow.count self.first.flow.lines.items) set matching pairs none)
    (λ net _. end_not_there (net_of_parts net) (take self.second.flow.count self.second.flow.lines.items) set matching pairs none)
    (always self.second_net)
  where
    always : (o : Option NetParts) → MatchOption o (Unit {0}) (λ net. Unit {0})
    always None = tt
    always (Some net) = tt

pub returns-then-not-branch : goal.returns-then-not-branch
returns-then-not-branch c = λ pairs k.
    let self = c.args.self.now in
    let set = self.taken.set.items in
    let matching = self.taken.matching.places.items in
    let there = rw c.deref.ensures.value at ((c.if-not-are_all_there.ensures pairs k).0 refl) in
    with_no_net self.second_net
    (λ none. end_not_least (net_of_parts self.net) (take self.first.flow.count self.first.flow.lines.items) set matching pairs there none)
    (λ net none. end_not_least (net_of_parts net) (take self.second.flow.count self.second.flow.lines.items) set matching pairs there none)
    (λ h. false≢true (sym c.if-not-branch.true ∙ c.in_ok-is_reached.ensures.1 h))

pub returns : goal.returns
returns c = λ pairs k.
    let self = c.args.self.now in
    let set = self.taken.set.items in
    let matching = self.taken.matching.places.items in
    let there = rw c.deref.ensures.value at ((c.if-not-are_all_there.ensures pairs k).0 refl) in
    with_net self.second_net
    (λ reach. end_holds (net_of_parts self.net) (take self.first.flow.count self.first.flow.lines.items) set matching pairs there reach)
    (λ net reach. end_holds (net_of_parts net) (take self.second.flow.count self.second.flow.lines.items) set matching pairs there reach)
    (c.in_ok-is_reached.ensures.0 c.if-not-branch.false)
