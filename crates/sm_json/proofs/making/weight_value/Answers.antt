use Rattle.std.proofs.Common.{◌≡◌, ◌∷◌, [], ap, sym, ◌∙◌, of_z, to_z, w64, pos, rules}
use Rattle.std.specs.Int.RustNames.{FitsSigned}
use Rattle.std.proofs.lemmas.Int.{to_z-of_z}
use Rattle.serde_json.specs.Data.{Data, number, string}
use Rattle.serde_json.specs.Find.{of_integer}
use Rattle.serde_json.specs.View.{view}
use Rattle.sm_agents.specs.Vectors.{agents_of}
use Rattle.sm_agents.specs.Named.{SaidWeight}
use Rattle.sm_instance_lines.specs.Names.{said_weight}
use Rattle.sm_json.proofs.MakeLemmas.{pushed, array_made, one_number, two_numbers}
use Rattle.sm_json.proofs.making.weight_value.Goals as goal

pub returns-then-second-eq0 : goal.returns-then-second-eq0
returns-then-second-eq0 c =
    let x : SaidWeight = said_weight (agents_of c.args.proposers.now) (agents_of c.args.reviewers.now) (c.args.weight, c.args.second) in
    let p : Data = string x.pair.proposer in
    let r : Data = string x.pair.reviewer in
    let first : Data = number (of_integer x.weight) in
    let fits : FitsSigned w64 x.weight = search rules in
    let is : view c.from.result ≡ first = rw (to_z-of_z w64 x.weight fits) at c.from.ensures in
    let further : FitsSigned w64 c.args.second = search rules in
    let none : c.args.second ≡ pos 0 = sym (to_z-of_z w64 c.args.second further) ∙ ap (to_z w64) c.if-second-eq0.true in
    array_made c.push.new.list (p ∷ r ∷ first ∷ []) (pushed c.in_ok-items.items.items c.push.new.list.items c.from.result (p ∷ r ∷ []) first c.in_ok-items.ensures is c.in_ok-push.ensures.ok)
    ∙ one_number x none

pub returns : goal.returns
returns c =
    let x : SaidWeight = said_weight (agents_of c.args.proposers.now) (agents_of c.args.reviewers.now) (c.args.weight, c.args.second) in
    let p : Data = string x.pair.proposer in
    let r : Data = string x.pair.reviewer in
    let first : Data = number (of_integer x.weight) in
    let further : Data = number (of_integer x.second) in
    let fits : FitsSigned w64 x.weight = search rules in
    let is : view c.from.result ≡ first = rw (to_z-of_z w64 x.weight fits) at c.from.ensures in
    let small : FitsSigned w64 c.args.second = search rules in
    let then : view c.from-2.result ≡ further = rw (to_z-of_z w64 c.args.second small) at c.from-2.ensures in
    let both = pushed c.in_ok-items.items.items c.push.new.list.items c.from.result (p ∷ r ∷ []) first c.in_ok-items.ensures is c.in_ok-push.ensures.ok in
    array_made c.push-2.new.list (p ∷ r ∷ first ∷ further ∷ []) (pushed c.push.new.list.items c.push-2.new.list.items c.from-2.result (p ∷ r ∷ first ∷ []) further both then c.in_ok-push-2.ensures.ok)
    ∙ two_numbers x (λ same. c.if-second-eq0.false (ap (of_z w64) same))
