use Rattle.std.proofs.Common.{ap, ◌∙◌, List, sym, subst, length, map, arith}
use Rattle.std.proofs.lemmas.List.{length-map}
use Rattle.sm_agents.specs.Sound.{IsInstance}
use Rattle.sm_instance.specs.declared.inputs.Input.TheVariants.{Two}
use Rattle.sm_reader.specs.Draft.{said_of, given_in, pair_in}
use Rattle.sm_reader.specs.Numbering.{pair_among, weight_among}
use Rattle.sm_reader.specs.declared.draft.Pair.{Pair}
use Rattle.sm_reader.proofs.NumberLemmas.{parts_said, few_names}
use Rattle.sm_reader.proofs.SoundLemmas.{sides_sound}
use Rattle.sm_reader.proofs.reading.two_sides.Goals as goal

pub numbered_sides-requires : goal.numbered_sides-requires
numbered_sides-requires c =
    let ready = c.requires.ready in
    let few = few_names c.args.kind ready.line c.args.draft ready.draft in
    record { kind = c.args.kind; line = ready.line; two_sided = c.requires.two_sided; draft = ready.draft; few_proposers = few.0; few_reviewers = few.1 }

pub held-requires-clause-instance : goal.held-requires-clause-instance
held-requires-clause-instance c =
    let ready = c.requires.ready in
    let kind = c.args.kind in
    let d = c.args.draft in
    let same = parts_said kind ready.line d ready.draft c.requires.two_sided c.in_ok-sides.sides c.in_ok-sides.ensures.kind c.in_ok-sides.ensures.sides in
    subst IsInstance (sym same) (sides_sound kind (said_of kind d) c.requires.two_sided ready.right c.requires.known)

pub held-requires-clause-few : goal.held-requires-clause-few
held-requires-clause-few c =
    let ready = c.requires.ready in
    let sides = c.in_ok-sides.ensures.sides in
    let d = c.args.draft in
    let p = d.proposer_names.declared in
    let r = d.reviewer_names.declared in
    let weights = ap length sides.weights ∙ length-map (map given_in d.weights.entries) (weight_among p r) ∙ length-map d.weights.entries given_in in
    let pairs = λ (xs : List Pair). length-map (map pair_in xs) (pair_among p r) ∙ length-map xs pair_in in
    let forced = ap length sides.forced ∙ pairs d.forced.items in
    let forbidden = ap length sides.forbidden ∙ pairs d.forbidden.items in
    omega (arith, weights, forced, forbidden, ready.draft.few, ready.few)

pub returns-clause-sides : goal.returns-clause-sides
returns-clause-sides c =
    let ready = c.requires.ready in
    ap (λ x. Two x) (c.in_ok-held.ensures ∙ parts_said c.args.kind ready.line c.args.draft ready.draft c.requires.two_sided c.in_ok-sides.sides c.in_ok-sides.ensures.kind c.in_ok-sides.ensures.sides)

pub returns-clause-sound : goal.returns-clause-sound
returns-clause-sound c =
    let ready = c.requires.ready in
    let kind = c.args.kind in
    let d = c.args.draft in
    let same = parts_said kind ready.line d ready.draft c.requires.two_sided c.in_ok-sides.sides c.in_ok-sides.ensures.kind c.in_ok-sides.ensures.sides in
    subst IsInstance (sym (c.in_ok-held.ensures ∙ same)) (sides_sound kind (said_of kind d) c.requires.two_sided ready.right c.requires.known)
