use Rattle.std.proofs.Common.{◌∙◌, ap, arith, refl}
use Rattle.std.specs.Option.{option_map}
use Rattle.sm_report.specs.Lines.{line_of}
use Rattle.sm_check_clauses.specs.declared.verdicts.Reason.TheVariants as reason
use Rattle.sm_check_answers.specs.Listing.{last_or}
use Rattle.sm_check_answers.proofs.TriedLemmas.{own_tried}
use Rattle.sm_check_answers.proofs.ListingLemmas.{vector_judged, more_judged, other_judged}
use Rattle.sm_check_answers.proofs.listing.ListJudgeJudge.find_fault.Goals as goal

pub overflow_add-self : goal.overflow_add-self
overflow_add-self c =
    let room = c.in_default-vector_fault.ensures.found reason.OverLimit in
    omega (arith, room)

pub returns-in_default-vector_fault-clause-found : goal.returns-in_default-vector_fault-clause-found
returns-in_default-vector_fault-clause-found c = λ above k.
    let j = c.args.self.now in
    let last = c.last_vector-before.ensures.last ∙ ap (λ v. last_or j.count v (option_map (λ b. b.now) j.after)) c.deref.ensures.value in
    vector_judged k j.limit (line_of c.args.line.now) c.deref-in-Vector.result.now c.in-Vector.v.items c.copy_from_slice.new.self.items
    (option_map (λ b. b.now) c.last_vector-before.result) c.vector_fault.new.tried
    (ap line_of c.in-Vector.is) c.deref-in-Vector.ensures.value (c.copy_from_slice.ensures.items ∙ c.deref-in-Vector-2.ensures.value) last
    c.requires.own.fitting c.vector_fault.ensures.room (c.in_default-vector_fault.ensures.kept refl) c.in_default-vector_fault.ensures.found

pub returns-in-More-clause-found : goal.returns-in-More-clause-found
returns-in-More-clause-found c = λ above k.
    let j = c.args.self.now in
    let last = c.last_vector-before.ensures.last ∙ ap (λ v. last_or j.count v (option_map (λ b. b.now) j.after)) c.deref.ensures.value in
    more_judged k j.limit (line_of c.args.line.now) c.deref-in-More.result.now c.in-More.v.items (option_map (λ b. b.now) c.last_vector-before.result) c.more_fault.result
    (ap line_of c.in-More.is) c.deref-in-More.ensures.value last c.more_fault.ensures

pub returns-in_default : goal.returns-in_default
returns-in_default c = record {
  subject = refl;
  found = λ above k. other_judged k c.args.self.now.limit c.args.line.now c.in_default.not-Vector c.in_default.not-More;
}

pub vector_fault-requires-clause-kept : goal.vector_fault-requires-clause-kept
vector_fault-requires-clause-kept c = λ h. own_tried (c.requires.known.known.kept h)
