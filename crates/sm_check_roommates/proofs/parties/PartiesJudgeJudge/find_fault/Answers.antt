use Rattle.std.proofs.Common.{ℕ, ◌++◌, ◌∷◌, [], refl, sym, subst}
use Rattle.std.proofs.lemmas.Result.{IfOk-weaker}
use Rattle.sm_report.specs.Lines.{LineData, line_of}
use Rattle.sm_check_clauses.specs.Said.{parties_in}
use Rattle.sm_check_clauses.specs.Rooming.{PartiesHold}
use Rattle.sm_check_roommates.specs.PartiesKept.{ArePartiesHeld}
use Rattle.sm_check_clauses.proofs.AnswerLemmas.{finds_keeping}
use Rattle.sm_check_roommates.proofs.PartyLemmas.{party_fails, party_holds, others_hold, nothing_said, kept_more, kept_same}
use Rattle.sm_check_roommates.proofs.parties.PartiesJudgeJudge.find_fault.Goals as goal

pub returns-then-not-add-clause-found : goal.returns-then-not-add-clause-found
returns-then-not-add-clause-found c = λ above k.
    let p = c.args.self.now.parties in
    let held = subst (λ (n : ℕ). ArePartiesHeld n (parties_in above) p.next.items p.met.items p.odd) (sym k.held.met_each) k.held in
    let none = rw c.deref.ensures.value at (c.if-not-add.ensures (parties_in above) held) in
    rw c.in-Party.is (party_fails c.args.self.now.persons.now (parties_in above) c.in-Party.party.items none)

pub returns-else-not-add-clause-found : goal.returns-else-not-add-clause-found
returns-else-not-add-clause-found c = λ above k.
    let p = c.args.self.now.parties in
    let q = c.add.new.self in
    let party = c.in-Party.party.items in
    let held = subst (λ (n : ℕ). ArePartiesHeld n (parties_in above) p.next.items p.met.items p.odd) (sym k.held.met_each) k.held in
    let h = rw c.deref.ensures.value at (c.if-not-add.ensures (parties_in above) held) in
    let now = subst (λ (n : ℕ). ArePartiesHeld n (parties_in above ++ party ∷ []) q.next.items q.met.items q.odd) k.held.met_each h.held in
    rw c.in-Party.is (
      party_holds c.args.self.now.persons.now (parties_in above) party h.fresh,
      kept_more above (LineData.Party party) k.lists now,
    )

pub returns-in-End-clause-found : goal.returns-in-End-clause-found
returns-in-End-clause-found c = rw c.in-End.is (IfOk-weaker c.end_fault.result _ _ (λ why found above k.
    finds_keeping (PartiesHold c.args.self.now.persons.now (parties_in above) LineData.End) _ why (found c.args.self.now.persons.now (parties_in above) k.lists k.held) (kept_same above LineData.End refl k)) c.end_fault.ensures)

pub returns-in_default : goal.returns-in_default
returns-in_default c = record {
  subject = refl;
  found = λ above k. (
    others_hold c.args.self.now.persons.now (parties_in above) c.args.line.now c.in_default.not-Party c.in_default.not-End,
    kept_same above (line_of c.args.line.now) (nothing_said c.args.line.now c.in_default.not-Party) k,
  );
}
