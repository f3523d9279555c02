use Rattle.std.proofs.Common.{Some, None, length, arith, ap, refl}
use Rattle.std.proofs.lemmas.Result.{IfOk-weaker}
use Rattle.sm_report.specs.Lines.{line_of}
use Rattle.sm_market.specs.Lists.{Lists}
use Rattle.sm_seats.proofs.MarketLaws.{length-proposers}
use Rattle.sm_check_clauses.specs.declared.verdicts.Reason.TheVariants as reason
use Rattle.sm_check_clauses.specs.Said.{firsts_in, lasts_in}
use Rattle.sm_check_answers.proofs.ReducedLemmas.{head_line, first_line, last_line, last_tried, last_begins, lists_go, no_seat_line}
use Rattle.sm_check_clauses.proofs.AnswerLemmas.{kept_as}
use Rattle.sm_check_answers.proofs.reduced.ReducedJudgeJudge.find_fault.Goals as goal

pub add-requires-clause-proposer : goal.add-requires-clause-proposer
add-requires-clause-proposer c =
    let own = rw c.in-First.is at c.requires.own.right.printable in
    let there = own.0 in
    omega (arith, there, ap (λ (l : Lists). length l.proposers) c.requires.known.known.market_is, length-proposers c.args.self.now.instance.now)

pub add-requires-in-Last-clause-proposer : goal.add-requires-in-Last-clause-proposer
add-requires-in-Last-clause-proposer c =
    let own = rw c.in-Last.is at c.requires.own.right.printable in
    let there = own.0 in
    omega (arith, there, ap (λ (l : Lists). length l.proposers) c.requires.known.known.market_is, length-proposers c.args.self.now.instance.now)

pub returns-in-Answer-clause-found : goal.returns-in-Answer-clause-found
returns-in-Answer-clause-found c = λ above k.
    let self = c.args.self.now in
    let h = head_line self.instance.now above _ self.first self.last self.group k.kept in
    rw c.in-Answer.is (h.0, record { market_is = k.market_is; is_market = k.is_market; firsts_are = k.firsts_are; kept = h.1 })

pub returns-else-not-add-clause-found : goal.returns-else-not-add-clause-found
returns-else-not-add-clause-found c = λ above k.
    let self = c.args.self.now in
    let w = self.instance.now in
    let h = first_line w above k.is_market c.in-First.p c.in-First.seat c.seat_number-number.result c.seat_number-number.ensures.number self.first c.add.new.self self.last self.group k.kept
    ((rw k.market_is at c.if-not-add.ensures) (firsts_in w above) k.kept.firsts) in
    rw c.in-First.is (h.0, record { market_is = k.market_is; is_market = k.is_market; firsts_are = k.firsts_are; kept = h.1 })

pub returns-in-Some-clause-found : goal.returns-in-Some-clause-found
returns-in-Some-clause-found c = λ above k.
    let self = c.args.self.now in
    let w = self.instance.now in
    let f = (rw k.market_is at c.in_ok-why-in-First-group.ensures) (firsts_in w above) k.kept.firsts in
    rw c.in-Last.is (last_tried w above c.in-Last.p c.in-Last.seat c.seat_number-number-in-Last.result c.seat_number-number-in-Last.ensures.number self.first self.last c.add-in-Last.new.self
    ((rw k.market_is at c.if-not-add-2.ensures) (lasts_in w above) k.kept.lasts) (rw c.in-First-group.is at k.kept) (Some c.in-Some.why) (rw c.in-Some.is at f))

pub returns-in_default-2-clause-found : goal.returns-in_default-2-clause-found
returns-in_default-2-clause-found c = λ above k.
    let self = c.args.self.now in
    let w = self.instance.now in
    let f = rw c.in_default-2.is at ((rw k.market_is at c.in_ok-why-in-First-group.ensures) (firsts_in w above) k.kept.firsts) in
    let t = (rw k.market_is at c.if-not-add-2.ensures) (lasts_in w above) k.kept.lasts in
    let before = rw c.in-First-group.is at k.kept in
    rw c.in-Last.is (
      last_tried w above c.in-Last.p c.in-Last.seat c.seat_number-number-in-Last.result c.seat_number-number-in-Last.ensures.number self.first self.last c.add-in-Last.new.self t before None f,
      record {
        market_is = k.market_is;
        is_market = k.is_market;
        firsts_are = k.firsts_are;
        kept = last_begins w above c.in-Last.p c.in-Last.seat c.seat_number-number-in-Last.result c.seat_number-number-in-Last.ensures.number self.first self.last c.add-in-Last.new.self t before (f reason.NotBest);
      },
    )

pub returns-in_default-group : goal.returns-in_default-group
returns-in_default-group c = record {
  subject = refl;
  found = λ above k.
      let self = c.args.self.now in
      let w = self.instance.now in
      let h = last_line w above c.in-Last.p c.in-Last.seat c.seat_number-number-in-Last.result c.seat_number-number-in-Last.ensures.number self.first self.last c.add-in-Last.new.self
      ((rw k.market_is at c.if-not-add-2.ensures) (lasts_in w above) k.kept.lasts) k.is_market self.group c.in_default-group.not-First k.kept in
      rw c.in-Last.is (h.0, record { market_is = k.market_is; is_market = k.is_market; firsts_are = k.firsts_are; kept = h.1 });
}

pub returns-in-Lists : goal.returns-in-Lists
returns-in-Lists c =
    let self = c.args.self.now in
    let w = self.instance.now in
    let x = line_of c.args.line.now in
    let behind = no_seat_line c.args.line.now c.in_default.not-Answer c.in_default.not-First c.in_default.not-Last in
    record {
      subject = refl;
      found = IfOk-weaker c.find_fault.result _ _
          (λ why h above k.
          let g = rw c.in-Lists.is at k.kept.at in
          kept_as _ (λ kept. record { market_is = k.market_is; is_market = k.is_market; firsts_are = k.firsts_are; kept = kept }) why
          (lists_go w above x behind self.first self.last g.first_best g.last_best k.kept.firsts k.kept.lasts c.find_fault.new.self why (h above g.are_lists)))
          c.find_fault.ensures;
    }

pub returns-in_default-group-2 : goal.returns-in_default-group-2
returns-in_default-group-2 c = record {
  subject = rw c.behind_fault.ensures.instance refl;
  found = IfOk-weaker c.behind_fault.result _ _
      (λ why h above k.
      kept_as _ (λ kept. rw (c.behind_fault.ensures.instance, c.behind_fault.ensures.market, c.behind_fault.ensures.firsts) (record { market_is = k.market_is; is_market = k.is_market; firsts_are = k.firsts_are; kept = kept })) why (h above k.kept))
      c.behind_fault.ensures.found;
}
