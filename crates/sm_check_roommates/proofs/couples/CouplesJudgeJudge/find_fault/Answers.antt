use Rattle.std.proofs.Common.{◌≡◌, ℕ, ◌++◌, ◌∷◌, [], List, Option, length, sym, ◌∙◌, subst}
use Rattle.sm_lists.proofs.ResultLemmas.{IfOk-both, take-append_at_length}
use Rattle.sm_report.specs.Lines.{line_of}
use Rattle.sm_check_clauses.specs.Said.{pairs_in}
use Rattle.sm_check_roommates.specs.CouplesKept.{AreCouplesHeld}
use Rattle.sm_check_roommates.proofs.CoupleLemmas.{couples_judged}
use Rattle.sm_check_roommates.proofs.couples.CouplesJudgeJudge.find_fault.Goals as goal

pub returns-clause-found : goal.returns-clause-found
returns-clause-found c =
    let x = line_of c.args.line.now in
    let long : length c.line_fault.new.mates ≡ c.args.self.now.mates.len = c.line_fault.auto.mates ∙ c.deref_mut.ensures.len in
    IfOk-both c.line_fault.result _ _ _
    (λ why found held above k. couples_judged x c.args.self.now.mates.items _ why found
    (λ pairs h none. subst (λ (mates : List (Option ℕ)). AreCouplesHeld c.args.self.now.rooms (pairs ++ pairs_in (x ∷ [])) mates)
    (sym (take-append_at_length c.args.self.now.mates.len c.line_fault.new.mates _ long)) (held pairs h none))
    above k)
    (rw c.deref_mut.ensures.value at c.line_fault.ensures.found) (rw c.deref_mut.ensures.value at c.line_fault.ensures.held)
