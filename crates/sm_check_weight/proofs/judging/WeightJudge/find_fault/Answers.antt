use Rattle.std.proofs.Common.{◌≡◌, ◌++◌, ◌∷◌, [], ◌∙◌, refl, sym, subst, map, take, true, false}
use Rattle.std.specs.Prelude.{slice_index_or}
use Rattle.std.proofs.lemmas.Result.{IfOk-weaker}
use Rattle.sm_report.specs.Heads.{HeadData}
use Rattle.sm_report.specs.Lines.{LineData, line_of}
use Rattle.sm_check_clauses.specs.Judges.{IsOwnLine}
use Rattle.sm_check_clauses.specs.Judging.{answer}
use Rattle.sm_check_clauses.specs.Said.{is_up_to_rotations}
use Rattle.sm_check_clauses.specs.Verdicts.{Finds}
use Rattle.sm_check_clauses.specs.Walks.{IsChainAt}
use Rattle.sm_check_clauses.proofs.AnswerLemmas.{line_right, finds_keeping}
use Rattle.sm_check_weight.specs.Kept.{ClaimHolds}
use Rattle.sm_check_weight.proofs.ClauseLemmas.{chain_found, weight_found}
use Rattle.sm_check_weight.proofs.GroundLemmas.{own_too, walked, grounded}
use Rattle.sm_check_weight.proofs.OrderLemmas.{claim_on}
use Rattle.sm_check_weight.proofs.JudgeLemmas.{line_of-get_or, stands_at, weight_kept, chain_judged, judged}
use Rattle.sm_check_weight.proofs.judging.WeightJudge.find_fault.Goals as goal

pub find_fault-requires-clause-own : goal.find_fault-requires-clause-own
find_fault-requires-clause-own c =
    let self = c.args.self.now in
    let w = self.weighed.now.instance.now in
    rw c.requires.known.chain_of (own_too HeadData.Rotations
    (rw c.index-self-k.is at (line_right (IsOwnLine (answer w (HeadData.Weight self.weighed.now.by))) self.lines.now c.args.k c.index-self-k.result c.requires.within c.index-self-k.is c.requires.own)))

pub returns-in-Some-clause-found : goal.returns-in-Some-clause-found
returns-in-Some-clause-found c =
    let self = c.args.self.now in
    let w = self.weighed.now.instance.now in
    let lines = map line_of self.lines.now in
    let x = slice_index_or lines c.args.k LineData.End in
    let is = line_of-get_or self.lines.now c.args.k c.index-self-k.result c.requires.within in
    let found = chain_judged c.requires.known x _ is c.find_fault.new.self c.in_ok-why.field-0 c.in_ok-why.ensures.subject c.in_ok-why.ensures.found in
    chain_found w self.weighed.now.by (take c.args.k lines) x c.in-Some.why (rw c.in-Some.is at found)

pub gain_fault-requires-clause-known : goal.gain_fault-requires-clause-known
gain_fault-requires-clause-known c =
    let self = c.args.self.now in
    let lines = map line_of self.lines.now in
    let x = slice_index_or lines c.args.k LineData.End in
    let is = line_of-get_or self.lines.now c.args.k c.index-self-k.result c.requires.within in
    let found = chain_judged c.requires.known x _ is c.find_fault.new.self c.in_ok-why.field-0 c.in_ok-why.ensures.subject c.in_ok-why.ensures.found in
    let kept = rw c.in_default.is at found in
    record { above = take c.args.k lines ++ x ∷ []; known = kept.1.at }

pub returns-then-is_up_to_rotations-clause-found : goal.returns-then-is_up_to_rotations-clause-found
returns-then-is_up_to_rotations-clause-found c =
    let self = c.args.self.now in
    let w = self.weighed.now.instance.now in
    let by = self.weighed.now.by in
    let lines = map line_of self.lines.now in
    let above = take c.args.k lines in
    let x = slice_index_or lines c.args.k LineData.End in
    let at = stands_at self.lines.now c.args.k c.requires.within in
    let is = line_of-get_or self.lines.now c.args.k c.index-self-k.result c.requires.within in
    let found = chain_judged c.requires.known x _ is c.find_fault.new.self c.in_ok-why.field-0 c.in_ok-why.ensures.subject c.in_ok-why.ensures.found in
    let kept = rw c.in_default.is at found in
    let up = subst (λ (y : LineData). is_up_to_rotations y ≡ true) is (sym c.is_up_to_rotations.ensures ∙ c.if-is_up_to_rotations.true) in
    finds_keeping _ _ c.gain_fault.result
    (weight_found w by above x c.gain_fault.result kept.0
    (subst (λ (y : LineData). IsChainAt w (above ++ y ∷ []) c.find_fault.new.self.pairs c.find_fault.new.self.walk → Finds (ClaimHolds w by above y) c.gain_fault.result) is (c.gain_fault.ensures above) kept.1.at))
    (judged c.requires.known c.requires.in_order x at c.find_fault.new.self c.in_ok-why.ensures.subject kept.0 kept.1 _ refl refl refl refl
    (claim_on c.requires.in_order by c.args.k x at up self.claim c.requires.known.claim))

pub claim_fault-requires-clause-ground : goal.claim_fault-requires-clause-ground
claim_fault-requires-clause-ground c =
    let self = c.args.self.now in
    let w = self.weighed.now.instance.now in
    let lines = map line_of self.lines.now in
    let above = take c.args.k lines in
    let x = slice_index_or lines c.args.k LineData.End in
    let at = stands_at self.lines.now c.args.k c.requires.within in
    let is = line_of-get_or self.lines.now c.args.k c.index-self-k.result c.requires.within in
    let found = chain_judged c.requires.known x _ is c.find_fault.new.self c.in_ok-why.field-0 c.in_ok-why.ensures.subject c.in_ok-why.ensures.found in
    let kept = rw c.in_default.is at found in
    let behind = subst (λ (y : LineData). is_up_to_rotations y ≡ false) is (sym c.is_up_to_rotations.ensures ∙ c.if-is_up_to_rotations.false) in
    grounded w above x behind c.find_fault.new.self.pairs c.find_fault.new.self.walk kept.1.at (c.requires.in_order.behind c.args.k x at behind) c.requires.known.needs

pub claim_fault-requires-clause-walked : goal.claim_fault-requires-clause-walked
claim_fault-requires-clause-walked c =
    let self = c.args.self.now in
    let lines = map line_of self.lines.now in
    let x = slice_index_or lines c.args.k LineData.End in
    let is = line_of-get_or self.lines.now c.args.k c.index-self-k.result c.requires.within in
    let found = chain_judged c.requires.known x _ is c.find_fault.new.self c.in_ok-why.field-0 c.in_ok-why.ensures.subject c.in_ok-why.ensures.found in
    let kept = rw c.in_default.is at found in
    let behind = subst (λ (y : LineData). is_up_to_rotations y ≡ false) is (sym c.is_up_to_rotations.ensures ∙ c.if-is_up_to_rotations.false) in
    walked self.weighed.now.instance.now (take c.args.k lines) x behind c.find_fault.new.self.pairs c.find_fault.new.self.walk kept.1.at

pub returns-clause-found : goal.returns-clause-found
returns-clause-found c =
    let self = c.args.self.now in
    let w = self.weighed.now.instance.now in
    let by = self.weighed.now.by in
    let lines = map line_of self.lines.now in
    let x = slice_index_or lines c.args.k LineData.End in
    let at = stands_at self.lines.now c.args.k c.requires.within in
    let is = line_of-get_or self.lines.now c.args.k c.index-self-k.result c.requires.within in
    let found = chain_judged c.requires.known x _ is c.find_fault.new.self c.in_ok-why.field-0 c.in_ok-why.ensures.subject c.in_ok-why.ensures.found in
    let kept = rw c.in_default.is at found in
    IfOk-weaker c.claim_fault.result _ _
    (λ why h.
    weight_kept w by (take c.args.k lines) x why kept.0
    (judged c.requires.known c.requires.in_order x at c.find_fault.new.self c.in_ok-why.ensures.subject kept.0 kept.1 c.claim_fault.new.self c.claim_fault.ensures.weighed c.claim_fault.ensures.lines c.claim_fault.ensures.tables c.claim_fault.ensures.chain)
    h)
    c.claim_fault.ensures.found
