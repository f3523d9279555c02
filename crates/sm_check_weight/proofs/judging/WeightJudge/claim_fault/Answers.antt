use Rattle.std.proofs.Common.{◌++◌, ◌∷◌, [], sym, subst, map, take}
use Rattle.std.specs.Prelude.{slice_index_or}
use Rattle.std.proofs.lemmas.Result.{IfOk-weaker}
use Rattle.sm_report.specs.Heads.{HeadData}
use Rattle.sm_report.specs.Lines.{LineData, line_of}
use Rattle.sm_check_clauses.specs.Judges.{IsOwnLine}
use Rattle.sm_check_clauses.specs.Judging.{answer}
use Rattle.sm_check_clauses.specs.Walking.{FindsOrKeeps}
use Rattle.sm_check_weight.specs.Kept.{ClaimHolds, HasClaim, IsClaimOf, IsNextLine}
use Rattle.sm_check_weight.proofs.JudgeLemmas.{read_is, stands_at, next_at, claim_kept}
use Rattle.sm_check_weight.proofs.judging.WeightJudge.claim_fault.Goals as goal

pub make_second-requires-clause-known : goal.make_second-requires-clause-known
make_second-requires-clause-known c =
    let self = c.args.self.now in
    let w = self.weighed.now.instance.now in
    let lines = map line_of self.lines.now in
    let at = stands_at self.lines.now c.args.k c.requires.within in
    let is = read_is self.lines.now c.args.k c.index-lines-k.result c.requires.within c.index-lines-k.is in
    subst (λ (y : LineData). HasClaim w self.weighed.now.by y c.in-Some.walk c.in-Some-claim.claim) (sym is) (record {
      lines = lines;
      above = take c.args.k lines;
      kept = (rw c.in-Some-claim.is at c.requires.known).0;
      walk_of = (rw c.in-Some.is at c.requires.ground).walk_of;
      next = next_at lines c.args.k (slice_index_or lines c.args.k LineData.End) at;
    })

pub find_fault-requires-clause-known : goal.find_fault-requires-clause-known
find_fault-requires-clause-known c =
    let self = c.args.self.now in
    let w = self.weighed.now.instance.now in
    let lines = map line_of self.lines.now in
    let at = stands_at self.lines.now c.args.k c.requires.within in
    let is = read_is self.lines.now c.args.k c.index-lines-k.result c.requires.within c.index-lines-k.is in
    subst (λ (y : LineData). HasClaim w self.weighed.now.by y c.in-Some.walk c.make_second.new.claim) (sym is) (record {
      lines = lines;
      above = take c.args.k lines;
      kept = c.in_ok-make_second-in-Some-claim.ensures.kept lines (take c.args.k lines) (rw c.in-Some-claim.is at c.requires.known).0 (rw c.in-Some.is at c.requires.ground);
      walk_of = (rw c.in-Some.is at c.requires.ground).walk_of;
      next = next_at lines c.args.k (slice_index_or lines c.args.k LineData.End) at;
    })

pub make_second-requires-in-None-clause-known : goal.make_second-requires-in-None-clause-known
make_second-requires-in-None-clause-known c =
    let self = c.args.self.now in
    let w = self.weighed.now.instance.now in
    let lines = map line_of self.lines.now in
    let at = stands_at self.lines.now c.args.k c.requires.within in
    let is = read_is self.lines.now c.args.k c.index-lines-k.result c.requires.within c.index-lines-k.is in
    subst (λ (y : LineData). HasClaim w self.weighed.now.by y c.in-Some.walk c.in_ok-claim-in-None.claim) (sym is) (record {
      lines = lines;
      above = take c.args.k lines;
      kept = c.in_ok-claim-in-None.ensures;
      walk_of = (rw c.in-Some.is at c.requires.ground).walk_of;
      next = next_at lines c.args.k (slice_index_or lines c.args.k LineData.End) at;
    })

pub find_fault-requires-in-None-clause-own : goal.find_fault-requires-in-None-clause-own
find_fault-requires-in-None-clause-own c =
    let self = c.args.self.now in
    subst (λ (y : LineData). IsOwnLine (answer self.weighed.now.instance.now (HeadData.Weight self.weighed.now.by)) y) (sym (read_is self.lines.now c.args.k c.index-lines-k.result c.requires.within c.index-lines-k.is)) c.requires.own

pub find_fault-requires-in-None-clause-known : goal.find_fault-requires-in-None-clause-known
find_fault-requires-in-None-clause-known c =
    let self = c.args.self.now in
    let w = self.weighed.now.instance.now in
    let lines = map line_of self.lines.now in
    let at = stands_at self.lines.now c.args.k c.requires.within in
    let is = read_is self.lines.now c.args.k c.index-lines-k.result c.requires.within c.index-lines-k.is in
    subst (λ (y : LineData). HasClaim w self.weighed.now.by y c.in-Some.walk c.make_second-in-None.new.claim) (sym is) (record {
      lines = lines;
      above = take c.args.k lines;
      kept = c.in_ok-make_second-in-None.ensures.kept lines (take c.args.k lines) c.in_ok-claim-in-None.ensures (rw c.in-Some.is at c.requires.ground);
      walk_of = (rw c.in-Some.is at c.requires.ground).walk_of;
      next = next_at lines c.args.k (slice_index_or lines c.args.k LineData.End) at;
    })

pub returns-in_ok-make_second-in-Some-claim-clause-found : goal.returns-in_ok-make_second-in-Some-claim-clause-found
returns-in_ok-make_second-in-Some-claim-clause-found c =
    let self = c.args.self.now in
    let w = self.weighed.now.instance.now in
    let by = self.weighed.now.by in
    let lines = map line_of self.lines.now in
    let above = take c.args.k lines in
    let x = slice_index_or lines c.args.k LineData.End in
    let at = stands_at self.lines.now c.args.k c.requires.within in
    let is = read_is self.lines.now c.args.k c.index-lines-k.result c.requires.within c.index-lines-k.is in
    let ground = rw c.in-Some.is at c.requires.ground in
    IfOk-weaker c.find_fault.result _ _
    (λ why h.
    claim_kept w by lines c.args.k x at c.requires.behind why c.find_fault.new.self
    (subst (λ (y : LineData). IsNextLine lines above y → FindsOrKeeps (ClaimHolds w by above y) (IsClaimOf w by lines (above ++ y ∷ []) c.find_fault.new.self) why) is
    (h lines above (c.in_ok-make_second-in-Some-claim.ensures.kept lines above (rw c.in-Some-claim.is at c.requires.known).0 ground) ground) (next_at lines c.args.k x at)))
    c.find_fault.ensures

pub returns-in_ok-why-in-None-clause-found : goal.returns-in_ok-why-in-None-clause-found
returns-in_ok-why-in-None-clause-found c =
    let self = c.args.self.now in
    let w = self.weighed.now.instance.now in
    let by = self.weighed.now.by in
    let lines = map line_of self.lines.now in
    let above = take c.args.k lines in
    let x = slice_index_or lines c.args.k LineData.End in
    let at = stands_at self.lines.now c.args.k c.requires.within in
    let is = read_is self.lines.now c.args.k c.index-lines-k.result c.requires.within c.index-lines-k.is in
    let ground = rw c.in-Some.is at c.requires.ground in
    claim_kept w by lines c.args.k x at c.requires.behind c.in_ok-why-in-None.why c.find_fault-in-None.new.self
    (subst (λ (y : LineData). IsNextLine lines above y → FindsOrKeeps (ClaimHolds w by above y) (IsClaimOf w by lines (above ++ y ∷ []) c.find_fault-in-None.new.self) c.in_ok-why-in-None.why) is
    (c.in_ok-why-in-None.ensures lines above (c.in_ok-make_second-in-None.ensures.kept lines above c.in_ok-claim-in-None.ensures ground) ground) (next_at lines c.args.k x at))
