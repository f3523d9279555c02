use Rattle.std.proofs.Common.{◌≡◌, true, rules, FitsSigned, w64, to_z, of_z, ◌∙◌, ◌++◌, ◌∷◌, [], ap, sym, subst, refl, arith}
use Rattle.std.proofs.lemmas.Bool.{false≢true}
use Rattle.std.proofs.lemmas.Int.{to_z-of_z}
use Rattle.sm_instance.specs.Ranks.{pair_weight, pair_second}
use Rattle.sm_theory.specs.Sizes.{weights_in, AreWeights}
use Rattle.sm_seats.specs.SeatMarket.{seat_market}
use Rattle.sm_seats.specs.Seating.{seating_of}
use Rattle.sm_seats.specs.Levels.{has_two_levels}
use Rattle.sm_seats.proofs.LevelLemmas.{in_two_levels}
use Rattle.sm_report.specs.Lines.{LineData, line_of}
use Rattle.sm_check_weight.proofs.MoveLemmas.{can_be_weighed}
use Rattle.sm_check_weight.proofs.GainLemmas.{gain_found, gain_right, gain_wrong, second_gain_right, second_gain_wrong, silent_above}
use Rattle.sm_check_weight.proofs.LevelLemmas.{silent}
use Rattle.sm_check_weight.proofs.judging.WeightJudge.gain_fault.Goals as goal
use Rattle.sm_check_weight.proofs.judging.WeightJudge.gain_fault.Goals.{else-self-via-then-self+else-gain-last_gain-2, else-self-via-else-self}

pub last_gain-requires : goal.last_gain-requires
last_gain-requires c =
    let w = c.args.self.now.weighed.now.instance.now in
    let limit = c.proposer_count-proposers.ensures.instance.limits.proposers in
    can_be_weighed w (weights_in c.deref.result.now) (subst (AreWeights (seat_market w)) (sym (ap weights_in c.deref.ensures.value)) c.requires.tables.small)
    (omega (arith, limit)) ((rw c.requires.chain_of at c.moves.ensures) c.requires.known.above c.requires.known.known)

pub returns-then-gain-last_gain : goal.returns-then-gain-last_gain
returns-then-gain-last_gain c = λ above at.
    let w = c.args.self.now.weighed.now.instance.now in
    let by = c.args.self.now.weighed.now.by in
    let moves = (rw c.requires.chain_of at c.moves.ensures) (above ++ LineData.Gain c.in-Gain.field-0 c.in-Gain.gain ∷ []) (rw c.in-Gain.is at at) in
    let is = gain_found w above (LineData.Gain c.in-Gain.field-0 c.in-Gain.gain) (pair_weight by w) c.last_gain.result refl moves (ap weights_in c.deref.ensures.value ∙ c.requires.tables.weights) c.last_gain.ensures in
    rw c.in-Gain.is (gain_wrong w by above c.in-Gain.field-0 c.in-Gain.gain (λ e. c.if-gain-last_gain.true (ap (of_z w64) (e ∙ sym is))))

pub returns-else-gain-last_gain : goal.returns-else-gain-last_gain
returns-else-gain-last_gain c = λ above at.
    let w = c.args.self.now.weighed.now.instance.now in
    let by = c.args.self.now.weighed.now.by in
    let moves = (rw c.requires.chain_of at c.moves.ensures) (above ++ LineData.Gain c.in-Gain.field-0 c.in-Gain.gain ∷ []) (rw c.in-Gain.is at at) in
    let is = gain_found w above (LineData.Gain c.in-Gain.field-0 c.in-Gain.gain) (pair_weight by w) c.last_gain.result refl moves (ap weights_in c.deref.ensures.value ∙ c.requires.tables.weights) c.last_gain.ensures in
    let fits : FitsSigned w64 c.in-Gain.gain = search rules in
    let fits_too : FitsSigned w64 c.last_gain.result = search rules in
    let same : c.in-Gain.gain ≡ c.last_gain.result = sym (to_z-of_z w64 c.in-Gain.gain fits) ∙ ap (to_z w64) c.if-gain-last_gain.false ∙ to_z-of_z w64 c.last_gain.result fits_too in
    rw c.in-Gain.is (gain_right w by above c.in-Gain.field-0 c.in-Gain.gain (same ∙ is))

pub last_gain-requires-then-self : goal.last_gain-requires-then-self
last_gain-requires-then-self c =
    let w = c.args.self.now.weighed.now.instance.now in
    let limit = c.proposer_count-proposers.ensures.instance.limits.proposers in
    can_be_weighed w (weights_in c.deref-then-self.result.now) (subst (AreWeights (seat_market w)) (sym (ap weights_in c.deref-then-self.ensures.value)) c.requires.tables.second_small)
    (omega (arith, limit)) ((rw c.requires.chain_of at c.moves-then-self.ensures) c.requires.known.above c.requires.known.known)

pub returns-then-gain-last_gain-2 : goal.returns-then-gain-last_gain-2
returns-then-gain-last_gain-2 c = λ above at.
    let w = c.args.self.now.weighed.now.instance.now in
    let by = c.args.self.now.weighed.now.by in
    let x = LineData.SecondGain c.in-SecondGain.field-0 c.in-SecondGain.gain in
    let moves = (rw c.requires.chain_of at c.moves-then-self.ensures) (above ++ x ∷ []) (rw c.in-SecondGain.is at at) in
    let two : has_two_levels by w ≡ true = sym c.requires.tables.two_levels ∙ c.if-self.true in
    let is = gain_found w above x (pair_second w) c.last_gain-then-self.result refl moves (ap weights_in c.deref-then-self.ensures.value ∙ c.requires.tables.seconds ∙ sym (in_two_levels by w (seating_of w) two)) c.last_gain-then-self.ensures in
    rw c.in-SecondGain.is (second_gain_wrong w by above c.in-SecondGain.field-0 c.in-SecondGain.gain two (λ e. c.if-gain-last_gain-2.true (ap (of_z w64) (e ∙ sym is))))

pub returns-else-self : goal.returns-else-self
returns-else-self c = λ above at.
    let w = c.args.self.now.weighed.now.instance.now in
    let by = c.args.self.now.weighed.now.by in
    let gain = c.in-SecondGain.gain in
    let x = LineData.SecondGain c.in-SecondGain.field-0 gain in
    elim c.else-self.branch [
      | else-self-via-then-self+else-gain-last_gain-2 b ↦
          let moves = (rw c.requires.chain_of at b.moves-then-self.ensures) (above ++ x ∷ []) (rw c.in-SecondGain.is at at) in
          let is = (λ (two : has_two_levels by w ≡ true). gain_found w above x (pair_second w) b.last_gain-then-self.result refl moves (ap weights_in b.deref-then-self.ensures.value ∙ c.requires.tables.seconds ∙ sym (in_two_levels by w (seating_of w) two)) b.last_gain-then-self.ensures) in
          let fits : FitsSigned w64 gain = search rules in
          let fits_too : FitsSigned w64 b.last_gain-then-self.result = search rules in
          let same : gain ≡ b.last_gain-then-self.result = sym (to_z-of_z w64 gain fits) ∙ ap (to_z w64) b.if-gain-last_gain-2.false ∙ to_z-of_z w64 b.last_gain-then-self.result fits_too in
          rw c.in-SecondGain.is (second_gain_right w by above c.in-SecondGain.field-0 gain (λ two. same ∙ is two))
      | else-self-via-else-self b ↦ rw c.in-SecondGain.is (second_gain_right w by above c.in-SecondGain.field-0 gain (λ two. absurd (false≢true (sym b.if-self.false ∙ c.requires.tables.two_levels ∙ two))))
    ]

pub returns-in_default : goal.returns-in_default
returns-in_default c = λ above at. silent c.args.self.now.weighed.now.instance.now c.args.self.now.weighed.now.by above (line_of c.args.line.now) (silent_above c.args.line.now c.requires.up_to c.in_default.not-Gain c.in_default.not-SecondGain)
