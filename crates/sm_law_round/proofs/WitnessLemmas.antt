-- The texts of specs/Witnesses.antt, computed.
use Rattle.std.proofs.Common.{◌≡◌, ℕ, ◌≤◌, inl, [], ◌∷◌, ◌++◌, length, map, take, None, Some, Ok, refl, sym, ap, ◌∙◌, subst, arith}
use Rattle.std.specs.Fmt as fmt
use Rattle.sm_text.specs.Limits.{most_bytes}
use Rattle.sm_text.specs.Name as name
use Rattle.sm_text.specs.Tokens as token
use Rattle.sm_instance.specs.declared.inputs.Input.TheVariants.{Two}
use Rattle.sm_agents.specs.declared.kinds.Measure.TheVariants.{Given}
use Rattle.sm_agents.specs.declared.kinds.Side.TheVariants.{Proposers}
use Rattle.sm_forms.specs.Forms as form
use Rattle.sm_keys.specs.Tokens.{is_bad}
use Rattle.sm_reader.specs.Judging as judge
use Rattle.sm_reader.specs.InstanceText as text
use Rattle.sm_reader.specs.InstanceText.{instance_text}
use Rattle.sm_report.specs.Heads.{HeadData}
use Rattle.sm_report.specs.Lines.{LineData}
use Rattle.sm_report.specs.Texts.{text_of_line}
use Rattle.sm_answer.specs.Writing.{text_of}
use Rattle.sm_words.specs.Jobs.{Solve, Weight, Meet}
use Rattle.sm_law_agree.specs.Witnesses.{given_twice, given_answer, weighed_three}
use Rattle.sm_answer_weight.specs.Witnesses.{worked_answer}
use Rattle.sm_law_agree.proofs.WitnessLemmas.{one_pair_is}
use Rattle.sm_law_agree.proofs.WeightWitness.{weighed_three_is}
use Rattle.sm_top.specs.Accepting.{accepted, behind_text}
use Rattle.sm_law_round.specs.Round.{IsInstanceText}
use Rattle.sm_law_round.specs.Witnesses.{pair_text, pair_read, PairIsWritten, weighed_text, weighed_read, WeighedIsWritten}

-- one lemma, so that what is unfolded is named once
means : (instance_text pair_text ≡ Ok pair_read) × (instance_text (pair_text ++ text_of given_twice) ≡ Ok pair_read) × (instance_text weighed_text ≡ Ok weighed_read)
unfolding is_bad form.list_form form.capacity_form form.weight_form form.pair_form form.reviewer_form form.two_sided_form form.form_behind form.form_under
    form.is_end form.header_of judge.fault_of judge.said_with judge.verdict_on judge.heading_of text.instance_text name.begins_name name.is_name_byte
    token.is_blank token.is_mark fmt.digits
means = (refl, refl, refl)

pair_instance : IsInstanceText pair_text pair_read
pair_instance = record { means = means.0; whole = refl; front = take 35 pair_text; ended = refl }

weighed_instance : IsInstanceText weighed_text weighed_read
weighed_instance = record { means = means.2; whole = refl; front = take 115 weighed_text; ended = refl }

solve_accepted : accepted (Solve None) pair_text ≡ Ok pair_read
solve_accepted = ap (behind_text (Solve None) pair_text) means.0 ∙ refl

meet_accepted : accepted Meet (pair_text ++ text_of given_twice) ≡ Ok pair_read
meet_accepted = ap (behind_text Meet (pair_text ++ text_of given_twice)) means.1 ∙ refl

weight_accepted : accepted (Weight Given) weighed_text ≡ Ok weighed_read
weight_accepted = ap (behind_text (Weight Given) weighed_text) means.2 ∙ refl

-- the pair is read as it should be, and has these right answers
pub pair_is_written : PairIsWritten
pair_is_written = (
  record {
    instance = pair_instance;
    taken = tt;
    right = λ tallies. record {
      read = pair_read;
      ok = solve_accepted;
      shown = record { answer = LineData.Answer (HeadData.Solve (Some Proposers)) ∷ LineData.Pair 0 0 ∷ LineData.End ∷ []; is_right = (refl, one_pair_is.1); shows = refl };
    };
    short = omega arith;
  },
  record {
    instance = pair_instance;
    taken = tt;
    right = λ tallies. (
      refl,
      record {
        read = pair_read;
        ok = meet_accepted;
        shown = record { answer = given_answer HeadData.Meet; is_right = one_pair_is.6; shows = refl };
      },
    );
    short = omega arith;
  },
)

-- three by three with two weights are, and have this right answer
-- how long both texts are together
weighed_length : length (weighed_text ++ text_of (map (text_of_line (Two weighed_three)) worked_answer)) ≡ 353
unfolding fmt.digits
weighed_length = refl

pub weighed_is_written : WeighedIsWritten
weighed_is_written = record {
  instance = weighed_instance;
  taken = refl;
  right = λ tallies. record {
    read = weighed_read;
    ok = weight_accepted;
    shown = record { answer = worked_answer; is_right = inl (refl, weighed_three_is.2); shows = refl };
  };
  short = subst (λ (n : ℕ). n ≤ most_bytes) (sym weighed_length) (omega arith);
}
