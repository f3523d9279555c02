-- Texts with right answers that are known by hand, of which the law speaks.
use Rattle.std.specs.Prelude.{ℕ, ◌≤◌, List, [], ◌∷◌, ◌++◌, length, map, codes, None}
use Rattle.sm_text.specs.Limits.{most_bytes}
use Rattle.sm_instance.specs.declared.inputs.Input.TheVariants.{Two}
use Rattle.sm_agents.specs.declared.kinds.Measure.TheVariants.{Given}
use Rattle.sm_reader.specs.InstanceText.{ReadText}
use Rattle.sm_report.specs.Texts.{text_of_line}
use Rattle.sm_answer.specs.Writing.{text_of}
use Rattle.sm_tally.specs.Fold.{Shown}
use Rattle.sm_words.specs.Jobs.{JobData, Solve, Weight, Meet}
use Rattle.sm_law_agree.specs.Witnesses.{one_pair, given_twice, weighed_three}
use Rattle.sm_answer_weight.specs.Witnesses.{worked_answer}
use Rattle.sm_serve.specs.declared.status.Status.TheVariants.{Done}
use Rattle.sm_top.specs.Outcome.{IsAnswer}
use Rattle.sm_law_round.specs.Round.{IsInstanceText, IsCheckable}

-- a text, and what may stand behind it, with a right answer to a job
pub record IsWritten (job : JobData) (text behind : List ℕ) (read : ReadText) (lines : List (List ℕ)) : Type 0 where
  pub instance : IsInstanceText text read
  pub taken : IsCheckable job read Done
  pub right : (tallies : List Shown) → IsAnswer tallies job (text ++ behind) Done lines
  pub short : length (text ++ text_of lines) ≤ most_bytes

-- a proposer and a reviewer who list each other
abbrev pub pair_text : List ℕ
pair_text = text_of (codes "stable 1 marriage" ∷ codes "p m: w" ∷ codes "r w: m" ∷ codes "end" ∷ [])

-- what is read of that text
abbrev pub pair_read : ReadText
pair_read = record { input = Two one_pair; header_line = 1; rest = 36; rest_line = 5 }

-- they are each other's best, and what is better in their matching given twice is that matching
abbrev pub PairIsWritten : Type 0
PairIsWritten = IsWritten (Solve None) pair_text [] pair_read (codes "answer solve side=proposers" ∷ codes "pair m w" ∷ codes "end" ∷ [])
    × IsWritten Meet pair_text (text_of given_twice) pair_read
    (codes "answer meet" ∷ codes "left m w" ∷ codes "right m w" ∷ codes "pair m w" ∷ codes "end" ∷ [])

-- three by three with two weights
abbrev pub weighed_text : List ℕ
weighed_text = text_of (
    codes "stable 1 marriage"
    ∷ codes "p m: a b c" ∷ codes "p n: b c a" ∷ codes "p o: c a b"
    ∷ codes "r a: n o m" ∷ codes "r b: o m n" ∷ codes "r c: m n o"
    ∷ codes "weight m b 4" ∷ codes "weight m c -10"
    ∷ codes "end" ∷ [])

-- what is read of that text
abbrev pub weighed_read : ReadText
weighed_read = record { input = Two weighed_three; header_line = 1; rest = 116; rest_line = 11 }

-- the lightest matching with its flow
abbrev pub WeighedIsWritten : Type 0
WeighedIsWritten = IsWritten (Weight Given) weighed_text [] weighed_read (map (text_of_line (Two weighed_three)) worked_answer)
