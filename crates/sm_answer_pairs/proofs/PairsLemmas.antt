-- The lines of stable pairs are lines of the instance.
use Rattle.std.proofs.Common.{◌≡◌, ℕ, zero, suc, ◌+◌, ◌<◌, ◌++◌, Bool, true, false, cond, List, [], ◌∷◌, length, filter, sym, subst, arith, get_or}
use Rattle.std.specs.List.{All, flat_map, range_with_len}
use Rattle.std.proofs.lemmas.List.{get_or_default}
use Rattle.std.proofs.lemmas.List.Elements.{All-append, All-cons, All-map}
use Rattle.sm_agents.specs.Written.{Written, row, entry}
use Rattle.sm_instance.specs.declared.inputs.Input.{Input}
use Rattle.sm_instance.specs.declared.inputs.Input.TheVariants.{Two}
use Rattle.sm_agents.proofs.ListLemmas.{row_in_range}
use Rattle.sm_report.specs.Heads.{HeadData}
use Rattle.sm_report.specs.Lines.{LineData}
use Rattle.sm_report.specs.Sound.{IsLineOf}
use Rattle.sm_answer.proofs.LineLemmas.{end_sound}
use Rattle.sm_answer_pairs.specs.Partners.{IsStablePlace}
use Rattle.sm_answer_pairs.specs.PairsAnswer.{partner_line, partner_lines, IsPairsAnswer}
use Rattle.sm_answer_pairs.proofs.ListLemmas.{kept_from}

-- what holds of each list holds of them in turn
all_each : {X : Type 0} (P : X → Type 0) (f : ℕ → List X) → ((k : ℕ) → All P (f k)) → (a n : ℕ) → All P (flat_map f (range_with_len a n))
all_each P f each a zero = λ k d l. absurd (omega arith)
all_each P f each a (suc n) = All-append P (f a) (flat_map f (range_with_len (a + 1) n)) (each a) (all_each P f each (a + 1) n)

partner_sound : (w : Written) (fixed : Bool) (p i : ℕ) → IsStablePlace w p i → IsLineOf (Two w) (partner_line fixed p (entry w.proposers p i))
partner_sound w fixed p i x = choose fixed
  where
    both : (p < length w.proposers) × (entry w.proposers p i < length w.reviewers)
    both = let a = x.stable.matching.acceptable p i x.holds in (row_in_range w.proposers p _ a.proposer_lists, row_in_range w.reviewers (entry w.proposers p i) _ a.reviewer_lists)

    choose : (b : Bool) → IsLineOf (Two w) (cond b (LineData.AllPair p (entry w.proposers p i)) (LineData.SomePair p (entry w.proposers p i)))
    choose true = record { printable = both; seats = λ k d l. absurd (omega arith); numbers = tt; head = tt }
    choose false = record { printable = both; seats = λ k d l. absurd (omega arith); numbers = tt; head = tt }

-- the answer of `pairs` has lines of the instance alone
pub pairs_sound : (input : Input) {w : Written} {answer : List LineData} → input ≡ Two w → IsPairsAnswer w answer → All (IsLineOf input) answer
pairs_sound input {w} {answer} two a =
    let P = IsLineOf (Two w) in
    let lines = partner_lines w a.is_stable a.is_fixed in
    subst (λ (i : Input). All (IsLineOf i) answer) (sym two) (subst (All P) (sym a.shows)
    (All-cons P (LineData.Answer HeadData.Pairs) (flat_map lines (range_with_len 0 (length w.proposers)) ++ LineData.End ∷ [])
    (record { printable = tt; seats = λ k d l. absurd (omega arith); numbers = tt; head = tt })
    (All-append P (flat_map lines (range_with_len 0 (length w.proposers))) (LineData.End ∷ [])
    (all_each P lines (λ p.
    let places = range_with_len 0 (length (row w.proposers p)) in
    All-map P (λ i. partner_line (a.is_fixed p i) p (entry w.proposers p i)) (filter (a.is_stable p) places) (λ k d l.
    let i = get_or (filter (a.is_stable p) places) k d in
    let kept = kept_from (a.is_stable p) places i (k, l, get_or_default (filter (a.is_stable p) places) k i d l) in
    partner_sound w (a.is_fixed p i) p i ((a.stable p i).0 kept.1))) 0 (length w.proposers))
    (All-cons P LineData.End [] (end_sound (Two w)) (λ k d l. absurd (omega arith))))))
