-- The texts of specs/Witnesses.antt, computed.
use Rattle.std.proofs.Common.{◌≡◌, ◌≢◌, ℕ, zero, suc, ◌<◌, true, false, List, length, codes, refl, sym, ap, ◌∙◌, arith}
use Rattle.std.specs.Fmt as fmt
use Rattle.std.specs.Str.{bytes_eq}
use Rattle.std.proofs.lemmas.Bool.{false≢true}
use Rattle.sm_text.specs.Name as name
use Rattle.sm_text.specs.Tokens as token
use Rattle.sm_text.specs.Name.{is_name}
use Rattle.sm_lists.proofs.OrderLemmas.{range_is_each_once}
use Rattle.sm_agents.proofs.SecondLemmas.{zeros_small}
use Rattle.sm_agents.specs.Written.{AgentData, agent_at, row}
use Rattle.sm_agents.specs.Sound.{IsSoundAgent, AreSoundAgents, IsSoundEntry, AreSoundEntries, IsSoundItem, items_of}
use Rattle.sm_forms.specs.Forms as form
use Rattle.sm_keys.specs.Tokens.{is_bad}
use Rattle.sm_reader.specs.Judging as judge
use Rattle.sm_reader.specs.InstanceText as text
use Rattle.sm_keys.proofs.TextLemmas.{same_text}
use Rattle.sm_instance_lines.specs.Witnesses.{marriage}
use Rattle.sm_law_reprint.specs.Witnesses.{MarriageIsSound, MarriageReadBack, OrderedReadBack, HospitalsReadBack, RoommatesReadBack}

-- one lemma, so that what is unfolded is named once
pub read_back : MarriageReadBack × OrderedReadBack × HospitalsReadBack × RoommatesReadBack
unfolding is_bad form.list_form form.capacity_form form.weight_form form.pair_form form.reviewer_form form.two_sided_form form.form_behind
    form.order_form form.second_form form.two_sided_added_form form.added_form form.form_under
    form.is_end form.header_of judge.fault_of judge.said_with judge.verdict_on judge.heading_of text.instance_text name.begins_name name.is_name_byte
    token.is_blank token.is_mark fmt.digits
read_back = (refl, refl, refl, refl)

-- numbers below two and below five
below_two : (P : ℕ → Type 0) → P 0 → P 1 → (n : ℕ) → n < 2 → P n
below_two P p q zero h = p
below_two P p q (suc zero) h = q
below_two P p q (suc (suc n)) h = absurd (omega arith)

below_five : (P : ℕ → Type 0) → P 0 → P 1 → P 2 → P 3 → P 4 → (n : ℕ) → n < 5 → P n
below_five P a b c d e zero h = a
below_five P a b c d e (suc zero) h = b
below_five P a b c d e (suc (suc zero)) h = c
below_five P a b c d e (suc (suc (suc zero))) h = d
below_five P a b c d e (suc (suc (suc (suc zero)))) h = e
below_five P a b c d e (suc (suc (suc (suc (suc n))))) h = absurd (omega arith)

-- texts that differ
differ : (a b : List ℕ) → bytes_eq a b ≡ false → a ≢ b
differ a b h same = false≢true (sym h ∙ same_text a b same)

-- an agent that no earlier one is named as
agent_sound : (agents : List AgentData) (a : ℕ) → is_name (agent_at agents a).name ≡ true → (agent_at agents a).capacity ≡ 1
    → ((b : ℕ) → b < a → (agent_at agents b).name ≢ (agent_at agents a).name) → IsSoundAgent agents true a
agent_sound agents a is one fresh = record { name = is; fresh = fresh; capacity = omega (arith, one); one = λ _. one }

names_are : (is_name (codes "a") ≡ true) × (is_name (codes "b-2") ≡ true) × (is_name (codes "y") ≡ true)
unfolding name.begins_name name.is_name_byte
names_are = (refl, refl, refl)

none_before : (P : ℕ → Type 0) → (b : ℕ) → b < 0 → P b
none_before P b h = absurd (omega arith)

one_before : (P : ℕ → Type 0) → P 0 → (b : ℕ) → b < 1 → P b
one_before P p zero h = p
one_before P p (suc b) h = absurd (omega arith)

proposers_sound : AreSoundAgents marriage.proposers true
proposers_sound = record {
  sound = below_two (IsSoundAgent marriage.proposers true)
      (agent_sound marriage.proposers 0 names_are.0 refl (none_before _))
      (agent_sound marriage.proposers 1 names_are.1 refl (one_before _ (differ (codes "a") (codes "b-2") refl)));
}

reviewers_sound : AreSoundAgents marriage.reviewers true
reviewers_sound = record {
  sound = below_two (IsSoundAgent marriage.reviewers true)
      (agent_sound marriage.reviewers 0 names_are.0 refl (none_before _))
      (agent_sound marriage.reviewers 1 names_are.2 refl (one_before _ (differ (codes "a") (codes "y") refl)));
}

-- the lists: of two entries, of one and of none
proposer_lists : AreSoundEntries marriage.proposers 2
proposer_lists = record { sound = sound }
  where
    sound : (a i : ℕ) → i < length (row marriage.proposers a) → IsSoundEntry marriage.proposers 2 a i
    sound zero i on = below_two (IsSoundEntry marriage.proposers 2 0)
        (record { in_range = omega arith; fresh = none_before _ }) (record { in_range = omega arith; fresh = one_before _ (λ same. omega arith) }) i on
    sound (suc zero) i on = one_before (IsSoundEntry marriage.proposers 2 1) (record { in_range = omega arith; fresh = none_before _ }) i on
    sound (suc (suc a)) i on = absurd (omega arith)

reviewer_lists : AreSoundEntries marriage.reviewers 2
reviewer_lists = record { sound = sound }
  where
    sound : (a i : ℕ) → i < length (row marriage.reviewers a) → IsSoundEntry marriage.reviewers 2 a i
    sound zero i on = below_two (IsSoundEntry marriage.reviewers 2 0)
        (record { in_range = omega arith; fresh = none_before _ }) (record { in_range = omega arith; fresh = one_before _ (λ same. omega arith) }) i on
    sound (suc zero) i on = absurd (omega arith)
    sound (suc (suc a)) i on = absurd (omega arith)

-- the weights, and the pairs of which something is asked
abbrev items : List (ℕ × ℕ)
items = items_of marriage.weights marriage.forced marriage.forbidden

abbrev IsItem : ℕ → Type 0
IsItem = IsSoundItem 2 2 marriage.weights items

items_sound : (n : ℕ) → n < 5 → IsItem n
items_sound = below_five IsItem
    (record { pair = record { proposer = omega arith; reviewer = omega arith }; size = λ h. omega arith; fresh = λ h. none_before _ })
    (record {
      pair = record { proposer = omega arith; reviewer = omega arith };
      size = λ h. omega arith;
      fresh = λ h. one_before _ (λ same. let e : 1 ≡ 0 = ap (λ (x : ℕ × ℕ). x.0) same in omega arith);
    })
    (record { pair = record { proposer = omega arith; reviewer = omega arith }; size = λ h. absurd (omega arith); fresh = λ h. absurd (omega arith) })
    (record { pair = record { proposer = omega arith; reviewer = omega arith }; size = λ h. absurd (omega arith); fresh = λ h. absurd (omega arith) })
    (record { pair = record { proposer = omega arith; reviewer = omega arith }; size = λ h. absurd (omega arith); fresh = λ h. absurd (omega arith) })

-- the marriage is one to which the law applies
pub marriage_sound : MarriageIsSound
unfolding fmt.digits
marriage_sound = (
  record {
    two_sided = λ same. cc;
    limits = record { proposers = omega arith; reviewers = omega arith; entries = omega arith };
    proposers = proposers_sound;
    reviewers = reviewers_sound;
    proposer_entries = proposer_lists;
    reviewer_entries = reviewer_lists;
    items = items_sound;
    seconds_each = refl;
    seconds_small = zeros_small marriage.weights;
    order = range_is_each_once 2;
  },
  omega arith,
)
